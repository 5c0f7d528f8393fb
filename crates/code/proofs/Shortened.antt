-- Shortened codes (2026-06), in the words of specs/Published.antt.
--
--   shortened_iff          a codeword whose top m places are 0, place by place
--   sent_word, sent_message      words and messages of a shortened code as masks: place i, and 0 from the last place sent on
--   counted_said, apart_said     changed places are places that are sent; shortened codewords are far apart in these
--   codeword_sent, message_sent      the codeword of a message, and the message in a word, in bytes
--   encodes_said, reads_said, refused_said      the round trip, both ways, and 14
--   encoded_as             encoding is that of the message with m zero bits above
--   found_said, decoded_said, none_said      decoding
--   other_near             13 where a codeword that is no shortened one is near
use mathlib.Core.Path.{◌≡◌, refl, sym, ap, ap₂, ◌∙◌, subst}
use mathlib.Core.Logic.{◌≢◌, ◌↔◌, inl, inr}
use mathlib.Core.Bool.{Bool, true, false, not, ◌||◌}
use mathlib.Core.List.{List, [], ◌∷◌, ◌++◌}
use Prim.Native.Nat.{ℕ, ◌+◌, ◌-◌, ◌/◌, ◌%◌, ◌^◌, ◌≤◌, ◌<◌}
use native.Mathlib.Nat.{lt_of_lt_of_le}
use native.Mathlib.Decide.{dec_lt}
use native.Mathlib.Omega.{arith}
use borrow.Author.Tests.{ne_eqb, lt-leb}
use lib.ListN.{length}
use lib.Pow.{pow_mono, shr-shr}
use Rattle.field.specs.Search.{total}
use Rattle.field.proofs.Search.{total_ext, total_still}
use Rattle.field.specs.Mask.{◌⊕◌, coefficient}
use Rattle.field.specs.Field.{order_of_two}
use Rattle.field.proofs.Xor.{⊕-lt}
use Rattle.cyclic.proofs.Places.{coefficient_above}
use Rattle.binary.proofs.Digits.{below_pow}
use Rattle.document.specs.Answer.{Answer, returned, refused, first_of}
use Rattle.document.specs.Layout.{word_weight, message_weight, bytes_for, place, mask_of, bytes_of}
use Rattle.document.specs.Sheet.{Stated}
use Rattle.document.specs.Generator.{is_codeword, encode_mask, message_of, differences}
use Rattle.document.specs.Certificate.{distance}
use Rattle.document.specs.Judge.{dimension_of, working_certificate}
use Rattle.document.specs.Entry.{CodewordOf, generator_of, radius_of, word_of, encoded_word}
use Rattle.document.specs.Shortened.{wrong_shortening, shortening_conditions, sent_word_of, sent_message_of, ShortenedCodeword, encoded_shortened}
use Rattle.document.specs.Short.{short, stated, refusals_of, encode_of, encode_shortened_of, read_shortened_of, decode_shortened_of}
use Rattle.document.proofs.Theory.{Length}
use Rattle.document.proofs.Chain.{Quiet, silent, passing, quiet_append}
use Rattle.document.proofs.Acceptance.{judge_number, quiet_of}
use Rattle.document.proofs.Encoding.{encode_is_codeword, encode_systematic, encode_checks, codeword_is_encoding}
use Rattle.document.proofs.Meaning.{differ_at}
use Rattle.certificate.proofs.Sheets as Sheets
use Rattle.certificate.proofs.Shortening.{ShortenedForm, shortened_writes, shortened_refuses, shortened_either}
use Rattle.codeword.specs.Codewords.{Usable}
use Rattle.codeword.proofs.Places.{word_weights, message_weights, mask_lt, mask_coefficient, mask_above, for_le, bytes_lt, bytes_place, mask_of_bytes, bytes_of_mask}
use Rattle.code.specs.Published.{IsAccepted, Bytes, Message, Shortenable, ShortenedWord, ShortenedMessage, ShortenedSystematic, ShortenedDecoded}
use Rattle.code.specs.Table.{NoneNearShortened}
use Rattle.code.proofs.Accepted.{usable}
use Rattle.code.proofs.Entries.{encode_short_accepted, read_short_accepted, encode_done, read_none, read_done}
use Rattle.code.proofs.RoundTrip as RoundTrip
use Rattle.code.proofs.Worded.{places_there, places_back, apart_said as apart_whole}

-- ---- what is meant by the words
module _ (x : Stated) (m : ℕ) where
  pub shortened_iff : (c : ℕ) → ShortenedCodeword m x c ↔ (CodewordOf x c × ((i : ℕ) → x.n - m ≤ i → i < x.n → coefficient i c ≡ 0))
  shortened_iff c = (
    λ s. (s.in_code, λ i l h. coefficient_above s.top_is_zero i l),
    λ p. record {
      in_code = p.0;
      top_is_zero = below_pow (x.n - m) c (λ i l. elim (dec_lt i x.n) [
        | yes h ↦ p.1 i l h
        | no h ↦ coefficient_above p.0.small i (omega arith)
      ]);
    },
  )

  pub sent_word : (word : List ℕ) (i : ℕ) → (i < x.n - m → coefficient i (sent_word_of m x word) ≡ place word_weight word i)
      × (x.n - m ≤ i → coefficient i (sent_word_of m x word) ≡ 0)
  sent_word word i = (mask_coefficient word_weight (x.n - m) word i, mask_above word_weight (x.n - m) word i)

  pub sent_message : (message : List ℕ) (i : ℕ) → (i < dimension_of x - m → coefficient i (sent_message_of m x message) ≡ place message_weight message i)
      × (dimension_of x - m ≤ i → coefficient i (sent_message_of m x message) ≡ 0)
  sent_message message i = (mask_coefficient message_weight (dimension_of x - m) message i, mask_above message_weight (dimension_of x - m) message i)

-- masks of fewer places differ in those alone
differ_below : (n q a b : ℕ) → q ≤ n → a < 2 ^ q → b < 2 ^ q → differences n a b ≡ differences q a b
unfolding differences
differ_below n q a b h l k = total_still q n (λ i. coefficient i (a ⊕ b)) h (λ i j. coefficient_above (⊕-lt q a b l k) i j)

-- ---- places that are sent
module _ (x : Stated) (m : ℕ) where
  pub counted_said : (word : List ℕ) (c : ℕ) → ShortenedCodeword m x c
      → differences x.n (sent_word_of m x word) c ≡ total (x.n - m) (λ i. (place word_weight word i + coefficient i c) % 2)
  unfolding differences
  counted_said word c v =
      differ_below x.n (x.n - m) (sent_word_of m x word) c (omega arith) (mask_lt word_weight (x.n - m) word) v.top_is_zero
      ∙ total_ext (x.n - m) (λ i. coefficient i (sent_word_of m x word ⊕ c)) (λ i. (place word_weight word i + coefficient i c) % 2)
      (λ i j. differ_at (sent_word_of m x word) c i ∙ ap (λ (y : ℕ). (y + coefficient i c) % 2) (mask_coefficient word_weight (x.n - m) word i j))

pub apart_said : (sheet : List ℕ) → IsAccepted sheet → (m b c : ℕ) → ShortenedCodeword m (stated sheet) b → ShortenedCodeword m (stated sheet) c → b ≢ c
    → distance (working_certificate (stated sheet)) ≤ differences ((stated sheet).n - m) b c
apart_said sheet accepted m b c v w ne =
    subst (λ (y : ℕ). distance (working_certificate (stated sheet)) ≤ y)
    (differ_below (stated sheet).n ((stated sheet).n - m) b c (omega arith) v.top_is_zero w.top_is_zero)
    (apart_whole sheet accepted b c v.in_code w.in_code ne)

-- ---- an accepted sheet whose code can be shortened by m
module _ (sheet : List ℕ) (m : ℕ) (h : Shortenable sheet m) where
  abbrev x : Stated
  x = stated sheet

  abbrev n : ℕ
  n = x.n

  abbrev k : ℕ
  k = dimension_of x

  abbrev g : ℕ
  g = generator_of x

  zero_first : first_of (refusals_of sheet) ≡ 0
  zero_first = sym (judge_number short sheet) ∙ h.accepted

  a : Sheets.Accepted x
  a = Sheets.accepted short (omega arith) sheet zero_first

  u : Usable n k (order_of_two n) x.representatives
  u = usable short sheet (omega arith) zero_first

  l : Length n
  l = u.coded.length_stated

  quiet : Quiet (refusals_of sheet)
  quiet = quiet_of short sheet zero_first

  right : wrong_shortening m x ≡ false
  right = ap₂ ◌||◌ (ne_eqb m 0 (λ e. omega (arith, h.some, e))) (lt-leb (dimension_of x) m h.less)

  all_quiet : Quiet (refusals_of sheet ++ shortening_conditions m x)
  all_quiet = quiet_append quiet (passing right silent)

  split : n - k + (k - m) ≡ n - m
  split = omega (arith, h.less, u.k_le)

  -- ---- masks
  systematic : (c : ℕ) → encode_mask (n - k) g c / 2 ^ (n - k) ≡ c
  unfolding dimension_of generator_of message_of
  systematic c = encode_systematic l x.representatives c

  encode_below : (c : ℕ) → c < 2 ^ (k - m) → encode_mask (n - k) g c < 2 ^ (n - m)
  encode_below c b =
      below_pow (n - m) (encode_mask (n - k) g c) (λ i j.
      let e : i ≡ n - k + (i - (n - k)) = omega (arith, split) in
      ap (λ (y : ℕ). coefficient y (encode_mask (n - k) g c)) e
      ∙ sym (ap (λ (y : ℕ). y % 2) (shr-shr (encode_mask (n - k) g c) (n - k) (i - (n - k))))
      ∙ ap (coefficient (i - (n - k))) (systematic c) ∙ coefficient_above b (i - (n - k)) (omega (arith, split)))

  message_below : (c : ℕ) → c < 2 ^ (n - m) → message_of (n - k) c < 2 ^ (k - m)
  unfolding message_of
  message_below c b =
      below_pow (k - m) (c / 2 ^ (n - k)) (λ i j.
      ap (λ (y : ℕ). y % 2) (shr-shr c (n - k) i) ∙ coefficient_above b (n - k + i) (omega (arith, split)))

  in_code : (c : ℕ) → is_codeword (n - k) g (encode_mask (n - k) g c) ≡ true
  unfolding dimension_of generator_of
  in_code c = encode_is_codeword l x.representatives c

  codeword_of : (c : ℕ) → c < 2 ^ (n - m) → is_codeword (n - k) g c ≡ true → ShortenedCodeword m x c
  unfolding dimension_of generator_of
  codeword_of c b e = record {
    in_code = record { small = lt_of_lt_of_le b (pow_mono (omega arith)); is = e };
    top_is_zero = b;
  }

  test_of : {c : ℕ} → ShortenedCodeword m x c → is_codeword (n - k) g c ≡ true
  unfolding dimension_of generator_of
  test_of w = w.in_code.is

  -- ---- the codeword of a message
  abbrev pub codeword_sent : List ℕ → List ℕ
  codeword_sent message = bytes_of word_weight (n - m) (encoded_shortened m x message)

  abbrev pub message_sent : List ℕ → List ℕ
  message_sent word = bytes_of message_weight (k - m) (message_of (n - k) (sent_word_of m x word))

  encoded_lt : (message : List ℕ) → encoded_shortened m x message < 2 ^ (n - m)
  unfolding encoded_shortened
  encoded_lt message = encode_below (sent_message_of m x message) (mask_lt message_weight (k - m) message)

  word_is : (message : List ℕ) → sent_word_of m x (codeword_sent message) ≡ encoded_shortened m x message
  word_is message = mask_of_bytes word_weights (n - m) (encoded_shortened m x message) (encoded_lt message)

  codeword_is : (message : List ℕ) → ShortenedCodeword m x (sent_word_of m x (codeword_sent message))
  unfolding encoded_shortened
  codeword_is message =
      codeword_of (sent_word_of m x (codeword_sent message)) (mask_lt word_weight (n - m) (codeword_sent message))
      (ap (is_codeword (n - k) g) (word_is message) ∙ in_code (sent_message_of m x message))

  encodes : {message : List ℕ} (out : List ℕ) → ShortenedMessage m x message → length out ≡ (n - m + 7) / 8
      → (returned (0 ∷ []), codeword_sent message) ≡ encode_shortened_of sheet m message out
  unfolding encoded_shortened dimension_of generator_of bytes_for
  encodes {message} out f b =
      let p = places_there f in
      (encode_done u h.less message out p.long b p.clear
      (record { is = ap (λ (i : ℕ). bytes_of word_weight i (encoded_shortened m x message)) (sym split) })).is x refl refl
      ∙ encode_short_accepted (refusals_of sheet) x m message out quiet right

  systematic_said : (message : List ℕ) → ShortenedSystematic m x message (codeword_sent message)
  unfolding encoded_shortened dimension_of generator_of
  systematic_said message = record {
    is_word = places_back (RoundTrip.placed_bytes word_weights (n - m) (encoded_shortened m x message) (encoded_lt message));
    is_bytes = bytes_lt word_weights (n - m) (encoded_shortened m x message);
    in_code = codeword_is message;
    high = λ i b.
        bytes_place word_weights (n - m) (encoded_shortened m x message) (n - k + i) (omega (arith, split, for_le (n - m)))
        ∙ sym (ap (λ (y : ℕ). y % 2) (shr-shr (encoded_shortened m x message) (n - k) i))
        ∙ ap (coefficient i) (systematic (sent_message_of m x message)) ∙ mask_coefficient message_weight (k - m) message i b;
    low = ap (λ (y : ℕ). y % 2 ^ (n - k)) (word_is message) ∙ encode_checks l x.representatives (sent_message_of m x message);
  }

  -- ---- the message of a codeword
  reads : {word : List ℕ} (out : List ℕ) → ShortenedWord m x word → length out ≡ (k - m + 7) / 8 → ShortenedCodeword m x (sent_word_of m x word)
      → (returned (0 ∷ []), message_sent word) ≡ read_shortened_of sheet m word out
  unfolding bytes_for dimension_of generator_of
  reads {word} out f b c =
      let p = places_there f in
      (read_done u h.less word out p.long b p.clear {r = false} (record { is = sym (ap not (test_of c)) }) refl
      (record { is = ap (λ (i : ℕ). bytes_of message_weight (k - m) (message_of (n - k) (mask_of word_weight i word))) (sym split) })).is x refl refl
      ∙ read_short_accepted (refusals_of sheet) x m word out quiet right

  message_back : {message : List ℕ} → ShortenedMessage m x message → Bytes message → message_sent (codeword_sent message) ≡ message
  unfolding encoded_shortened message_of
  message_back {message} f small =
      let p = places_there f in
      ap (bytes_of message_weight (k - m)) (ap (λ (y : ℕ). y / 2 ^ (n - k)) (word_is message) ∙ systematic (sent_message_of m x message))
      ∙ sym (bytes_of_mask message_weights (k - m) message p.long small p.clear)

  pub encodes_said : (message out : List ℕ) → ShortenedMessage m x message → Bytes message → length out ≡ (n - m + 7) / 8
      → (word : List ℕ) × (encode_shortened_of sheet m message out ≡ (returned (0 ∷ []), word)) × ShortenedSystematic m x message word
      × ((back : List ℕ) → length back ≡ (k - m + 7) / 8 → read_shortened_of sheet m word back ≡ (returned (0 ∷ []), message))
  encodes_said message out f small b = (
    codeword_sent message,
    sym (encodes out f b),
    systematic_said message,
    λ back j. sym (reads back (systematic_said message).is_word j (codeword_is message))
        ∙ ap (λ (y : List ℕ). (returned (0 ∷ []), y)) (message_back f small),
  )

  word_lt : (word : List ℕ) → sent_word_of m x word < 2 ^ (n - m)
  word_lt word = mask_lt word_weight (n - m) word

  message_is : (word : List ℕ) → ShortenedMessage m x (message_sent word)
  message_is word =
      places_back (RoundTrip.placed_bytes message_weights (k - m) (message_of (n - k) (sent_word_of m x word)) (message_below (sent_word_of m x word) (word_lt word)))

  encode_back : {word : List ℕ} → ShortenedWord m x word → Bytes word → ShortenedCodeword m x (sent_word_of m x word) → codeword_sent (message_sent word) ≡ word
  unfolding encoded_shortened dimension_of generator_of
  encode_back {word} f small c =
      let p = places_there f in
      ap (λ (y : ℕ). bytes_of word_weight (n - m) (encode_mask (n - k) g y))
      (mask_of_bytes message_weights (k - m) (message_of (n - k) (sent_word_of m x word)) (message_below (sent_word_of m x word) (word_lt word)))
      ∙ ap (bytes_of word_weight (n - m)) (codeword_is_encoding l x.representatives (sent_word_of m x word) (test_of c))
      ∙ sym (bytes_of_mask word_weights (n - m) word p.long small p.clear)

  pub reads_said : (word out : List ℕ) → ShortenedWord m x word → Bytes word → ShortenedCodeword m x (sent_word_of m x word)
      → length out ≡ (k - m + 7) / 8
      → (message : List ℕ) × ShortenedMessage m x message × Bytes message × (read_shortened_of sheet m word out ≡ (returned (0 ∷ []), message))
      × ((back : List ℕ) → length back ≡ (n - m + 7) / 8 → encode_shortened_of sheet m message back ≡ (returned (0 ∷ []), word))
  reads_said word out f small c b = (
    message_sent word,
    message_is word,
    bytes_lt message_weights (k - m) (message_of (n - k) (sent_word_of m x word)),
    sym (reads out f b c),
    λ back j. sym (encodes back (message_is word) j) ∙ ap (λ (y : List ℕ). (returned (0 ∷ []), y)) (encode_back f small c),
  )

  pub refused_said : (word out : List ℕ) → ShortenedWord m x word → ¬ ShortenedCodeword m x (sent_word_of m x word) → length out ≡ (k - m + 7) / 8
      → read_shortened_of sheet m word out ≡ (refused 14, out)
  unfolding bytes_for dimension_of generator_of
  refused_said word out f none b =
      let p = places_there f in
      sym ((read_none u h.less word out p.long b p.clear {r = true} (record { is = sym (ap not (tested (is_codeword (n - k) g (sent_word_of m x word)) refl)) }) refl
      ).is x refl refl ∙ read_short_accepted (refusals_of sheet) x m word out quiet right)
    where
      tested : (b : Bool) → is_codeword (n - k) g (sent_word_of m x word) ≡ b → is_codeword (n - k) g (sent_word_of m x word) ≡ false
      tested true q = absurd (none (codeword_of (sent_word_of m x word) (word_lt word) q))
      tested false q = q

  -- ---- the message with m zero bits above
  pub encoded_as : (message out : List ℕ) → ShortenedMessage m x message → length out ≡ (n - m + 7) / 8
      → (whole : List ℕ) × Message x whole × Bytes whole × (mask_of message_weight k whole ≡ sent_message_of m x message)
      × ((all : List ℕ) → length all ≡ (n + 7) / 8
      → word_of x (encode_of sheet whole all).1 ≡ sent_word_of m x (encode_shortened_of sheet m message out).1)
  unfolding encoded_word encoded_shortened bytes_for
  encoded_as message out f b =
      let c : ℕ = sent_message_of m x message in
      let small : c < 2 ^ k = lt_of_lt_of_le (mask_lt message_weight (k - m) message) (pow_mono (omega arith)) in
      let whole : List ℕ = bytes_of message_weight k c in
      let p = RoundTrip.placed_bytes message_weights k c small in
      let e : mask_of message_weight k whole ≡ c = mask_of_bytes message_weights k c small in (
        whole,
        places_back p,
        bytes_lt message_weights k c,
        e,
        λ all l.
            ap (λ (y : Answer × List ℕ). word_of x y.1) (sym (RoundTrip.encodes short sheet (omega arith) h.accepted all p l))
            ∙ mask_of_bytes word_weights n (encoded_word x whole)
            (subst (λ (y : ℕ). encode_mask (n - k) g y < 2 ^ n) (sym e) (lt_of_lt_of_le (encoded_lt message) (pow_mono (omega arith))))
            ∙ ap (encode_mask (n - k) g) e ∙ sym (word_is message)
            ∙ ap (λ (y : Answer × List ℕ). sent_word_of m x y.1) (encodes out f b),
      )

  -- ---- decoding
  module _ (word out : List ℕ) (f : ShortenedWord m x word) (b : length out ≡ (n - m + 7) / 8) where
    abbrev reply : Answer × List ℕ
    reply = decode_shortened_of sheet m word out

    abbrev far : ℕ → ℕ
    far c = differences n (sent_word_of m x word) c

    form : ShortenedForm m x word out
    unfolding bytes_for
    form = let p = places_there f in record { word_long = p.long; out_long = b; clear = p.clear }

    pub found_said : (reply.0.number ≡ 0) ↔ ((c : ℕ) × ShortenedCodeword m x c × (far c ≤ radius_of x))
    found_said = (
      λ q. elim (shortened_either a all_quiet m word out form) [
        | inl w ↦ (w.0, w.1, w.2)
        | inr w ↦ absurd (omega (arith, q, ap (λ (y : Answer × List ℕ). y.0.number) w.1))
      ],
      λ w. sym (ap (λ (y : Answer × List ℕ). y.0.number) (shortened_writes a all_quiet m word out form w.1 w.2)),
    )

    pub none_said : (reply.0.number ≡ 13) ↔ NoneNearShortened m x word
    none_said = (
      λ q. elim (shortened_either a all_quiet m word out form) [
        | inl w ↦ absurd (omega (arith, q, ap (λ (y : Answer × List ℕ). y.0.number) w.3))
        | inr w ↦ w.0
      ],
      λ w. sym (ap (λ (y : Answer × List ℕ). y.0.number) (shortened_refuses a all_quiet m word out form w)),
    )

    written : {c : ℕ} → ShortenedCodeword m x c → far c ≤ radius_of x
        → ShortenedDecoded m x word (returned (far c ∷ []), bytes_of word_weight (n - m) c)
    written {c} v j =
        let q : sent_word_of m x (bytes_of word_weight (n - m) c) ≡ c = mask_of_bytes word_weights (n - m) c v.top_is_zero in
        record {
          is_word = places_back (RoundTrip.placed_bytes word_weights (n - m) c v.top_is_zero);
          is_bytes = bytes_lt word_weights (n - m) c;
          in_code = subst (ShortenedCodeword m x) (sym q) v;
          near = subst (λ (y : ℕ). far y ≤ radius_of x) (sym q) j;
          counted = ap (λ (y : ℕ). far y ∷ []) (sym q);
          others = λ d w ne. elim (dec_lt (radius_of x) (far d)) [
            | yes i ↦ i
            | no i ↦ absurd (ne (Sheets.sheet_unique a (sent_word_of m x word) w v.in_code (omega arith) j ∙ sym q))
          ];
        }

    pub decoded_said : reply.0.number ≡ 0 → ShortenedDecoded m x word reply
    decoded_said q =
        let w = found_said.0 q in
        subst (ShortenedDecoded m x word) (shortened_writes a all_quiet m word out form w.1 w.2) (written w.1 w.2)

    -- the codeword that is near is the only one
    pub other_near : (c : ℕ) → CodewordOf x c → far c ≤ radius_of x → ¬ ShortenedCodeword m x c → reply ≡ (refused 13, out)
    other_near c v j none =
        sym (shortened_refuses a all_quiet m word out form (λ d w. elim (dec_lt (radius_of x) (far d)) [
          | yes i ↦ i
          | no i ↦
              absurd (none (subst (ShortenedCodeword m x)
              (Sheets.sheet_unique a (sent_word_of m x word) w.in_code v (omega arith) j) w))
        ]))
