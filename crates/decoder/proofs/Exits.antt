-- The exits of decoding a word of the code that an accepted sheet states, of which so many places are sent, and what correcting it needs.
--
--   held              the places of the word
--   decode_word, decode_out, decode_spare      lengths and spare bits
--   repairable        the listed places are of the word
--   far, beyond, done      no codeword within t places; one that reaches into places that were not sent; the codeword and the number
--                     of changed places
--   decoded_told      a word decoded, by its verdict
--   received_held, received_far, received_listed, received_beyond, received_repairable, received_done      of one word of several, with
--                     its verdict
use mathlib.Core.Path.{◌≡◌, sym, ap, ap₂, ◌∙◌, subst}
use mathlib.Core.Logic.{◌≢◌}
use mathlib.Core.Bool.{Bool, true, false}
use Rattle.std.specs.Prelude.{Option, Some, None}
use mathlib.Core.List.{List, [], ◌∷◌}
use Prim.Native.Nat.{ℕ, zero, suc, ◌-◌, ◌^◌, ◌≤◌, ◌<◌}
use native.Mathlib.Nat.{lt_of_lt_of_le}
use native.Mathlib.Decide.{dec_lt}
use native.Mathlib.Omega.{arith}
use lib.ListN.{length, get_or}
use lib.Pow.{pow_pos, pow-lt, pow_mono}
use Rattle.field.specs.Mask.{◌⊕◌, coefficient}
use Rattle.field.proofs.Xor.{⊕-lt, ⊕-zero-l, bit_⊕}
use Rattle.cyclic.proofs.Places.{coefficient_above}
use Rattle.document.specs.Answer.{Answer, returned, refused}
use Rattle.document.specs.Layout.{word_weight, bytes_for, mask_of, bytes_of, spare}
use Rattle.document.specs.Sheet.{Stated}
use Rattle.document.specs.Generator.{Codeword, differences}
use Rattle.document.specs.Entry.{CodewordOf, wrong_size, radius_of}
use Rattle.document.specs.Shortened.{sent_places, sent_word_of, decoded_shortened, decode_shortened_conditions, decode_shortened_entry}
use Rattle.document.proofs.Settled.{entry_refused, size_wrong, size_right}
use Rattle.document.proofs.Chain.{silent, first_true, first_false}
use Rattle.certificate.proofs.Sheets.{sheet_unique}
use Rattle.certificate.proofs.Shortening.{ShortenedForm, shortened_writes, shortened_refuses}
use Rattle.binary.specs.Bits.{Holds}
use Rattle.syndrome.specs.Sums.{sum_over}
use Rattle.syndrome.proofs.Listing.{over_z, over_s, listed_mask}
use Rattle.codeword.specs.Place.{places_of}
use Rattle.codeword.proofs.Places.{word_weights, mask_lt, mask_coefficient, mask_above, spare_none, bytes_same, for_le, places_length, places_hold}
use Rattle.decoder.specs.Repair.{PlacesOf, Repairable, Repaired, Reached}
use Rattle.decoder.specs.Correct.{Held, Corrected}
use Rattle.decoder.specs.Decode.{States, Decoded, Receivable, verdict_as}

-- ---- a list of places below fits number makes a mask of so many places
sum_lt : (list : List ℕ) (q m : ℕ) → ((k : ℕ) → k < m → get_or list k 0 < q) → sum_over (λ j. 2 ^ j) list m < 2 ^ q
sum_lt list q zero h = subst (λ (x : ℕ). x < 2 ^ q) (sym (over_z (λ j. 2 ^ j) list)) (pow_pos q)
sum_lt list q (suc m) h =
    subst (λ (x : ℕ). x < 2 ^ q) (sym (over_s (λ j. 2 ^ j) list m))
    (⊕-lt q (sum_over (λ j. 2 ^ j) list m) (2 ^ get_or list m 0) (sum_lt list q m (λ k l. h k (omega arith))) (pow-lt (h m (omega arith))))

module _ {n sent : ℕ} (fits : sent ≤ n) (word : List ℕ) (a : length word ≡ bytes_for sent) (d : spare word_weight sent word ≡ false) where
  small : mask_of word_weight sent word < 2 ^ n
  small = lt_of_lt_of_le (mask_lt word_weight sent word) (pow_mono fits)

  pub held : Held n (places_of word)
  unfolding bytes_for
  held = record {
    word = mask_of word_weight sent word;
    small = small;
    holds = places_hold sent word a d;
    whole = omega (arith, places_length word);
    most = omega (arith, a, fits, places_length word);
  }

  module _ {t m : ℕ} {reps list : List ℕ} {answer : Answer} (y : Corrected n t reps (places_of word) list answer) (e : answer ≡ returned (m ∷ [])) where
    pub repairable : {out : List ℕ} → length out ≡ bytes_for sent → n ≤ length list → {r : Bool} → Reached list m sent r → r ≡ false
        → Repairable word list m out
    repairable lo ll b z =
        let f = (y.found (places_hold sent word a d) small e).5 in
        record {
          long = lo ∙ sym a;
          listed = omega (arith, f.le, ll);
          below = λ k h. omega (arith, b.no z k h, for_le sent, a);
        }

-- ---- an accepted sheet that states x, with m places that are not sent
module _ {x : Stated} {n sent t : ℕ} {reps : List ℕ} (u : States x n t reps) (m : ℕ) (es : sent ≡ x.n - m) where
  -- its codewords are those of the code of its representatives
  to_sheet : {c : ℕ} → Codeword n reps c → CodewordOf x c
  to_sheet {c} w = subst (λ (l : List ℕ). Codeword x.n l c) u.reps_is (subst (λ (m : ℕ). Codeword m reps c) u.n_is w)

  of_sheet : {c : ℕ} → CodewordOf x c → Codeword n reps c
  of_sheet {c} w =
      subst (λ (m : ℕ). Codeword m reps c) (sym u.n_is) (subst (λ (l : List ℕ). Codeword x.n l c) (sym u.reps_is) w)

  module _ (word out : List ℕ) where
    abbrev places : ℕ
    places = sent_places m x

    abbrev value : List ℕ
    value = differences x.n (sent_word_of m x word) (decoded_shortened m x word) ∷ []

    abbrev written : List ℕ
    written = bytes_of word_weight places (decoded_shortened m x word)

    wrong_word : length word ≢ bytes_for sent → (refused 11, out) ≡ decode_shortened_entry [] m x word out
    unfolding decode_shortened_entry decode_shortened_conditions
    wrong_word h =
        entry_refused (decode_shortened_conditions m x word out) value written out 10
        (first_true (11, wrong_size places word) _ (size_wrong places word (λ e. h (e ∙ ap bytes_for (sym es)))))

    module _ (a : length word ≡ bytes_for sent) where
      wrong_out : length out ≢ bytes_for sent → (refused 11, out) ≡ decode_shortened_entry [] m x word out
      unfolding decode_shortened_entry decode_shortened_conditions
      wrong_out h =
          entry_refused (decode_shortened_conditions m x word out) value written out 10
          (first_false (11, wrong_size places word) _ (size_right places word (a ∙ ap bytes_for es))
          ∙ first_true (11, wrong_size places out) _ (size_wrong places out (λ e. h (e ∙ ap bytes_for (sym es)))))

      module _ (b : length out ≡ bytes_for sent) where
        wrong_spare : spare word_weight sent word ≡ true → (refused 12, out) ≡ decode_shortened_entry [] m x word out
        unfolding decode_shortened_entry decode_shortened_conditions
        wrong_spare h =
            entry_refused (decode_shortened_conditions m x word out) value written out 11
            (first_false (11, wrong_size places word) _ (size_right places word (a ∙ ap bytes_for es))
            ∙ first_false (11, wrong_size places out) _ (size_right places out (b ∙ ap bytes_for es))
            ∙ first_true (12, spare word_weight places word) _ (ap (λ (m : ℕ). spare word_weight m word) (sym es) ∙ h))

        module _ (fits : sent ≤ n) (d : spare word_weight sent word ≡ false) where
          abbrev r : ℕ
          r = mask_of word_weight sent word

          received : ShortenedForm m x word out
          received = record {
            word_long = a ∙ ap bytes_for es;
            out_long = b ∙ ap bytes_for es;
            clear = ap (λ (m : ℕ). spare word_weight m word) (sym es) ∙ d;
          }

          holds : Holds r (places_of word)
          holds = places_hold sent word a d

          there : (c : ℕ) → differences n r c ≡ differences x.n (sent_word_of m x word) c
          there c = ap₂ (λ (i q : ℕ). differences i (mask_of word_weight q word) c) u.n_is es

          -- no shortened codeword is within t places where no codeword below 2^sent is
          refuse : ((c : ℕ) → Codeword n reps c → c < 2 ^ sent → t < differences n r c) → (refused 13, out) ≡ decode_shortened_entry [] m x word out
          refuse g =
              shortened_refuses u.accepted silent m word out received
              (λ c v. subst (λ (i : ℕ). i < differences x.n (sent_word_of m x word) c) u.t_is
              (subst (λ (i : ℕ). t < i) (there c) (g c (of_sheet v.in_code) (subst (λ (q : ℕ). c < 2 ^ q) (sym es) v.top_is_zero))))

          far : {list : List ℕ} {answer : Answer} → Corrected n t reps (places_of word) list answer → answer ≡ refused 13
              → (refused 13, out) ≡ decode_shortened_entry [] m x word out
          far y e = refuse (λ c v l. y.none holds (small fits word a d) e c v)

          -- the codeword that was found has a 1 where nothing was sent, and no other is within t places
          beyond : {list : List ℕ} {answer : Answer} {count : ℕ} {b : Bool} → Corrected n t reps (places_of word) list answer → answer ≡ returned (count ∷ [])
              → Reached list count sent b → b ≡ true → (refused 13, out) ≡ decode_shortened_entry [] m x word out
          beyond {list} {count = count} y e b z =
              let f = y.found holds (small fits word a d) e in
              let k = b.yes z in
              let at : ℕ = get_or list k.0 0 in
              let one : coefficient at (r ⊕ f.0) ≡ 1 =
              bit_⊕ at r f.0 ∙ ap₂ ◌⊕◌ (coefficient_above (mask_lt word_weight sent word) at k.2) (f.5.marked k.0 k.1) ∙ ⊕-zero-l 1 in
              refuse (λ c v l. elim (dec_lt t (differences n r c)) [
                | yes h ↦ h
                | no h ↦
                    (let q : c ≡ r ⊕ f.0 =
                    sheet_unique u.accepted (sent_word_of m x word) (to_sheet v) (to_sheet f.1)
                    (near c (omega arith)) (near (r ⊕ f.0) (omega (arith, f.2, f.3))) in
                    absurd (zero_one (sym (coefficient_above l at k.2) ∙ ap (coefficient at) q ∙ one)))
              ])
            where
              zero_one : ◌≡◌ {A = ℕ} 0 1 → ⊥
              zero_one e = omega (arith, e)

              near : (c : ℕ) → differences n r c ≤ t → differences x.n (sent_word_of m x word) c ≤ radius_of x
              near c h = subst (λ (i : ℕ). i ≤ radius_of x) (there c) (subst (λ (i : ℕ). differences n r c ≤ i) u.t_is h)

          places_are : PlacesOf r word
          places_are = record {
            at = λ i h. elim (dec_lt i sent) [
              | yes b ↦ sym (mask_coefficient word_weight sent word i b)
              | no b ↦ spare_none word_weight sent word d i (omega arith) (omega (arith, a)) ∙ sym (mask_above word_weight sent word i (omega arith))
            ];
          }

          done : {list out' : List ℕ} {answer : Answer} {count : ℕ} {z : Bool} → Corrected n t reps (places_of word) list answer → answer ≡ returned (count ∷ [])
              → Reached list count sent z → z ≡ false → Repaired word list count out' → length out' ≡ length out → ((i : ℕ) → get_or out' i 0 < 256)
              → (returned (count ∷ []), out') ≡ decode_shortened_entry [] m x word out
          done {list = list} {out' = out'} {count = count} y e k z p long bytes =
              let f = y.found holds (small fits word a d) e in
              let c : ℕ = r ⊕ f.0 in
              let changes : sum_over (λ j. 2 ^ j) list count ≡ f.0 = listed_mask f.0 f.4 f.5 in
              let short : c < 2 ^ sent =
              ⊕-lt sent r f.0 (mask_lt word_weight sent word) (subst (λ (i : ℕ). i < 2 ^ sent) changes (sum_lt list sent count (k.no z))) in
              let q : count ≡ differences x.n (sent_word_of m x word) c = f.2 ∙ there c in
              let o : out' ≡ bytes_of word_weight sent c =
              bytes_same word_weights sent c out' (long ∙ b) bytes
              (λ i h. (p.at r places_are).at i (omega (arith, long, b)) ∙ ap (λ (y : ℕ). coefficient i (r ⊕ y)) changes) in
              ap₂ (λ (v : ℕ) (o : List ℕ). (returned (v ∷ []), o)) q (o ∙ ap (λ (i : ℕ). bytes_of word_weight i c) es)
              ∙ shortened_writes u.accepted silent m word out received
              (record { in_code = to_sheet f.1; top_is_zero = subst (λ (i : ℕ). c < 2 ^ i) es short })
              (subst (λ (i : ℕ). i ≤ radius_of x) q (subst (λ (i : ℕ). count ≤ i) u.t_is f.3))

-- ---- of whatever was stated
module _ {n sent t : ℕ} {reps : List ℕ} (word out : List ℕ) where
  pub decode_word : length word ≢ bytes_for sent → Decoded n sent t reps word out out (refused 11)
  decode_word h = record { is = λ x u m e. wrong_word u m e word out h }

  module _ (a : length word ≡ bytes_for sent) where
    pub decode_out : length out ≢ bytes_for sent → Decoded n sent t reps word out out (refused 11)
    decode_out h = record { is = λ x u m e. wrong_out u m e word out a h }

    module _ (b : length out ≡ bytes_for sent) where
      pub decode_spare : spare word_weight sent word ≡ true → Decoded n sent t reps word out out (refused 12)
      decode_spare h = record { is = λ x u m e. wrong_spare u m e word out a b h }

-- ---- one word of several
module _ {n sent : ℕ} {word out : List ℕ} (r : Receivable n sent word out) where
  pub received_held : Held n (places_of word)
  received_held = held r.at_most word r.word_long r.clear

  module _ {t : ℕ} {reps list : List ℕ} {answer : Answer} (y : Corrected n t reps (places_of word) list answer) where
    abbrev Is : List ℕ → Answer → Type 0
    Is out' answer = Decoded n sent t reps word out out' answer

    pub received_far : answer ≡ refused 13 → Is out (verdict_as None)
    received_far e = record { is = λ x u m es. far u m es word out r.word_long r.out_long r.at_most r.clear y e }

    module _ {m : ℕ} (e : answer ≡ returned (m ∷ [])) where
      pub received_listed : n ≤ length list → m ≤ length list
      received_listed l = omega (arith, (y.found (places_hold sent word r.word_long r.clear) (small r.at_most word r.word_long r.clear) e).5.le)

      module _ {z : Bool} (k : Reached list m sent z) where
        pub received_beyond : z ≡ true → Is out (verdict_as None)
        received_beyond q = record { is = λ x u m es. beyond u m es word out r.word_long r.out_long r.at_most r.clear y e k q }

        pub received_repairable : z ≡ false → n ≤ length list → Repairable word list m out
        received_repairable q l = repairable r.at_most word r.word_long r.clear y e r.out_long l k q

        pub received_done : z ≡ false → {out' : List ℕ} → Repaired word list m out' → length out' ≡ length out
            → ((i : ℕ) → get_or out' i 0 < 256) → Is out' (verdict_as (Some m))
        received_done q p long bytes = record { is = λ x u m es. done u m es word out r.word_long r.out_long r.at_most r.clear y e k q p long bytes }

-- ---- a word's verdict
pub decoded_told : {n sent t : ℕ} {reps word out out' : List ℕ} {v : Option ℕ} (told : Option ℕ) → v ≡ told
    → Decoded n sent t reps word out out' (verdict_as v) → Decoded n sent t reps word out out' (verdict_as told)
decoded_told {n} {sent} {t} {reps} {word} {out} {out'} told e y = subst (λ z. Decoded n sent t reps word out out' (verdict_as z)) e y
