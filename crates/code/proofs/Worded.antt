-- Demands 2 and 3 in the words of specs/Published.antt, for every sheet of document 01's kind; and the spare bits of 2026-01.
--
--   places_there, places_back      places in bytes, by a test for spare bits and without
--   word_spare_said, message_spare_said      the spare bits are the low, or the high, bits of the last byte
--   mask_word, word_one      words and masks of n places
--   generator_said, generator_degree_said      the generator's coefficients, and its degree
--   multiple_said, zeros_said      what a codeword is
--   encodes_said, reads_said, refused_said      encoding and reading out
--   draws_none, length_here      a sheet that draws none of 1 to 6, and its length
--   accepted_published, certificate_published      certificates by the published conditions
--   working_said, record_said      the working certificate, and the record
--   found_said, decoded_said, none_said, radius_said      decoding
use mathlib.Core.Path.{◌≡◌, refl, sym, ap, ◌∙◌, subst}
use mathlib.Core.Logic.Iff
use mathlib.Core.Logic.{◌≢◌, ◌↔◌, ◌⊎◌, inl, inr}
use mathlib.Core.Bool.{Bool, true, false}
use mathlib.Core.List.{List, [], ◌∷◌}
use Prim.Native.Nat.{ℕ, zero, suc, ◌+◌, ◌-◌, ◌*◌, ◌/◌, ◌%◌, ◌^◌, ◌≤◌, ◌<◌, ◌∣◌}
use native.Mathlib.Nat.{mod-eq-zero_of_dvd, mod-lt, div-add-mod, mul-one, pow-succ'}
use native.Mathlib.Decide.{dec_lt, ℕ_discrete}
use native.Mathlib.Omega.{arith}
use lib.ListN.{length, get_or}
use lib.Pow.{pow_pos}
use Rattle.field.specs.Mask.{coefficient}
use Rattle.field.specs.Field.{OddLength, order_of_two}
use Rattle.field.proofs.Search.{true_ne_false}
use Rattle.field.proofs.Xor.{digit_lt}
use Rattle.field.proofs.OrderOfTwo.{order_pos, order_divides, order_least}
use Rattle.field.specs.Search.{bit}
use Rattle.document.specs.Answer.{Answer, returned, refused, first_of}
use Rattle.document.specs.Layout.{word_weight, message_weight, bytes_for, place, bytes_of, spare}
use Rattle.document.specs.Sheet.{Stated, certificate_at}
use Rattle.document.specs.Coset.{in_set}
use Rattle.document.specs.Generator.{generator_poly, is_codeword, message_of, differences}
use Rattle.document.specs.Certificate.{distance}
use Rattle.document.specs.Judge.{sheet_conditions, certificate_conditions, judge_conditions, dimension_of, working_of, working_certificate, record_of}
use Rattle.document.specs.Entry.{CodewordOf, generator_of, radius_of, word_of, encoded_word, changed}
use Rattle.document.specs.Short.{short, stated, judge_of, encode_of, read_of, decode_of}
use Rattle.document.proofs.Chain.{first_keep}
use Rattle.document.proofs.GeneratorIs.{generator_digit, generator_is, generator_degree}
use Rattle.document.proofs.Theory.{Length}
use Rattle.document.proofs.Acceptance.{Rules, judge_number, certificate_iff, accepted_rules, accepted_record}
use Rattle.document.proofs.Meaning.{set_iff, dimension_sum, spare_iff, radius_is}
use Rattle.document.proofs.Working.{working_iff}
use Rattle.binary.proofs.Meaning.{factor_iff}
use Rattle.codeword.proofs.Places.{word_weights, message_weights, bytes_lt, mask_of_bytes, bytes_of_mask}
use Rattle.codeword.proofs.Spare.{word_clear_iff, message_clear_iff}
use Rattle.certificate.proofs.Sheets as Sheets
use Rattle.certificate.proofs.Decoding as Decoding
use Rattle.code.specs.Turns.{NoneHolds}
use Rattle.code.specs.Published.{IsAccepted, Places, Bytes, Word, Message, InDefiningSet, SetSize, HasDegree, Divides, ZeroAt, Published, Rounded, WorkingIs}
use Rattle.code.specs.Published.{Systematic, WordDecoded}
use Rattle.code.specs.Table.{SpareBit, NoneNear, head_turns}
use Rattle.code.proofs.InTurn.{said_none, said_le, said_quiet}
use Rattle.code.proofs.Rules.{published_iff, rounded_of}
use Rattle.code.proofs.Tried.{length_stated, head_said, codeword_said}
use Rattle.code.proofs.RoundTrip as RoundTrip

-- ---- places in bytes
module _ {weight : ℕ → ℕ} {n : ℕ} {bytes : List ℕ} where
  pub places_there : Places weight n bytes → RoundTrip.Placed weight n bytes
  unfolding bytes_for
  places_there p = record { long = p.long; clear = none (spare weight n bytes) refl }
    where
      none : (b : Bool) → spare weight n bytes ≡ b → spare weight n bytes ≡ false
      none true e =
          let w = (spare_iff weight n bytes).0 e in
          absurd (omega (arith, w.3, p.clear w.0 w.1 w.2))
      none false e = e

  pub places_back : RoundTrip.Placed weight n bytes → Places weight n bytes
  unfolding bytes_for place
  places_back p = record {
    long = p.long;
    clear = λ i h l. elim (ℕ_discrete (place weight bytes i) 1) [
      | yes e ↦ absurd (true_ne_false ((spare_iff weight n bytes).1 (i, h, l, e)) p.clear)
      | no e ↦ omega (arith, digit_lt (get_or bytes (i / 8) 0 / weight i))
    ];
  }

-- a spare bit is 1 ⟺ what says that none is does not hold
spare_said : {P : Type 0} (weight : ℕ → ℕ) (n : ℕ) (bytes : List ℕ) → (spare weight n bytes ≡ false) ↔ P
    → SpareBit weight n bytes ↔ (¬ P)
unfolding bytes_for
spare_said {P} weight n bytes clear = (
  λ b p. true_ne_false ((spare_iff weight n bytes).1 b) (clear.1 p),
  λ none. one none (spare weight n bytes) refl,
)
  where
    one : ¬ P → (b : Bool) → spare weight n bytes ≡ b → SpareBit weight n bytes
    one none true e = (spare_iff weight n bytes).0 e
    one none false e = absurd (none (clear.0 e))

pub word_spare_said : (n : ℕ) (word : List ℕ) → 1 ≤ n → length word ≡ (n + 7) / 8
    → SpareBit word_weight n word ↔ (get_or word (length word - 1) 0 % 2 ^ (8 * length word - n) ≢ 0)
unfolding bytes_for
word_spare_said n word some long =
    spare_said word_weight n word (word_clear_iff n word long some)

pub message_spare_said : (k : ℕ) (message : List ℕ) → 1 ≤ k → length message ≡ (k + 7) / 8 → Bytes message
    → SpareBit message_weight k message ↔ (get_or message (length message - 1) 0 / 2 ^ (8 - (8 * length message - k)) ≢ 0)
unfolding bytes_for
message_spare_said k message some long bytes =
    spare_said message_weight k message (message_clear_iff k message long some (bytes (length message - 1)))

-- a mask whose leading coefficient is that of x^u has degree u
degree_has_top : {g u : ℕ} → g / 2 ^ u ≡ 1 → HasDegree g u
degree_has_top {g} {u} e =
    let p : 0 < 2 ^ u = pow_pos u in
    let q : 2 ^ u * (g / 2 ^ u) + g % 2 ^ u ≡ g = div-add-mod g (2 ^ u) in
    let r : g % 2 ^ u < 2 ^ u = mod-lt g p in
    let m : 2 ^ u * (g / 2 ^ u) ≡ 2 ^ u = ap (λ (y : ℕ). 2 ^ u * y) e ∙ mul-one (2 ^ u) in
    let t : 2 ^ suc u ≡ 2 * 2 ^ u = pow-succ' 2 u in
    record { low = omega arith; high = omega arith }

-- words in bytes and masks of n places are the same
module _ (x : Stated) where
  pub mask_word : (c : ℕ) → c < 2 ^ x.n → (word : List ℕ) × Word x word × Bytes word × (word_of x word ≡ c)
  mask_word c h = (
    bytes_of word_weight x.n c,
    places_back (RoundTrip.placed_bytes word_weights x.n c h),
    bytes_lt word_weights x.n c,
    mask_of_bytes word_weights x.n c h,
  )

  pub word_one : (v w : List ℕ) → Word x v → Bytes v → Word x w → Bytes w → word_of x v ≡ word_of x w → v ≡ w
  word_one v w f b g d e =
      let p = places_there f in
      let q = places_there g in
      bytes_of_mask word_weights x.n v p.long b p.clear ∙ ap (bytes_of word_weight x.n) e
      ∙ sym (bytes_of_mask word_weights x.n w q.long d q.clear)

module _ (sheet : List ℕ) where
  abbrev x : Stated
  x = stated sheet

  -- ---- a sheet that draws none of 1 to 6
  pub draws_none : IsAccepted sheet ⊎ (6 < (judge_of sheet).number) → NoneHolds (head_turns sheet)
  unfolding judge_conditions
  draws_none h = (said_none 6 (sheet_conditions short sheet) (head_turns sheet) (head_said sheet 6 (omega arith))).0 (go (first_of (sheet_conditions short sheet)) refl)
    where
      go : (r : ℕ) → first_of (sheet_conditions short sheet) ≡ r → first_of (sheet_conditions short sheet) ≡ 0
      go zero e = e
      go (suc r) e =
          let k : (judge_of sheet).number ≡ suc r = judge_number short sheet ∙ first_keep (sheet_conditions short sheet) _ r e in
          let l : first_of (sheet_conditions short sheet) ≤ 6 =
          said_le 6 (sheet_conditions short sheet) (head_turns sheet) (head_said sheet 6 (omega arith)) in
          elim h [ inl z ↦ absurd (omega (arith, k, z)) | inr z ↦ absurd (omega (arith, k, l, e, z)) ]

  -- ---- certificates
  pub length_here : IsAccepted sheet ⊎ (6 < (judge_of sheet).number) → Length x.n
  length_here h = length_stated (draws_none h).1.0 (draws_none h).1.1.0

  pub certificate_published : IsAccepted sheet ⊎ (6 < (judge_of sheet).number) → (i : ℕ)
      → (first_of (certificate_conditions 1023 x.n x.representatives (certificate_at x i)) ≡ 0)
      ↔ Published x.n x.representatives (certificate_at x i)
  certificate_published h i = published_iff (length_here h) x.representatives (certificate_at x i)

  rules_published : IsAccepted sheet ⊎ (6 < (judge_of sheet).number) → (i : ℕ)
      → Rules 1023 x.n x.representatives (certificate_at x i) ↔ Published x.n x.representatives (certificate_at x i)
  rules_published h i =
      Iff.trans (Iff.symm (certificate_iff 1023 x.n x.representatives (certificate_at x i))) (certificate_published h i)

  pub accepted_published : IsAccepted sheet ⊎ (6 < (judge_of sheet).number)
      → IsAccepted sheet ↔ ((i : ℕ) → i < length x.certificates → Published x.n x.representatives (certificate_at x i))
  accepted_published h =
      let w = accepted_rules short sheet in (
        λ e i l. (rules_published h i).0 ((w.0 e).1 i l),
        λ p. w.1 (
          said_quiet 6 (sheet_conditions short sheet) (head_turns sheet) (head_said sheet 6 (omega arith)) (draws_none h),
          λ i l. (rules_published h i).1 (p i l),
        ),
      )

  -- ---- an accepted sheet
  module _ (e : IsAccepted sheet) where
    a : Sheets.Accepted x
    a = Sheets.accepted short (omega arith) sheet (sym (judge_number short sheet) ∙ e)

    pub rounded_said : (i : ℕ) → i < length x.certificates → Rounded (certificate_at x i) (distance (certificate_at x i))
    rounded_said i l = rounded_of ((accepted_published (inl e)).0 e i l).rule1

    pub distance_said : (i : ℕ) → i < length x.certificates → (c d : ℕ) → CodewordOf x c → CodewordOf x d → c ≢ d
        → distance (certificate_at x i) ≤ differences x.n c d
    distance_said i l c d v w ne = Sheets.sheet_distance a i l v w ne

    pub degree_said : (0 < order_of_two x.n) × (x.n ∣ 2 ^ order_of_two x.n - 1)
        × ((q : ℕ) → 0 < q → x.n ∣ 2 ^ q - 1 → order_of_two x.n ≤ q)
    degree_said =
        let o : OddLength x.n = (length_here (inl e)).odd in (
          order_pos x.n,
          order_divides o,
          λ q h d. elim (dec_lt q (order_of_two x.n)) [
            | yes l ↦ absurd (order_least o q h l (mod-eq-zero_of_dvd x.n d))
            | no l ↦ omega arith
          ],
        )

    -- k is n less the size of D
    pub dimension_said : (dimension_of x ≤ x.n) × SetSize x.n x.representatives (x.n - dimension_of x)
    unfolding dimension_of
    dimension_said =
        let n : ℕ = x.n in
        let s = dimension_sum x.n x.representatives in (
          omega (arith, s),
          record {
            mark = λ i. bit (in_set x.n x.representatives i);
            marks = λ i l. marked i (in_set x.n x.representatives i) refl;
            sum = omega (arith, s);
          },
        )
      where
        marked : (i : ℕ) (b : Bool) → in_set x.n x.representatives i ≡ b
            → ((bit b ≡ 1) × InDefiningSet x.n x.representatives i) ⊎ ((bit b ≡ 0) × ¬ InDefiningSet x.n x.representatives i)
        marked i true q = inl (refl, (set_iff (length_here (inl e)).odd x.representatives i).0 q)
        marked i false q = inr (refl, λ m. true_ne_false ((set_iff (length_here (inl e)).odd x.representatives i).1 m) q)

    pub working_said : WorkingIs x (working_of x) (distance (working_certificate x)) (radius_of x) (certificate_at x (working_of x)).L
    unfolding working_of working_certificate radius_of
    working_said =
        let w = (working_iff (certificate_at x) (length x.certificates) (working_of x) a.head.one).0 refl in
        record {
          working = record { below = w.0; largest = w.1; fewest = w.2; earliest = w.3 };
          d_is = refl;
          rounded = rounded_said (working_of x) w.0;
          t_is = refl;
          halves = λ i l. radius_is (certificate_at x i);
          terms_is = refl;
        }

    pub record_said :
        judge_of sheet
        ≡ returned (x.n ∷ dimension_of x ∷ order_of_two x.n ∷ working_of x ∷ distance (working_certificate x) ∷ radius_of x
        ∷ (certificate_at x (working_of x)).L ∷ [])
    unfolding record_of radius_of working_certificate
    record_said = accepted_record short sheet e

    pub apart_said : (c d : ℕ) → CodewordOf x c → CodewordOf x d → c ≢ d → distance (working_certificate x) ≤ differences x.n c d
    unfolding working_certificate
    apart_said c d v w ne = distance_said (working_of x) working_said.working.below c d v w ne

    -- ---- the generator
    pub generator_said : (i : ℕ) → get_or (generator_poly x.n x.representatives) i 0 ≡ coefficient i (generator_of x)
    unfolding generator_of
    generator_said i =
        let l = a.head.length_stated in
        generator_digit l x.representatives i ∙ ap (coefficient i) (sym (generator_is l x.representatives))

    pub generator_degree_said : HasDegree (generator_of x) (x.n - dimension_of x)
    unfolding generator_of dimension_of
    generator_degree_said = degree_has_top (generator_degree a.head.length_stated x.representatives)

    -- ---- codewords
    pub multiple_said : (word : List ℕ) → CodewordOf x (word_of x word) ↔ Divides (generator_of x) (word_of x word)
    multiple_said word =
        Iff.trans (Iff.symm (codeword_said sheet word))
        (Iff.trans (RoundTrip.codeword_multiple short sheet (omega arith) e (word_of x word)) (factor_iff (generator_of x) (word_of x word)))

    pub zeros_said : (word : List ℕ)
        → CodewordOf x (word_of x word) ↔ ((i : ℕ) → InDefiningSet x.n x.representatives i → ZeroAt x i (word_of x word))
    zeros_said word =
        Iff.trans (Iff.symm (codeword_said sheet word))
        (Iff.trans (RoundTrip.codeword_set short sheet (omega arith) e (word_of x word)) (
          λ f i w. f i ((set_iff (length_here (inl e)).odd x.representatives i).1 w),
          λ f i t. f i ((set_iff (length_here (inl e)).odd x.representatives i).0 t),
        ))

    -- ---- encoding and reading out
    pub encodes_said : (message out : List ℕ) → Message x message → Bytes message → length out ≡ (x.n + 7) / 8
        → (word : List ℕ) × (encode_of sheet message out ≡ (returned (0 ∷ []), word)) × Systematic x message word
        × ((back : List ℕ) → length back ≡ (dimension_of x + 7) / 8 → read_of sheet word back ≡ (returned (0 ∷ []), message))
    unfolding bytes_for
    encodes_said message out m small l = (
      RoundTrip.codeword_of short sheet message,
      sym (RoundTrip.encodes short sheet (omega arith) e out (places_there m) l),
      record {
        is_word = places_back (RoundTrip.codeword_word short sheet (omega arith) e message);
        is_bytes = bytes_lt word_weights x.n (encoded_word x message);
        in_code = (codeword_said sheet (RoundTrip.codeword_of short sheet message)).0 (RoundTrip.codeword_is short sheet (omega arith) e message);
        high = RoundTrip.codeword_place short sheet (omega arith) e message;
        low = RoundTrip.codeword_low short sheet (omega arith) e message;
      },
      λ back k. sym (RoundTrip.read_back short sheet (omega arith) e back (places_there m) small k),
    )

    pub reads_said : (word out : List ℕ) → Word x word → Bytes word → CodewordOf x (word_of x word) → length out ≡ (dimension_of x + 7) / 8
        → (message : List ℕ) × Message x message × Bytes message × (read_of sheet word out ≡ (returned (0 ∷ []), message))
        × ((back : List ℕ) → length back ≡ (x.n + 7) / 8 → encode_of sheet message back ≡ (returned (0 ∷ []), word))
    unfolding bytes_for
    reads_said word out w small c l =
        let t : is_codeword (x.n - dimension_of x) (generator_of x) (word_of x word) ≡ true = (codeword_said sheet word).1 c in
        let m = RoundTrip.message_message short sheet (omega arith) e word in (
          RoundTrip.message_in short sheet word,
          places_back m,
          bytes_lt message_weights (dimension_of x) (message_of (x.n - dimension_of x) (word_of x word)),
          sym (RoundTrip.reads short sheet (omega arith) e out (places_there w) l t),
          λ back k. sym (RoundTrip.encodes short sheet (omega arith) e back m k)
              ∙ ap (λ (y : List ℕ). (returned (0 ∷ []), y)) (RoundTrip.encode_back short sheet (omega arith) e (places_there w) small t),
        )

    pub refused_said : (word out : List ℕ) → Word x word → ¬ CodewordOf x (word_of x word) → length out ≡ (dimension_of x + 7) / 8
        → read_of sheet word out ≡ (refused 14, out)
    unfolding bytes_for
    refused_said word out w n l =
        sym (RoundTrip.none_refused short sheet (omega arith) e out (places_there w) l (no_codeword (test word) refl))
      where
        test : List ℕ → Bool
        test word = is_codeword (x.n - dimension_of x) (generator_of x) (word_of x word)

        no_codeword : (b : Bool) → is_codeword (x.n - dimension_of x) (generator_of x) (word_of x word) ≡ b
            → is_codeword (x.n - dimension_of x) (generator_of x) (word_of x word) ≡ false
        no_codeword true q = absurd (n ((codeword_said sheet word).0 q))
        no_codeword false q = q

    -- ---- decoding
    module _ (word out : List ℕ) (w : Word x word) (l : length out ≡ (x.n + 7) / 8) where
      form : Decoding.RightForm x word out
      unfolding bytes_for
      form = let p = places_there w in record { word_long = p.long; out_long = l; clear = p.clear }

      pub found_said : ((decode_of sheet word out).0.number ≡ 0) ↔ ((c : ℕ) × CodewordOf x c × (changed x word c ≤ radius_of x))
      found_said = (
        λ q. elim (Decoding.found_or_none short (omega arith) sheet e word out form) [
          | inl f ↦ (f.0, f.1, f.2)
          | inr f ↦ absurd (omega (arith, q, ap (λ (y : Answer × List ℕ). y.0.number) f.1))
        ],
        λ f. sym (ap (λ (y : Answer × List ℕ). y.0.number)
            (Decoding.decode_found short (omega arith) sheet e word out form f.1 f.2)),
      )

      pub radius_said : (c : ℕ) → CodewordOf x c → changed x word c ≤ radius_of x
          → decode_of sheet word out ≡ (returned (changed x word c ∷ []), bytes_of word_weight x.n c)
      radius_said c v h = sym (Decoding.decode_found short (omega arith) sheet e word out form v h)

      pub none_said : ((decode_of sheet word out).0.number ≡ 13) ↔ NoneNear x word
      none_said = (
        λ q. elim (Decoding.found_or_none short (omega arith) sheet e word out form) [
          | inl f ↦ absurd (omega (arith, q, ap (λ (y : Answer × List ℕ). y.0.number) f.3))
          | inr f ↦ f.0
        ],
        λ f. sym (ap (λ (y : Answer × List ℕ). y.0.number)
            (Decoding.decode_none short (omega arith) sheet e word out form f)),
      )

      -- what is written is c in bytes
      written : {c : ℕ} → CodewordOf x c → changed x word c ≤ radius_of x
          → WordDecoded x word (returned (changed x word c ∷ []), bytes_of word_weight x.n c)
      written {c} v h =
          let q : word_of x (bytes_of word_weight x.n c) ≡ c = mask_of_bytes word_weights x.n c v.small in
          record {
            is_word = places_back (RoundTrip.placed_bytes word_weights x.n c v.small);
            is_bytes = bytes_lt word_weights x.n c;
            in_code = subst (CodewordOf x) (sym q) v;
            near = subst (λ (y : ℕ). changed x word y ≤ radius_of x) (sym q) h;
            counted = ap (λ (y : ℕ). changed x word y ∷ []) (sym q);
            others = λ d u ne. elim (dec_lt (radius_of x) (changed x word d)) [
              | yes k ↦ k
              | no k ↦
                  absurd (ne (Sheets.sheet_unique a (word_of x word) u v (omega arith) h ∙ sym q))
            ];
          }

      pub decoded_said : (decode_of sheet word out).0.number ≡ 0 → WordDecoded x word (decode_of sheet word out)
      decoded_said q =
          let f = found_said.0 q in
          subst (WordDecoded x word)
          (Decoding.decode_found short (omega arith) sheet e word out form f.1 f.2)
          (written f.1 f.2)
