-- What decoding a word of a shortened code answers and writes, by its definition (2026-06): for every accepted sheet of any kind, any m, and
-- every word and buffer of the right length.
--
--   shortened_le, shortened_found, shortened_some, shortened_none      what the search through all messages finds
--   ShortenedForm m x word out      the lengths are right, and no spare bit is 1
--   shortened_writes      a shortened codeword within t places is what decoding writes, with the number of changed places
--   shortened_refuses     where there is none, 13, and the buffer as it was
--   shortened_either      one of the two, always
--   unshortened           with m = 0 it is decoding
use mathlib.Core.Path.{◌≡◌, refl, sym, ap, ap₂, ◌∙◌}
use mathlib.Core.Logic.{◌↔◌, ◌⊎◌, inl, inr}
use mathlib.Core.Bool.{Bool, true, false, ◌&&◌}
use mathlib.Core.List.{List, [], ◌∷◌}
use Prim.Native.Nat.{ℕ, ◌-◌, ◌^◌, ◌≤◌, ◌<◌}
use native.Mathlib.Decide.{ℕ_discrete, dec_lt}
use native.Mathlib.Omega.{arith}
use lib.Dec.{eqb, leb, ltb}
use lib.ListN.{length}
use borrow.Author.Tests.{eq-eqb, ne_eqb, leb-true, le-leb, ltb-true, lt-ltb}
use Rattle.field.specs.Search.{least}
use Rattle.field.proofs.Search.{least_is, least_unique, and_both}
use Rattle.document.specs.Answer.{Answer, returned, refused, Conditions, first_of, settle}
use Rattle.document.specs.Layout.{word_weight, bytes_for, mask_of, bytes_of, spare}
use Rattle.document.specs.Sheet.{Stated}
use Rattle.document.specs.Generator.{encode_mask, differences, nearest}
use Rattle.document.specs.Judge.{dimension_of}
use Rattle.document.specs.Entry.{generator_of, radius_of, wrong_size, word_of, nearest_message, decoded_word, decode_conditions, decode_entry}
use Rattle.document.specs.Shortened.{sent_places, sent_word_of, top_zero, ShortenedCodeword, shortened_message, decoded_shortened}
use Rattle.document.specs.Shortened.{decode_shortened_conditions, decode_shortened_entry}
use Rattle.document.proofs.Encoding.{encode_lt}
use Rattle.document.proofs.Chain.{Quiet, first_true, first_false}
use Rattle.document.proofs.Settled.{entry_quiet, entry_refused, entry_done, first_nil, size_right}
use Rattle.document.proofs.Searched.{found_le, found_some, found_is, found_none}
use Rattle.certificate.proofs.Sheets.{Accepted, accepted_length, sheet_unique}

-- ---- what the search finds
module _ {x : Stated} (a : Accepted x) (m : ℕ) (word : List ℕ) where
  abbrev n : ℕ
  n = x.n

  abbrev k : ℕ
  k = dimension_of x

  abbrev r : ℕ
  r = sent_word_of m x word

  abbrev passes : ℕ → Bool
  passes c = top_zero m x c && leb (differences n r c) (radius_of x)

  passed : (c : ℕ) → passes c ≡ true → (c < 2 ^ sent_places m x) × (differences n r c ≤ radius_of x)
  unfolding top_zero
  passed c e =
      let b = and_both (ltb c (2 ^ sent_places m x)) (leb (differences n r c) (radius_of x)) e in
      (ltb-true c (2 ^ sent_places m x) b.0, leb-true (differences n r c) (radius_of x) b.1)

  passes_of : (c : ℕ) → c < 2 ^ sent_places m x → differences n r c ≤ radius_of x → passes c ≡ true
  unfolding top_zero
  passes_of c s h = ap₂ ◌&&◌ (lt-ltb c (2 ^ sent_places m x) s) (le-leb (differences n r c) (radius_of x) h)

  pub shortened_le : shortened_message m x word ≤ 2 ^ k
  unfolding shortened_message dimension_of generator_of
  shortened_le = found_le (accepted_length a) x.representatives passes

  pub shortened_found : {c : ℕ} → ShortenedCodeword m x c → differences n r c ≤ radius_of x
      → (shortened_message m x word < 2 ^ k) × (decoded_shortened m x word ≡ c)
  unfolding shortened_message decoded_shortened dimension_of generator_of
  shortened_found {c} w h =
      found_is (accepted_length a) x.representatives passes
      (λ b c v w i j. sheet_unique a r v w (passed b i).1 (passed c j).1) w.in_code (passes_of c w.top_is_zero h)

  pub shortened_some : shortened_message m x word < 2 ^ k
      → ShortenedCodeword m x (decoded_shortened m x word) × (differences n r (decoded_shortened m x word) ≤ radius_of x)
  unfolding shortened_message decoded_shortened dimension_of generator_of
  shortened_some h =
      let w = found_some (accepted_length a) x.representatives passes h in
      let p = passed (decoded_shortened m x word) w.1 in
      (record { in_code = w.0; top_is_zero = p.0 }, p.1)

  pub shortened_none : (shortened_message m x word ≡ 2 ^ k) ↔ ((c : ℕ) → ShortenedCodeword m x c → radius_of x < differences n r c)
  unfolding shortened_message dimension_of generator_of
  shortened_none =
      let f = found_none (accepted_length a) x.representatives passes in (
        λ e c w. elim (dec_lt (radius_of x) (differences n r c)) [
          | yes h ↦ h
          | no h ↦ absurd (f.0 e c w.in_code (passes_of c w.top_is_zero (omega arith)))
        ],
        λ g. f.1 (λ c w h. let p = passed c h in omega (arith, g c (record { in_code = w; top_is_zero = p.0 }), p.1)),
      )

-- ---- the entry
pub record ShortenedForm (m : ℕ) (x : Stated) (word out : List ℕ) : Type 0 where
  pub word_long : length word ≡ bytes_for (sent_places m x)
  pub out_long : length out ≡ bytes_for (sent_places m x)
  pub clear : spare word_weight (sent_places m x) word ≡ false

module _ {x : Stated} (a : Accepted x) {conditions : Conditions} (q : Quiet conditions) (m : ℕ) (word out : List ℕ) (f : ShortenedForm m x word out) where
  abbrev places : ℕ
  places = sent_places m x

  abbrev far : ℕ → ℕ
  far c = differences x.n (sent_word_of m x word) c

  abbrev found : ℕ
  found = decoded_shortened m x word

  abbrev none : Bool
  none = eqb (shortened_message m x word) (2 ^ dimension_of x)

  before : first_of (decode_shortened_conditions m x word out) ≡ first_of ((13, none) ∷ [])
  unfolding decode_shortened_conditions
  before =
      first_false (11, wrong_size places word) _ (size_right places word f.word_long)
      ∙ first_false (11, wrong_size places out) _ (size_right places out f.out_long)
      ∙ first_false (12, spare word_weight places word) _ f.clear

  pub shortened_writes : {c : ℕ} → ShortenedCodeword m x c → far c ≤ radius_of x
      → (returned (far c ∷ []), bytes_of word_weight places c) ≡ decode_shortened_entry conditions m x word out
  unfolding decode_shortened_entry
  shortened_writes {c} w h =
      let g = shortened_found a m word w h in
      ap (λ (y : ℕ). (returned (far y ∷ []), bytes_of word_weight places y)) (sym g.1)
      ∙ entry_done (decode_shortened_conditions m x word out) (far found ∷ []) (bytes_of word_weight places found) out
      (before ∙ first_false (13, none) [] (ne_eqb (shortened_message m x word) (2 ^ dimension_of x) (λ e. omega (arith, g.0, e))) ∙ first_nil)
      refl
      ∙ entry_quiet (decode_shortened_conditions m x word out) (far found ∷ []) (bytes_of word_weight places found) out q

  pub shortened_refuses : ((c : ℕ) → ShortenedCodeword m x c → radius_of x < far c)
      → (refused 13, out) ≡ decode_shortened_entry conditions m x word out
  unfolding decode_shortened_entry
  shortened_refuses g =
      entry_refused (decode_shortened_conditions m x word out) (far found ∷ []) (bytes_of word_weight places found) out 12
      (before ∙ first_true (13, none) [] (eq-eqb (shortened_message m x word) (2 ^ dimension_of x) ((shortened_none a m word).1 g)))
      ∙ entry_quiet (decode_shortened_conditions m x word out) (far found ∷ []) (bytes_of word_weight places found) out q

  pub shortened_either :
      ((c : ℕ) × ShortenedCodeword m x c × (far c ≤ radius_of x)
      × (decode_shortened_entry conditions m x word out ≡ (returned (far c ∷ []), bytes_of word_weight places c)))
      ⊎ (((c : ℕ) → ShortenedCodeword m x c → radius_of x < far c) × (decode_shortened_entry conditions m x word out ≡ (refused 13, out)))
  shortened_either =
      elim (ℕ_discrete (shortened_message m x word) (2 ^ dimension_of x)) [
        | yes e ↦ (let g = (shortened_none a m word).0 e in inr (g, sym (shortened_refuses g)))
        | no e ↦
            (let w = shortened_some a m word (omega (arith, shortened_le a m word, e)) in
            inl (found, w.0, w.1, sym (shortened_writes w.0 w.1)))
      ]

-- ---- with m = 0
least_same : (test other : ℕ → Bool) (n : ℕ) → ((i : ℕ) → i < n → test i ≡ other i) → least test n ≡ least other n
least_same test other n f =
    let l = least_is test n in
    least_unique (record {
      le = l.le;
      before = λ i h. sym (f i (omega (arith, l.le))) ∙ l.before i h;
      passes = λ h. sym (f (least test n) h) ∙ l.passes h;
    }) (least_is other n)

module _ {x : Stated} (a : Accepted x) (word out : List ℕ) where
  -- the definition's search, with so many places sent
  abbrev search : ℕ → ℕ
  search sent =
      least
      (λ message. ltb (encode_mask (x.n - dimension_of x) (generator_of x) message) (2 ^ sent)
      && leb (differences x.n (mask_of word_weight sent word) (encode_mask (x.n - dimension_of x) (generator_of x) message)) (radius_of x))
      (2 ^ dimension_of x)

  -- and all of it
  abbrev answer : ℕ → ℕ → Answer × List ℕ
  answer sent message =
      settle
      (first_of ((11, wrong_size sent word) ∷ (11, wrong_size sent out) ∷ (12, spare word_weight sent word) ∷ (13, eqb message (2 ^ dimension_of x)) ∷ []))
      (differences x.n (mask_of word_weight sent word) (encode_mask (x.n - dimension_of x) (generator_of x) message) ∷ [])
      (bytes_of word_weight sent (encode_mask (x.n - dimension_of x) (generator_of x) message))
      out

  searched : search x.n ≡ nearest_message x word
  unfolding nearest_message nearest dimension_of generator_of
  searched =
      least_same _ _ (2 ^ dimension_of x) (λ message h.
      ap (λ b. b && leb (differences x.n (word_of x word) (encode_mask (x.n - dimension_of x) (generator_of x) message)) (radius_of x))
      (lt-ltb (encode_mask (x.n - dimension_of x) (generator_of x) message) (2 ^ x.n) (encode_lt (accepted_length a) x.representatives message h)))

  pub unshortened : decode_shortened_entry [] 0 x word out ≡ decode_entry [] x word out
  unfolding decode_shortened_entry decode_shortened_conditions decoded_shortened shortened_message top_zero decode_entry decode_conditions decoded_word
  unshortened =
      let whole : x.n - 0 ≡ x.n = omega arith in
      ap (λ (sent : ℕ). answer sent (search sent)) whole ∙ ap (answer x.n) searched
