-- 2026-04: the working certificate in the words of specs/Published.antt, the choice that it was, and that nothing decodes otherwise.
--
--   working_only       the working certificate is the one with the largest d, then the fewest terms, then the earliest
--   around             of a row of texts one, and what stands before and after it
--   record_chosen      judging's record is that one's; card_chosen: and so are its own line and the last one of the listing
--   before_said        the choice before: the first with the largest t
--   radius_still       t is what it was
--   decoded_by         decoding sees no more of a certificate than its t
--   decoded_still      so every word decodes as before; decoded_chosen: decode_with, by the working certificate, is decoding
use mathlib.Core.Path.{◌≡◌, refl, sym, ap, ◌∙◌, subst}
use mathlib.Core.Logic.{◌↔◌}
use mathlib.Core.Bool.{Bool}
use mathlib.Core.List.{List, [], ◌∷◌, ◌++◌, flat_map, append_assoc, append-nil}
use Prim.Native.Nat.{ℕ, zero, suc, ◌+◌, ◌-◌, ◌^◌, ◌<◌}
use native.Mathlib.Decide.{ℕ_discrete}
use native.Mathlib.Omega.{arith}
use lib.Dec.{eqb, leb}
use lib.ListN.{length, get_or}
use borrow.Author.Tests.{leb-true, leb-false, le-leb, lt-leb}
use Rattle.field.specs.Search.{least, up_to}
use Rattle.field.specs.Field.{order_of_two}
use Rattle.field.proofs.Search.{least_is}
use Rattle.document.specs.Answer.{Answer, returned, Conditions, first_of, settle}
use Rattle.document.specs.Layout.{word_weight, bytes_of, spare}
use Rattle.document.specs.Sheet.{Stated, certificate_at}
use Rattle.document.specs.Generator.{encode_mask, nearest}
use Rattle.document.specs.Certificate.{distance, radius, working}
use Rattle.document.specs.Judge.{dimension_of, working_of, working_certificate}
use Rattle.document.specs.Entry.{generator_of, radius_of, wrong_size, word_of, changed, nearest_message, decoded_word, decode_conditions, decode_entry}
use Rattle.document.specs.Card.{code_line, zeros_line, generator_line, certificate_text, certificate_line, radius_text, radius_line, accepted_lines}
use Rattle.document.specs.Short.{stated, refusals_of, judge_of, decode_of, listing}
use Rattle.document.proofs.Chain.{row_suc}
use Rattle.document.proofs.Working.{Ranking, First, first_least, least_first, working_iff, working_within, radius_most}
use Rattle.code.specs.Published.{IsAccepted, Working, WorkingIs}
use Rattle.code.specs.Before.{WorkingBefore, working_before, alone, decode_with}
use Rattle.code.proofs.Refusing.{text_listed_iff}
use Rattle.code.proofs.Worded.{working_said, record_said}

-- of a row of texts one, and what stands before and after it
around : (f : ℕ → List ℕ) (w k : ℕ) → (after : List ℕ) × (flat_map f (up_to (suc w + k)) ≡ flat_map f (up_to w) ++ f w ++ after)
around f w zero =
    let z : suc w + 0 ≡ suc w = omega arith in
    ([], ap (λ (y : ℕ). flat_map f (up_to y)) z ∙ row_suc f w ∙ sym (append-nil (flat_map f (up_to w) ++ f w)))
around f w (suc k) =
    let z : suc w + suc k ≡ suc (suc w + k) = omega arith in
    let m = around f w k in (
      m.0 ++ f (suc w + k),
      ap (λ (y : ℕ). flat_map f (up_to y)) z ∙ row_suc f (suc w + k) ∙ ap (λ l. l ++ f (suc w + k)) m.1
          ∙ append_assoc (flat_map f (up_to w) ++ f w) m.0 (f (suc w + k)),
    )

module _ (sheet : List ℕ) where
  abbrev x : Stated
  x = stated sheet

  abbrev count : ℕ
  count = length x.certificates

  -- ---- the choice
  pub working_only : IsAccepted sheet → (w : ℕ) → (w ≡ working_of x) ↔ Working x w
  unfolding working_of
  working_only e w = (
    λ q. subst (Working x) (sym q) (working_said sheet e).working,
    λ c. sym
        ((working_iff (certificate_at x) count w (omega (arith, c.below))).1 (c.below, c.largest, c.fewest, c.earliest)),
  )

  -- ---- the record: n, k, s, the index of the working certificate, its d, its t, its number of terms
  module _ {n k s w d t terms : ℕ} (answer : judge_of sheet ≡ returned (n ∷ k ∷ s ∷ w ∷ d ∷ t ∷ terms ∷ [])) where
    accepted : IsAccepted sheet
    accepted = ap (λ a. a.number) answer

    abbrev own : List ℕ
    own =
        x.n ∷ dimension_of x ∷ order_of_two x.n ∷ working_of x ∷ distance (working_certificate x) ∷ radius_of x
        ∷ (certificate_at x (working_of x)).L ∷ []

    same : own ≡ n ∷ k ∷ s ∷ w ∷ d ∷ t ∷ terms ∷ []
    same = ap (λ a. a.values) (sym (record_said sheet accepted) ∙ answer)

    pub record_chosen : WorkingIs x w d t terms
    record_chosen = subst (λ v. WorkingIs x (get_or v 3 0) (get_or v 4 0) (get_or v 5 0) (get_or v 6 0)) same (working_said sheet accepted)

    pub card_chosen : (above between : List ℕ) × (listing sheet ≡ above ++ certificate_text w terms d ++ between ++ radius_text t w)
    unfolding accepted_lines certificate_line radius_line radius_of working_certificate
    card_chosen =
        let l : working_of x < count = (working_said sheet accepted).working.below in
        let m = around (certificate_line x) (working_of x) (count - suc (working_of x)) in
        let head : List ℕ = code_line x ++ zeros_line x ++ generator_line x in
        let first : List ℕ = flat_map (certificate_line x) (up_to (working_of x)) in
        let last : List ℕ = radius_text (radius_of x) (working_of x) in
        let own_line : List ℕ = certificate_line x (working_of x) in
        let k : suc (working_of x) + (count - suc (working_of x)) ≡ count = omega arith in (
          head ++ first,
          m.0,
          (text_listed_iff sheet).1 accepted
              ∙ ap (λ (c : ℕ). head ++ flat_map (certificate_line x) (up_to c) ++ last) (sym k)
              ∙ ap (λ p. head ++ p ++ last) m.1
              ∙ ap (λ p. p ++ last) (sym (append_assoc head (first ++ own_line) m.0) ∙ ap (λ p. p ++ m.0) (sym (append_assoc head first own_line)))
              ∙ ap (λ v. head ++ first ++ certificate_text (get_or v 3 0) (get_or v 6 0) (get_or v 4 0) ++ m.0 ++ radius_text (get_or v 5 0) (get_or v 3 0)) same,
        )

-- ---- the choice before
no_larger : (ℕ → ℕ) → ℕ → ℕ → Bool
no_larger t j i = leb (t j) (t i)

by_number : (t : ℕ → ℕ) → Ranking (no_larger t)
unfolding no_larger
by_number t = record {
  through = λ i j k p q. le-leb (t i) (t k) (omega (arith, leb-true (t i) (t j) p, leb-true (t j) (t k) q));
  either = λ i j e. le-leb (t j) (t i) (omega (arith, leb-false (t i) (t j) e));
}

module _ (x : Stated) where
  abbrev t : ℕ → ℕ
  t i = radius (certificate_at x i)

  first_before : 0 < length x.certificates → First (no_larger t) (length x.certificates) (working_before x)
  unfolding no_larger
  first_before h = least_first (by_number t) (length x.certificates) h

  before_is : 0 < length x.certificates → WorkingBefore x (working_before x)
  unfolding no_larger
  before_is h =
      let f = first_before h in
      record {
        below = f.below;
        largest = λ i l. leb-true (t i) (t (working_before x)) (f.best i l);
        first = λ i l. leb-false (t (working_before x)) (t i) (f.fresh i l);
      }

  pub before_said : 0 < length x.certificates → (w : ℕ) → (w ≡ working_before x) ↔ WorkingBefore x w
  unfolding no_larger
  before_said h w = (
    λ q. subst (WorkingBefore x) (sym q) (before_is h),
    λ b. sym
        (first_least (by_number t)
        (record {
          below = b.below;
          best = λ i l. le-leb (t i) (t w) (b.largest i l);
          fresh = λ i l. lt-leb (t w) (t i) (b.first i l);
        })),
  )

  -- with no certificate both are the index 0
  none_same : length x.certificates ≡ 0 → working_before x ≡ working_of x
  unfolding working_of working
  none_same z = none_of _ ∙ sym (none_of _)
    where
      none_of : (test : ℕ → Bool) → least test (length x.certificates) ≡ 0
      none_of test = omega (arith, (least_is test (length x.certificates)).le)

  pub radius_still : radius (certificate_at x (working_before x)) ≡ radius_of x
  unfolding radius_of working_certificate
  radius_still = go (ℕ_discrete (length x.certificates) 0)
    where
      go : Dec (length x.certificates ≡ 0) → radius (certificate_at x (working_before x)) ≡ radius (working_certificate x)
      go (yes z) = ap (λ (i : ℕ). radius (certificate_at x i)) (none_same z)
      go (no z) =
          let b = before_is (omega arith) in
          omega (arith, b.largest (working_of x) (working_within x (omega arith)), radius_most x (working_before x) b.below)

-- ---- decoding, by t
within : Conditions → Stated → List ℕ → List ℕ → ℕ → Answer × List ℕ
within conditions x word out t =
    let k : ℕ = dimension_of x in
    let m : ℕ = nearest k (x.n - k) (generator_of x) x.n t (word_of x word) in
    let c : ℕ = encode_mask (x.n - k) (generator_of x) m in
    settle
    (first_of
    (conditions
    ++ ((11, wrong_size x.n word) ∷ (11, wrong_size x.n out) ∷ (12, spare word_weight x.n word) ∷ (13, eqb m (2 ^ k)) ∷ [])))
    (changed x word c ∷ []) (bytes_of word_weight x.n c) out

within_is : (conditions : Conditions) (x : Stated) (word out : List ℕ)
    → decode_entry conditions x word out ≡ within conditions x word out (radius_of x)
unfolding within decode_entry decode_conditions decoded_word nearest_message
within_is conditions x word out = refl

alone_radius : (x : Stated) (i : ℕ) → radius_of (alone x i) ≡ radius (certificate_at x i)
unfolding radius_of working_certificate certificate_at
alone_radius x i =
    let z : working_of (alone x i) ≡ 0 = omega (arith, working_within (alone x i) (omega arith)) in
    ap (λ (j : ℕ). radius (certificate_at (alone x i) j)) z ∙ ap radius first_one
  where
    first_one : certificate_at (alone x i) 0 ≡ certificate_at x i
    first_one = refl

pub decoded_by : (conditions : Conditions) (x : Stated) (i : ℕ) (word out : List ℕ) → radius (certificate_at x i) ≡ radius_of x
    → decode_entry conditions (alone x i) word out ≡ decode_entry conditions x word out
unfolding within dimension_of generator_of
decoded_by conditions x i word out e =
    within_is conditions (alone x i) word out ∙ ap (within conditions x word out) (alone_radius x i ∙ e) ∙ sym (within_is conditions x word out)

module _ (sheet : List ℕ) where
  pub decoded_chosen : (word out : List ℕ) → decode_with working_of sheet word out ≡ decode_of sheet word out
  unfolding radius_of working_certificate
  decoded_chosen word out = decoded_by (refusals_of sheet) (stated sheet) (working_of (stated sheet)) word out refl

  pub decoded_still : (word out : List ℕ) → decode_with working_before sheet word out ≡ decode_of sheet word out
  decoded_still word out =
      decoded_by (refusals_of sheet) (stated sheet) (working_before (stated sheet)) word out (radius_still (stated sheet))
