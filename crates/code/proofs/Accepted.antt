-- What an accepted sheet of any kind states.
--
--   Limits, short_limits      the largest n and L that the entries' code is for: 65,535, and what four digits hold
--   judged_record      the record that judging returned is that of the definition
--   rising             representatives that draw no refusal 5 rise strictly, each the smallest of its coset
--   conditions         no condition of it holds
--   coded, usable      so an accepted sheet's numbers are those of a code
--   Recorded, recorded, usable_by      and those of its record
--   part_is            the representatives as the code hands them on
use mathlib.Core.Path.{◌≡◌, refl, sym, ap, ◌∙◌, subst}
use mathlib.Core.Bool.{Bool, true, false, not, ◌||◌, ◌&&◌}
use mathlib.Core.List.{List, [], ◌∷◌}
use Prim.Native.Nat.{ℕ, zero, suc, ◌-◌, ◌≤◌, ◌<◌}
use native.Mathlib.Decide.{ℕ_discrete}
use native.Mathlib.Omega.{arith}
use lib.Dec.{leb, ltb}
use lib.ListN.{length, get_or, take}
use borrow.Author.Tests.{ltb-true, le-leb}
use Rattle.field.specs.Field.{order_of_two}
use Rattle.field.proofs.Search.{true_ne_false, some_none}
use Rattle.document.specs.Answer.{Answer, returned, first_of}
use Rattle.document.specs.Sheet.{Stated, Kind, stated_by, wrong_length, wrong_code_length, wrong_header}
use Rattle.document.specs.Coset.{smallest, dimension}
use Rattle.document.specs.Certificate.{radius}
use Rattle.document.specs.Judge.{wrong_degree, wrong_representative, sheet_conditions, judge_conditions}
use Rattle.document.specs.Judge.{dimension_of, working_of, working_certificate, record_of}
use Rattle.document.specs.Short.{short}
use Rattle.document.proofs.Sane.{passed}
use Rattle.document.proofs.Acceptance.{judge_by, judge_number, accepted_record}
use Rattle.sheet.specs.Stage.{RepresentativesRead}
use Rattle.certificate.proofs.Sheets as Sheets
use Rattle.generator.specs.Building.{Rising}
use Rattle.codeword.specs.Codewords.{Coded, Usable}

pub record Limits (kind : Kind) : Type 0 where
  pub places : kind.most_places ≤ 65535
  pub terms : kind.most_terms ≤ 9991

pub short_limits : Limits short
short_limits = record { places = omega arith; terms = omega arith }

-- ---- the representatives
or_3 : (a b c : Bool) → a || b || c ≡ false → (a ≡ false) × (b ≡ false) × (c ≡ false)
or_3 true b c e = absurd (true_ne_false refl e)
or_3 false true c e = absurd (true_ne_false refl e)
or_3 false false c e = (refl, refl, e)

not_not : (a : Bool) → not a ≡ false → a ≡ true
not_not true e = refl
not_not false e = sym e

module _ (n : ℕ) (reps : List ℕ) (w : wrong_representative n reps ≡ false) where
  abbrev rep : ℕ → ℕ
  rep i = get_or reps i 0

  abbrev order : ℕ → Bool
  order i = leb 1 i && not (ltb (rep (i - 1)) (rep i))

  right : (i : ℕ) → i < length reps
      → (not (ltb (rep i) n) ≡ false) × (not (smallest n (rep i)) ≡ false) × (order i ≡ false)
  unfolding wrong_representative
  right i h =
      or_3 (not (ltb (rep i) n)) (not (smallest n (rep i))) (order i)
      (some_none (λ k. not (ltb (rep k) n) || not (smallest n (rep k)) || order k) (length reps) w i h)

  next : (i : ℕ) → suc i < length reps → rep i < rep (suc i)
  next i h =
      let down : suc i - 1 ≡ i = omega arith in
      let b : Bool = ltb (rep (suc i - 1)) (rep (suc i)) in
      let l : leb 1 (suc i) ≡ true = le-leb 1 (suc i) (omega arith) in
      let f : not b ≡ false = sym (ap (λ (a : Bool). a && not b) l) ∙ (right (suc i) h).2 in
      subst (λ (k : ℕ). rep k < rep (suc i)) down (ltb-true (rep (suc i - 1)) (rep (suc i)) (not_not b f))

  rises : (i j : ℕ) → i < j → j < length reps → rep i < rep j
  rises i zero h k = absurd (omega arith)
  rises i (suc j) h k =
      elim (ℕ_discrete i j) [
        | yes e ↦ subst (λ (x : ℕ). rep x < rep (suc j)) (sym e) (next j k)
        | no e ↦ (let l : rep i < rep j = rises i j (omega arith) (omega arith) in omega (arith, next j k))
      ]

  pub rising : Rising n reps
  rising = record {
    below = λ i h. ltb-true (rep i) n (not_not _ (right i h).0);
    least = λ i h. not_not _ (right i h).1;
    rising = rises;
  }

-- ---- the sheet
module _ (kind : Kind) (sheet : List ℕ) where
  abbrev x : Stated
  x = stated_by kind sheet

  pub judged_record : {v : List ℕ} → returned v ≡ judge_by kind sheet → (first_of (judge_conditions kind sheet) ≡ 0) × (v ≡ record_of x)
  judged_record e =
      let z : (judge_by kind sheet).number ≡ 0 = sym (ap (λ (a : Answer). a.number) e) in
      (sym (judge_number kind sheet) ∙ z, ap (λ (a : Answer). a.values) (e ∙ accepted_record kind sheet z))

  pub conditions : first_of (judge_conditions kind sheet) ≡ 0
      → (wrong_code_length kind x.n ≡ false) × (wrong_degree x.n ≡ false) × (wrong_header kind sheet ≡ false)
      × (wrong_representative x.n x.representatives ≡ false)
  unfolding judge_conditions sheet_conditions
  conditions q =
      let p₁ = passed 0 (wrong_length kind sheet) _ q in
      let p₂ = passed 1 (wrong_code_length kind x.n) _ p₁.1 in
      let p₃ = passed 2 (wrong_degree x.n) _ p₂.1 in
      let p₄ = passed 3 (wrong_header kind sheet) _ p₃.1 in
      let p₅ = passed 4 (wrong_representative x.n x.representatives) _ p₄.1 in
      (p₂.0, p₃.0, p₄.0, p₅.0)

  module _ (small : kind.most_places ≤ 65535) where
    pub coded : first_of (judge_conditions kind sheet) ≡ 0 → Coded x.n (order_of_two x.n) x.representatives
    coded q = record {
      length_stated = (Sheets.accepted kind small sheet q).head.length_stated;
      s_is = refl;
      rising = rising x.n x.representatives (conditions q).3;
    }

    dimension_le : dimension_of x ≤ x.n
    unfolding dimension_of dimension
    dimension_le = omega arith

    pub usable : first_of (judge_conditions kind sheet) ≡ 0 → Usable x.n (dimension_of x) (order_of_two x.n) x.representatives
    unfolding dimension_of
    usable q = record {
      coded = coded q;
      k_is = refl;
      k_pos = (Sheets.accepted kind small sheet q).some;
      k_le = dimension_le;
    }

-- ---- by the record, and the representatives as the code hands them on
pub record Recorded (x : Stated) (n k s working t : ℕ) : Type 0 where
  pub n_is : n ≡ x.n
  pub k_is : k ≡ dimension_of x
  pub s_is : s ≡ order_of_two x.n
  pub working_is : working ≡ working_of x
  pub t_is : t ≡ radius (working_certificate x)

pub recorded : (x : Stated) {n k s i d t l : ℕ} → n ∷ k ∷ s ∷ i ∷ d ∷ t ∷ l ∷ [] ≡ record_of x → Recorded x n k s i t
unfolding record_of
recorded x e = record {
  n_is = ap (λ v. get_or v 0 0) e;
  k_is = ap (λ v. get_or v 1 0) e;
  s_is = ap (λ v. get_or v 2 0) e;
  working_is = ap (λ v. get_or v 3 0) e;
  t_is = ap (λ v. get_or v 5 0) e;
}

pub usable_by : {x : Stated} {n k s i t : ℕ} {part : List ℕ} → Recorded x n k s i t → part ≡ x.representatives
    → Usable x.n (dimension_of x) (order_of_two x.n) x.representatives → Usable n k s part
usable_by {x} {n} {k} {s} {part = part} r p u =
    subst (λ (m : ℕ). Usable m k s part) (sym r.n_is)
    (subst (λ (m : ℕ). Usable x.n m s part) (sym r.k_is)
    (subst (λ (m : ℕ). Usable x.n (dimension_of x) m part) (sym r.s_is)
    (subst (λ (l : List ℕ). Usable x.n (dimension_of x) (order_of_two x.n) l) (sym p) u)))

pub part_is : {x : Stated} {w : List ℕ} {count : ℕ} → RepresentativesRead x w → count ≡ length x.representatives
    → take count w ≡ x.representatives
part_is {x} {w} r e = ap (λ (m : ℕ). take m w) e ∙ r.is
