-- Representatives and their exponents.
--
--   long              n is a length of the document's
--   at_in, in_at      members of a list by their place; rep_in: a representative is in D
--   by_lt, place_lt   exponents below the order of ω
--   value_lt, value_add      values are elements, and that of a sum is the sum of the values
use mathlib.Core.Path.{◌≡◌, refl, sym, ap, ap₂, ◌∙◌, subst}
use mathlib.Core.Bool.{true}
use mathlib.Core.List.{List, [], ◌∷◌}
use Prim.Native.Nat.{ℕ, zero, suc, ◌-◌, ◌*◌, ◌/◌, ◌%◌, ◌^◌, ◌≤◌, ◌<◌}
use native.Mathlib.Nat.{mod-eq_of_lt, mul-le-mul_left, mul-one}
use native.Mathlib.Omega.{arith}
use lib.ListN.{length, get_or}
use Rattle.algebra.proofs.Lists.{In, here, there}
use Rattle.field.specs.Mask.{◌⊕◌, size}
use Rattle.field.specs.Field.{Degree}
use Rattle.field.proofs.Elements.{GF, el, el_inj, el_add}
use Rattle.field.proofs.Value.{value_add as ring_value_add}
use Rattle.field.proofs.Xor.{⊕-lt}
use Rattle.document.specs.Generator.{value_at}
use Rattle.document.specs.Coset.{in_set}
use Rattle.document.proofs.Theory.{Length, of_T, represented}
use Rattle.document.proofs.Encoding.{below_lt, value_is}
use Rattle.syndrome.proofs.Roots.{q_pos, root_lt}
use Rattle.syndrome.specs.Value.{Evaluable}

pub long : {n s : ℕ} {reps : List ℕ} → Evaluable n s reps → Length n
long p = record { odd = p.odd; most = omega (arith, p.s_is, p.degree.hi) }

pub at_in : (l : List ℕ) (j : ℕ) → j < length l → In (get_or l j 0) l
at_in [] j h = absurd (omega arith)
at_in (x ∷ l) zero h = here
at_in (x ∷ l) (suc j) h = there (at_in l j (omega arith))

pub in_at : {q : ℕ} {l : List ℕ} → In q l → (j : ℕ) × (j < length l) × (get_or l j 0 ≡ q)
in_at here = (0, omega arith, refl)
in_at (there i) = let w = in_at i in (suc w.0, omega (arith, w.1), w.2)

-- ---- a representative is in D
pub rep_in : {n : ℕ} (l : Length n) (reps : List ℕ) → ((k : ℕ) → k < length reps → get_or reps k 0 < n) → (k : ℕ) → k < length reps
    → in_set n reps (get_or reps k 0) ≡ true
rep_in {n} l reps below k h =
    let r : ℕ = get_or reps k 0 in
    let e : r * 2 ^ 0 % n ≡ r = ap (λ (x : ℕ). x % n) (mul-one r) ∙ mod-eq_of_lt (below k h) in
    ap (in_set n reps) (sym e) ∙ of_T (in_set n reps (r * 2 ^ 0 % n)) ((represented l reps).inside (at_in reps k h) 0)

-- ---- exponents
module _ {n s q : ℕ} {reps : List ℕ} (p : Evaluable n s reps) (q_is : q ≡ (2 ^ s - 1) / n) where
  pub by_lt : {k r : ℕ} → k < length reps → r ≡ get_or reps k 0 → r * q < 2 ^ s - 1
  by_lt {k} {r} h a = root_lt p.odd p.s_is p.degree q_is r (subst (λ (x : ℕ). x < n) (sym a) (p.below k h))

  -- a place is an exponent
  pub place_lt : (i : ℕ) → i < n → i < 2 ^ s - 1
  place_lt i h = omega (arith, root_lt p.odd p.s_is p.degree q_is (n - 1) (omega arith), whole_pos, mul-le-mul_left (n - 1) whole_pos, mul-one (n - 1))
    where
      whole_pos : 1 ≤ q
      whole_pos = q_pos p.odd p.s_is p.degree q_is

-- ---- the value of a sum
pub value_lt : {s : ℕ} (d : Degree s) (x c : ℕ) → value_at s x c < 2 ^ s
unfolding value_at
value_lt d x c = below_lt d x c (size c)

pub value_add : {s : ℕ} (d : Degree s) (x a b : ℕ) → value_at s x (a ⊕ b) ≡ value_at s x a ⊕ value_at s x b
value_add {s} d x a b =
    el_inj d (value_lt d x (a ⊕ b)) (⊕-lt s (value_at s x a) (value_at s x b) (value_lt d x a) (value_lt d x b))
    (value_is d x (a ⊕ b) ∙ ring_value_add (GF d) (el d x) a b
    ∙ sym (el_add d (value_at s x a) (value_at s x b) ∙ ap₂ (GF d).add (value_is d x a) (value_is d x b)))
