-- The value of a word by the list of its ones.
--
--   Valuing, valuing_start, valuing_more, valuing_end      the first k places of the list
--   power_by           the powers of ω^by are powers of ω
--   value_of_lem           so the sum over the list is the value
use mathlib.Core.Path.{◌≡◌, refl, sym, ap, ap₂, ◌∙◌, subst}
use mathlib.Core.List.{List}
use Prim.Native.Nat.{ℕ, zero, suc, ◌+◌, ◌*◌, ◌^◌, ◌<◌}
use native.Mathlib.Nat.{mul_comm}
use native.Mathlib.Numerals.{add-one}
use native.Mathlib.Omega.{arith}
use lib.Bits.{bit_xor}
use lib.ListN.{get_or}
use lib.Pow.{pow_pos}
use Rattle.algebra.proofs.Power.{pow, pow_mul}
use Rattle.field.specs.Mask.{◌⊕◌, coefficient}
use Rattle.field.specs.Field.{Degree, ω, field_power}
use Rattle.field.proofs.Xor.{⊕-lt}
use Rattle.field.proofs.Elements.{GF, gen, el_inj}
use Rattle.field.proofs.Numbers.{power_lt, el_power}
use Rattle.document.specs.Generator.{value_below}
use Rattle.syndrome.specs.Sums.{sum_over, sum_below}
use Rattle.syndrome.proofs.Listing.{over_z, over_s}

-- ---- the sum
pub record Valuing (s by k acc : ℕ) (list : List ℕ) : Type 0 where
  pub is : acc ≡ sum_over (λ i. field_power s ω (i * by)) list k
  pub lt : acc < 2 ^ s

pub valuing_start : {s by : ℕ} {list : List ℕ} → Valuing s by 0 0 list
valuing_start {s} {by} {list} = record { is = sym (over_z (λ i. field_power s ω (i * by)) list); lt = pow_pos s }

pub valuing_more : {s by k acc x : ℕ} {list : List ℕ} → Degree s → Valuing s by k acc list
    → x ≡ field_power s ω (0 + get_or list k 0 * by) → Valuing s by (k + 1) (bit_xor acc x) list
unfolding ◌⊕◌
valuing_more {s} {by} {k} {acc} {x} {list} d t q =
    let n : 0 + get_or list k 0 * by ≡ get_or list k 0 * by = omega arith in
    let p : x ≡ field_power s ω (get_or list k 0 * by) = q ∙ ap (field_power s ω) n in
    record {
      is = ap₂ ◌⊕◌ t.is p ∙ sym (ap (sum_over (λ i. field_power s ω (i * by)) list) (add-one k) ∙ over_s (λ i. field_power s ω (i * by)) list k);
      lt = ⊕-lt s acc x t.lt (subst (λ (y : ℕ). y < 2 ^ s) (sym p) (power_lt d ω (get_or list k 0 * by)));
    }

pub valuing_end : {s by k c acc : ℕ} {list : List ℕ} → k ≡ c → Valuing s by k acc list
    → (acc ≡ sum_over (λ i. field_power s ω (i * by)) list c) × (acc < 2 ^ s)
valuing_end {s} {by} {list = list} e t = (t.is ∙ ap (sum_over (λ i. field_power s ω (i * by)) list) e, t.lt)

-- ---- the value
pub power_by : {s : ℕ} (d : Degree s) (by i : ℕ) → field_power s ω (i * by) ≡ field_power s (field_power s ω by) i
unfolding gen
power_by {s} d by i =
    el_inj d (power_lt d ω (i * by)) (power_lt d (field_power s ω by) i)
    (el_power d ω (i * by) ∙ ap (pow (GF d) (gen d)) (mul_comm i by) ∙ pow_mul (GF d) (gen d) by i
    ∙ sym (el_power d (field_power s ω by) i ∙ ap (λ x. pow (GF d) x i) (el_power d ω by)))

pub value_of_lem : {s : ℕ} (d : Degree s) (by n a : ℕ) → sum_below n a (λ i. field_power s ω (i * by)) ≡ value_below s (field_power s ω by) n a
unfolding sum_below value_below
value_of_lem d by zero a = refl
value_of_lem {s} d by (suc n) a = ap₂ (λ (x y : ℕ). x ⊕ coefficient n a * y) (value_of_lem d by n a) (power_by d by n)
