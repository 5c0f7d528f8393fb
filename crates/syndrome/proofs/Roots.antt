-- Values at powers of α as values at powers of ω.
--
--   value_all          places past the last 1 change nothing
--   q_pos, root_by     ω^(r q) is α^r, where q is (2^s - 1) / n: root_lt
use mathlib.Core.Path.{◌≡◌, sym, ap, ◌∙◌, subst}
use Prim.Native.Nat.{ℕ, zero, suc, ◌+◌, ◌-◌, ◌*◌, ◌/◌, ◌^◌, ◌≤◌, ◌<◌, ◌∣◌}
use native.Mathlib.Nat.{div-mul_cancel, mul_comm, mul-le-mul_right, suc-mul, zero-mul}
use native.Mathlib.Decide.{ℕ_discrete, dec_lt}
use native.Mathlib.Omega.{arith}
use lib.Pow.{pow_mono}
use Rattle.field.specs.Mask.{◌⊕◌, size}
use Rattle.field.specs.Field.{Degree, OddLength, order_of_two, ω, α, field_power}
use Rattle.field.proofs.OrderOfTwo.{order_divides}
use Rattle.field.proofs.MaskProduct.{size_lt}
use Rattle.field.proofs.Xor.{⊕-zero-r}
use Rattle.cyclic.proofs.Places.{coefficient_above}
use Rattle.document.specs.Generator.{value_below, value_at}
use Rattle.syndrome.proofs.ValueSums.{power_by}

-- ---- places past the last 1
value_on : (s a c k m : ℕ) → c < 2 ^ k → k ≤ m → value_below s a m c ≡ value_below s a k c
unfolding value_below
value_on s a c k zero h l = let e : k ≡ 0 = omega arith in ap (λ (i : ℕ). value_below s a i c) (sym e)
value_on s a c k (suc m) h l =
    elim (ℕ_discrete k (suc m)) [
      | yes e ↦ ap (λ (i : ℕ). value_below s a i c) (sym e)
      | no e ↦ ap (λ (x : ℕ). value_below s a m c ⊕ x * field_power s a m) (coefficient_above h m (omega arith))
          ∙ ap (λ (x : ℕ). value_below s a m c ⊕ x) (zero-mul (field_power s a m)) ∙ ⊕-zero-r (value_below s a m c)
          ∙ value_on s a c k m h (omega arith)
    ]

pub value_all : (s a c n : ℕ) → c < 2 ^ n → value_below s a n c ≡ value_at s a c
unfolding value_at
value_all s a c n h =
    elim (dec_lt n (size c)) [
      | yes l ↦ sym (value_on s a c n (size c) h (omega arith))
      | no l ↦ value_on s a c (size c) n (size_lt c) (omega arith)
    ]

-- ---- exponents
module _ {n s q : ℕ} (o : OddLength n) (s_is : s ≡ order_of_two n) (d : Degree s) (q_is : q ≡ (2 ^ s - 1) / n) where
  whole : q * n ≡ 2 ^ s - 1
  whole =
      ap (λ (x : ℕ). x * n) q_is
      ∙ div-mul_cancel n (subst (λ (t : ℕ). n ∣ 2 ^ t - 1) (sym s_is) (order_divides o))

  pub q_pos : 1 ≤ q
  q_pos = go (dec_lt 0 q)
    where
      go : Dec (0 < q) → 1 ≤ q
      go (yes l) = l
      go (no l) =
          let four : 2 ^ 2 ≤ 2 ^ s = pow_mono d.lo in
          let z : q ≡ 0 = omega arith in
          let e : 0 * n ≡ 2 ^ s - 1 = ap (λ (x : ℕ). x * n) (sym z) ∙ whole in
          absurd (omega (arith, zero-mul n))

  pub root_lt : (r : ℕ) → r < n → r * q < 2 ^ s - 1
  root_lt r h =
      let four : 2 ^ 2 ≤ 2 ^ s = pow_mono d.lo in
      let pos : 1 ≤ q = q_pos in
      let le : suc r * q ≤ n * q = mul-le-mul_right q h in
      let more : suc r * q ≡ r * q + q = suc-mul r q in
      let all : n * q ≡ 2 ^ s - 1 = mul_comm n q ∙ whole in
      omega arith

  pub root_by : (r : ℕ) → field_power s ω (r * q) ≡ field_power s (α s n) r
  unfolding α
  root_by r = power_by d q r ∙ ap (λ (x : ℕ). field_power s (field_power s ω x) r) q_is
