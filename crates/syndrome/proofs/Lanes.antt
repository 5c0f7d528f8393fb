-- Lanes.
--
--   spaced_le         digits beside each other
--   lane_add          lanes add up each for itself
--   lane_times        digits times a number below 2^16
--   lane_0, lane_1, lane_2, lane_3      as the code takes them apart
--   lane_zero, lanes_null      0 is 0 in every lane, and nothing else below 2^64 is
use mathlib.Core.Path.{◌≡◌, sym, ap, ap₂, ◌∙◌}
use Prim.Native.Nat.{ℕ, zero, suc, ◌+◌, ◌*◌, ◌/◌, ◌%◌, ◌^◌, ◌≤◌, ◌<◌}
use native.Mathlib.Nat.{add-mul, mul_assoc, mul_comm, zero-div, zero-mul, one-mul}
use native.Mathlib.Omega.{arith}
use lib.Bits.{xor_mod}
use Rattle.field.specs.Search.{total}
use Rattle.field.specs.Mask.{◌⊕◌}
use Rattle.field.proofs.Xor.{digit, ⊕-shr}
use Rattle.binary.specs.Lanes.{in_lanes, lane}

pub spaced_le : (h : ℕ → ℕ) → ((j : ℕ) → h j < 2) → in_lanes h ≤ in_lanes (λ j. 1)
unfolding in_lanes total
spaced_le h b = omega (arith, b 0, b 1, b 2, b 3)

pub lane_add : (j a b : ℕ) → lane j (a ⊕ b) ≡ lane j a ⊕ lane j b
unfolding ◌⊕◌
lane_add j a b = ap (λ (x : ℕ). x % 2 ^ 16) (⊕-shr a b (16 * j)) ∙ xor_mod (a / 2 ^ (16 * j)) (b / 2 ^ (16 * j)) 16

pub lane_zero : (j : ℕ) → lane j 0 ≡ 0
lane_zero j = ap (λ (x : ℕ). x % 2 ^ 16) (zero-div (2 ^ (16 * j)))

-- four numbers in their lanes
four : ℕ → ℕ → ℕ → ℕ → ℕ
four a b c d = a + b * 2 ^ 16 + c * 2 ^ 32 + d * 2 ^ 48

-- four digits, each with a number p
module _ (h : ℕ → ℕ) (bits : (j : ℕ) → h j < 2) (p : ℕ) where
  digit_le : (j : ℕ) → h j * p ≤ p
  digit_le j = digit (λ x. x * p ≤ p) (omega (arith, zero-mul p)) (omega (arith, one-mul p)) (h j) (bits j)

  product : in_lanes h * p ≡ four (h 0 * p) (h 1 * p) (h 2 * p) (h 3 * p)
  unfolding in_lanes total four
  product =
      let move : (x k : ℕ) → x * k * p ≡ x * p * k =
      λ x k. mul_assoc x k p ∙ ap (λ (z : ℕ). x * z) (mul_comm k p) ∙ sym (mul_assoc x p k) in
      let a : ℕ = h 0 in
      let b : ℕ = h 1 in
      let c : ℕ = h 2 in
      let d : ℕ = h 3 in
      let all : (a + b * 2 ^ 16 + c * 2 ^ 32 + d * 2 ^ 48) * p ≡ a * p + b * 2 ^ 16 * p + c * 2 ^ 32 * p + d * 2 ^ 48 * p =
      add-mul (a + b * 2 ^ 16 + c * 2 ^ 32) (d * 2 ^ 48) p
      ∙ ap (λ (z : ℕ). z + d * 2 ^ 48 * p) (add-mul (a + b * 2 ^ 16) (c * 2 ^ 32) p
      ∙ ap (λ (z : ℕ). z + c * 2 ^ 32 * p) (add-mul a (b * 2 ^ 16) p)) in
      let e : in_lanes h ≡ a + b * 2 ^ 16 + c * 2 ^ 32 + d * 2 ^ 48 = omega arith in
      ap (λ (z : ℕ). z * p) e ∙ all
      ∙ ap₂ ◌+◌ (ap₂ ◌+◌ (ap (λ (z : ℕ). a * p + z) (move b (2 ^ 16))) (move c (2 ^ 32))) (move d (2 ^ 48))

  pub lane_times : p < 2 ^ 16 → (j : ℕ) → j < 4 → lane j (in_lanes h * p) ≡ h j * p
  unfolding four
  lane_times l j m = ap (lane j) product ∙ go j m (digit_le 0) (digit_le 1) (digit_le 2) (digit_le 3)
    where
      go : (j : ℕ) → j < 4 → h 0 * p ≤ p → h 1 * p ≤ p → h 2 * p ≤ p → h 3 * p ≤ p
          → lane j (four (h 0 * p) (h 1 * p) (h 2 * p) (h 3 * p)) ≡ h j * p
      go zero m a b c d = omega arith
      go (suc zero) m a b c d = omega arith
      go (suc (suc zero)) m a b c d = omega arith
      go (suc (suc (suc zero))) m a b c d = omega arith
      go (suc (suc (suc (suc j)))) m a b c d = absurd (omega arith)

pub lanes_null : (a : ℕ) → a < 2 ^ 64 → ((j : ℕ) → j < 4 → lane j a ≡ 0) → a ≡ 0
lanes_null a h z =
    let z₃ : a < 2 ^ 48 = omega (arith, z 3 (omega arith)) in
    let z₂ : a < 2 ^ 32 = omega (arith, z 2 (omega arith)) in
    let z₁ : a < 2 ^ 16 = omega (arith, z 1 (omega arith)) in
    omega (arith, z 0 (omega arith))

-- ---- as the code takes them apart
pub lane_0 : (a : ℕ) → a % 65536 ≡ lane 0 a
lane_0 a = omega arith

pub lane_1 : (a : ℕ) → a / 65536 % 65536 ≡ lane 1 a
lane_1 a = omega arith

pub lane_2 : (a : ℕ) → a / 4294967296 % 65536 ≡ lane 2 a
lane_2 a = omega arith

pub lane_3 : (a : ℕ) → a / 281474976710656 % 65536 ≡ lane 3 a
lane_3 a = omega arith
