-- Coefficients of products: coefficient j of f·a is the sum of f_(j - i) a_i over i up to j, modulo 2.
--
--   sum_two                     the sum of two digits as masks is their sum modulo 2
--   coefficient_shift           coefficient j of x^i f
--   combine t f n               the sum of t_i x^i f over i below n
--   combine_z, combine_s        term by term
--   coefficient_combine         its coefficient j, for n up to j + 1
--   below_is                    a product of masks as such a sum
use mathlib.Core.Path.{◌≡◌, refl, sym, ap, ap₂, ◌∙◌}
use Prim.Native.Nat.{ℕ, zero, suc, ◌+◌, ◌-◌, ◌*◌, ◌/◌, ◌%◌, ◌^◌, ◌≤◌, ◌<◌}
use native.Mathlib.Nat.{zero-mul, one-mul, zero-div}
use native.Mathlib.Omega.{arith}
use lib.Pow.{shr-shr, shl-shr}
use Rattle.field.specs.Search.{total}
use Rattle.field.specs.Mask.{◌⊕◌, coefficient, product_below}
use Rattle.field.proofs.Search.{total_z, total_s}
use Rattle.field.proofs.Xor.{digit, digit_lt, bit_⊕}

digits_two : (x : ℕ) → x < 2 → (y : ℕ) → y < 2 → x ⊕ y ≡ (x + y) % 2
unfolding ◌⊕◌
digits_two =
    digit (λ x. (y : ℕ) → y < 2 → x ⊕ y ≡ (x + y) % 2) (digit (λ y. 0 ⊕ y ≡ (0 + y) % 2) refl refl)
    (digit (λ y. 1 ⊕ y ≡ (1 + y) % 2) refl refl)

pub sum_two : (a b : ℕ) → (a % 2) ⊕ (b % 2) ≡ (a + b) % 2
sum_two a b =
    let e : (a % 2 + b % 2) % 2 ≡ (a + b) % 2 = omega arith in
    digits_two (a % 2) (digit_lt a) (b % 2) (digit_lt b) ∙ e

pub coefficient_shift : (i j f : ℕ) → i ≤ j → coefficient j (f * 2 ^ i) ≡ coefficient (j - i) f
coefficient_shift i j f h =
    let e : j ≡ i + (j - i) = omega arith in
    ap (λ (x : ℕ). x % 2)
    (ap (λ (k : ℕ). f * 2 ^ i / 2 ^ k) e ∙ sym (shr-shr (f * 2 ^ i) i (j - i)) ∙ ap (λ (x : ℕ). x / 2 ^ (j - i)) (shl-shr f i))

-- a digit times a mask
coefficient_digit : (j b t : ℕ) → t < 2 → coefficient j (t * b) ≡ t * coefficient j b
coefficient_digit j b =
    digit (λ t. coefficient j (t * b) ≡ t * coefficient j b)
    (ap (λ (x : ℕ). coefficient j x) (zero-mul b) ∙ ap (λ (x : ℕ). x % 2) (zero-div (2 ^ j)) ∙ sym (zero-mul (coefficient j b)))
    (ap (λ (x : ℕ). coefficient j x) (one-mul b) ∙ sym (one-mul (coefficient j b)))

unfoldable pub combine : (ℕ → ℕ) → ℕ → ℕ → ℕ
combine t f zero = 0
combine t f (suc n) = combine t f n ⊕ t n * (f * 2 ^ n)

pub combine_z : (t : ℕ → ℕ) (f : ℕ) → combine t f 0 ≡ 0
unfolding combine
combine_z t f = refl

pub combine_s : (t : ℕ → ℕ) (f n : ℕ) → combine t f (suc n) ≡ combine t f n ⊕ t n * (f * 2 ^ n)
unfolding combine
combine_s t f n = refl

module _ (t : ℕ → ℕ) (two : (i : ℕ) → t i < 2) (f : ℕ) where
  term : (j i : ℕ) → coefficient j (t i * (f * 2 ^ i)) ≡ t i * coefficient j (f * 2 ^ i)
  term j i = coefficient_digit j (f * 2 ^ i) (t i) (two i)

  pub coefficient_combine : (j n : ℕ) → n ≤ suc j → coefficient j (combine t f n) ≡ total n (λ i. coefficient (j - i) f * t i) % 2
  coefficient_combine j zero h =
      ap (λ (x : ℕ). coefficient j x) (combine_z t f) ∙ ap (λ (x : ℕ). x % 2) (zero-div (2 ^ j))
      ∙ sym (ap (λ (x : ℕ). x % 2) (total_z (λ i. coefficient (j - i) f * t i)))
  coefficient_combine j (suc n) h =
      let s : ℕ = total n (λ i. coefficient (j - i) f * t i) in
      let c : ℕ = coefficient (j - n) f in
      ap (λ (x : ℕ). coefficient j x) (combine_s t f n) ∙ bit_⊕ j (combine t f n) (t n * (f * 2 ^ n))
      ∙ ap₂ ◌⊕◌ (coefficient_combine j n (omega arith))
      (term j n ∙ ap (λ (x : ℕ). t n * x) (coefficient_shift n j f (omega arith))
      ∙ small (t n) (two n) c (digit_lt (f / 2 ^ (j - n))))
      ∙ sum_two s (c * t n) ∙ ap (λ (x : ℕ). x % 2) (sym (total_s n (λ i. coefficient (j - i) f * t i)))
    where
      small : (x : ℕ) → x < 2 → (c : ℕ) → c < 2 → x * c ≡ c * x % 2
      small =
          digit (λ x. (c : ℕ) → c < 2 → x * c ≡ c * x % 2) (digit (λ c. 0 * c ≡ c * 0 % 2) refl refl)
          (digit (λ c. 1 * c ≡ c * 1 % 2) refl refl)

pub below_is : (a b n : ℕ) → product_below n a b ≡ combine (λ i. coefficient i a) b n
unfolding product_below combine
below_is a b zero = refl
below_is a b (suc n) = ap (λ (x : ℕ). x ⊕ coefficient n a * (b * 2 ^ n)) (below_is a b n)
