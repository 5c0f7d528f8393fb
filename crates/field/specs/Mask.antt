-- Masks. "Mask" means a polynomial over two elements written as a number: the coefficient of x^i has weight 2^i.
-- Sum, product and remainder are what is taught for polynomials, with 1 + 1 = 0.
--
--   a ⊕ b              the sum: xor
--   coefficient i a    the coefficient of x^i: 0 or 1
--   size a             how many coefficients a has: one more than its degree, and 0 for the mask 0
--   clmul a b          the product: the sum of x^i b over the i where a has a 1
--   remainder s p a    the remainder of a by a mask p of degree s, by long division
--   HasDegree s p      p is a mask of degree s, 1 to 15
use Rattle.std.specs.Prelude.{◌≡◌, ◌≤◌, ℕ, zero, suc, ◌+◌, ◌*◌, ◌/◌, ◌%◌, ◌^◌, ltb}
use Rattle.std.specs.Int.Bits.{bit_xor}
use Rattle.field.specs.Search.{least}

infixl 65 ◌⊕◌
unfoldable pub ◌⊕◌ : ℕ → ℕ → ℕ
◌⊕◌ a b = bit_xor a b

abbrev pub coefficient : ℕ → ℕ → ℕ
coefficient i a = a / 2 ^ i % 2

unfoldable pub size : ℕ → ℕ
size a = least (λ n. ltb a (2 ^ n)) a

-- of the first n coefficients of a
unfoldable pub product_below : ℕ → ℕ → ℕ → ℕ
product_below zero a b = 0
product_below (suc n) a b = product_below n a b ⊕ coefficient n a * (b * 2 ^ n)

unfoldable pub clmul : ℕ → ℕ → ℕ
clmul a b = product_below (size a) a b

-- from the highest of n steps down: x^i p is taken off where the coefficient of x^(s + i) is 1
unfoldable pub divide_down : ℕ → ℕ → ℕ → ℕ → ℕ
divide_down s p zero a = a
divide_down s p (suc i) a = divide_down s p i (a ⊕ coefficient (s + i) a * (p * 2 ^ i))

unfoldable pub remainder : ℕ → ℕ → ℕ → ℕ
remainder s p a = divide_down s p (size a) a

pub record HasDegree (s p : ℕ) : Type 0 where
  pub lo : 1 ≤ s
  pub hi : s ≤ 15
  pub top : p / 2 ^ s ≡ 1
