-- The field of 2^s elements, ω and α, in the words of document 01, "Field and root".
--
--   mask s               the table's mask of degree s
--   Degree s             s is a degree of the table: 2 to 12
--   OddLength n          n is odd, from 3 to 65,535: the lengths that s is asked for
--   field_multiply s a b  the product of two elements
--   field_power s a k     a to the k-th
--   ω, α s n             the element 2, and the root of order n
--   order_of_two n         the s of a length n
--   logarithm s a        the exponent that gives a as a power of ω
--   inverses s a         all elements whose product with a is 1: one, or none for 0
--   quotients s a b      a divided by b: one element, or none where b is 0
--   values_of             what an answer holds: one element, or none
use Rattle.std.specs.Prelude.{◌≡◌, Option, Some, None, List, [], ◌∷◌, map, ℕ, zero, suc, ◌-◌, ◌/◌, ◌%◌, ◌^◌, ◌≤◌, eqb, get_or}
use Rattle.field.specs.Search.{least, up_to, keep}
use Rattle.field.specs.Mask.{clmul, remainder}

-- "The smallest primitive polynomial of that degree": the degrees 2 to 12.
unfoldable pub masks : List ℕ
masks = 7 ∷ 11 ∷ 19 ∷ 37 ∷ 67 ∷ 131 ∷ 285 ∷ 529 ∷ 1033 ∷ 2053 ∷ 4179 ∷ []

unfoldable pub mask : ℕ → ℕ
mask s = get_or masks (s - 2) 0

pub record Degree (s : ℕ) : Type 0 where
  pub lo : 2 ≤ s
  pub hi : s ≤ 12

pub record OddLength (n : ℕ) : Type 0 where
  pub least : 3 ≤ n
  pub most : n ≤ 65535
  pub odd : n % 2 ≡ 1

-- "The field of 2^s elements is the masks below 2^s, multiplied modulo the smallest primitive polynomial of that degree."
unfoldable pub field_multiply : ℕ → ℕ → ℕ → ℕ
field_multiply s a b = remainder s (mask s) (clmul a b)

unfoldable pub field_power : ℕ → ℕ → ℕ → ℕ
field_power s a zero = 1
field_power s a (suc k) = field_multiply s a (field_power s a k)

-- "ω is the element 2, and α is ω to the power (2^s - 1) / n."
abbrev pub ω : ℕ
ω = 2

unfoldable pub α : ℕ → ℕ → ℕ
α s n = field_power s ω ((2 ^ s - 1) / n)

-- "s is the smallest number above 0 with n dividing 2^s - 1." An odd n has one below n; where there is none, this is n + 1.
unfoldable pub order_of_two : ℕ → ℕ
order_of_two n = suc (least (λ j. eqb ((2 ^ suc j - 1) % n) 0) n)

unfoldable pub logarithm : ℕ → ℕ → ℕ
logarithm s a = least (λ k. eqb (field_power s ω k) a) (2 ^ s - 1)

unfoldable pub inverses : ℕ → ℕ → List ℕ
inverses s a = keep (λ x. eqb (field_multiply s a x) 1) (up_to (2 ^ s))

-- "An inverse of zero is answered as absent, and division must look for that."
unfoldable pub quotients : ℕ → ℕ → ℕ → List ℕ
quotients s a b = map (field_multiply s a) (inverses s b)

abbrev pub values_of : Option ℕ → List ℕ
values_of (Some x) = x ∷ []
values_of None = []
