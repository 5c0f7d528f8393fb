-- Polynomials over the field of 2^s elements and their common factors, in the words of request 2026-03: rule 3 of a certificate.
-- A polynomial is its coefficients, a function of the exponent. One of at most m coefficients is also written as a number below 2^(s m),
-- as masks are: the coefficient of x^i has weight 2^(s i).
--
--   polynomial s N          the polynomial that the number N writes
--   field_sum n term         the sum of term i over i below n: the sum of two elements is xor
--   product_at s p q k       the coefficient of x^k of the product of p and q
--   divides_over s m d p     d times some polynomial of at most m coefficients is p, where p and d have at most m as well
--   common_over s m p q      some polynomial of degree 1 or more, of at most m coefficients, divides both p and q
--   substituted s a f       f(a x), for a mask f
--   at_root s n f i          f(α^i x)
--   pair_apart s n f i j     f(α^i x) and f(α^j x) have no common factor, or i is j
--   factors_apart s n f      so for all i and j below n. Rule 1 asks first that f have constant term 1
-- These are searches through all polynomials that could divide both, and are never run: apart_is (proofs/Tested.antt) says what is.
use Rattle.std.specs.Prelude.{Bool, not, ◌&&◌, ◌||◌, ℕ, zero, suc, ◌+◌, ◌-◌, ◌*◌, ◌/◌, ◌%◌, ◌^◌, eqb}
use Rattle.field.specs.Search.{up_to, some, every}
use Rattle.field.specs.Mask.{◌⊕◌, coefficient, size}
use Rattle.field.specs.Field.{field_multiply, field_power, α}

unfoldable pub polynomial : ℕ → ℕ → ℕ → ℕ
polynomial s N i = N / 2 ^ (s * i) % 2 ^ s

unfoldable pub field_sum : ℕ → (ℕ → ℕ) → ℕ
field_sum zero term = 0
field_sum (suc n) term = field_sum n term ⊕ term n

unfoldable pub product_at : ℕ → (ℕ → ℕ) → (ℕ → ℕ) → ℕ → ℕ
product_at s p q k = field_sum (suc k) (λ i. field_multiply s (p i) (q (k - i)))

-- a product of two such polynomials has at most 2 m coefficients
unfoldable pub divides_over : ℕ → ℕ → (ℕ → ℕ) → (ℕ → ℕ) → Bool
divides_over s m d p =
    some (λ N. every (λ k. eqb (product_at s d (polynomial s N) k) (p k)) (up_to (m + m))) (up_to (2 ^ (s * m)))

-- the numbers from 2^s on, which is x: those of degree 1 or more
unfoldable pub common_over : ℕ → ℕ → (ℕ → ℕ) → (ℕ → ℕ) → Bool
common_over s m p q =
    some (λ N. divides_over s m (polynomial s (N + 2 ^ s)) p && divides_over s m (polynomial s (N + 2 ^ s)) q)
    (up_to (2 ^ (s * m) - 2 ^ s))

unfoldable pub substituted : ℕ → ℕ → ℕ → ℕ → ℕ
substituted s a f i = coefficient i f * field_power s a i

abbrev pub at_root : ℕ → ℕ → ℕ → ℕ → ℕ → ℕ
at_root s n f i = substituted s (field_power s (α s n) i) f

unfoldable pub pair_apart : ℕ → ℕ → ℕ → ℕ → ℕ → Bool
pair_apart s n f i j = eqb i j || not (common_over s (size f) (at_root s n f i) (at_root s n f j))

-- "f(α^i·x) and f(α^j·x) .. have no common factor for different i and j below n"
unfoldable pub factors_apart : ℕ → ℕ → ℕ → Bool
factors_apart s n f = every (λ i. every (λ j. pair_apart s n f i j) (up_to n)) (up_to n)
