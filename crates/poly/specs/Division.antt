-- Division of polynomials in slices, with cofactors. A row of Euclid's algorithm is a remainder and its cofactor.
--
--   plus d p q r              the series p + q r
--   Addable s i k a b         what adding ω^k x^i b to a asks for
--   Added s i k a b a'        a' = a + ω^k x^i b
--   AddedTwo s i k₀ k₁ a b a' a' = a + (ω^k₁ x + ω^k₀) x^i b
--   LengthOf a r              r is one more than the degree of a, and 0 where a is 0
--   InverseAt s k c           ω^k is the inverse of c
--   Cancels s q a b           ω^q is the quotient a / b, and q at most a sum of two logarithms
--   Second s k la lb a b c    c is the second coefficient from the top of a + ω^k x^(la - lb) b, and a is longer than b
--   Reducible ..              the row (a, w) can be divided by the row (b, v)
--   RowDivision d k ..           one hidden quotient, of degree at most k, leads from (a, w) to (a', w')
--   Reduced ..                what that leaves, and the length r of a'
--   RowReducible s a b, RowReduced s a b a'      so for the row a and the divisor's b, and what a is then
--   Kept a a'                 a row in the same slices, which keep their lengths, and the cofactor its number of coefficients
use Rattle.std.specs.Prelude.{◌≡◌, ◌≢◌, List, ℕ, suc, ◌+◌, ◌-◌, ◌*◌, ◌^◌, ◌≤◌, ◌<◌, length, get_or}
use Rattle.algebra.proofs.Series.{Ser}
use Rattle.algebra.proofs.Poly.{Below, mono}
use Rattle.field.specs.Mask.{◌⊕◌}
use Rattle.field.specs.Field.{Degree, ω, field_multiply, field_power}
use Rattle.field.proofs.Elements.{F, GF, el}
use Rattle.poly.specs.declared.types.Divisor.{Divisor}
use Rattle.poly.specs.declared.types.Row.{Row}
use Rattle.poly.specs.Slice.{Small, Short, series}

abbrev pub plus : {s : ℕ} → Degree s → (ℕ → F s) → (ℕ → F s) → (ℕ → F s) → ℕ → F s
plus d p q r = (Ser (GF d)).add p ((Ser (GF d)).mul q r)

-- ---- one term of a quotient
pub record Addable (s i k : ℕ) (a b : List ℕ) : Type 0 where
  pub k_most : k ≤ 2 * (2 ^ s - 1)
  pub a_small : Small s a
  pub b_small : Small s b
  pub a_long : i + length b ≤ length a

pub record Added (s i k : ℕ) (a b a' : List ℕ) : Type 0 where
  pub small : Small s a'
  pub is : (d : Degree s) → series d a' ≡ plus d (series d a) (mono (GF d) i (el d (field_power s ω k))) (series d b)

pub record AddedTwo (s i k₀ k₁ : ℕ) (a b a' : List ℕ) : Type 0 where
  pub small : Small s a'
  pub is : (d : Degree s)
      → series d a'
      ≡ plus d (plus d (series d a) (mono (GF d) (i + 1) (el d (field_power s ω k₁))) (series d b))
      (mono (GF d) i (el d (field_power s ω k₀))) (series d b)

pub record LengthOf (a : List ℕ) (r : ℕ) : Type 0 where
  pub short : Short r a
  pub leading : 0 < r → get_or a (r - 1) 0 ≢ 0

pub record InverseAt (s k c : ℕ) : Type 0 where
  pub k_lt : k < 2 ^ s - 1
  pub is : field_multiply s (field_power s ω k) c ≡ 1

pub record Cancels (s q a b : ℕ) : Type 0 where
  pub most : q ≤ 2 * (2 ^ s - 1)
  pub is : field_multiply s (field_power s ω q) b ≡ a

pub record Second (s k la lb : ℕ) (a b : List ℕ) (c : ℕ) : Type 0 where
  pub longer : lb < la
  pub b_two : 1 < lb
  pub is : c ≡ get_or a (la - 2) 0 ⊕ field_multiply s (field_power s ω k) (get_or b (lb - 2) 0)

-- ---- a whole quotient
pub record Reducible (s la lb lv : ℕ) (a b w v : List ℕ) : Type 0 where
  pub a_small : Small s a
  pub b_small : Small s b
  pub w_small : Small s w
  pub v_small : Small s v
  pub a_length : LengthOf a la
  pub b_length : LengthOf b lb
  pub b_pos : 0 < lb
  pub v_short : Short lv v
  pub a_long : la ≤ length a
  pub b_long : lb ≤ length b
  pub v_long : lv ≤ length v
  pub w_long : la + lv ≤ length w + lb

pub record RowDivision {s : ℕ} (d : Degree s) (k : ℕ) (a b w v a' w' : List ℕ) : Type 0 where
  pub quotient : ℕ → F s
  pub quotient_below : Below (GF d) (suc k) quotient
  pub a_is : series d a' ≡ plus d (series d a) quotient (series d b)
  pub w_is : series d w' ≡ plus d (series d w) quotient (series d v)

pub record Reduced (s k : ℕ) (a b w v a' w' : List ℕ) (r : ℕ) : Type 0 where
  pub a_small : Small s a'
  pub w_small : Small s w'
  pub division : (d : Degree s) → RowDivision d k a b w v a' w'
  pub a_length : LengthOf a' r

-- ---- rows
abbrev pub RowReducible : ℕ → Row → Divisor → Type 0
RowReducible s a b = Reducible s a.len b.len b.cofactor_len a.remainder.now b.remainder.now a.cofactor.now b.cofactor.now

abbrev pub RowReduced : ℕ → Row → Divisor → Row → Type 0
RowReduced s a b a' = Reduced s (a.len - b.len) a.remainder.now b.remainder.now a.cofactor.now b.cofactor.now a'.remainder.now a'.cofactor.now a'.len

pub record Kept (a a' : Row) : Type 0 where
  pub same_remainder : a'.remainder.ghost_name ≡ a.remainder.ghost_name
  pub same_cofactor : a'.cofactor.ghost_name ≡ a.cofactor.ghost_name
  pub remainder_long : length a'.remainder.now ≡ length a.remainder.now
  pub cofactor_long : length a'.cofactor.now ≡ length a.cofactor.now
  pub cofactor_len : a'.cofactor_len ≡ a.cofactor_len
