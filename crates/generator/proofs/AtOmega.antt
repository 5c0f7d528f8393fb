-- The value of a polynomial over the field at an element, and at ω: ω is x, so a mask's value there is its remainder.
--
--   poly_value s x p      the value of p, low coefficient first, at x
--   poly_value_times     of p times y - b at x: the factor x - b; poly_value_one: of the polynomial 1
--   poly_value_held      of a mask in 0 and 1 at ω: its remainder
use mathlib.Core.Path.{◌≡◌, sym, ap, ap₂, ◌∙◌}
use mathlib.Core.List.{List, [], ◌∷◌, map}
use Prim.Native.Nat.{ℕ, suc, ◌*◌, ◌/◌, ◌%◌, ◌^◌, ◌<◌}
use native.Mathlib.Omega.{arith}
use Rattle.field.specs.Mask.{◌⊕◌, remainder}
use Rattle.field.specs.Field.{mask, Degree, ω, field_multiply}
use Rattle.field.proofs.Xor.{digit_lt, ⊕-zero-l, ⊕-zero-r, ⊕-norm, ⊕-split, bit_ext}
use Rattle.field.proofs.MaskProduct.{clmul_two}
use Rattle.field.proofs.Remainder.{remainder_add, remainder_zero, remainder_small, remainder_mul_r}
use Rattle.field.proofs.Primitive.{primitive}
use Rattle.field.proofs.Numbers.{one_lt, multiply_add, add_multiply, multiply_zero, multiply_comm, multiply_assoc}
use Rattle.cyclic.proofs.Places.{coefficient_z, coefficient_s, coefficient_zero}
use Rattle.document.specs.Generator.{add_poly, times_root}
use Rattle.binary.specs.Bits.{Holds}

unfoldable pub poly_value : ℕ → ℕ → List ℕ → ℕ
poly_value s x [] = 0
poly_value s x (c ∷ p) = c ⊕ field_multiply s x (poly_value s x p)

module _ {s : ℕ} (d : Degree s) where
  module _ (x : ℕ) where
    poly_value_add : (p q : List ℕ) → poly_value s x (add_poly p q) ≡ poly_value s x p ⊕ poly_value s x q
    unfolding add_poly poly_value
    poly_value_add [] q = sym (⊕-zero-l (poly_value s x q))
    poly_value_add (a ∷ p) [] = sym (⊕-zero-r (a ⊕ field_multiply s x (poly_value s x p)))
    poly_value_add (a ∷ p) (b ∷ q) =
        ap (λ (y : ℕ). (a ⊕ b) ⊕ y) (ap (field_multiply s x) (poly_value_add p q) ∙ multiply_add d x (poly_value s x p) (poly_value s x q))
        ∙ sort a b (field_multiply s x (poly_value s x p)) (field_multiply s x (poly_value s x q))
      where
        sort : (a b c e : ℕ) → (a ⊕ b) ⊕ (c ⊕ e) ≡ (a ⊕ c) ⊕ (b ⊕ e)
        sort a b c e = simp ⊕-norm

    poly_value_scale : (b : ℕ) (p : List ℕ) → poly_value s x (map (field_multiply s b) p) ≡ field_multiply s b (poly_value s x p)
    unfolding poly_value
    poly_value_scale b [] = sym (multiply_zero d b)
    poly_value_scale b (c ∷ p) =
        ap (λ (y : ℕ). field_multiply s b c ⊕ field_multiply s x y) (poly_value_scale b p)
        ∙ ap (λ (y : ℕ). field_multiply s b c ⊕ y)
        (sym (multiply_assoc d x b (poly_value s x p)) ∙ ap (λ (y : ℕ). field_multiply s y (poly_value s x p)) (multiply_comm d x b)
        ∙ multiply_assoc d b x (poly_value s x p))
        ∙ sym (multiply_add d b c (field_multiply s x (poly_value s x p)))

    pub poly_value_times : (b : ℕ) (p : List ℕ) → poly_value s x (times_root s b p) ≡ field_multiply s (x ⊕ b) (poly_value s x p)
    unfolding times_root poly_value
    poly_value_times b p =
        poly_value_add (0 ∷ p) (map (field_multiply s b) p)
        ∙ ap₂ ◌⊕◌ (⊕-zero-l (field_multiply s x (poly_value s x p))) (poly_value_scale b p) ∙ sym (add_multiply d x b (poly_value s x p))

    pub poly_value_one : poly_value s x (1 ∷ []) ≡ 1
    unfolding poly_value
    poly_value_one = ap (λ (y : ℕ). 1 ⊕ y) (multiply_zero d x) ∙ ⊕-zero-r 1

  two_lt : (a : ℕ) → a % 2 < 2 ^ s
  two_lt a = omega (arith, digit_lt a, one_lt d)

  by_ω : (f : ℕ) → field_multiply s ω (remainder s (mask s) f) ≡ remainder s (mask s) (f * 2)
  unfolding field_multiply
  by_ω f = remainder_mul_r s (mask s) (primitive d).pos (primitive d).deg 2 f ∙ ap (remainder s (mask s)) (clmul_two f)

  pub poly_value_held : (p : List ℕ) (f : ℕ) → Holds f p → poly_value s ω p ≡ remainder s (mask s) f
  unfolding poly_value
  poly_value_held [] f h =
      sym (ap (remainder s (mask s)) (bit_ext (λ i. sym (h.at i) ∙ sym (coefficient_zero i)))
      ∙ remainder_zero s (mask s) (primitive d).pos (primitive d).deg)
  poly_value_held (c ∷ p) f h =
      ap₂ (λ (y z : ℕ). y ⊕ field_multiply s ω z) (h.at 0 ∙ coefficient_z f)
      (poly_value_held p (f / 2) (record { at = λ i. h.at (suc i) ∙ coefficient_s i f }))
      ∙ ap₂ ◌⊕◌ (sym (remainder_small s (mask s) (primitive d).pos (primitive d).deg (f % 2) (two_lt f))) (by_ω (f / 2))
      ∙ sym (remainder_add s (mask s) (primitive d).pos (primitive d).deg (f % 2) (f / 2 * 2))
      ∙ ap (remainder s (mask s)) (sort (f % 2) (f / 2 * 2) ∙ ⊕-split f)
    where
      sort : (a b : ℕ) → a ⊕ b ≡ b ⊕ a
      sort a b = simp ⊕-norm
