-- MaskRing as a ring, and P(x^n) for a mask P.
--
--   MaskRing            the ring of masks
--   monomial i       x^i as a mask: 2^i (monomial_is)
--   spread i c       c(x^i): spread_add, spread_dbl, spread_zero, spread_one, spread_step
--   spread_lt, spread_null      its size, and that nothing is lost
use mathlib.Core.Path.{◌≡◌, refl, sym, ap, ap₂, ◌∙◌, subst}
use mathlib.Core.HLevel.{hedberg}
use Prim.Native.Nat.{ℕ, zero, suc, ◌*◌, ◌/◌, ◌%◌, ◌^◌, ◌≤◌, ◌<◌}
use native.Mathlib.Nat.{pow-suc, mul-suc, mul-pos, zero-mul, mul-lt-mul_of_pos_right}
use native.Mathlib.Decide.{ℕ_discrete}
use native.Mathlib.Omega.{arith}
use lib.Arith.{bin_ind}
use lib.Pow.{pow_pos, pow_mono, pow-add as pow_addℕ}
use Rattle.algebra.proofs.Ring.{Ring}
use Rattle.algebra.proofs.Power.{pow, pow_z, pow_s}
use Rattle.field.specs.Mask.{◌⊕◌, clmul}
use Rattle.field.proofs.Xor.{digit, digit_lt, ⊕-assoc, ⊕-comm, ⊕-zero-r, ⊕-self, ⊕-eq, ⊕-lt, ⊕-split}
use Rattle.field.proofs.MaskProduct.{clmul_assoc, clmul_comm, clmul_one_r, clmul_add_r, clmul_two, clmul_pow}
use Rattle.field.proofs.Value.{value, value_zero, value_one, value_dbl, value_add}

abbrev pub MaskRing : Ring ℕ
MaskRing = record {
  is_set = hedberg ℕ_discrete;
  add = ◌⊕◌;
  mul = clmul;
  𝟘 = 0;
  𝟙 = 1;
  law_add_assoc = ⊕-assoc;
  law_add_comm = ⊕-comm;
  law_add_zero = ⊕-zero-r;
  law_add_self = ⊕-self;
  law_mul_assoc = clmul_assoc;
  law_mul_comm = clmul_comm;
  law_mul_one = clmul_one_r;
  law_mul_add = clmul_add_r;
}

unfoldable pub monomial : ℕ → ℕ
monomial i = pow MaskRing 2 i

pub monomial_is : (i : ℕ) → monomial i ≡ 2 ^ i
unfolding monomial
monomial_is zero = pow_z MaskRing 2
monomial_is (suc i) =
    pow_s MaskRing 2 i ∙ ap (clmul 2) (monomial_is i) ∙ clmul_two (2 ^ i) ∙ sym (pow-suc 2 i)

unfoldable pub spread : ℕ → ℕ → ℕ
spread i c = value MaskRing (monomial i) c

pub spread_add : (i a b : ℕ) → spread i (a ⊕ b) ≡ spread i a ⊕ spread i b
unfolding spread
spread_add i = value_add MaskRing (monomial i)

pub spread_dbl : (i a : ℕ) → spread i (a * 2) ≡ spread i a * 2 ^ i
unfolding spread
spread_dbl i a = value_dbl MaskRing (monomial i) a ∙ ap (clmul _) (monomial_is i) ∙ clmul_pow _ i

pub spread_zero : (i : ℕ) → spread i 0 ≡ 0
unfolding spread
spread_zero i = value_zero MaskRing (monomial i)

pub spread_one : (i : ℕ) → spread i 1 ≡ 1
unfolding spread
spread_one i = value_one MaskRing (monomial i)

spread_digit : (i x : ℕ) → x < 2 → spread i x ≡ x
spread_digit i = digit (λ x. spread i x ≡ x) (spread_zero i) (spread_one i)

pub spread_step : (i c : ℕ) → spread i c ≡ spread i (c / 2) * 2 ^ i ⊕ c % 2
spread_step i c =
    ap (spread i) (sym (⊕-split c)) ∙ spread_add i (c / 2 * 2) (c % 2)
    ∙ ap₂ ◌⊕◌ (spread_dbl i (c / 2)) (spread_digit i (c % 2) (digit_lt c))

pub spread_lt : (i u c : ℕ) → 0 < i → c < 2 ^ u → spread i c < 2 ^ (i * u)
spread_lt i zero c p h =
    let z : c ≡ 0 = omega arith in
    subst (λ (x : ℕ). x < 2 ^ (i * 0)) (sym (ap (spread i) z ∙ spread_zero i)) (pow_pos (i * 0))
spread_lt i (suc u) c p h =
    let e : 2 ^ (i * suc u) ≡ 2 ^ (i * u) * 2 ^ i = ap (λ (x : ℕ). 2 ^ x) (mul-suc i u) ∙ pow_addℕ 2 (i * u) i in
    let ih : spread i (c / 2) < 2 ^ (i * u) = spread_lt i u (c / 2) p (omega arith) in
    let two : 2 ^ 1 ≤ 2 ^ (i * suc u) = pow_mono (mul-pos p (omega arith)) in
    let low : c % 2 < 2 = digit_lt c in
    subst (λ (x : ℕ). x < 2 ^ (i * suc u)) (sym (spread_step i c))
    (⊕-lt (i * suc u) (spread i (c / 2) * 2 ^ i) (c % 2)
    (subst (λ (x : ℕ). spread i (c / 2) * 2 ^ i < x) (sym e) (mul-lt-mul_of_pos_right ih (pow_pos i))) (omega arith))

pub spread_null : (i : ℕ) → 0 < i → (c : ℕ) → spread i c ≡ 0 → c ≡ 0
spread_null i p = bin_ind (λ c. spread i c ≡ 0 → c ≡ 0) (λ e. refl) step
  where
    -- a multiple of 2 is a digit only where both are 0
    none : (a x : ℕ) → x < 2 → a * 2 ^ i ≡ x → (a ≡ 0) × (x ≡ 0)
    none zero x l e = (refl, sym e ∙ zero-mul (2 ^ i))
    none (suc a) x l e =
        let two : 2 ^ 1 ≤ 2 ^ i = pow_mono p in
        absurd (omega arith)

    step : (c : ℕ) → (spread i (c / 2) ≡ 0 → c / 2 ≡ 0) → spread i c ≡ 0 → c ≡ 0
    step c ih e =
        let w = none (spread i (c / 2)) (c % 2) (digit_lt c) (⊕-eq (sym (spread_step i c) ∙ e)) in
        let h : c / 2 ≡ 0 = ih w.0 in
        omega (arith, w.1)
