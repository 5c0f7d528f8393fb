-- The power series h / f of two masks, f with constant term 1.
--
--   next f h        what is left of h after one step of the division, h = h₀ f + x (next f h)
--   digits f h j    the j-th coefficient of h / f, 0 or 1: digits_z, digits_s, digits_lt
--   ratio_series R f h     the series over a ring; ratio_eq: f (h / f) = h
use mathlib.Core.Path.{◌≡◌, refl, sym, ap, ◌∙◌, fun_ext}
use Prim.Native.Nat.{ℕ, zero, suc, ◌/◌, ◌%◌, ◌<◌}
use Rattle.algebra.proofs.Ring.{Ring, ring, mul_comm, mul-one, one-mul, zero-mul}
use Rattle.algebra.proofs.Series.{Ser, tl, add_at, zero_at, mul_z, mul_s}
use Rattle.field.specs.Mask.{◌⊕◌ as ◌⊻◌}
use Rattle.field.proofs.Xor.{digit, digit_lt, sel}
use Rattle.field.proofs.Value.{coef, coef_0, coef_1}
use Rattle.cyclic.proofs.Lift.{lift, lift_add, lift_zero, lift_z, lift_s}

abbrev pub next : ℕ → ℕ → ℕ
next f h = (h ⊻ sel (h % 2) f) / 2

unfoldable pub digits : ℕ → ℕ → ℕ → ℕ
digits f h zero = h % 2
digits f h (suc j) = digits f (next f h) j

pub digits_z : (f h : ℕ) → digits f h 0 ≡ h % 2
unfolding digits
digits_z f h = refl

pub digits_s : (f h j : ℕ) → digits f h (suc j) ≡ digits f (next f h) j
unfolding digits
digits_s f h j = refl

pub digits_lt : (f h j : ℕ) → digits f h j < 2
unfolding digits
digits_lt f h zero = digit_lt h
digits_lt f h (suc j) = digits_lt f (next f h) j

module _ {A : Type 0} (R : Ring A) where
  open R use {add as ◌+◌, mul as ◌*◌}

  infixl 65 ◌+◌
  infixl 70 ◌*◌
  open Ser R use {mul as ◌⊗◌}

  infixl 70 ◌⊗◌
  abbrev pub ratio_series : ℕ → ℕ → ℕ → A
  ratio_series f h j = coef R (digits f h j)

  ratio_tl : (f h : ℕ) → tl (ratio_series f h) ≡ ratio_series f (next f h)
  ratio_tl f h = fun_ext (λ k. ap (coef R) (digits_s f h k))

  lift_sel : (x : ℕ) → x < 2 → (f k : ℕ) → lift R (sel x f) k ≡ coef R x * lift R f k
  lift_sel =
      digit (λ x. (f k : ℕ) → lift R (sel x f) k ≡ coef R x * lift R f k)
      (λ f k. rw (lift_zero, coef_0, zero-mul) (zero_at R k)) (λ f k. rw coef_1 (sym (one-mul R _)))

  pub ratio_eq : (f h : ℕ) → f % 2 ≡ 1 → lift R f ⊗ ratio_series f h ≡ lift R h
  ratio_eq f h e = mul_comm (Ser R) _ _ ∙ fun_ext (λ k. go k h)
    where
      end : (x y z : A) → x * y + (z + x * y) ≡ z
      end x y z = simp ring

      go : (k h : ℕ) → (ratio_series f h ⊗ lift R f) k ≡ lift R h k
      go zero h = mul_z R _ _ ∙ rw (lift_z R f, e, coef_1, mul-one, digits_z) (sym (lift_z R h))
      go (suc k) h =
          mul_s R _ _ k
          ∙ rw (
            ratio_tl f h,
            go k (next f h),
            digits_z,
            ← lift_s R (h ⊻ sel (h % 2) f) k,
            lift_add,
            add_at,
            lift_sel (h % 2) (digit_lt h) f (suc k),
          )
          (end _ _ _)
