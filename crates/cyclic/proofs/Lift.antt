-- Masks as polynomials over a ring of characteristic 2.
--
--   lift R a       the mask a as a series: its value at x
--   lift_add, lift_mul, lift_zero, lift_one, lift_pow2      it is a homomorphism, and takes 2^p to x^p
--   lift_z, lift_s, lift_at      its coefficients are those of the mask
--   lift_below, lift_poly, lift_monic     its degree is that of the mask
--   lift_value     the mask and its series have the same values
--   coef_null, lift_null, lift_inj      over a field, nothing is lost
--   pack R K n p     the mask of a polynomial whose coefficients are 0 and 1: pack_lt, pack_lift
use mathlib.Core.Path.{◌≡◌, refl, sym, ap, ◌∙◌, fun_ext}
use mathlib.Core.Logic.{◌⊎◌, inl, inr}
use Prim.Native.Nat.{ℕ, zero, suc, ◌*◌ as ◌*ℕ◌, ◌/◌, ◌%◌, ◌^◌, ◌≤◌, ◌<◌}
use native.Mathlib.Nat.{div-lt_iff_lt-mul}
use native.Mathlib.Numerals.{one-add}
use native.Mathlib.Omega.{arith}
use lib.Pow.{pow_pos}
use Rattle.algebra.proofs.Ring.{Ring, ring, add-zero, zero-add, add_self, mul_comm, one-mul}
use Rattle.algebra.proofs.Field.{Field}
use Rattle.algebra.proofs.Series.{Ser, tl, add_at, zero_at, one_is}
use Rattle.algebra.proofs.Poly.{Below, IsPoly, is_poly, le_or_lt, mono, mono_mul_at, mono_mul_low}
use Rattle.algebra.proofs.Value.{ev, ev_z, ev_s}
use Rattle.field.specs.Mask.{◌⊕◌ as ◌⊻◌, coefficient, clmul}
use Rattle.field.proofs.Xor.{digit, digit_lt, ⊕-eq, bit_ext}
use Rattle.field.proofs.MaskProduct.{size_lt}
use Rattle.field.proofs.Value.{coef, coef_0, coef_1, value, value_zero, value_one, value_step, value_add, value_mul}
use Rattle.cyclic.proofs.Places.{coefficient_z, coefficient_s, coefficient_above, coefficient_zero, flag}
use Rattle.cyclic.proofs.Places.{flag_lt, gather, gather_at, gather_lt}
use Rattle.cyclic.proofs.Monic.{Monic}

pub lt_of_degree : (a n : ℕ) → a / 2 ^ n ≡ 1 → a < 2 ^ suc n
lt_of_degree a n e = let k : a < 2 *ℕ 2 ^ n = (div-lt_iff_lt-mul (pow_pos n)).0 (omega arith) in omega arith

module _ {A : Type 0} (R : Ring A) where
  open R use {add as ◌+◌, mul as ◌*◌, 𝟘, 𝟙}

  infixl 65 ◌+◌
  infixl 70 ◌*◌
  open Ser R use {add as ◌⊕◌, mul as ◌⊗◌, 𝟘 as 0ₛ, 𝟙 as 1ₛ}

  infixl 65 ◌⊕◌
  infixl 70 ◌⊗◌
  -- the series x
  𝕩 : ℕ → A
  𝕩 = mono R 1 𝟙

  𝕩_z : (p : ℕ → A) → (𝕩 ⊗ p) zero ≡ 𝟘
  unfolding 𝕩
  𝕩_z p = mono_mul_low R 1 𝟙 p zero (omega arith)

  𝕩_s : (p : ℕ → A) (k : ℕ) → (𝕩 ⊗ p) (suc k) ≡ p k
  unfolding 𝕩
  𝕩_s p k = ap (mono R 1 𝟙 ⊗ p) (sym (one-add k)) ∙ mono_mul_at R 1 𝟙 p k ∙ one-mul R (p k)

  pub lift : ℕ → ℕ → A
  lift a = value (Ser R) 𝕩 a

  pub lift_add : (a b : ℕ) → lift (a ⊻ b) ≡ lift a ⊕ lift b
  unfolding lift
  lift_add = value_add (Ser R) 𝕩

  pub lift_mul : (a b : ℕ) → lift (clmul a b) ≡ lift a ⊗ lift b
  unfolding lift
  lift_mul = value_mul (Ser R) 𝕩

  pub lift_one : lift 1 ≡ 1ₛ
  unfolding lift
  lift_one = value_one (Ser R) 𝕩

  pub lift_zero : lift 0 ≡ 0ₛ
  unfolding lift
  lift_zero = value_zero (Ser R) 𝕩

  coef_z : (x : ℕ) → x < 2 → coef (Ser R) x zero ≡ coef R x
  coef_z =
      digit (λ x. coef (Ser R) x zero ≡ coef R x) (ap (λ p. p zero) (coef_0 (Ser R)) ∙ zero_at R zero ∙ sym (coef_0 R))
      (ap (λ p. p zero) (coef_1 (Ser R) ∙ one_is R) ∙ sym (coef_1 R))

  coef_s : (k x : ℕ) → x < 2 → coef (Ser R) x (suc k) ≡ 𝟘
  coef_s k =
      digit (λ x. coef (Ser R) x (suc k) ≡ 𝟘) (ap (λ p. p (suc k)) (coef_0 (Ser R)) ∙ zero_at R (suc k))
      (ap (λ p. p (suc k)) (coef_1 (Ser R) ∙ one_is R))

  lift_step : (a k : ℕ) → lift a k ≡ (𝕩 ⊗ lift (a / 2)) k + coef (Ser R) (a % 2) k
  unfolding lift
  lift_step a k =
      ap (λ p. p k) (value_step (Ser R) 𝕩 a) ∙ add_at R _ _ k
      ∙ ap (λ p. p k + coef (Ser R) (a % 2) k) (mul_comm (Ser R) (lift (a / 2)) 𝕩)

  pub lift_z : (a : ℕ) → lift a zero ≡ coef R (a % 2)
  lift_z a = lift_step a zero ∙ rw (𝕩_z, coef_z (a % 2) (digit_lt a)) (zero-add R _)

  pub lift_s : (a k : ℕ) → lift a (suc k) ≡ lift (a / 2) k
  lift_s a k = lift_step a (suc k) ∙ rw (𝕩_s, coef_s k (a % 2) (digit_lt a)) (add-zero R _)

  lift_tl : (a : ℕ) → tl (lift a) ≡ lift (a / 2)
  lift_tl a = fun_ext (lift_s a)

  pub lift_at : (k a : ℕ) → lift a k ≡ coef R (coefficient k a)
  lift_at zero a = lift_z a ∙ ap (coef R) (sym (coefficient_z a))
  lift_at (suc k) a = lift_s a k ∙ lift_at k (a / 2) ∙ ap (coef R) (sym (coefficient_s k a))

  pub lift_below : {n a : ℕ} → a < 2 ^ n → Below R n (lift a)
  lift_below {n} {a} h = record { at = λ k l. lift_at k a ∙ ap (coef R) (coefficient_above h k l) ∙ coef_0 R }

  pub lift_poly : (a : ℕ) → IsPoly R (lift a)
  lift_poly a = is_poly R (lift_below (size_lt a))

  pub lift_monic : {n : ℕ} (a : ℕ) → a / 2 ^ n ≡ 1 → Monic R n (lift a)
  lift_monic {n} a e = record {
    below = lift_below (lt_of_degree a n e);
    top = lift_at n a ∙ ap (λ (x : ℕ). coef R (x % 2)) e ∙ coef_1 R;
  }

  pub lift_pow2 : (p : ℕ) → lift (2 ^ p) ≡ mono R p 𝟙
  unfolding mono
  lift_pow2 p = fun_ext (go p)
    where
      go : (p k : ℕ) → lift (2 ^ p) k ≡ mono R p 𝟙 k
      go zero k = ap (λ q. q k) (lift_one ∙ one_is R)
      go (suc p) zero = lift_z _ ∙ (let e : 2 ^ suc p % 2 ≡ 0 = omega arith in rw e (coef_0 R))
      go (suc p) (suc k) = lift_s _ k ∙ (let e : 2 ^ suc p / 2 ≡ 2 ^ p = omega arith in rw e (go p k))

  pub lift_value : (n a : ℕ) (x : A) → a < 2 ^ n → value R x a ≡ ev R n (lift a) x
  lift_value zero a x h = let e : a ≡ 0 = omega arith in rw (e, ev_z) (value_zero R x)
  lift_value (suc n) a x h =
      value_step R x a
      ∙ rw (lift_value n (a / 2) x (omega arith), ev_s R n (lift a), lift_tl, lift_z) (swap _ x _)
    where
      swap : (a b c : A) → a * b + c ≡ c + b * a
      swap a b c = simp ring

module _ {A : Type 0} (R : Ring A) (K : Field R) where
  open R use {𝟘, 𝟙}
  open Ser R use {add as ◌⊕◌, 𝟘 as 0ₛ}

  infixl 65 ◌⊕◌
  pub coef_null : (x : ℕ) → x < 2 → coef R x ≡ 𝟘 → x ≡ 0
  coef_null = digit (λ x. coef R x ≡ 𝟘 → x ≡ 0) (λ e. refl) (λ e. absurd (K.one_ne (sym (coef_1 R) ∙ e)))

  pub lift_null : (a : ℕ) → lift R a ≡ 0ₛ → a ≡ 0
  lift_null a e =
      bit_ext
      (λ i. coef_null (coefficient i a) (digit_lt (a / 2 ^ i)) (sym (lift_at R i a) ∙ ap (λ p. p i) e ∙ zero_at R i)
      ∙ sym (coefficient_zero i))

  pub lift_inj : (a b : ℕ) → lift R a ≡ lift R b → a ≡ b
  lift_inj a b e =
      ⊕-eq (lift_null (a ⊻ b) (lift_add R a b ∙ ap (λ p. p ⊕ lift R b) e ∙ add_self (Ser R) (lift R b)))

  -- a polynomial of zeros and ones is a mask
  unfoldable pub pack : ℕ → (ℕ → A) → ℕ
  pack n p = gather n (λ i. flag (K.discrete (p i) 𝟙))

  pub pack_lt : (n : ℕ) (p : ℕ → A) → pack n p < 2 ^ n
  unfolding pack
  pack_lt n p = gather_lt n _ (λ i. flag_lt (K.discrete (p i) 𝟙))

  pub pack_lift : {n : ℕ} {p : ℕ → A} → Below R n p → ((k : ℕ) → (p k ≡ 𝟘) ⊎ (p k ≡ 𝟙)) → lift R (pack n p) ≡ p
  unfolding pack flag
  pack_lift {n} {p} b h = fun_ext (λ k. at k (le_or_lt n k))
    where
      go : (k : ℕ) (d : Dec (p k ≡ 𝟙)) → (p k ≡ 𝟘) ⊎ (p k ≡ 𝟙) → coef R (flag d) ≡ p k
      go k (yes e) c = coef_1 R ∙ sym e
      go k (no e) (inl z) = coef_0 R ∙ sym z
      go k (no e) (inr z) = absurd (e z)

      at : (k : ℕ) → (n ≤ k) ⊎ (k < n) → lift R (pack n p) k ≡ p k
      at k (inl l) = (lift_below R (pack_lt n p)).at k l ∙ sym (b.at k l)
      at k (inr l) =
          lift_at R k (pack n p) ∙ ap (coef R) (gather_at n _ (λ i. flag_lt (K.discrete (p i) 𝟙)) k l)
          ∙ go k (K.discrete (p k) 𝟙) (h k)
