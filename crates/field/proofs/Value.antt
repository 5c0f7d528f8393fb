-- The value of a mask at an element of any ring of characteristic 2: a homomorphism of rings.
--
--   coef R x          the coefficients 0 and 1 in the ring
--   value R x a       a(x), by Horner's rule
--   value_zero, value_one, value_step, value_dbl      at the masks 0 and 1, by the lowest coefficient, at the mask x a
--   value_add, value_mul      of sums and products of masks
--   ext               additive maps of masks into the ring that take doubling to E and agree at 0 and 1 are equal
use mathlib.Core.Path.{◌≡◌, refl, sym, ap, ap₂, ◌∙◌}
use Prim.Native.Nat.{ℕ, zero, suc, ◌*◌, ◌/◌, ◌%◌, ◌≤◌, ◌<◌}
use native.Mathlib.Nat.{not-suc-le-zero, le_refl}
use native.Mathlib.Decide.{le_ind}
use lib.Arith.{bin_ind, half_le}
use Rattle.field.specs.Mask.{◌⊕◌, clmul}
use Rattle.field.proofs.Xor.{digit, digit_lt, ⊕-zero-l, ⊕-half, ⊕-odd, ⊕-split, dbl_half, dbl_odd}
use Rattle.field.proofs.MaskProduct.{clmul_add_l, clmul_dbl_l, clmul_one_l, clmul_zero_l}
use Rattle.algebra.proofs.Ring.{Ring, ring, zero-add, one-mul, add-mul, zero-mul as 𝟘-mul}

module _ {A : Type 0} (R : Ring A) where
  open R use {add as ◌⊞◌, mul as ◌⊠◌, 𝟘, 𝟙, law_add_zero as add-zero, law_add_self as two}

  infixl 65 ◌⊞◌
  infixl 70 ◌⊠◌
  unfoldable pub coef : ℕ → A
  coef zero = 𝟘
  coef (suc n) = 𝟙

  pub coef_0 : coef 0 ≡ 𝟘
  unfolding coef
  coef_0 = refl

  pub coef_1 : coef 1 ≡ 𝟙
  unfolding coef
  coef_1 = refl

  value_in : A → ℕ → ℕ → A
  value_in x zero a = 𝟘
  value_in x (suc n) zero = 𝟘
  value_in x (suc n) (suc a) = value_in x n (suc a / 2) ⊠ x ⊞ coef (suc a % 2)

  pub value : A → ℕ → A
  value x a = value_in x a a

  more : (x : A) (n a : ℕ) → a ≤ n → value_in x (suc n) a ≡ value_in x n a
  unfolding value_in
  more x zero zero h = refl
  more x zero (suc a) h = absurd (not-suc-le-zero h)
  more x (suc n) zero h = refl
  more x (suc n) (suc a) h = ap (λ y. y ⊠ x ⊞ coef (suc a % 2)) (more x n (suc a / 2) (half_le h))

  enough : (x : A) (n a : ℕ) → a ≤ n → value_in x n a ≡ value_in x a a
  enough x n a h = le_ind (λ (m : ℕ). value_in x m a ≡ value_in x a a) refl (λ m k p. more x m a k ∙ p) n h

  pub value_zero : (x : A) → value x 0 ≡ 𝟘
  unfolding value value_in
  value_zero x = refl

  pub value_step : (x : A) (a : ℕ) → value x a ≡ value x (a / 2) ⊠ x ⊞ coef (a % 2)
  unfolding value value_in coef
  value_step x zero = sym (add-zero (𝟘 ⊠ x) ∙ 𝟘-mul R x)
  value_step x (suc a) = ap (λ y. y ⊠ x ⊞ coef (suc a % 2)) (enough x a (suc a / 2) (half_le (le_refl (suc a))))

  pub value_dbl : (x : A) (a : ℕ) → value x (a * 2) ≡ value x a ⊠ x
  unfolding coef
  value_dbl x a =
      value_step x (a * 2) ∙ ap₂ (λ (n m : ℕ). value x n ⊠ x ⊞ coef m) (dbl_half a) (dbl_odd a) ∙ add-zero (value x a ⊠ x)

  pub value_one : (x : A) → value x 1 ≡ 𝟙
  unfolding coef
  value_one x = value_step x 1 ∙ ap (λ y. y ⊠ x ⊞ 𝟙) (value_zero x) ∙ ap (λ y. y ⊞ 𝟙) (𝟘-mul R x) ∙ zero-add R 𝟙

  swap4 : (a b c d : A) → (a ⊞ b) ⊞ (c ⊞ d) ≡ (a ⊞ c) ⊞ (b ⊞ d)
  swap4 a b c d = simp ring

  -- maps of masks into the ring that add, and take doubling to E, are fixed by their value at 1
  pub ext : (E : A → A) (f g : ℕ → A) → ((a b : ℕ) → f (a ⊕ b) ≡ f a ⊞ f b) → ((a b : ℕ) → g (a ⊕ b) ≡ g a ⊞ g b)
      → ((a : ℕ) → f (a * 2) ≡ E (f a)) → ((a : ℕ) → g (a * 2) ≡ E (g a)) → f 0 ≡ g 0 → f 1 ≡ g 1 → (a : ℕ) → f a ≡ g a
  ext E f g fa ga fd gd h0 h1 =
      bin_ind (λ a. f a ≡ g a) h0
      (λ a ih. ap f (sym (⊕-split a)) ∙ fa (a / 2 * 2) (a % 2)
      ∙ ap₂ ◌⊞◌ (fd (a / 2) ∙ ap E ih ∙ sym (gd (a / 2))) (digit (λ x. f x ≡ g x) h0 h1 (a % 2) (digit_lt a))
      ∙ sym (ga (a / 2 * 2) (a % 2)) ∙ ap g (⊕-split a))

  three : (a b c : A) → a ⊠ b ⊠ c ≡ a ⊠ c ⊠ b
  three a b c = simp ring

  coef_xor : (x : ℕ) → x < 2 → (y : ℕ) → y < 2 → coef (x ⊕ y) ≡ coef x ⊞ coef y
  unfolding coef ◌⊕◌
  coef_xor =
      digit (λ x. (y : ℕ) → y < 2 → coef (x ⊕ y) ≡ coef x ⊞ coef y) (λ y h. sym (zero-add R (coef y)))
      (digit (λ y. coef (1 ⊕ y) ≡ 𝟙 ⊞ coef y) (sym (add-zero 𝟙)) (sym (two 𝟙)))

  pub value_add : (x : A) (a b : ℕ) → value x (a ⊕ b) ≡ value x a ⊞ value x b
  value_add x =
      bin_ind (λ a. (b : ℕ) → value x (a ⊕ b) ≡ value x a ⊞ value x b)
      (λ b. ap (value x) (⊕-zero-l b) ∙ sym (ap (λ y. y ⊞ value x b) (value_zero x) ∙ zero-add R (value x b)))
      (λ a ih b. value_step x (a ⊕ b)
      ∙ ap₂ (λ y z. y ⊠ x ⊞ z) (ap (value x) (⊕-half a b) ∙ ih (b / 2))
      (ap coef (⊕-odd a b) ∙ coef_xor (a % 2) (digit_lt a) (b % 2) (digit_lt b))
      ∙ ap (λ y. y ⊞ (coef (a % 2) ⊞ coef (b % 2))) (add-mul R (value x (a / 2)) (value x (b / 2)) x)
      ∙ swap4 (value x (a / 2) ⊠ x) (value x (b / 2) ⊠ x) (coef (a % 2)) (coef (b % 2))
      ∙ sym (ap₂ ◌⊞◌ (value_step x a) (value_step x b)))

  pub value_mul : (x : A) (a b : ℕ) → value x (clmul a b) ≡ value x a ⊠ value x b
  value_mul x a b =
      ext (λ y. y ⊠ x) (λ a. value x (clmul a b)) (λ a. value x a ⊠ value x b)
      (λ n m. ap (value x) (clmul_add_l b n m) ∙ value_add x (clmul n b) (clmul m b))
      (λ n m. ap (λ y. y ⊠ value x b) (value_add x n m) ∙ add-mul R (value x n) (value x m) (value x b))
      (λ n. ap (value x) (clmul_dbl_l n b) ∙ value_dbl x (clmul n b))
      (λ n. ap (λ y. y ⊠ value x b) (value_dbl x n) ∙ three (value x n) x (value x b))
      (ap (value x) (clmul_zero_l b) ∙ value_zero x ∙ sym (ap (λ y. y ⊠ value x b) (value_zero x) ∙ 𝟘-mul R (value x b)))
      (ap (value x) (clmul_one_l b) ∙ sym (ap (λ y. y ⊠ value x b) (value_one x) ∙ one-mul R (value x b))) a
