-- Horner's rule for a mask over any additive map: the one induction that products and remainders come from.
--
--   horner D a e     the sum of D^i e over the i where a has a 1
--   horner_0, horner_1, horner_step, horner_dbl      at 0, at 1, by the lowest coefficient, at x a
--   horner_add, horner_vec       additive in the mask, and in e
--   lin_ext          additive maps that take doubling to E and agree at 1 are equal
--   horner_map       an additive map that takes D to E takes horner D to horner E
use mathlib.Core.Path.{◌≡◌, refl, sym, ap, ap₂, ◌∙◌}
use Prim.Native.Nat.{ℕ, zero, suc, ◌*◌, ◌/◌, ◌%◌, ◌≤◌}
use native.Mathlib.Nat.{not-suc-le-zero, le_refl}
use native.Mathlib.Decide.{le_ind}
use lib.Arith.{bin_ind, half_le}
use Rattle.field.specs.Mask.{◌⊕◌}
use Rattle.field.proofs.Xor.{digit, digit_lt, ⊕-zero-l, ⊕-zero-r, ⊕-half, ⊕-odd, ⊕-split, ⊕-swap4, Add, add_0, dbl_half}
use Rattle.field.proofs.Xor.{dbl_odd, sel, sel_xor}

-- the first argument bounds the digits to go
horner_in : (ℕ → ℕ) → ℕ → ℕ → ℕ → ℕ
horner_in D zero a e = zero
horner_in D (suc n) zero e = zero
horner_in D (suc n) (suc a) e = D (horner_in D n (suc a / 2) e) ⊕ sel (suc a % 2) e

pub horner : (ℕ → ℕ) → ℕ → ℕ → ℕ
horner D a e = horner_in D a a e

more : (D : ℕ → ℕ) (e n a : ℕ) → a ≤ n → horner_in D (suc n) a e ≡ horner_in D n a e
unfolding horner_in
more D e zero zero h = refl
more D e zero (suc a) h = absurd (not-suc-le-zero h)
more D e (suc n) zero h = refl
more D e (suc n) (suc a) h = ap (λ (x : ℕ). D x ⊕ sel (suc a % 2) e) (more D e n (suc a / 2) (half_le h))

enough : (D : ℕ → ℕ) (e n a : ℕ) → a ≤ n → horner_in D n a e ≡ horner_in D a a e
enough D e n a h = le_ind (λ (m : ℕ). horner_in D m a e ≡ horner_in D a a e) refl (λ m k p. more D e m a k ∙ p) n h

-- two maps that are additive, take doubling to E and agree at 1 are equal
pub lin_ext : (E f g : ℕ → ℕ) → Add f → Add g → ((a : ℕ) → f (a * 2) ≡ E (f a)) → ((a : ℕ) → g (a * 2) ≡ E (g a)) → f 1 ≡ g 1
    → (a : ℕ) → f a ≡ g a
lin_ext E f g fa ga fd gd h1 =
    bin_ind (λ a. f a ≡ g a) (add_0 f fa ∙ sym (add_0 g ga))
    (λ a ih. ap f (sym (⊕-split a)) ∙ fa (a / 2 * 2) (a % 2)
    ∙ ap₂ ◌⊕◌ (fd (a / 2) ∙ ap E ih ∙ sym (gd (a / 2)))
    (digit (λ x. f x ≡ g x) (add_0 f fa ∙ sym (add_0 g ga)) h1 (a % 2) (digit_lt a))
    ∙ sym (ga (a / 2 * 2) (a % 2)) ∙ ap g (⊕-split a))

pub horner_0 : (D : ℕ → ℕ) (e : ℕ) → horner D 0 e ≡ 0
unfolding horner horner_in
horner_0 D e = refl

module _ (D : ℕ → ℕ) (add : Add D) where
  pub horner_step : (a e : ℕ) → horner D a e ≡ D (horner D (a / 2) e) ⊕ sel (a % 2) e
  unfolding horner horner_in
  horner_step zero e = sym (⊕-zero-r (D 0) ∙ add_0 D add)
  horner_step (suc a) e = ap (λ (x : ℕ). D x ⊕ sel (suc a % 2) e) (enough D e a (suc a / 2) (half_le (le_refl (suc a))))

  pub horner_add : (e : ℕ) → Add (λ a. horner D a e)
  horner_add e =
      bin_ind (λ a. (b : ℕ) → horner D (a ⊕ b) e ≡ horner D a e ⊕ horner D b e)
      (λ b. ap (λ (x : ℕ). horner D x e) (⊕-zero-l b)
      ∙ sym (ap (λ (x : ℕ). x ⊕ horner D b e) (horner_0 D e) ∙ ⊕-zero-l (horner D b e)))
      (λ a ih b. horner_step (a ⊕ b) e
      ∙ ap₂ (λ (x y : ℕ). D x ⊕ y) (ap (λ (x : ℕ). horner D x e) (⊕-half a b) ∙ ih (b / 2))
      (ap (λ (x : ℕ). sel x e) (⊕-odd a b) ∙ sel_xor e (a % 2) (digit_lt a) (b % 2) (digit_lt b))
      ∙ ap (λ (x : ℕ). x ⊕ (sel (a % 2) e ⊕ sel (b % 2) e)) (add (horner D (a / 2) e) (horner D (b / 2) e))
      ∙ ⊕-swap4 (D (horner D (a / 2) e)) (D (horner D (b / 2) e)) (sel (a % 2) e) (sel (b % 2) e)
      ∙ sym (ap₂ ◌⊕◌ (horner_step a e) (horner_step b e)))

  pub horner_dbl : (a e : ℕ) → horner D (a * 2) e ≡ D (horner D a e)
  horner_dbl a e =
      horner_step (a * 2) e ∙ ap₂ (λ (x y : ℕ). D (horner D x e) ⊕ sel y e) (dbl_half a) (dbl_odd a) ∙ ⊕-zero-r (D (horner D a e))

  pub horner_1 : (e : ℕ) → horner D 1 e ≡ e
  horner_1 e = horner_step 1 e ∙ ap (λ (x : ℕ). D x ⊕ e) (horner_0 D e) ∙ ap (λ (x : ℕ). x ⊕ e) (add_0 D add) ∙ ⊕-zero-l e

-- a map between two such: the one law that associativity, and remainders of products, come from
pub horner_map : (D E : ℕ → ℕ) → Add D → Add E → (f : ℕ → ℕ) → Add f → ((a : ℕ) → f (D a) ≡ E (f a)) → (a e : ℕ)
    → f (horner D a e) ≡ horner E a (f e)
horner_map D E da ea f fa h a e =
    lin_ext E (λ x. f (horner D x e)) (λ x. horner E x (f e))
    (λ x y. ap f (horner_add D da e x y) ∙ fa (horner D x e) (horner D y e)) (horner_add E ea (f e))
    (λ x. ap f (horner_dbl D da x e) ∙ h (horner D x e)) (λ x. horner_dbl E ea x (f e))
    (ap f (horner_1 D da e) ∙ sym (horner_1 E ea (f e))) a

-- in the vector
pub horner_vec : (D : ℕ → ℕ) → Add D → (a : ℕ) → Add (horner D a)
horner_vec D da a x y =
    lin_ext D (λ n. horner D n (x ⊕ y)) (λ n. horner D n x ⊕ horner D n y) (horner_add D da (x ⊕ y))
    (λ n m. ap₂ ◌⊕◌ (horner_add D da x n m) (horner_add D da y n m)
    ∙ ⊕-swap4 (horner D n x) (horner D m x) (horner D n y) (horner D m y))
    (λ n. horner_dbl D da n (x ⊕ y))
    (λ n. ap₂ ◌⊕◌ (horner_dbl D da n x) (horner_dbl D da n y) ∙ sym (da (horner D n x) (horner D n y)))
    (horner_1 D da (x ⊕ y) ∙ sym (ap₂ ◌⊕◌ (horner_1 D da x) (horner_1 D da y))) a
