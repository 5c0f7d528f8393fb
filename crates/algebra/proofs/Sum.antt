-- Finite sums.
--
--   sum R n f      the sum of f i over i < n: sum_z, sum_s, and sum_head with the first term apart
--   sum_ext        equal terms, equal sums
--   sum_zero       terms that are all 0
--   sum_one        all terms but one are 0
--   sum_add, sum_scale      sums of sums, and of multiples
use mathlib.Core.Path.{◌≡◌, refl, ◌∙◌, ap}
use mathlib.Core.Logic.{◌≢◌, inl, inr}
use Prim.Native.Nat.{ℕ, zero, suc, ◌<◌}
use native.Mathlib.Nat.{eq-or-lt_of_le}
use native.Mathlib.Omega.{arith}
use Rattle.algebra.proofs.Ring.{Ring, ring, add-zero, zero-add, add_assoc}

module _ {A : Type 0} (R : Ring A) where
  open R use {add as ◌+◌, mul as ◌*◌, 𝟘}

  infixl 65 ◌+◌
  infixl 70 ◌*◌
  pub sum : ℕ → (ℕ → A) → A
  sum zero f = 𝟘
  sum (suc n) f = sum n f + f n

  pub sum_z : (f : ℕ → A) → sum zero f ≡ 𝟘
  unfolding sum
  sum_z f = refl

  pub sum_s : (n : ℕ) (f : ℕ → A) → sum (suc n) f ≡ sum n f + f n
  unfolding sum
  sum_s n f = refl

  pub sum_head : (n : ℕ) (f : ℕ → A) → sum (suc n) f ≡ f zero + sum n (λ i. f (suc i))
  sum_head zero f = simp (sum_z, sum_s zero f, ring)
  sum_head (suc n) f = rw (sum_s (suc n) f, sum_head n f, sum_s n (λ i. f (suc i))) (add_assoc R _ _ _)

  pub sum_ext : (n : ℕ) (f g : ℕ → A) → ((i : ℕ) → i < n → f i ≡ g i) → sum n f ≡ sum n g
  sum_ext zero f g h = simp sum_z
  sum_ext (suc n) f g h = simp (sum_s, sum_ext n f g (λ i l. h i (omega arith)), h n (omega arith))

  pub sum_zero : (n : ℕ) (f : ℕ → A) → ((i : ℕ) → i < n → f i ≡ 𝟘) → sum n f ≡ 𝟘
  sum_zero zero f h = sum_z f
  sum_zero (suc n) f h = simp (sum_s, sum_zero n f (λ i l. h i (omega arith)), h n (omega arith), ring)

  pub sum_one : (n k : ℕ) (f : ℕ → A) → k < n → ((i : ℕ) → i < n → i ≢ k → f i ≡ 𝟘) → sum n f ≡ f k
  sum_one zero k f l h = absurd (omega arith)
  sum_one (suc n) k f l h =
      elim (eq-or-lt_of_le l) [
        | inl e ↦
            (let last : n ≡ k = omega arith in
            sum_s n f ∙ rw (sum_zero n f (λ i m. h i (omega arith) (λ x. omega arith)), zero-add) (ap f last))
        | inr m ↦
            sum_s n f
            ∙ rw (h n (omega arith) (λ x. omega arith), sum_one n k f (omega arith) (λ i b. h i (omega arith)))
            (add-zero R _)
      ]

  pub sum_add : (n : ℕ) (f g : ℕ → A) → sum n (λ i. f i + g i) ≡ sum n f + sum n g
  sum_add zero f g = simp (sum_z, ring)
  sum_add (suc n) f g = simp sum_s (rw (sum_add n f g) (regroup (sum n f) (sum n g) (f n) (g n)))
    where
      regroup : (a b c d : A) → a + b + (c + d) ≡ a + c + (b + d)
      regroup a b c d = simp ring

  pub sum_scale : (n : ℕ) (c : A) (f : ℕ → A) → sum n (λ i. c * f i) ≡ c * sum n f
  sum_scale zero c f = simp (sum_z, ring)
  sum_scale (suc n) c f = simp (sum_s, sum_scale n c f, ring)
