-- Power series over a ring: functions from ℕ to its elements.
--
--   Ser R          the ring of series over R; its product is that of streams, p q = p₀ q + x (tl p) q
--   tl p           p without its first coefficient, moved down by one place
--   const R c      the constant c: const_mul_at, const_const
--   add_at, zero_at, one_is, mul_z, mul_s     the coefficients of sums and products
--   tl_mul         tl of a product
--   zero_mul_at    a factor without coefficients
--   mul_sum        a coefficient of a product as a finite sum
use mathlib.Core.Path.{◌≡◌, refl, sym, ◌∙◌, ap, fun_ext}
use mathlib.Core.HLevel.{Π_set}
use Prim.Native.Nat.{ℕ, zero, suc, ◌-◌}
use native.Mathlib.Nat.{suc-sub-suc, sub-zero}
use Rattle.algebra.proofs.Ring.{Ring, ring, zero-add, add_left_comm, zero-mul, mul-zero}
use Rattle.algebra.proofs.Sum.{sum, sum_z, sum_s, sum_head, sum_ext}

abbrev pub tl : {A : Type 0} → (ℕ → A) → ℕ → A
tl p k = p (suc k)

module _ {A : Type 0} (R : Ring A) where
  open R use {add as ◌+◌, mul as ◌*◌, 𝟘, 𝟙}

  infixl 65 ◌+◌
  infixl 70 ◌*◌
  abbrev pub const : A → ℕ → A
  const c zero = c
  const c (suc k) = 𝟘

  abbrev plus : (ℕ → A) → (ℕ → A) → ℕ → A
  plus p q k = p k + q k

  abbrev scale : A → (ℕ → A) → ℕ → A
  scale c p k = c * p k

  conv : (ℕ → A) → (ℕ → A) → ℕ → A
  conv p q zero = p zero * q zero
  conv p q (suc k) = p zero * q (suc k) + conv (tl p) q k

  conv_z : (p q : ℕ → A) → conv p q zero ≡ p zero * q zero
  unfolding conv
  conv_z p q = refl

  conv_s : (p q : ℕ → A) (k : ℕ) → conv p q (suc k) ≡ p zero * q (suc k) + conv (tl p) q k
  unfolding conv
  conv_s p q k = refl

  conv_zero : (q : ℕ → A) (k : ℕ) → conv (λ i. 𝟘) q k ≡ 𝟘
  conv_zero q zero = simp (conv_z, ring)
  conv_zero q (suc k) = simp (conv_s, ring, conv_zero q k)

  conv_const : (c : A) (q : ℕ → A) (k : ℕ) → conv (const c) q k ≡ c * q k
  conv_const c q zero = simp conv_z
  conv_const c q (suc k) = conv_s (const c) q k ∙ ap (λ x. c * q (suc k) + x) (conv_zero q k) ∙ simp ring

  conv_add : (p q r : ℕ → A) (k : ℕ) → conv (plus p q) r k ≡ conv p r k + conv q r k
  conv_add p q r zero = simp (conv_z, ring)
  conv_add p q r (suc k) = simp (conv_s, ring, conv_add (tl p) (tl q) r k)

  conv_scale : (c : A) (p q : ℕ → A) (k : ℕ) → conv (scale c p) q k ≡ c * conv p q k
  conv_scale c p q zero = simp (conv_z, ring)
  conv_scale c p q (suc k) = simp (conv_s, ring, conv_scale c (tl p) q k)

  tl_conv : (p q : ℕ → A) → tl (conv p q) ≡ plus (scale (p zero) (tl q)) (conv (tl p) q)
  tl_conv p q = fun_ext (conv_s p q)

  conv_assoc : (p q r : ℕ → A) (k : ℕ) → conv (conv p q) r k ≡ conv p (conv q r) k
  conv_assoc p q r zero = simp (conv_z, ring)
  conv_assoc p q r (suc k) =
      rw (conv_s (conv p q), tl_conv p q)
      (simp (
        conv_z,
        conv_s,
        conv_add (scale (p zero) (tl q)) (conv (tl p) q) r k,
        conv_scale (p zero) (tl q) r k,
        conv_assoc (tl p) q r k,
        ring,
      ))

  -- the same step from the other side
  conv_suc : (p q : ℕ → A) (k : ℕ) → conv p q (suc k) ≡ q zero * p (suc k) + conv p (tl q) k
  conv_suc p q zero =
      rw (conv_s p q zero, conv_z (tl p) q, conv_z p (tl q)) (swap (p zero) (q (suc zero)) (p (suc zero)) (q zero))
    where
      swap : (a b c d : A) → a * b + c * d ≡ d * c + a * b
      swap a b c d = simp ring
  conv_suc p q (suc k) = rw (conv_s p q (suc k), conv_suc (tl p) q k, conv_s p (tl q) k) (add_left_comm R _ _ _)

  conv_comm : (p q : ℕ → A) (k : ℕ) → conv p q k ≡ conv q p k
  conv_comm p q zero = simp (conv_z, ring)
  conv_comm p q (suc k) = rw (conv_s p q, conv_suc q p, conv_comm (tl p) q k)

  pub Ser : Ring (ℕ → A)
  Ser = record {
    is_set = Π_set (λ k. R.is_set);
    add = plus;
    mul = conv;
    𝟘 = λ k. 𝟘;
    𝟙 = const 𝟙;
    law_add_assoc = λ p q r. fun_ext (λ k. simp ring);
    law_add_comm = λ p q. fun_ext (λ k. simp ring);
    law_add_zero = λ p. fun_ext (λ k. simp ring);
    law_add_self = λ p. fun_ext (λ k. simp ring);
    law_mul_assoc = λ p q r. fun_ext (conv_assoc p q r);
    law_mul_comm = λ p q. fun_ext (conv_comm p q);
    law_mul_one = λ p. fun_ext (λ k. conv_comm p (const 𝟙) k ∙ conv_const 𝟙 p k ∙ simp ring);
    law_mul_add =
        λ p q r. fun_ext (λ k. conv_comm p (plus q r) k ∙ conv_add q r p k ∙ simp (conv_comm q p k, conv_comm r p k));
  }

  open Ser use {add as ◌⊕◌, mul as ◌⊗◌, 𝟘 as 0ₛ, 𝟙 as 1ₛ}

  infixl 65 ◌⊕◌
  infixl 70 ◌⊗◌
  pub add_at : (p q : ℕ → A) (k : ℕ) → (p ⊕ q) k ≡ p k + q k
  unfolding Ser
  add_at p q k = refl

  pub zero_at : (k : ℕ) → 0ₛ k ≡ 𝟘
  unfolding Ser
  zero_at k = refl

  pub one_is : 1ₛ ≡ const 𝟙
  unfolding Ser
  one_is = refl

  pub mul_z : (p q : ℕ → A) → (p ⊗ q) zero ≡ p zero * q zero
  unfolding Ser
  mul_z p q = conv_z p q

  pub mul_s : (p q : ℕ → A) (k : ℕ) → (p ⊗ q) (suc k) ≡ p zero * q (suc k) + (tl p ⊗ q) k
  unfolding Ser
  mul_s p q k = conv_s p q k

  pub const_mul_at : (c : A) (q : ℕ → A) (k : ℕ) → (const c ⊗ q) k ≡ c * q k
  unfolding Ser
  const_mul_at c q k = conv_const c q k

  pub const_const : (c d : A) → const c ⊗ const d ≡ const (c * d)
  const_const c d = fun_ext (λ k. const_mul_at c (const d) k ∙ go k)
    where
      go : (k : ℕ) → c * const d k ≡ const (c * d) k
      go zero = refl
      go (suc k) = mul-zero R c

  pub tl_mul : (p q : ℕ → A) → tl (p ⊗ q) ≡ const (p zero) ⊗ tl q ⊕ tl p ⊗ q
  tl_mul p q = fun_ext (λ k. rw (add_at, const_mul_at (p zero) (tl q)) (mul_s p q k))

  pub zero_mul_at : (p q : ℕ → A) → ((k : ℕ) → p k ≡ 𝟘) → (k : ℕ) → (p ⊗ q) k ≡ 𝟘
  zero_mul_at p q h k = let e : p ≡ 0ₛ = fun_ext (λ i. rw zero_at (h i)) in rw (e, zero-mul) (zero_at k)

  pub mul_sum : (p q : ℕ → A) (k : ℕ) → (p ⊗ q) k ≡ sum R (suc k) (λ i. p i * q (k - i))
  mul_sum p q zero = rw (sum_s, sum_z, zero-add) (mul_z p q)
  mul_sum p q (suc k) =
      rw (sum_head R (suc k), mul_s, mul_sum (tl p) q k, sub-zero)
      (ap (λ x. p zero * q (suc k) + x)
      (sum_ext R (suc k) _ _ (λ i l. ap (λ x. p (suc i) * q x) (sym (suc-sub-suc k i)))))
