-- When f(α^i x) and f(α^j x) are coprime.
--
--   sub_mono         c x for x in x^p; const_add: sums of constants
--   FactorsApart C f        they are, for all different i and j below n: what a certificate asks of its denominator
--   apart            where f divides x^p + 1, for some p coprime to n; apart_period: such as the period
--   apart_step       and then also for the powers of α^z, with z coprime to n
--   CoprimeAt C f i, apart_iff      f(x) and f(α^i x) are; it is enough that they are for each i from 1 to n - 1
use mathlib.Core.Path.{◌≡◌, refl, sym, ap, ap₂, ◌∙◌, subst, fun_ext}
use mathlib.Core.Logic.{◌≢◌, ◌⊎◌, inl, inr, ◌↔◌}
use Prim.Native.Nat.{ℕ, zero, suc, ◌+◌ as ◌+ℕ◌, ◌-◌ as ◌-ℕ◌, ◌*◌ as ◌*ℕ◌, ◌%◌, ◌^◌, ◌≤◌, ◌<◌}
use native.Mathlib.Nat.{eq-or-lt_of_le, mod-lt}
use native.Mathlib.Decide.{dec_lt}
use native.Mathlib.Omega.{arith}
use Rattle.algebra.proofs.Ring.{Ring, ring, add-zero, mul_comm, mul-zero, eq_of_add}
use Rattle.algebra.proofs.Power.{pow, pow_z, pow-add, pow_mul, pow_mod, pow_eq}
use Rattle.algebra.proofs.Field.{Field}
use Rattle.algebra.proofs.Coprime.{Sub, Coprime, coprime_sym}
use Rattle.algebra.proofs.Series.{Ser, const, add_at, one_is, const_mul_at, const_const}
use Rattle.algebra.proofs.Poly.{IsPoly, Polys, const_poly, le_or_lt, mono, mono_below, mono_above}
use Rattle.algebra.proofs.Substitute.{sub, sub_at, sub_poly, sub_add, sub_mul, sub_one, sub_unit, sub_sub, sub_coprime}
use Rattle.field.specs.Mask.{◌⊕◌ as ◌⊻◌}
use Rattle.cyclic.proofs.Lift.{lift, lift_add, lift_mul, lift_one, lift_poly, lift_pow2}
use Rattle.cyclic.proofs.Division.{◌∣ₘ◌}
use Rattle.cyclic.proofs.NumberGcd.{NoFactor, pow_apart}
use Rattle.cyclic.proofs.Period.{Denominator, period, period_divides}
use Rattle.cyclic.proofs.CyclicCode.{Code}

module _ {A : Type 0} (R : Ring A) where
  open R use {add as ◌+◌, mul as ◌*◌, 𝟘, 𝟙}

  infixl 65 ◌+◌
  infixl 70 ◌*◌
  open Ser R use {add as ◌⊕◌, mul as ◌⊗◌, 𝟙 as 1ₛ}

  infixl 65 ◌⊕◌
  infixl 70 ◌⊗◌
  pub sub_mono : (c : A) (p : ℕ) → sub R c (mono R p 𝟙) ≡ const R (pow R c p) ⊗ mono R p 𝟙
  sub_mono c p =
      fun_ext (λ k. sub_at R c (mono R p 𝟙) k ∙ go k (le_or_lt (suc p) k) ∙ sym (const_mul_at R (pow R c p) _ k))
    where
      go : (k : ℕ) → (suc p ≤ k) ⊎ (k < suc p) → pow R c k * mono R p 𝟙 k ≡ pow R c p * mono R p 𝟙 k
      go k (inl h) = rw ((mono_below R p 𝟙).at k h, mul-zero R (pow R c k), mul-zero)
      go k (inr h) =
          elim (eq-or-lt_of_le h) [
            | inl e ↦ (let q : k ≡ p = omega arith in rw q)
            | inr l ↦ rw ((mono_above R p 𝟙).at k (omega arith), mul-zero R (pow R c k), mul-zero)
          ]

  pub const_add : (c d : A) → const R c ⊕ const R d ≡ const R (c + d)
  const_add c d = fun_ext (λ k. add_at R _ _ k ∙ go k)
    where
      go : (k : ℕ) → const R c k + const R d k ≡ const R (c + d) k
      go zero = refl
      go (suc k) = add-zero R 𝟘

  -- from f fq = x p + 1 and g gq = y p + 1, with i inverse to x + y
  combination : (i x y p f fq g gq : A) → f * fq ≡ x * p + 𝟙 → g * gq ≡ y * p + 𝟙 → i * (x + y) ≡ 𝟙
      → i * y * fq * f + i * x * gq * g ≡ 𝟙
  combination i x y p f fq g gq e1 e2 e3 =
      let a : i * y * fq * f + i * x * gq * g ≡ i * y * (f * fq) + i * x * (g * gq) = simp ring in
      let b : i * y * (x * p + 𝟙) + i * x * (y * p + 𝟙) ≡ i * (x + y) = simp ring in
      a ∙ ap₂ (λ s t. i * y * s + i * x * t) e1 e2 ∙ b ∙ e3

module _ {A : Type 0} (R : Ring A) (K : Field R) where
  open R use {add as ◌+◌, 𝟙}

  infixl 65 ◌+◌
  open Ser R use {add as ◌⊕◌, mul as ◌⊗◌, 𝟙 as 1ₛ}

  infixl 65 ◌⊕◌
  infixl 70 ◌⊗◌
  -- c^p and d^p differ
  apart_at : (f p : ℕ) → f ∣ₘ 2 ^ p ⊻ 1 → (c d : A) → pow R c p ≢ pow R d p
      → Coprime (Polys R) (sub R c (lift R f)) (sub R d (lift R f))
  apart_at f p w c d ne = record {
    u = const R i ⊗ const R y ⊗ sub R c (lift R w.0);
    v = const R i ⊗ const R x ⊗ sub R d (lift R w.0);
    u_in = P.has_mul (P.has_mul (const_poly R i) (const_poly R y)) (sub_poly R c (lift_poly R w.0));
    v_in = P.has_mul (P.has_mul (const_poly R i) (const_poly R x)) (sub_poly R d (lift_poly R w.0));
    eq = combination (Ser R) (const R i) (const R x) (const R y) (mono R p 𝟙) _ _ _ _ (at c) (at d) inverse;
  }
    where
      P : Sub (Ser R) (IsPoly R)
      P = Polys R

      x : A
      x = pow R c p

      y : A
      y = pow R d p

      i : A
      i = K.inv (x + y)

      inverse : const R i ⊗ (const R x ⊕ const R y) ≡ 1ₛ
      inverse =
          ap (λ t. const R i ⊗ t) (const_add R x y) ∙ const_const R i (x + y)
          ∙ ap (const R) (mul_comm R i (x + y) ∙ K.mul_inv (x + y) (λ z. ne (eq_of_add R x y z))) ∙ sym (one_is R)

      at : (c : A) → sub R c (lift R f) ⊗ sub R c (lift R w.0) ≡ const R (pow R c p) ⊗ mono R p 𝟙 ⊕ 1ₛ
      at c =
          sym (sub_mul R c (lift R f) (lift R w.0))
          ∙ ap (sub R c)
          (sym (lift_mul R f w.0) ∙ ap (lift R) (sym w.1) ∙ lift_add R _ _ ∙ ap₂ ◌⊕◌ (lift_pow2 R p) (lift_one R))
          ∙ sub_add R c _ _ ∙ ap₂ ◌⊕◌ (sub_mono R c p) (sub_one R c)

module _ {A : Type 0} {R : Ring A} {n : ℕ} (C : Code R n) where
  open C use {K, α, order}

  abbrev pub FactorsApart : ℕ → Type 0
  FactorsApart f = (i j : ℕ) → i < n → j < n → i ≢ j
      → Coprime (Polys R) (sub R (pow R α i) (lift R f)) (sub R (pow R α j) (lift R f))

  pub apart : (f p : ℕ) → f ∣ₘ 2 ^ p ⊻ 1 → NoFactor n p → FactorsApart f
  apart f p w co i j hi hj ne =
      apart_at R K f p w (pow R α i) (pow R α j) (λ e. ne (pow_apart R α n order p co i j hi hj e))

  pub apart_period : {u f : ℕ} → Denominator u f → NoFactor n (period u f) → FactorsApart f
  apart_period {u} {f} d co = apart f (period u f) (period_divides d) co

  pub apart_step : (f z : ℕ) → NoFactor n z → FactorsApart f → (i j : ℕ) → i < n → j < n → i ≢ j
      → Coprime (Polys R) (sub R (pow R α (i *ℕ z)) (lift R f)) (sub R (pow R α (j *ℕ z)) (lift R f))
  apart_step f z co a i j hi hj ne =
      rw (pow_mod R α n order (i *ℕ z), pow_mod R α n order (j *ℕ z))
      (a (i *ℕ z % n) (j *ℕ z % n) (mod-lt _ order.pos) (mod-lt _ order.pos)
      (λ e. ne
      (pow_apart R α n order z co i j hi hj
      (sym (pow_mul R α i z) ∙ (pow_eq R α n order (i *ℕ z) (j *ℕ z)).1 e ∙ pow_mul R α j z))))

  -- ---- by the difference of i and j
  abbrev pub CoprimeAt : ℕ → ℕ → Type 0
  CoprimeAt f i = Coprime (Polys R) (lift R f) (sub R (pow R α i) (lift R f))

  -- α^i x for x
  shift : (f i d : ℕ) → CoprimeAt f d → Coprime (Polys R) (sub R (pow R α i) (lift R f)) (sub R (pow R α (i +ℕ d)) (lift R f))
  shift f i d t =
      subst (λ p. Coprime (Polys R) (sub R (pow R α i) (lift R f)) p)
      (sub_sub R _ _ (lift R f) ∙ ap (λ x. sub R x (lift R f)) (sym (pow-add R α i d))) (sub_coprime R (pow R α i) t)

  pub apart_iff : (f : ℕ) → FactorsApart f ↔ ((i : ℕ) → 0 < i → i < n → CoprimeAt f i)
  apart_iff f = (there, back)
    where
      there : FactorsApart f → (i : ℕ) → 0 < i → i < n → CoprimeAt f i
      there a i h l =
          subst (λ p. Coprime (Polys R) p (sub R (pow R α i) (lift R f)))
          (ap (λ x. sub R x (lift R f)) (pow_z R α) ∙ sub_unit R (lift R f))
          (a 0 i order.pos l (λ e. omega arith))

      back : ((i : ℕ) → 0 < i → i < n → CoprimeAt f i) → FactorsApart f
      back t i j hi hj ne = go (dec_lt i j)
        where
          go : Dec (i < j) → Coprime (Polys R) (sub R (pow R α i) (lift R f)) (sub R (pow R α j) (lift R f))
          go (yes l) =
              let e : i +ℕ (j -ℕ i) ≡ j = omega arith in
              subst (λ (k : ℕ). Coprime (Polys R) (sub R (pow R α i) (lift R f)) (sub R (pow R α k) (lift R f))) e
              (shift f i (j -ℕ i) (t (j -ℕ i) (omega arith) (omega arith)))
          go (no l) =
              let e : j +ℕ (i -ℕ j) ≡ i = omega arith in
              coprime_sym (Polys R)
              (subst (λ (k : ℕ). Coprime (Polys R) (sub R (pow R α j) (lift R f)) (sub R (pow R α k) (lift R f))) e
              (shift f j (i -ℕ j) (t (i -ℕ j) (omega arith) (omega arith))))
