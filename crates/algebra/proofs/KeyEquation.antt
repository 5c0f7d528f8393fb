-- The key equation Λ S = Ω modulo x ^ L, and Euclid's rows as its solutions.
--
--   cross           two solutions of low degree are proportional
--   Solution R L a τ S Λ Ω     a coprime solution with Λ of degree at most a, and Ω below τ
--   answer          ANY two rows, one at most τ long and one longer, hold it up to a constant that is not 0
use mathlib.Core.Path.{◌≡◌, sym, ◌∙◌, ap, ap₂, subst}
use mathlib.Core.Logic.{◌≢◌}
use Prim.Native.Nat.{ℕ, suc, ◌+◌ as ◌+ℕ◌, ◌≤◌, ◌<◌}
use native.Mathlib.Omega.{arith}
use Rattle.algebra.proofs.Ring.{Ring, ring, mul_comm, mul_assoc, eq_of_add, follows}
use Rattle.algebra.proofs.Field.{Field}
use Rattle.algebra.proofs.Coprime.{Divides, Coprime, coprime_divides}
use Rattle.algebra.proofs.Series.{Ser, const}
use Rattle.algebra.proofs.Poly.{Below, Below-weaken, Below-add, Below-mul, Above, Above-add, Above-mul, below_above}
use Rattle.algebra.proofs.Poly.{IsPoly, Polys, is_poly, mono, mono_above, mono_poly, above_divides}
use Rattle.algebra.proofs.Divide.{poly_cancel, mono_ne, unit_const}
use Rattle.algebra.proofs.Rows.{Rows}

-- what `answer` knows of its series, in any ring: l e = t, r = e o, m w = l b + o, s = e w
module _ {A : Type 0} (R : Ring A) where
  open R use {add as ◌+◌, mul as ◌*◌, 𝟙}

  infixl 65 ◌+◌
  infixl 70 ◌*◌
  hidden : (m s e w l b o : A) → e * o ≡ s * m + l * e * b → m * w ≡ l * b + o → m * s ≡ m * (e * w)
  hidden m s e w l b o p q =
      let there : m * s ≡ e * (l * b + o) = follows R 𝟙 p (simp ring) in there ∙ sym (follows R e q (simp ring))

  unit : (e s₀ l w t₀ : A) → s₀ * (l * e) + e * w * t₀ ≡ 𝟙 → e * (s₀ * l + w * t₀) ≡ 𝟙
  unit e s₀ l w t₀ p = follows R 𝟙 p (simp ring)

module _ {A : Type 0} (R : Ring A) where
  open R use {𝟘, 𝟙}
  open Ser R use {add as ◌⊕◌, mul as ◌⊗◌, 𝟘 as 0ₛ, 𝟙 as 1ₛ}

  infixl 65 ◌⊕◌
  infixl 70 ◌⊗◌
  -- t r' + t' r has no coefficients below L, by the equations, nor from L on, by the degrees
  pub cross : {L a b c d : ℕ} {t r t' r' : ℕ → A} (S : ℕ → A) → Above R L (t ⊗ S ⊕ r) → Above R L (t' ⊗ S ⊕ r')
      → Below R (suc a) t → Below R b r' → a +ℕ b ≤ L → Below R (suc c) t' → Below R d r → c +ℕ d ≤ L → t ⊗ r' ≡ t' ⊗ r
  cross {L} {t = t} {r = r} {t' = t'} {r' = r'} S h h' ta rb l tc rd l' =
      eq_of_add (Ser R) _ _
      (below_above R (Below-add R (short rb ta (omega arith)) (short rd tc (omega arith)))
      (subst (Above R L) crossed (Above-add R (Above-mul R t h') (Above-mul R t' h))))
    where
      crossed : t ⊗ (t' ⊗ S ⊕ r') ⊕ t' ⊗ (t ⊗ S ⊕ r) ≡ t ⊗ r' ⊕ t' ⊗ r
      crossed = simp ring

      short : {m n : ℕ} {p q : ℕ → A} → Below R m p → Below R (suc n) q → m +ℕ n ≤ L → Below R L (q ⊗ p)
      short {p = p} {q = q} b c le = subst (Below R L) (mul_comm (Ser R) p q) (Below-weaken R le (Below-mul R b c))

  pub record Solution (L a τ : ℕ) (S Λ Ω : ℕ → A) : Type 0 where
    pub Λ-below : Below R (suc a) Λ
    pub Ω-below : Below R τ Ω
    pub fit : a +ℕ τ ≤ L
    pub Λ-ne : Λ ≢ 0ₛ
    pub coprime : Coprime (Polys R) Λ Ω
    pub eq : Above R L (Λ ⊗ S ⊕ Ω)

  -- Λ divides t₁, say t₁ = e Λ; then r₁ = e Ω and s₁ is a multiple of e, too, so e divides the determinant 1
  pub answer : (K : Field R) {L n₀ e₀ n₁ e₁ a τ : ℕ} {S r₀ t₀ r₁ t₁ Λ Ω : ℕ → A} → IsPoly R S
      → Rows R L S r₀ t₀ r₁ t₁ n₀ e₀ n₁ e₁ → n₁ ≤ τ → τ < n₀ → Solution L a τ S Λ Ω
      → (c : A) × (c ≢ 𝟘) × (t₁ ≡ const R c ⊗ Λ) × (r₁ ≡ const R c ⊗ Ω)
  answer K {L} {S = S} {t₀ = t₀} {r₁ = r₁} {t₁ = t₁} {Λ = Λ} {Ω = Ω} hS z lo hi y =
      (c.0, c.1, sym d.eq ∙ mul_comm (Ser R) Λ e ∙ ap (λ x. x ⊗ Λ) c.2, r₁_is ∙ ap (λ x. x ⊗ Ω) c.2)
    where
      has_add : {p q : ℕ → A} → IsPoly R p → IsPoly R q → IsPoly R (p ⊕ q)
      has_add = (Polys R).has_add

      has_mul : {p q : ℕ → A} → IsPoly R p → IsPoly R q → IsPoly R (p ⊗ q)
      has_mul = (Polys R).has_mul

      M : ℕ → A
      M = mono R L 𝟙

      Λ-poly : IsPoly R Λ
      Λ-poly = is_poly R y.Λ-below

      Ω-poly : IsPoly R Ω
      Ω-poly = is_poly R y.Ω-below

      r₁_poly : IsPoly R r₁
      r₁_poly = is_poly R z.r₁_below

      row : Above R L (t₁ ⊗ S ⊕ r₁)
      row =
          let back : z.s₁ ⊗ M ≡ t₁ ⊗ S ⊕ r₁ = follows (Ser R) 1ₛ z.eq₁ (simp ring) in
          subst (Above R L) back (Above-mul R z.s₁ (mono_above R L 𝟙))

      t₁Ω : t₁ ⊗ Ω ≡ Λ ⊗ r₁
      t₁Ω =
          cross S row y.eq z.t₁_below y.Ω-below (omega (arith, z.fit₁)) y.Λ-below
          (Below-weaken R lo z.r₁_below) y.fit

      d : Divides (Polys R) Λ t₁
      d =
          coprime_divides (Polys R) (is_poly R z.t₁_below) y.coprime
          (record { by = r₁; by_in = r₁_poly; eq = sym t₁Ω ∙ mul_comm (Ser R) t₁ Ω })

      e : ℕ → A
      e = d.by

      r₁_is : r₁ ≡ e ⊗ Ω
      r₁_is =
          poly_cancel R K Λ r₁ (e ⊗ Ω) Λ-poly r₁_poly (has_mul d.by_in Ω-poly) y.Λ-ne
          (sym t₁Ω ∙ ap (λ x. x ⊗ Ω) (sym d.eq) ∙ mul_assoc (Ser R) Λ e Ω)

      w : Divides (Polys R) M (Λ ⊗ S ⊕ Ω)
      w = above_divides R (has_add (has_mul Λ-poly hS) Ω-poly) y.eq

      s₁_is : z.s₁ ≡ e ⊗ w.by
      s₁_is =
          poly_cancel R K M z.s₁ (e ⊗ w.by) (mono_poly R L 𝟙) z.s₁_poly (has_mul d.by_in w.by_in)
          (mono_ne R K L)
          (hidden (Ser R) M z.s₁ e w.by Λ S Ω
          (sym r₁_is ∙ z.eq₁ ∙ ap (λ x. z.s₁ ⊗ M ⊕ x ⊗ S) (sym d.eq)) w.eq)

      c : (c : A) × (c ≢ 𝟘) × (e ≡ const R c)
      c =
          unit_const R K e (z.s₀ ⊗ Λ ⊕ w.by ⊗ t₀) d.by_in
          (has_add (has_mul z.s₀_poly Λ-poly) (has_mul w.by_in (is_poly R z.t₀_below)))
          (unit (Ser R) e z.s₀ Λ w.by t₀ (ap₂ (λ x y. z.s₀ ⊗ x ⊕ y ⊗ t₀) d.eq (sym s₁_is) ∙ z.det))
