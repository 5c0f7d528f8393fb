-- The extended Euclidean algorithm on x ^ L and a series S, by elementary steps.
--
--   Rows R L S r₀ t₀ r₁ t₁ n₀ e₀ n₁ e₁      two rows, r = s x ^ L + t S with s hidden, of determinant 1;
--                 each remainder r is below n, and each t has degree at most e
--   begin         the rows x ^ L and S
--   swap, lower, step      what keeps rows: exchange, a lower bound, a multiple added to the other row
--   reduce        the step that takes the leading coefficient away
--   combine       the identity behind a step: rows add up coefficient by coefficient
--   Pair R L S n₀ n₁       rows with all but their bounds hidden
--   Done R L τ S           rows of which one is at most τ long, and the other longer
--   run, key      steps lead from the beginning to there
--
-- Bounds are kept instead of degrees: no step then asks what the leading coefficients are, nor does the end.
use mathlib.Core.Path.{◌≡◌, ◌∙◌, ap₂}
use mathlib.Core.Logic.{◌≢◌, ◌⊎◌, inl, inr}
use Prim.Native.Nat.{ℕ, zero, suc, ◌+◌ as ◌+ℕ◌, ◌-◌ as ◌-ℕ◌, ◌≤◌, ◌<◌, max}
use native.Mathlib.Omega.{arith}
use Rattle.algebra.proofs.Ring.{Ring, ring, add_comm, follows}
use Rattle.algebra.proofs.Field.{Field}
use Rattle.algebra.proofs.Coprime.{has_zero}
use Rattle.algebra.proofs.Series.{Ser}
use Rattle.algebra.proofs.Poly.{Below, Below-weaken, Below-drop, Below-one, Below-zero, Below-add, Below-deg}
use Rattle.algebra.proofs.Poly.{le_or_lt, IsPoly, is_poly, Polys, mono, mono_below}
use Rattle.algebra.proofs.Divide.{lead, lead_below}

module _ {A : Type 0} (R : Ring A) where
  open R use {add as ◌+◌, mul as ◌*◌}

  infixl 65 ◌+◌
  infixl 70 ◌*◌
  pub combine : (m s s₀ t t₀ b q : A) → s₀ * m + t₀ * b + q * (s * m + t * b) ≡ (s₀ + q * s) * m + (t₀ + q * t) * b
  combine m s s₀ t t₀ b q = simp ring

module _ {A : Type 0} (R : Ring A) where
  open R use {𝟙}
  open Ser R use {add as ◌⊕◌, mul as ◌⊗◌, 𝟘 as 0ₛ, 𝟙 as 1ₛ}

  infixl 65 ◌⊕◌
  infixl 70 ◌⊗◌
  pub record Rows (L : ℕ) (S r₀ t₀ r₁ t₁ : ℕ → A) (n₀ e₀ n₁ e₁ : ℕ) : Type 0 where
    pub s₀ : ℕ → A
    pub s₁ : ℕ → A
    pub eq₀ : r₀ ≡ s₀ ⊗ mono R L 𝟙 ⊕ t₀ ⊗ S
    pub eq₁ : r₁ ≡ s₁ ⊗ mono R L 𝟙 ⊕ t₁ ⊗ S
    pub det : s₀ ⊗ t₁ ⊕ s₁ ⊗ t₀ ≡ 1ₛ
    pub r₀_below : Below R n₀ r₀
    pub r₁_below : Below R n₁ r₁
    pub t₀_below : Below R (suc e₀) t₀
    pub t₁_below : Below R (suc e₁) t₁
    pub s₀_poly : IsPoly R s₀
    pub s₁_poly : IsPoly R s₁
    pub fit₀ : e₀ +ℕ n₁ ≤ suc L
    pub fit₁ : e₁ +ℕ n₀ ≤ suc L

  pub begin : (L : ℕ) (S : ℕ → A) → Below R L S → Rows L S (mono R L 𝟙) 0ₛ S 1ₛ (suc L) 0 L 0
  begin L S b = record {
    s₀ = 1ₛ;
    s₁ = 0ₛ;
    eq₀ = simp ring;
    eq₁ = simp ring;
    det = simp ring;
    r₀_below = mono_below R L 𝟙;
    r₁_below = b;
    t₀_below = Below-zero R _;
    t₁_below = Below-one R;
    s₀_poly = (Polys R).has_one;
    s₁_poly = has_zero (Polys R);
    fit₀ = omega arith;
    fit₁ = omega arith;
  }

  module _ {L : ℕ} {S r₀ t₀ r₁ t₁ : ℕ → A} {n₀ e₀ n₁ e₁ : ℕ} where
    pub swap : Rows L S r₀ t₀ r₁ t₁ n₀ e₀ n₁ e₁ → Rows L S r₁ t₁ r₀ t₀ n₁ e₁ n₀ e₀
    swap z = record {
      s₀ = z.s₁;
      s₁ = z.s₀;
      eq₀ = z.eq₁;
      eq₁ = z.eq₀;
      det = add_comm (Ser R) _ _ ∙ z.det;
      r₀_below = z.r₁_below;
      r₁_below = z.r₀_below;
      t₀_below = z.t₁_below;
      t₁_below = z.t₀_below;
      s₀_poly = z.s₁_poly;
      s₁_poly = z.s₀_poly;
      fit₀ = z.fit₁;
      fit₁ = z.fit₀;
    }

    pub lower : {k : ℕ} → k ≤ n₀ → Below R k r₀ → Rows L S r₀ t₀ r₁ t₁ n₀ e₀ n₁ e₁ → Rows L S r₀ t₀ r₁ t₁ k e₀ n₁ e₁
    lower h b z = record {
      s₀ = z.s₀;
      s₁ = z.s₁;
      eq₀ = z.eq₀;
      eq₁ = z.eq₁;
      det = z.det;
      r₀_below = b;
      r₁_below = z.r₁_below;
      t₀_below = z.t₀_below;
      t₁_below = z.t₁_below;
      s₀_poly = z.s₀_poly;
      s₁_poly = z.s₁_poly;
      fit₀ = z.fit₀;
      fit₁ = omega (arith, z.fit₁);
    }

    -- q times the second row is added to the first, where q has degree at most k, if that does not lengthen it
    pub step : (k : ℕ) {q : ℕ → A} → Below R (suc k) q → 0 < n₁ → k +ℕ n₁ ≤ n₀ → Rows L S r₀ t₀ r₁ t₁ n₀ e₀ n₁ e₁
        → Rows L S (r₀ ⊕ q ⊗ r₁) (t₀ ⊕ q ⊗ t₁) r₁ t₁ n₀ (max e₀ (k +ℕ e₁)) n₁ e₁
    step k {q} d pos h z = record {
      s₀ = z.s₀ ⊕ q ⊗ z.s₁;
      s₁ = z.s₁;
      eq₀ = ap₂ (λ x y. x ⊕ q ⊗ y) z.eq₀ z.eq₁ ∙ combine (Ser R) (mono R L 𝟙) z.s₁ z.s₀ t₁ t₀ S q;
      eq₁ = z.eq₁;
      det = follows (Ser R) 1ₛ z.det (simp ring);
      r₀_below = Below-add R z.r₀_below (long n₁ pos h z.r₁_below);
      r₁_below = z.r₁_below;
      t₀_below =
          Below-add R (Below-weaken R (omega arith) z.t₀_below)
          (Below-weaken R (omega arith) (Below-deg R d z.t₁_below));
      t₁_below = z.t₁_below;
      s₀_poly = (Polys R).has_add z.s₀_poly ((Polys R).has_mul (is_poly R d) z.s₁_poly);
      s₁_poly = z.s₁_poly;
      fit₀ = omega (arith, z.fit₀, z.fit₁);
      fit₁ = z.fit₁;
    }
      where
        long : (m : ℕ) → 0 < m → k +ℕ m ≤ n₀ → Below R m r₁ → Below R n₀ (q ⊗ r₁)
        long zero p h b = absurd (omega arith)
        long (suc m) p h b = Below-weaken R (omega arith) (Below-deg R d b)

  pub record Pair (L : ℕ) (S : ℕ → A) (n₀ n₁ : ℕ) : Type 0 where
    pub r₀ : ℕ → A
    pub t₀ : ℕ → A
    pub r₁ : ℕ → A
    pub t₁ : ℕ → A
    pub e₀ : ℕ
    pub e₁ : ℕ
    pub rows : Rows L S r₀ t₀ r₁ t₁ n₀ e₀ n₁ e₁

  pub record Done (L τ : ℕ) (S : ℕ → A) : Type 0 where
    pub t : ℕ → A
    pub r : ℕ → A
    pub t' : ℕ → A
    pub r' : ℕ → A
    pub n' : ℕ
    pub e' : ℕ
    pub n : ℕ
    pub e : ℕ
    pub rows : Rows L S r' t' r t n' e' n e
    pub short : n ≤ τ
    pub long : τ < n'

  pair : {L n₀ e₀ n₁ e₁ : ℕ} {S r₀ t₀ r₁ t₁ : ℕ → A} → Rows L S r₀ t₀ r₁ t₁ n₀ e₀ n₁ e₁ → Pair L S n₀ n₁
  pair z = record { r₀ = _; t₀ = _; r₁ = _; t₁ = _; e₀ = _; e₁ = _; rows = z }

  flip : {L n₀ n₁ : ℕ} {S : ℕ → A} → Pair L S n₀ n₁ → Pair L S n₁ n₀
  flip p = pair (swap p.rows)

  done : {L τ n₀ n₁ : ℕ} {S : ℕ → A} → n₁ ≤ τ → τ < n₀ → Pair L S n₀ n₁ → Done L τ S
  done lo hi p = record {
    t = _;
    r = _;
    t' = _;
    r' = _;
    n' = _;
    e' = _;
    n = _;
    e = _;
    rows = p.rows;
    short = lo;
    long = hi;
  }

module _ {A : Type 0} (R : Ring A) (K : Field R) where
  open Ser R use {add as ◌⊕◌, mul as ◌⊗◌}

  infixl 65 ◌⊕◌
  infixl 70 ◌⊗◌
  pub reduce : {L k₀ e₀ k₁ e₁ : ℕ} {S r₀ t₀ r₁ t₁ : ℕ → A} → r₁ k₁ ≢ R.𝟘 → k₁ ≤ k₀
      → Rows R L S r₀ t₀ r₁ t₁ (suc k₀) e₀ (suc k₁) e₁
      → let q : ℕ → A = lead R K k₀ k₁ r₀ r₁ in
      Rows R L S (r₀ ⊕ q ⊗ r₁) (t₀ ⊕ q ⊗ t₁) r₁ t₁ k₀ (max e₀ (k₀ -ℕ k₁ +ℕ e₁)) (suc k₁) e₁
  reduce {k₀ = k₀} {k₁ = k₁} ne h z =
      lower R (omega arith) (lead_below R K h z.r₀_below (record { below = z.r₁_below; top = ne }))
      (step R (k₀ -ℕ k₁) (mono_below R (k₀ -ℕ k₁) _) (omega arith) (omega arith) z)

  -- one of two bounds falls by one
  fall : {L k₀ k₁ : ℕ} {S : ℕ → A} → Pair R L S (suc k₀) (suc k₁) → Pair R L S k₀ (suc k₁) ⊎ Pair R L S (suc k₀) k₁
  fall {L} {k₀} {k₁} {S} p = go (K.discrete (p.r₀ k₀) R.𝟘) (K.discrete (p.r₁ k₁) R.𝟘) (le_or_lt k₁ k₀)
    where
      z : Rows R L S p.r₀ p.t₀ p.r₁ p.t₁ (suc k₀) p.e₀ (suc k₁) p.e₁
      z = p.rows

      go : Dec (p.r₀ k₀ ≡ R.𝟘) → Dec (p.r₁ k₁ ≡ R.𝟘) → (k₁ ≤ k₀) ⊎ (k₀ < k₁)
          → Pair R L S k₀ (suc k₁) ⊎ Pair R L S (suc k₀) k₁
      go (yes x) y c = inl (pair R (lower R (omega arith) (Below-drop R z.r₀_below x) z))
      go (no x) (yes y) c = inr (flip R (pair R (lower R (omega arith) (Below-drop R z.r₁_below y) (swap R z))))
      go (no x) (no y) (inl c) = inl (pair R (reduce y c z))
      go (no x) (no y) (inr c) = inr (flip R (pair R (reduce x (omega arith) (swap R z))))

  pub run : {L : ℕ} (τ : ℕ) {S : ℕ → A} (fuel n₀ n₁ : ℕ) → n₀ +ℕ n₁ ≤ fuel → (τ < n₀) ⊎ (τ < n₁) → Pair R L S n₀ n₁
      → Done R L τ S
  run τ fuel zero n₁ f h p = elim h [ inl a ↦ absurd (omega arith) | inr a ↦ done R (omega arith) a (flip R p) ]
  run τ fuel (suc k₀) zero f h p = elim h [ inl a ↦ done R (omega arith) a p | inr a ↦ absurd (omega arith) ]
  run τ zero (suc k₀) (suc k₁) f h p = absurd (omega arith)
  run τ (suc k) (suc k₀) (suc k₁) f h p =
      elim (le_or_lt (suc k₀) τ) [
        | inl lo ↦ elim h [ inl a ↦ absurd (omega arith) | inr a ↦ done R lo a (flip R p) ]
        | inr hi ↦
            elim (le_or_lt (suc k₁) τ) [
              | inl lo ↦ done R lo hi p
              | inr hi' ↦
                  elim (fall p) [
                    | inl q ↦ run τ k k₀ (suc k₁) (omega arith) (inr hi') q
                    | inr q ↦ run τ k (suc k₀) k₁ (omega arith) (inl hi) q
                  ]
            ]
      ]

  pub key : (L τ : ℕ) (S : ℕ → A) → Below R L S → τ ≤ L → Done R L τ S
  key L τ S b h = run τ (suc L +ℕ L) (suc L) L (omega arith) (inl (omega arith)) (pair R (begin R L S b))
