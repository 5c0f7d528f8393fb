-- Common factors of polynomials over a field, by Euclid.
--
--   CommonFactor R p q      some polynomial of degree 1 or more divides both p and q
--   PolyGcd R p q           a common divisor that is a combination of both
--   poly_gcd                there is one: Euclid's algorithm
--   coprime_none            coprime polynomials have no common factor
--   coprime_or              two polynomials, the first not 0, are coprime or have a common factor
--   no_common_iff           so `coprime` (Bezout) and `no common factor` are the same
use mathlib.Core.Path.{◌≡◌, sym, ap, ap₂, ◌∙◌, subst}
use mathlib.Core.Logic.{◌≢◌, ◌⊎◌, inl, inr, ◌↔◌}
use Prim.Native.Nat.{ℕ, zero, suc, ◌≤◌}
use native.Mathlib.Omega.{arith}
use Rattle.algebra.proofs.Ring.{Ring, ring, zero-mul, mul-zero, mul-one, mul_comm, follows}
use Rattle.algebra.proofs.Field.{Field}
use Rattle.algebra.proofs.Coprime.{Divides, Coprime, has_zero}
use Rattle.algebra.proofs.Series.{Ser, const, one_is, const_const}
use Rattle.algebra.proofs.Poly.{Below, Below-weaken, below_0, below_1, IsPoly, Polys, is_poly, const_poly, le_or_lt}
use Rattle.algebra.proofs.Divide.{Deg, degree, divide, unit_degree}

module _ {A : Type 0} (R : Ring A) where
  open R use {𝟘, 𝟙}
  open Ser R use {add as ◌⊕◌, mul as ◌⊗◌, 𝟘 as 0ₛ, 𝟙 as 1ₛ}

  infixl 65 ◌⊕◌
  infixl 70 ◌⊗◌
  pub record CommonFactor (p q : ℕ → A) : Type 0 where
    pub factor : ℕ → A
    pub deg : ℕ
    pub factor_deg : Deg R (suc deg) factor
    pub left : Divides (Polys R) factor p
    pub right : Divides (Polys R) factor q

  pub record PolyGcd (p q : ℕ → A) : Type 0 where
    pub g : ℕ → A
    pub u : ℕ → A
    pub v : ℕ → A
    pub g_in : IsPoly R g
    pub u_in : IsPoly R u
    pub v_in : IsPoly R v
    pub eq : u ⊗ p ⊕ v ⊗ q ≡ g
    pub left : Divides (Polys R) g p
    pub right : Divides (Polys R) g q

  poly_gcd_zero : {p : ℕ → A} → IsPoly R p → PolyGcd p 0ₛ
  poly_gcd_zero {p} h = record {
    g = p;
    u = 1ₛ;
    v = 0ₛ;
    g_in = h;
    u_in = (Polys R).has_one;
    v_in = has_zero (Polys R);
    eq = simp ring;
    left = record { by = 1ₛ; by_in = (Polys R).has_one; eq = mul-one (Ser R) p };
    right = record { by = 0ₛ; by_in = has_zero (Polys R); eq = mul-zero (Ser R) p };
  }

  -- p = w q + r
  poly_gcd_next : {p q w r : ℕ → A} → IsPoly R w → p ≡ w ⊗ q ⊕ r → PolyGcd q r → PolyGcd p q
  poly_gcd_next {p} {q} {w} {r} hw e z =
      let u = z.u in
      let v = z.v in
      record {
        g = z.g;
        u = v;
        v = u ⊕ v ⊗ w;
        g_in = z.g_in;
        u_in = z.v_in;
        v_in = (Polys R).has_add z.u_in ((Polys R).has_mul z.v_in hw);
        eq =
            let s : v ⊗ p ⊕ (u ⊕ v ⊗ w) ⊗ q ≡ u ⊗ q ⊕ v ⊗ r = follows (Ser R) v e (simp ring) in s ∙ z.eq;
        left = record {
          by = w ⊗ z.left.by ⊕ z.right.by;
          by_in = (Polys R).has_add ((Polys R).has_mul hw z.left.by_in) z.right.by_in;
          eq =
              let s : z.g ⊗ (w ⊗ z.left.by ⊕ z.right.by) ≡ w ⊗ (z.g ⊗ z.left.by) ⊕ z.g ⊗ z.right.by = simp ring in
              s ∙ ap₂ (λ x y. w ⊗ x ⊕ y) z.left.eq z.right.eq ∙ sym e;
        };
        right = z.left;
      }

  module _ (K : Field R) where
    pub poly_gcd : (m : ℕ) {p q : ℕ → A} → IsPoly R p → Below R m q → PolyGcd p q
    poly_gcd zero {p} {q} h b = subst (PolyGcd p) (sym (below_0 R b)) (poly_gcd_zero h)
    poly_gcd (suc m) {p} {q} h b = go (degree R K (suc m) q b) (λ r c. poly_gcd m {p = q} {q = r} (is_poly R b) c)
      where
        go : (q ≡ 0ₛ) ⊎ ((k : ℕ) × Deg R k q) → ((r : ℕ → A) → Below R m r → PolyGcd q r) → PolyGcd p q
        go (inl e) ih = subst (PolyGcd p) (sym e) (poly_gcd_zero h)
        go (inr d) ih =
            let w = divide R K h.size d.0 p q h.below d.1 in
            poly_gcd_next (is_poly R w.quo_below) w.eq (ih w.rem (Below-weaken R (short d.0 d.1) w.rem_below))
          where
            -- the degree is within the bound
            short : (k : ℕ) → Deg R k q → k ≤ m
            short k g = elim (le_or_lt k m) [ inl l ↦ l | inr l ↦ absurd (g.top (b.at k l)) ]

    pub coprime_none : {p q : ℕ → A} → Coprime (Polys R) p q → ¬ CommonFactor p q
    coprime_none {p} {q} c f =
        let d : Divides (Polys R) f.factor 1ₛ = record {
          by = c.u ⊗ f.left.by ⊕ c.v ⊗ f.right.by;
          by_in =
              (Polys R).has_add ((Polys R).has_mul c.u_in f.left.by_in) ((Polys R).has_mul c.v_in f.right.by_in);
          eq = pull f.factor c.u c.v f.left.by f.right.by f.left.eq f.right.eq ∙ c.eq;
        } in
        let z : suc f.deg ≡ 0 = unit_degree R K f.factor_deg.below f.factor_deg.top d.by_in.below d.eq in
        absurd (omega arith)
      where
        pull : (f u v x y : ℕ → A) {p q : ℕ → A} → f ⊗ x ≡ p → f ⊗ y ≡ q → f ⊗ (u ⊗ x ⊕ v ⊗ y) ≡ u ⊗ p ⊕ v ⊗ q
        pull f u v x y a b =
            let s : f ⊗ (u ⊗ x ⊕ v ⊗ y) ≡ u ⊗ (f ⊗ x) ⊕ v ⊗ (f ⊗ y) = simp ring in
            s ∙ ap₂ (λ a b. u ⊗ a ⊕ v ⊗ b) a b

    -- a gcd of degree 0 is a unit, and p is not 0
    pub coprime_or : {p q : ℕ → A} → IsPoly R p → IsPoly R q → p ≢ 0ₛ → Coprime (Polys R) p q ⊎ CommonFactor p q
    coprime_or {p} {q} hp hq ne = go (degree R K z.g_in.size z.g z.g_in.below)
      where
        z : PolyGcd p q
        z = poly_gcd hq.size hp hq.below

        unit : Deg R zero z.g → Coprime (Polys R) p q
        unit d =
            let c : A = z.g zero in
            let i : A = K.inv c in
            record {
              u = const R i ⊗ z.u;
              v = const R i ⊗ z.v;
              u_in = (Polys R).has_mul (const_poly R i) z.u_in;
              v_in = (Polys R).has_mul (const_poly R i) z.v_in;
              eq =
                  let s : const R i ⊗ z.u ⊗ p ⊕ const R i ⊗ z.v ⊗ q ≡ const R i ⊗ (z.u ⊗ p ⊕ z.v ⊗ q) = simp ring in
                  s ∙ ap (λ x. const R i ⊗ x) (z.eq ∙ below_1 R d.below) ∙ const_const R i c
                  ∙ ap (const R) (mul_comm R i c ∙ K.mul_inv c d.top) ∙ sym (one_is R);
            }

        go : (z.g ≡ 0ₛ) ⊎ ((k : ℕ) × Deg R k z.g) → Coprime (Polys R) p q ⊎ CommonFactor p q
        go (inl e) = absurd (ne (sym z.left.eq ∙ ap (λ x. x ⊗ z.left.by) e ∙ zero-mul (Ser R) _))
        go (inr d) = split d.0 d.1
          where
            split : (k : ℕ) → Deg R k z.g → Coprime (Polys R) p q ⊎ CommonFactor p q
            split zero d = inl (unit d)
            split (suc k) d = inr (record { factor = z.g; deg = k; factor_deg = d; left = z.left; right = z.right })

    pub no_common_iff : {p q : ℕ → A} → IsPoly R p → IsPoly R q → p ≢ 0ₛ → Coprime (Polys R) p q ↔ (¬ CommonFactor p q)
    no_common_iff hp hq ne = (
      coprime_none,
      λ h. elim (coprime_or hp hq ne) [ inl c ↦ c | inr f ↦ absurd (h f) ],
    )
