-- The substitution x ↦ c x in series.
--
--   sub R c p      p (c x): its k-th coefficient is c ^ k times that of p (sub_at)
--   sub_one, sub_add, sub_mul     it is a homomorphism
--   sub_unit, sub_sub     x ↦ x changes nothing, and substitutions compose
--   sub_below, sub_poly, sub_deg  it keeps bounds, and degrees over a field if c is not 0
--   sub_coprime    and what is coprime
use mathlib.Core.Path.{◌≡◌, refl, sym, ◌∙◌, fun_ext}
use mathlib.Core.Logic.{◌≢◌}
use Prim.Native.Nat.{ℕ, zero, suc}
use Rattle.algebra.proofs.Ring.{Ring, ring, one-mul, mul_assoc}
use Rattle.algebra.proofs.Power.{pow, pow_z, pow_s, one_pow, mul_pow}
use Rattle.algebra.proofs.Field.{Field, mul_ne, pow_ne}
use Rattle.algebra.proofs.Coprime.{Coprime}
use Rattle.algebra.proofs.Series.{Ser, tl, const, add_at, one_is, mul_z, mul_s, const_mul_at}
use Rattle.algebra.proofs.Poly.{Below, IsPoly, Polys, is_poly}
use Rattle.algebra.proofs.Divide.{Deg}

module _ {A : Type 0} (R : Ring A) where
  open R use {add as ◌+◌, mul as ◌*◌, 𝟘, 𝟙}

  infixl 65 ◌+◌
  infixl 70 ◌*◌
  open Ser R use {add as ◌⊕◌, mul as ◌⊗◌, 𝟙 as 1ₛ}

  infixl 65 ◌⊕◌
  infixl 70 ◌⊗◌
  pub sub : A → (ℕ → A) → ℕ → A
  sub c p k = pow R c k * p k

  pub sub_at : (c : A) (p : ℕ → A) (k : ℕ) → sub c p k ≡ pow R c k * p k
  unfolding sub
  sub_at c p k = refl

  pub sub_below : {n : ℕ} {p : ℕ → A} (c : A) → Below R n p → Below R n (sub c p)
  sub_below {n} {p} c b = record { at = λ k h. simp (sub_at, b.at k h, ring) }

  pub sub_poly : {p : ℕ → A} (c : A) → IsPoly R p → IsPoly R (sub c p)
  sub_poly c b = is_poly R (sub_below c b.below)

  pub sub_deg : (K : Field R) {n : ℕ} {p : ℕ → A} (c : A) → c ≢ 𝟘 → Deg R n p → Deg R n (sub c p)
  sub_deg K {n} {p} c h d = record {
    below = sub_below c d.below;
    top = λ e. mul_ne R K (pow R c n) (p n) (pow_ne R K c h n) d.top (sym (sub_at c p n) ∙ e);
  }

  pub sub_add : (c : A) (p q : ℕ → A) → sub c (p ⊕ q) ≡ sub c p ⊕ sub c q
  sub_add c p q = fun_ext (λ k. simp (add_at, sub_at, ring))

  pub sub_one : (c : A) → sub c 1ₛ ≡ 1ₛ
  sub_one c = rw one_is (fun_ext go)
    where
      go : (k : ℕ) → sub c (const R 𝟙) k ≡ const R 𝟙 k
      go zero = simp (sub_at, pow_z, ring)
      go (suc k) = simp (sub_at, ring)

  tl_sub : (c : A) (p : ℕ → A) → tl (sub c p) ≡ const R c ⊗ sub c (tl p)
  tl_sub c p = fun_ext (λ k. simp (const_mul_at, sub_at, pow_s, mul_assoc))

  pub sub_mul : (c : A) (p q : ℕ → A) → sub c (p ⊗ q) ≡ sub c p ⊗ sub c q
  sub_mul c p q = fun_ext (go p)
    where
      mix : (u a b t : A) → c * u * (a * b + t) ≡ 𝟙 * a * (c * u * b) + c * (u * t)
      mix u a b t = simp ring

      go : (p : ℕ → A) (k : ℕ) → sub c (p ⊗ q) k ≡ (sub c p ⊗ sub c q) k
      go p zero = simp (sub_at, mul_z, pow_z, ring)
      go p (suc k) =
          rw (
            sub_at c (p ⊗ q),
            mul_s R p,
            mul_s R (sub c p),
            tl_sub c p,
            mul_assoc (Ser R) (const R c),
            const_mul_at R c,
            ← go (tl p) k,
          )
          (simp (sub_at, pow_s, pow_z) (mix (pow R c k) (p zero) (q (suc k)) ((tl p ⊗ q) k)))

  pub sub_unit : (p : ℕ → A) → sub 𝟙 p ≡ p
  sub_unit p = fun_ext (λ k. sub_at 𝟙 p k ∙ rw one_pow (one-mul R (p k)))

  pub sub_sub : (c d : A) (p : ℕ → A) → sub c (sub d p) ≡ sub (c * d) p
  sub_sub c d p = fun_ext (λ k. simp (sub_at, mul_pow, mul_assoc))

  pub sub_coprime : {p q : ℕ → A} (c : A) → Coprime (Polys R) p q → Coprime (Polys R) (sub c p) (sub c q)
  sub_coprime {p} {q} c g = record {
    u = sub c g.u;
    v = sub c g.v;
    u_in = sub_poly c g.u_in;
    v_in = sub_poly c g.v_in;
    eq = rw (← sub_mul c g.u p, ← sub_mul c g.v q, ← sub_add c, g.eq) (sub_one c);
  }
