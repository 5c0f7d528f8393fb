-- Divisibility and coprimality in a subring: all quotients and coefficients lie in it.
--
--   Sub R P            P holds of 1, of sums and of products: has_one, has_add, has_mul; has_zero, has_prod
--   Divides S p r      r is p times an element of the subring S
--   divides_step, divides_back      a multiple of the divisor may be added to the dividend
--   Coprime S p q      1 is a combination of p and q, with coefficients from S (Bezout)
--   coprime_one, -sym, -add, -unit-mul, -mul, -prod     what is coprime to p
--   coprime_divides    p divides r where it divides q r and is coprime to q
--   coprime_both       p q divides what p and q divide, if they are coprime
--   coprime_unit       what divides something coprime to it divides 1
use mathlib.Core.Path.{◌≡◌, ◌∙◌, subst}
use mathlib.Core.List.{List, [], ◌∷◌}
use Rattle.algebra.proofs.Ring.{Ring, ring, add_comm, add_self, one-mul, follows}
use Rattle.algebra.proofs.Lists.{All, none, more, prod}

pub record Sub {A : Type 0} (R : Ring A) (P : A → Type 0) : Type 0 where
  pub has_one : P R.𝟙
  pub has_add : {a b : A} → P a → P b → P (R.add a b)
  pub has_mul : {a b : A} → P a → P b → P (R.mul a b)

module _ {A : Type 0} {R : Ring A} where
  open R use {add as ◌+◌, mul as ◌*◌, 𝟘, 𝟙}

  infixl 65 ◌+◌
  infixl 70 ◌*◌
  module _ {P : A → Type 0} (S : Sub R P) where
    open S use {has_one, has_add, has_mul}

    pub has_zero : P 𝟘
    has_zero = rw add_self at (has_add has_one has_one)

    pub has_prod : {B : Type 0} (f : B → A) → ((b : B) → P (f b)) → (l : List B) → P (prod R f l)
    unfolding prod
    has_prod f h [] = has_one
    has_prod f h (b ∷ l) = has_mul (h b) (has_prod f h l)

    pub record Divides (p r : A) : Type 0 where
      pub by : A
      pub by_in : P by
      pub eq : p * by ≡ r

    pub record Coprime (p q : A) : Type 0 where
      pub u : A
      pub v : A
      pub u_in : P u
      pub v_in : P v
      pub eq : u * p + v * q ≡ 𝟙

    pub divides_step : {p q : A} (m : A) → P m → Divides p q → Divides p (q + m * p)
    divides_step {p} {q} m hm d = record {
      by = d.by + m;
      by_in = has_add d.by_in hm;
      eq = follows R 𝟙 d.eq (simp ring);
    }

    pub divides_back : {p q : A} (m : A) → P m → Divides p (q + m * p) → Divides p q
    divides_back {p} {q} m hm d =
        let undo : q + m * p + m * p ≡ q = simp ring in subst (Divides p) undo (divides_step m hm d)

    pub coprime_one : (p : A) → Coprime p 𝟙
    coprime_one p = record { u = 𝟘; v = 𝟙; u_in = has_zero; v_in = has_one; eq = simp ring }

    pub coprime_sym : {p q : A} → Coprime p q → Coprime q p
    coprime_sym {p} {q} c = record {
      u = c.v;
      v = c.u;
      u_in = c.v_in;
      v_in = c.u_in;
      eq = add_comm R (c.v * q) (c.u * p) ∙ c.eq;
    }

    -- a multiple of p may be added to q
    pub coprime_add : {p q : A} (x : A) → P x → Coprime p q → Coprime p (q + p * x)
    coprime_add {p} {q} x hx c = record {
      u = c.u + c.v * x;
      v = c.v;
      u_in = has_add c.u_in (has_mul c.v_in hx);
      v_in = c.v_in;
      eq = follows R 𝟙 c.eq (simp ring);
    }

    -- and q be multiplied by a unit
    pub coprime_unit_mul : {p q : A} (y z : A) → P z → y * z ≡ 𝟙 → Coprime p q → Coprime p (y * q)
    coprime_unit_mul {p} {q} y z hz e c = record {
      u = c.u;
      v = c.v * z;
      u_in = c.u_in;
      v_in = has_mul c.v_in hz;
      eq =
          let s : c.u * p + c.v * z * (y * q) ≡ c.u * p + c.v * q = follows R (c.v * q) e (simp ring) in s ∙ c.eq;
    }

    -- the two combinations of 1, multiplied
    pub coprime_mul : {p q r : A} → P p → P q → P r → Coprime p q → Coprime p r → Coprime p (q * r)
    coprime_mul {p} {q} {r} hp hq hr c d =
        let u = c.u in
        let v = c.v in
        let s = d.u in
        let t = d.v in
        record {
          u = u * (s * p + t * r) + v * q * s;
          v = v * t;
          u_in =
              has_add (has_mul c.u_in (has_add (has_mul d.u_in hp) (has_mul d.v_in hr)))
              (has_mul (has_mul c.v_in hq) d.u_in);
          v_in = has_mul c.v_in d.v_in;
          eq = follows R (s * p + t * r) c.eq (simp ring) ∙ d.eq;
        }

    pub coprime_prod : {B : Type 0} (f : B → A) → ((b : B) → P (f b)) → {p : A} → P p → {l : List B}
        → All (λ b. Coprime p (f b)) l → Coprime p (prod R f l)
    unfolding prod
    coprime_prod f h {p} hp none = coprime_one p
    coprime_prod f h hp (more {b = b} {l = l} c cs) = coprime_mul hp (h b) (has_prod f h l) c (coprime_prod f h hp cs)

    pub coprime_divides : {p q r : A} → P r → Coprime p q → Divides p (q * r) → Divides p r
    coprime_divides {p} {q} {r} hr c d = record {
      by = c.u * r + c.v * d.by;
      by_in = has_add (has_mul c.u_in hr) (has_mul c.v_in d.by_in);
      eq =
          let s : p * (c.u * r + c.v * d.by) ≡ (c.u * p + c.v * q) * r = follows R c.v d.eq (simp ring) in
          s ∙ rw c.eq (one-mul R r);
    }

    pub coprime_both : {p q c : A} → Coprime p q → Divides p c → Divides q c → Divides (p * q) c
    coprime_both {p} {q} {c} g d e =
        let u = g.u in
        let v = g.v in
        let x = d.by in
        let y = e.by in
        record {
          by = u * y + v * x;
          by_in = has_add (has_mul g.u_in e.by_in) (has_mul g.v_in d.by_in);
          eq =
              let s : p * q * (u * y + v * x) ≡ u * p * (q * y) + v * q * (p * x) = simp ring in
              s ∙ rw (d.eq, e.eq) (follows R c g.eq (simp ring));
        }

    pub coprime_unit : {p q : A} → Coprime p q → Divides p q → Divides p 𝟙
    coprime_unit {p} {q} c d = record {
      by = c.u + c.v * d.by;
      by_in = has_add c.u_in (has_mul c.v_in d.by_in);
      eq =
          let s : p * (c.u + c.v * d.by) ≡ c.u * p + c.v * q = follows R c.v d.eq (simp ring) in s ∙ c.eq;
    }
