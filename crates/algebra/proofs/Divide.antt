-- Polynomials over a field: degrees, and division with remainder.
--
--   Deg R n p         p has degree n exactly; Deg-mul, Deg-prod: degrees add up
--   degree            a polynomial is 0 or has a degree
--   short_zero        a product shorter than its first factor is 0
--   poly_no_zero_divisors, poly_cancel      a factor that is not 0 cancels
--   zero_ne_one, mono_ne      polynomials that are not 0
--   unit_degree, unit_const   a polynomial with an inverse is a constant
--   lead, lead_below  the multiple of d that takes the leading coefficient of p away
--   PolyQuotient, divide  quotient and remainder
--   divides_short     a polynomial shorter than its divisor is 0
use mathlib.Core.Path.{◌≡◌, refl, sym, ◌∙◌, ap, subst}
use mathlib.Core.Logic.{◌≢◌, ◌⊎◌, inl, inr, ◌↔◌}
use mathlib.Core.List.{List, [], ◌∷◌}
use lib.ListN.{length}
use Prim.Native.Nat.{ℕ, zero, suc, ◌+◌ as ◌+ℕ◌, ◌-◌ as ◌-ℕ◌, ◌*◌ as ◌*ℕ◌, ◌≤◌, ◌<◌}
use native.Mathlib.Omega.{arith}
use Rattle.algebra.proofs.Ring.{Ring, ring, mul-zero, zero-mul, eq_of_add, follows}
use Rattle.algebra.proofs.Field.{Field, cancel, mul_ne}
use Rattle.algebra.proofs.Lists.{prod}
use Rattle.algebra.proofs.Coprime.{Divides, has_zero}
use Rattle.algebra.proofs.Series.{Ser, const, add_at, zero_at, one_is}
use Rattle.algebra.proofs.Poly.{Below, Below-weaken, Below-drop, Below-one, Below-zero, Below-add, Below-deg, below_0}
use Rattle.algebra.proofs.Poly.{below_1}
use Rattle.algebra.proofs.Poly.{le_or_lt, mul_top, IsPoly, Polys, mono, mono_below, mono_top}

module _ {A : Type 0} (R : Ring A) where
  open R use {add as ◌+◌, mul as ◌*◌, 𝟘, 𝟙}

  infixl 65 ◌+◌
  infixl 70 ◌*◌
  open Ser R use {add as ◌⊕◌, mul as ◌⊗◌, 𝟘 as 0ₛ, 𝟙 as 1ₛ}

  infixl 65 ◌⊕◌
  infixl 70 ◌⊗◌
  pub record Deg (n : ℕ) (p : ℕ → A) : Type 0 where
    pub below : Below R (suc n) p
    pub top : p n ≢ 𝟘

  module _ (K : Field R) where
    pub Deg-mul : {n m : ℕ} {p q : ℕ → A} → Deg n p → Deg m q → Deg (n +ℕ m) (p ⊗ q)
    Deg-mul b c = record {
      below = Below-deg R b.below c.below;
      top = λ e. mul_ne R K _ _ b.top c.top (sym (mul_top R b.below c.below) ∙ e);
    }

    pub Deg-prod : {B : Type 0} (f : B → ℕ → A) {u : ℕ} → ((b : B) → Deg u (f b)) → (l : List B)
        → Deg (length l *ℕ u) (prod (Ser R) f l)
    unfolding prod
    Deg-prod f {u} h [] =
        let e : 0 ≡ 0 *ℕ u = omega arith in
        subst (λ (k : ℕ). Deg k 1ₛ) e
        (record { below = Below-one R; top = λ z. K.one_ne (ap (λ p. p zero) (sym (one_is R)) ∙ z) })
    Deg-prod f {u} h (b ∷ l) =
        let e : u +ℕ length l *ℕ u ≡ suc (length l) *ℕ u = omega arith in
        subst (λ (k : ℕ). Deg k (f b ⊗ prod (Ser R) f l)) e (Deg-mul (h b) (Deg-prod f h l))

    pub degree : (n : ℕ) (p : ℕ → A) → Below R n p → (p ≡ 0ₛ) ⊎ ((m : ℕ) × Deg m p)
    degree zero p b = inl (below_0 R b)
    degree (suc n) p b =
        elim (K.discrete (p n) 𝟘) [
          | yes e ↦ degree n p (Below-drop R b e)
          | no e ↦ inr (n, record { below = b; top = e })
        ]

    pub short_zero : {n m : ℕ} {p q : ℕ → A} → Below R (suc n) p → p n ≢ 𝟘 → Below R m q → Below R n (p ⊗ q) → q ≡ 0ₛ
    short_zero {n} {m} {p} {q} b t c d = go m c
      where
        go : (m : ℕ) → Below R m q → q ≡ 0ₛ
        go zero c = below_0 R c
        go (suc m) c =
            go m (Below-drop R c (cancel R K (p n) (q m) t (sym (mul_top R b c) ∙ d.at (n +ℕ m) (omega arith))))

    pub poly_no_zero_divisors : (p q : ℕ → A) → IsPoly R p → IsPoly R q → p ≢ 0ₛ → p ⊗ q ≡ 0ₛ → q ≡ 0ₛ
    poly_no_zero_divisors p q hp hq ne e =
        elim (degree hp.size p hp.below) [
          | inl z ↦ absurd (ne z)
          | inr d ↦ short_zero d.1.below d.1.top hq.below (rw e (Below-zero R _))
        ]

    pub poly_cancel : (p q r : ℕ → A) → IsPoly R p → IsPoly R q → IsPoly R r → p ≢ 0ₛ → p ⊗ q ≡ p ⊗ r → q ≡ r
    poly_cancel p q r hp hq hr ne e =
        eq_of_add (Ser R) q r
        (poly_no_zero_divisors p (q ⊕ r) hp ((Polys R).has_add hq hr) ne (follows (Ser R) 1ₛ e (simp ring)))

    pub zero_ne_one : 0ₛ ≢ 1ₛ
    zero_ne_one e = K.one_ne (ap (λ f. f zero) (sym (one_is R)) ∙ ap (λ f. f zero) (sym e) ∙ zero_at R zero)

    pub mono_ne : (k : ℕ) → mono R k 𝟙 ≢ 0ₛ
    mono_ne k e = K.one_ne (sym (mono_top R k 𝟙) ∙ ap (λ f. f k) e ∙ zero_at R k)

    pub unit_degree : {n m : ℕ} {p q : ℕ → A} → Below R (suc n) p → p n ≢ 𝟘 → Below R m q → p ⊗ q ≡ 1ₛ → n ≡ 0
    unit_degree {n} {m} {p} {q} b t c e = go n b t
      where
        go : (n : ℕ) → Below R (suc n) p → p n ≢ 𝟘 → n ≡ 0
        go zero b t = refl
        go (suc n) b t =
            let z : q ≡ 0ₛ = short_zero b t c (rw e (Below-weaken R (omega arith) (Below-one R))) in
            absurd (zero_ne_one (sym (mul-zero (Ser R) p) ∙ ap (λ x. p ⊗ x) (sym z) ∙ e))

    pub unit_const : (p q : ℕ → A) → IsPoly R p → IsPoly R q → p ⊗ q ≡ 1ₛ → (c : A) × (c ≢ 𝟘) × (p ≡ const R c)
    unit_const p q hp hq e =
        elim (degree hp.size p hp.below) [
          | inl z ↦ absurd (zero_ne_one (sym (zero-mul (Ser R) q) ∙ ap (λ x. x ⊗ q) (sym z) ∙ e))
          | inr d ↦ go d.0 d.1 (unit_degree d.1.below d.1.top hq.below e)
        ]
      where
        go : (m : ℕ) → Deg m p → m ≡ 0 → (c : A) × (c ≢ 𝟘) × (p ≡ const R c)
        go zero d z = (p zero, d.top, below_1 R d.below)
        go (suc m) d z = absurd (omega arith)

    -- for p of degree at most m and d of degree n
    abbrev pub lead : (m n : ℕ) (p d : ℕ → A) → ℕ → A
    lead m n p d = mono R (m -ℕ n) (p m * K.inv (d n))

    pub lead_below : {m n : ℕ} {p d : ℕ → A} → n ≤ m → Below R (suc m) p → Deg n d → Below R m (p ⊕ lead m n p d ⊗ d)
    lead_below {m} {n} {p} {d} h b g =
        Below-drop R (Below-add R b (Below-weaken R (omega arith) (Below-deg R q_below g.below)))
        (rw (add_at, top, mono_top) (strike (p m) (d n) (K.inv (d n)) (K.mul_inv (d n) g.top)))
      where
        q_below : Below R (suc (m -ℕ n)) (lead m n p d)
        q_below = mono_below R (m -ℕ n) _

        top : (lead m n p d ⊗ d) m ≡ lead m n p d (m -ℕ n) * d n
        top = let e : m ≡ m -ℕ n +ℕ n = omega arith in ap (lead m n p d ⊗ d) e ∙ mul_top R q_below g.below

        strike : (a b i : A) → b * i ≡ 𝟙 → a + a * i * b ≡ 𝟘
        strike a b i e = follows R a e (simp ring)

    -- of p, below m, by d, of degree n
    pub record PolyQuotient (m n : ℕ) (p d : ℕ → A) : Type 0 where
      pub quo : ℕ → A
      pub rem : ℕ → A
      pub quo_below : Below R (m -ℕ n) quo
      pub rem_below : Below R n rem
      pub eq : p ≡ quo ⊗ d ⊕ rem

    short : {m n : ℕ} {p d : ℕ → A} → m ≤ n → Below R m p → PolyQuotient m n p d
    short {p = p} h b = record {
      quo = 0ₛ;
      rem = p;
      quo_below = Below-zero R _;
      rem_below = Below-weaken R h b;
      eq = simp ring;
    }

    pub divide : (m n : ℕ) (p d : ℕ → A) → Below R m p → Deg n d → PolyQuotient m n p d
    divide zero n p d b g = short (omega arith) b
    divide (suc m) n p d b g =
        elim (le_or_lt (suc m) n) [
          | inl h ↦ short h b
          | inr h ↦ next h (divide m n (p ⊕ lead m n p d ⊗ d) d (lead_below (omega arith) b g) g)
        ]
      where
        next : n < suc m → PolyQuotient m n (p ⊕ lead m n p d ⊗ d) d → PolyQuotient (suc m) n p d
        next h z = record {
          quo = z.quo ⊕ lead m n p d;
          rem = z.rem;
          quo_below =
              Below-add R (Below-weaken R (omega arith) z.quo_below) (Below-weaken R (omega arith) (mono_below R (m -ℕ n) _));
          rem_below = z.rem_below;
          eq = follows (Ser R) 1ₛ z.eq (simp ring);
        }

    pub divides_short : {n : ℕ} {p q : ℕ → A} → Deg n p → Below R n q → Divides (Polys R) p q ↔ (q ≡ 0ₛ)
    divides_short {n} {p} {q} g b = (
      λ d. sym d.eq ∙ ap (λ x. p ⊗ x) (short_zero g.below g.top d.by_in.below (rw d.eq b)) ∙ mul-zero (Ser R) p,
      λ e. record { by = 0ₛ; by_in = has_zero (Polys R); eq = mul-zero (Ser R) p ∙ sym e },
    )
