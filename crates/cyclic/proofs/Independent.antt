-- An exact test on masks alone of whether the f(α^i x) have common factors: no mask P but 0, of less than f's degree, has f as a
-- divisor of P(x^n).
--
--   Independent n u f     that: the powers 1, x^n, x^(2n), .. x^((u-1)n) are linearly independent modulo f
--   fixed                 P(x^n) is the same at α^i x
--   apart_independent     FactorsApart gives Independent: all f(α^i x) divide P(x^n), so their product does, whose degree n u is above it
--   generated             Independent gives x as a mask of x^n, modulo f: there are 2^u masks P, and as many remainders
--   independent_apart     so it gives FactorsApart: (1 + α^i) x is a combination of f(x) and f(α^i x), and f is 1 modulo x
--   apart_binary          both
use mathlib.Core.Path.{◌≡◌, sym, ap, ap₂, ◌∙◌, subst, fun_ext}
use mathlib.Core.Logic.{◌↔◌}
use Prim.Native.Nat.{ℕ, ◌*◌ as ◌*ℕ◌, ◌/◌, ◌%◌, ◌^◌, ◌<◌}
use Rattle.algebra.proofs.Ring.{Ring, ring, one-mul, mul-zero, mul_comm, eq_of_add}
use Rattle.algebra.proofs.Power.{pow, pow_1, pow_comm, one_pow}
use Rattle.algebra.proofs.Lists.{all_of, prod}
use Rattle.algebra.proofs.Coprime.{Sub, Divides}
use Rattle.algebra.proofs.Series.{Ser, const, zero_at, one_is, const_const}
use Rattle.algebra.proofs.Poly.{IsPoly, Polys, is_poly, const_poly, mono}
use Rattle.algebra.proofs.Divide.{Deg, Deg-prod, divides_short}
use Rattle.algebra.proofs.Substitute.{sub, sub_at, sub_poly, sub_deg, sub_one, sub_add, sub_mul}
use Rattle.field.specs.Mask.{◌⊕◌ as ◌⊻◌, remainder}
use Rattle.field.proofs.Xor.{⊕-eq, ⊕-lt, ⊕-self, ⊕-split}
use Rattle.field.proofs.MaskProduct.{clmul_two, clmul_pow}
use Rattle.field.proofs.Remainder.{remainder_add, remainder_lt}
use Rattle.field.proofs.Pigeonhole.{onto}
use Rattle.field.proofs.Value.{ext}
use Rattle.cyclic.proofs.Division.{◌∣ₘ◌, divides_iff}
use Rattle.cyclic.proofs.Spread.{spread, spread_add, spread_dbl, spread_zero, spread_one, spread_lt, spread_null}
use Rattle.cyclic.proofs.Monic.{monic_deg}
use Rattle.cyclic.proofs.Lift.{lift, lift_add, lift_mul, lift_zero, lift_one, lift_pow2, lift_poly, lift_below, lift_monic, lift_null}
use Rattle.cyclic.proofs.Period.{Denominator}
use Rattle.cyclic.proofs.CyclicCode.{Code, power_ne}
use Rattle.cyclic.proofs.Apart.{FactorsApart, CoprimeAt, sub_mono, const_add, apart_iff}
use Rattle.cyclic.proofs.Errors.{Place, all, all_length, all_distinct, place_eq}
use Rattle.cyclic.proofs.Divides.{prod_divides}

abbrev pub Independent : ℕ → ℕ → ℕ → Type 0
Independent n u f = (P : ℕ) → P < 2 ^ u → f ∣ₘ spread n P → P ≡ 0

module _ {A : Type 0} (R : Ring A) where
  open R use {𝟙}
  open Ser R use {add as ◌⊕◌, mul as ◌⊗◌, 𝟘 as 0ₛ, 𝟙 as 1ₛ}

  infixl 65 ◌⊕◌
  infixl 70 ◌⊗◌
  lift_shift : (a i : ℕ) → lift R (a *ℕ 2 ^ i) ≡ lift R a ⊗ mono R i 𝟙
  lift_shift a i = ap (lift R) (sym (clmul_pow a i)) ∙ lift_mul R a (2 ^ i) ∙ ap (λ x. lift R a ⊗ x) (lift_pow2 R i)

  -- c x for x, where c^n is 1
  pub fixed : (c : A) (n : ℕ) → pow R c n ≡ 𝟙 → (P : ℕ) → sub R c (lift R (spread n P)) ≡ lift R (spread n P)
  fixed c n e =
      ext (Ser R) (λ z. z ⊗ mono R n 𝟙) (λ P. sub R c (lift R (spread n P))) (λ P. lift R (spread n P))
      (λ a b. ap (sub R c) (split a b) ∙ sub_add R c _ _) split
      (λ a. ap (sub R c) (double a) ∙ sub_mul R c _ _ ∙ ap (λ x. sub R c (lift R (spread n a)) ⊗ x) same) double
      (ap (λ (x : ℕ). sub R c (lift R x)) (spread_zero n) ∙ ap (sub R c) (lift_zero R) ∙ zero ∙ sym (ap (lift R) (spread_zero n) ∙ lift_zero R))
      (ap (λ (x : ℕ). sub R c (lift R x)) (spread_one n) ∙ ap (sub R c) (lift_one R) ∙ sub_one R c
      ∙ sym (ap (lift R) (spread_one n) ∙ lift_one R))
    where
      split : (a b : ℕ) → lift R (spread n (a ⊻ b)) ≡ lift R (spread n a) ⊕ lift R (spread n b)
      split a b = ap (lift R) (spread_add n a b) ∙ lift_add R _ _

      double : (a : ℕ) → lift R (spread n (a *ℕ 2)) ≡ lift R (spread n a) ⊗ mono R n 𝟙
      double a = ap (lift R) (spread_dbl n a) ∙ lift_shift (spread n a) n

      same : sub R c (mono R n 𝟙) ≡ mono R n 𝟙
      same = sub_mono R c n ∙ ap (λ x. const R x ⊗ mono R n 𝟙) e ∙ ap (λ x. x ⊗ mono R n 𝟙) (sym (one_is R)) ∙ one-mul (Ser R) _

      zero : sub R c 0ₛ ≡ 0ₛ
      zero = fun_ext (λ k. sub_at R c 0ₛ k ∙ ap (λ x. R.mul (pow R c k) x) (zero_at R k) ∙ mul-zero R _ ∙ sym (zero_at R k))

-- identities of any ring
module _ {A : Type 0} (R : Ring A) where
  open R use {add as ◌+◌, mul as ◌*◌, 𝟙}

  infixl 65 ◌+◌
  infixl 70 ◌*◌
  -- p + x and p + c x are multiples of f and g; k is inverse to 1 + c; f is 1 modulo x
  combination : (f g q r p x c k h : A) → p + x ≡ f * q → p + c * x ≡ g * r → k * (𝟙 + c) ≡ 𝟙 → f ≡ x * h + 𝟙
      → (𝟙 + k * h * q) * f + k * h * r * g ≡ 𝟙
  combination f g q r p x c k h e1 e2 e3 e4 =
      let a : (𝟙 + k * h * q) * f + k * h * r * g ≡ f + k * h * (f * q + g * r) = simp ring in
      let b : f + k * h * (p + x + (p + c * x)) ≡ f + k * (𝟙 + c) * (h * x) = simp ring in
      let z : x * h + 𝟙 + 𝟙 * (h * x) ≡ 𝟙 = simp ring in
      a ∙ ap₂ (λ s t. f + k * h * (s + t)) (sym e1) (sym e2) ∙ b ∙ ap₂ (λ s t. s + t * (h * x)) e4 e3 ∙ z

-- ---- the masks of x^n modulo f
module _ (n : ℕ) {u f : ℕ} (d : Denominator u f) where
  pub generated : Independent n u f → (P : ℕ) × (f ∣ₘ spread n P ⊻ 2)
  generated free = (w.0, (divides_iff u f d.degree _).1 (add _ _ ∙ ap (λ (x : ℕ). x ⊻ rem 2) w.2 ∙ ⊕-self (rem 2)))
    where
      rem : ℕ → ℕ
      rem = remainder u f

      add : (a b : ℕ) → rem (a ⊻ b) ≡ rem a ⊻ rem b
      add = remainder_add u f d.pos d.degree

      lt : (a : ℕ) → rem a < 2 ^ u
      lt = remainder_lt u f d.pos d.degree

      inj : (i j : ℕ) → i < 2 ^ u → j < 2 ^ u → rem (spread n i) ≡ rem (spread n j) → i ≡ j
      inj i j hi hj e =
          ⊕-eq
          (free (i ⊻ j) (⊕-lt u i j hi hj)
          ((divides_iff u f d.degree _).1
          (ap rem (spread_add n i j) ∙ add _ _ ∙ ap (λ (x : ℕ). x ⊻ rem (spread n j)) e ∙ ⊕-self _)))

      w : (i : ℕ) × (i < 2 ^ u) × (rem (spread n i) ≡ rem 2)
      w = onto (2 ^ u) (λ i. rem (spread n i)) (λ i h. lt (spread n i)) inj (rem 2) (lt 2)

module _ {A : Type 0} {R : Ring A} {n : ℕ} (C : Code R n) {u f : ℕ} (d : Denominator u f) where
  open R use {𝟙}
  open Ser R use {add as ◌⊕◌, mul as ◌⊗◌, 𝟘 as 0ₛ, 𝟙 as 1ₛ}

  infixl 65 ◌⊕◌
  infixl 70 ◌⊗◌
  open C use {K, α, order}

  unity : (i : ℕ) → pow R (pow R α i) n ≡ 𝟙
  unity i = pow_comm R α i n ∙ ap (λ x. pow R x i) order.one ∙ one_pow R i

  f_deg : Deg R u (lift R f)
  f_deg = monic_deg R K (lift_monic R f d.degree)

  pub apart_independent : FactorsApart C f → Independent n u f
  apart_independent a P h w =
      spread_null n order.pos P
      (lift_null R K (spread n P)
      ((divides_short R K (subst (λ (k : ℕ). Deg R (k *ℕ u) (prod (Ser R) at (all n))) (all_length n) (Deg-prod R K at at_deg (all n)))
      (lift_below R (spread_lt n u P order.pos h))).0
      (prod_divides (Polys R) at (λ i. is_poly R (at_deg i).below)
      (λ i j ne. a i.0 j.0 i.1 j.1 (λ e. ne (place_eq n i j e))) (all_distinct n) (lift_poly R (spread n P))
      (all_of (all n) (λ i m. each i)))))
    where
      at : Place n → ℕ → A
      at i = sub R (pow R α i.0) (lift R f)

      at_deg : (i : Place n) → Deg R u (at i)
      at_deg i = sub_deg R K (pow R α i.0) (power_ne C i.0) f_deg

      each : (i : Place n) → Divides (Polys R) (at i) (lift R (spread n P))
      each i = record {
        by = sub R (pow R α i.0) (lift R w.0);
        by_in = sub_poly R (pow R α i.0) (lift_poly R w.0);
        eq =
            sym (sub_mul R (pow R α i.0) (lift R f) (lift R w.0))
            ∙ ap (sub R (pow R α i.0)) (sym (lift_mul R f w.0) ∙ ap (lift R) (sym w.1))
            ∙ fixed R (pow R α i.0) n (unity i.0) P;
      }

  pub independent_apart : Independent n u f → FactorsApart C f
  independent_apart free = (apart_iff C f).1 test
    where
      P : ℕ
      P = (generated n d free).0

      w : f ∣ₘ spread n P ⊻ 2
      w = (generated n d free).1

      x : ℕ → A
      x = mono R 1 𝟙

      Q : ℕ → A
      Q = lift R (spread n P)

      whole : Q ⊕ x ≡ lift R f ⊗ lift R w.0
      whole = ap (λ y. Q ⊕ y) (sym (lift_pow2 R 1)) ∙ sym (lift_add R (spread n P) 2) ∙ ap (lift R) w.1 ∙ lift_mul R f w.0

      odd : lift R f ≡ x ⊗ lift R (f / 2) ⊕ 1ₛ
      odd =
          ap (lift R) (sym (⊕-split f)) ∙ lift_add R (f / 2 *ℕ 2) (f % 2)
          ∙ ap₂ ◌⊕◌
          (ap (lift R) (sym (clmul_two (f / 2))) ∙ lift_mul R 2 (f / 2) ∙ ap (λ y. y ⊗ lift R (f / 2)) (lift_pow2 R 1))
          (ap (lift R) d.odd ∙ lift_one R)

      test : (i : ℕ) → 0 < i → i < n → CoprimeAt C f i
      test i h l = record {
        u = 1ₛ ⊕ const R k ⊗ lift R (f / 2) ⊗ lift R w.0;
        v = const R k ⊗ lift R (f / 2) ⊗ sub R c (lift R w.0);
        u_in = S.has_add S.has_one (S.has_mul (S.has_mul (const_poly R k) (lift_poly R _)) (lift_poly R _));
        v_in = S.has_mul (S.has_mul (const_poly R k) (lift_poly R _)) (sub_poly R c (lift_poly R _));
        eq = combination (Ser R) (lift R f) (sub R c (lift R f)) _ _ Q x (const R c) (const R k) (lift R (f / 2)) whole moved inverse odd;
      }
        where
          S : Sub (Ser R) (IsPoly R)
          S = Polys R

          c : A
          c = pow R α i

          k : A
          k = K.inv (R.add 𝟙 c)

          moved : Q ⊕ const R c ⊗ x ≡ sub R c (lift R f) ⊗ sub R c (lift R w.0)
          moved =
              sym
              (ap₂ ◌⊕◌ (fixed R c n (unity i) P) (sub_mono R c 1 ∙ ap (λ y. const R y ⊗ x) (pow_1 R c)))
              ∙ sym (sub_add R c Q x) ∙ ap (sub R c) whole ∙ sub_mul R c _ _

          inverse : const R k ⊗ (1ₛ ⊕ const R c) ≡ 1ₛ
          inverse =
              ap (λ y. const R k ⊗ (y ⊕ const R c)) (one_is R) ∙ ap (λ y. const R k ⊗ y) (const_add R 𝟙 c)
              ∙ const_const R k (R.add 𝟙 c)
              ∙ ap (const R) (mul_comm R k _ ∙ K.mul_inv (R.add 𝟙 c) (λ z. order.least i h l (sym (eq_of_add R 𝟙 c z)))) ∙ sym (one_is R)

  pub apart_binary : FactorsApart C f ↔ Independent n u f
  apart_binary = (apart_independent, independent_apart)
