-- When a polynomial is a multiple of f(X x), for a mask f: by the remainders of the powers of x.
--
--   reduced R f u p n     p_0 + p_1 r_1 + .. of the first n terms, where r_k is the remainder of x^k by f: reduced_at
--   divides_reduced       f divides p exactly where that is 0
--   divides_substituted   f(X x) divides p exactly where f divides p(Y x), for X Y = 1
use mathlib.Core.Path.{◌≡◌, sym, ap, ◌∙◌, subst, fun_ext}
use mathlib.Core.Logic.{◌≢◌, inl, inr, ◌↔◌}
use Prim.Native.Nat.{ℕ, zero, suc, ◌/◌, ◌^◌, ◌<◌}
use native.Mathlib.Decide.{dec_lt}
use native.Mathlib.Omega.{arith}
use Rattle.algebra.proofs.Ring.{Ring, ring, add_comm, mul_comm, mul-one, mul-zero, one-mul}
use Rattle.algebra.proofs.Field.{Field}
use Rattle.algebra.proofs.Power.{pow, mul_pow, one_pow}
use Rattle.algebra.proofs.Sum.{sum, sum_z, sum_s, sum_ext, sum_zero, sum_one, sum_add, sum_scale}
use Rattle.algebra.proofs.Series.{Ser, const, add_at, zero_at, const_mul_at}
use Rattle.algebra.proofs.Coprime.{Divides, has_zero, divides_step, divides_back}
use Rattle.algebra.proofs.Poly.{Below, IsPoly, Polys, const_poly, le_or_lt, below_above, mono, mono_top, mono_below, mono_above}
use Rattle.algebra.proofs.Divide.{divides_short}
use Rattle.algebra.proofs.Substitute.{sub, sub_at, sub_mul, sub_poly}
use Rattle.field.specs.Mask.{remainder}
use Rattle.field.proofs.Remainder.{quotient, remainder_lt}
use Rattle.cyclic.proofs.Lift.{lift, lift_add, lift_mul, lift_below, lift_poly, lift_monic, lift_pow2}
use Rattle.cyclic.proofs.Monic.{monic_deg}

-- identities of any ring
module _ {A : Type 0} (R : Ring A) where
  open R use {add as ◌+◌, mul as ◌*◌, 𝟙}

  infixl 65 ◌+◌
  infixl 70 ◌*◌
  divided : (c f q r : A) → c * (f * q + r) ≡ f * (c * q) + c * r
  divided c f q r = simp ring

  cancelled : (x y p : A) → x * y ≡ 𝟙 → y * (x * p) ≡ p
  cancelled x y p e = let i : y * (x * p) ≡ x * y * p = simp ring in i ∙ ap (λ z. z * p) e ∙ one-mul R p

module _ {A : Type 0} (R : Ring A) where
  open R use {add as ◌+◌, mul as ◌*◌, 𝟘, 𝟙}

  infixl 65 ◌+◌
  infixl 70 ◌*◌
  open Ser R use {add as ◌⊕◌, mul as ◌⊗◌}

  infixl 65 ◌⊕◌
  infixl 70 ◌⊗◌
  -- ---- sums of series
  sum_at : (n : ℕ) (F : ℕ → ℕ → A) (i : ℕ) → sum (Ser R) n F i ≡ sum R n (λ k. F k i)
  sum_at zero F i = ap (λ z. z i) (sum_z (Ser R) F) ∙ zero_at R i ∙ sym (sum_z R _)
  sum_at (suc n) F i =
      ap (λ z. z i) (sum_s (Ser R) n F) ∙ add_at R _ _ i ∙ ap (λ z. z + F n i) (sum_at n F i) ∙ sym (sum_s R n _)

  sum_poly : (n : ℕ) (F : ℕ → ℕ → A) → ((k : ℕ) → IsPoly R (F k)) → IsPoly R (sum (Ser R) n F)
  sum_poly zero F h = subst (IsPoly R) (sym (sum_z (Ser R) F)) (has_zero (Polys R))
  sum_poly (suc n) F h = subst (IsPoly R) (sym (sum_s (Ser R) n F)) ((Polys R).has_add (sum_poly n F h) (h n))

  -- a polynomial by its terms
  by_terms : {n : ℕ} {p : ℕ → A} → Below R n p → sum (Ser R) n (λ k. const R (p k) ⊗ lift R (2 ^ k)) ≡ p
  by_terms {n} {p} b = fun_ext (λ i.
      sum_at n _ i
      ∙ sum_ext R n _ (λ k. p k * mono R k 𝟙 i)
      (λ k h. const_mul_at R (p k) (lift R (2 ^ k)) i ∙ ap (λ z. p k * z i) (lift_pow2 R k))
      ∙ go i (dec_lt i n))
    where
      off : (i k : ℕ) → i ≢ k → p k * mono R k 𝟙 i ≡ 𝟘
      off i k h =
          ap (λ z. p k * z)
          (elim (le_or_lt k i) [
            | inl l ↦ (mono_below R k 𝟙).at i (omega arith)
            | inr l ↦ (mono_above R k 𝟙).at i l
          ])
          ∙ mul-zero R (p k)

      go : (i : ℕ) → Dec (i < n) → sum R n (λ k. p k * mono R k 𝟙 i) ≡ p i
      go i (yes h) =
          sum_one R n i _ h (λ k l q. off i k (λ e. q (sym e))) ∙ ap (λ z. p i * z) (mono_top R i 𝟙) ∙ mul-one R (p i)
      go i (no h) = sum_zero R n _ (λ k l. off i k (λ e. omega arith)) ∙ sym (b.at i (omega arith))

  -- ---- remainders
  module _ (f u : ℕ) (pos : 0 < u) (deg : f / 2 ^ u ≡ 1) where
    pub reduced : (ℕ → A) → ℕ → ℕ → A
    reduced p n = sum (Ser R) n (λ k. const R (p k) ⊗ lift R (remainder u f (2 ^ k)))

    quotients : (ℕ → A) → ℕ → ℕ → A
    quotients p n = sum (Ser R) n (λ k. const R (p k) ⊗ lift R (quotient u f pos deg (2 ^ k)).0)

    pub reduced_at : (p : ℕ → A) (n j : ℕ) → reduced p n j ≡ sum R n (λ k. p k * lift R (remainder u f (2 ^ k)) j)
    unfolding reduced
    reduced_at p n j = sum_at n _ j ∙ sum_ext R n _ _ (λ k h. const_mul_at R (p k) _ j)

    reduced_below : (p : ℕ → A) (n : ℕ) → Below R u (reduced p n)
    reduced_below p n = record {
      at = λ j h. reduced_at p n j
          ∙ sum_zero R n _
          (λ k l. ap (λ z. p k * z) ((lift_below R (remainder_lt u f pos deg (2 ^ k))).at j h) ∙ mul-zero R (p k));
    }

    split : {n : ℕ} {p : ℕ → A} → Below R n p → p ≡ reduced p n ⊕ quotients p n ⊗ lift R f
    unfolding reduced quotients
    split {n} {p} b =
        sym (by_terms b)
        ∙ sum_ext (Ser R) n _ (λ k. lift R f ⊗ q k ⊕ r k)
        (λ k h. ap (λ z. const R (p k) ⊗ z)
        (ap (lift R) (quotient u f pos deg (2 ^ k)).1 ∙ lift_add R _ _
        ∙ ap (λ z. z ⊕ lift R (remainder u f (2 ^ k))) (lift_mul R _ _))
        ∙ divided (Ser R) _ _ _ _)
        ∙ sum_add (Ser R) n _ _
        ∙ ap (λ z. z ⊕ sum (Ser R) n r) (sum_scale (Ser R) n (lift R f) _ ∙ mul_comm (Ser R) _ _)
        ∙ add_comm (Ser R) _ _
      where
        q : ℕ → ℕ → A
        q k = const R (p k) ⊗ lift R (quotient u f pos deg (2 ^ k)).0

        r : ℕ → ℕ → A
        r k = const R (p k) ⊗ lift R (remainder u f (2 ^ k))

    pub divides_reduced : Field R → {n : ℕ} {p : ℕ → A} → Below R n p
        → Divides (Polys R) (lift R f) p ↔ ((j : ℕ) → j < u → reduced p n j ≡ 𝟘)
    unfolding quotients
    divides_reduced K {n} {p} b = (
      λ d j h. ap (λ z. z j)
          (short.0 (divides_back (Polys R) (quotients p n) poly (subst (Divides (Polys R) (lift R f)) (split b) d)))
          ∙ zero_at R j,
      λ z. subst (Divides (Polys R) (lift R f)) (sym (split b))
          (divides_step (Polys R) (quotients p n) poly
          (short.1 (below_above R (reduced_below p n) (record { at = z })))),
    )
      where
        poly : IsPoly R (quotients p n)
        poly = sum_poly n _ (λ k. (Polys R).has_mul (const_poly R _) (lift_poly R _))

        short : Divides (Polys R) (lift R f) (reduced p n) ↔ (reduced p n ≡ (Ser R).𝟘)
        short = divides_short R K (monic_deg R K (lift_monic R f deg)) (reduced_below p n)

  -- ---- x ↦ Y x on both sides
  sub_back : (X Y : A) → X * Y ≡ 𝟙 → (p : ℕ → A) → sub R Y (sub R X p) ≡ p
  sub_back X Y e p = fun_ext (λ k.
      sub_at R Y _ k ∙ ap (λ z. pow R Y k * z) (sub_at R X p k)
      ∙ cancelled R (pow R X k) (pow R Y k) (p k) (sym (mul_pow R X Y k) ∙ ap (λ z. pow R z k) e ∙ one_pow R k))

  pub divides_substituted : (X Y : A) → X * Y ≡ 𝟙 → (f p : ℕ → A)
      → Divides (Polys R) (sub R X f) p ↔ Divides (Polys R) f (sub R Y p)
  divides_substituted X Y e f p = (
    λ d. record {
      by = sub R Y d.by;
      by_in = sub_poly R Y d.by_in;
      eq = ap (λ z. z ⊗ sub R Y d.by) (sym (sub_back X Y e f)) ∙ sym (sub_mul R Y _ _) ∙ ap (sub R Y) d.eq;
    },
    λ d. record {
      by = sub R X d.by;
      by_in = sub_poly R X d.by_in;
      eq = sym (sub_mul R X f d.by) ∙ ap (sub R X) d.eq ∙ sub_back Y X (mul_comm R Y X ∙ e) p;
    },
  )
