-- Alternant codes: syndromes that are the coefficients of a sum of fractions.
--
--   Alternant R I      the fraction a = h / f, and a point X i for each place i
--   factor R C i       f (X i x): factor_poly, factor_deg, factor_not_unit, factor_coprime
--   locator R C l      the product of the factors of the places l: locator_poly, locator_below, locator_ne
--   no_root            the factor of a place that is not in l does not divide it
--   syndrome R C Y l j      the j-th syndrome of the weights Y at the places l
--   series R C Y l     the sum of the Y i a (X i x), whose coefficients are the syndromes: series_at
--   numer R C Y l      its numerator over the locator, the evaluator: numer_is, numer_below, numer_poly
--   locator_coprime    locator and numerator are coprime, for distinct places and weights that are not 0
--   distance           so many places it takes, at least, for L syndromes to be 0
--   locate             ANY two rows that fit hold the locator and the evaluator of few places, by their syndromes
use mathlib.Core.Path.{◌≡◌, sym, ◌∙◌, ap, ap₂, subst}
use mathlib.Core.Logic.{◌≢◌, inl, inr}
use mathlib.Core.List.{List, [], ◌∷◌}
use lib.ListN.{length}
use Prim.Native.Nat.{ℕ, zero, suc, ◌+◌ as ◌+ℕ◌, ◌*◌ as ◌*ℕ◌, ◌≤◌, ◌<◌}
use native.Mathlib.Omega.{arith}
use Rattle.algebra.proofs.Ring.{Ring, ring, add_self, one-mul, mul_comm, mul_assoc, mul-zero, mul-add}
use Rattle.algebra.proofs.Power.{pow, pow_z}
use Rattle.algebra.proofs.Field.{Field}
use Rattle.algebra.proofs.Lists.{All, none, more, all_map, Distinct, d_nil, d_cons, prod, sum_l}
use Rattle.algebra.proofs.Coprime.{Sub, has_zero, has_prod, Divides, Coprime}
use Rattle.algebra.proofs.Coprime.{coprime_one, coprime_sym, coprime_add, coprime_unit_mul, coprime_mul, coprime_prod}
use Rattle.algebra.proofs.Coprime.{coprime_unit}
use Rattle.algebra.proofs.Series.{Ser, const, add_at, zero_at, one_is, mul_z, const_mul_at, const_const}
use Rattle.algebra.proofs.Poly.{Below, Below-weaken, Below-const, Below-one, Below-zero, Below-add, Below-deg, Above}
use Rattle.algebra.proofs.Poly.{Above-mul, below_above}
use Rattle.algebra.proofs.Poly.{le_or_lt, IsPoly, Polys, is_poly, const_poly}
use Rattle.algebra.proofs.Divide.{Deg, unit_degree}
use Rattle.algebra.proofs.Substitute.{sub, sub_at, sub_below, sub_poly, sub_deg, sub_mul, sub_coprime}
use Rattle.algebra.proofs.Rows.{Rows}
use Rattle.algebra.proofs.KeyEquation.{answer}

pub record Alternant {A : Type 0} (R : Ring A) (I : Type 0) : Type 0 where
  pub f : ℕ → A
  pub h : ℕ → A
  pub a : ℕ → A
  pub X : I → A
  pub u : ℕ
  pub v : ℕ
  pub f_deg : Deg R u f
  pub f_zero : f zero ≡ R.𝟙
  pub h_below : Below R (suc v) h
  pub v_lt : v < u
  pub fa : (Ser R).mul f a ≡ h
  pub fh : Coprime (Polys R) f h
  pub X-ne : (i : I) → X i ≢ R.𝟘
  pub apart : (i j : I) → i ≢ j → Coprime (Polys R) (sub R (X i) f) (sub R (X j) f)

-- identities of any ring
module _ {A : Type 0} (R : Ring A) where
  open R use {add as ◌+◌, mul as ◌*◌}

  infixl 65 ◌+◌
  infixl 70 ◌*◌
  one_more : (p q y b s : A) → p * q * (y * b + s) ≡ y * (p * b * q) + p * (q * s)
  one_more p q y b s = simp ring

  exchange : (f n p y b : A) → f * n + p * (y * b) ≡ y * (b * p) + f * n
  exchange f n p y b = simp ring

module _ {A : Type 0} (R : Ring A) where
  open R use {add as ◌+◌, mul as ◌*◌, 𝟘, 𝟙}

  infixl 65 ◌+◌
  infixl 70 ◌*◌
  open Ser R use {add as ◌⊕◌, mul as ◌⊗◌, 𝟘 as 0ₛ, 𝟙 as 1ₛ}

  infixl 65 ◌⊕◌
  infixl 70 ◌⊗◌
  module _ {I : Type 0} (C : Alternant R I) where
    open C use {f, h, a, X, u, v}

    abbrev pub factor : I → ℕ → A
    factor i = sub R (X i) f

    abbrev pub locator : List I → ℕ → A
    locator l = prod (Ser R) factor l

    pub factor_poly : (i : I) → IsPoly R (factor i)
    factor_poly i = sub_poly R (X i) (is_poly R C.f_deg.below)

    pub factor_coprime : {i : I} {l : List I} → All (λ j. i ≢ j) l → Coprime (Polys R) (factor i) (locator l)
    factor_coprime {i} ne = coprime_prod (Polys R) factor factor_poly (factor_poly i) (all_map (C.apart i) ne)

    pub locator_poly : (l : List I) → IsPoly R (locator l)
    locator_poly l = has_prod (Polys R) factor factor_poly l

    pub locator_below : (l : List I) → Below R (suc (length l *ℕ u)) (locator l)
    unfolding prod
    locator_below [] = Below-weaken R (omega arith) (Below-one R)
    locator_below (i ∷ l) =
        Below-weaken R (omega arith) (Below-deg R (sub_below R (X i) C.f_deg.below) (locator_below l))

    locator_zero : (l : List I) → locator l zero ≡ 𝟙
    unfolding prod
    locator_zero [] = ap (λ p. p zero) (one_is R)
    locator_zero (i ∷ l) = rw (mul_z, locator_zero l, sub_at, pow_z, C.f_zero) (simp ring)

    module _ (Y : I → A) where
      unfoldable pub syndrome : List I → ℕ → A
      syndrome l j = sum_l R (λ i. Y i * (a j * pow R (X i) j)) l

      unfoldable pub series : List I → ℕ → A
      series [] = 0ₛ
      series (i ∷ l) = const R (Y i) ⊗ sub R (X i) a ⊕ series l

      pub series_at : (l : List I) (j : ℕ) → series l j ≡ syndrome l j
      unfolding series syndrome sum_l
      series_at [] j = zero_at R j
      series_at (i ∷ l) j = rw (add_at, const_mul_at, sub_at, series_at l j, mul_comm R (pow R (X i) j))

      unfoldable pub numer : List I → ℕ → A
      numer [] = 0ₛ
      numer (i ∷ l) = const R (Y i) ⊗ (sub R (X i) h ⊗ locator l) ⊕ factor i ⊗ numer l

      pub numer_is : (l : List I) → locator l ⊗ series l ≡ numer l
      unfolding series numer prod
      numer_is [] = one-mul (Ser R) 0ₛ
      numer_is (i ∷ l) =
          one_more (Ser R) (factor i) (locator l) (const R (Y i)) (sub R (X i) a) (series l)
          ∙ rw (← sub_mul R (X i) f a, C.fa, numer_is l)

      head_below : (i : I) (l : List I)
          → Below R (suc (length l *ℕ u +ℕ v)) (const R (Y i) ⊗ (sub R (X i) h ⊗ locator l))
      head_below i l =
          Below-weaken R (omega arith)
          (Below-deg R (Below-const R (Y i)) (Below-deg R (sub_below R (X i) C.h_below) (locator_below l)))

      -- one factor less than the locator has
      pub numer_below : (i : I) (l : List I) → Below R (suc (length l *ℕ u +ℕ v)) (numer (i ∷ l))
      unfolding numer
      numer_below i [] = Below-add R (head_below i []) (rw mul-zero (Below-zero R _))
      numer_below i (j ∷ l) =
          Below-add R (head_below i (j ∷ l))
          (Below-weaken R (omega arith) (Below-deg R (sub_below R (X i) C.f_deg.below) (numer_below j l)))

      pub numer_poly : (l : List I) → IsPoly R (numer l)
      unfolding numer
      numer_poly [] = has_zero (Polys R)
      numer_poly (i ∷ l) = is_poly R (numer_below i l)

  module _ (K : Field R) {I : Type 0} (C : Alternant R I) where
    open C use {h, X, u, v}

    pub factor_deg : (i : I) → Deg R u (factor C i)
    factor_deg i = sub_deg R K (X i) (C.X-ne i) C.f_deg

    pub factor_not_unit : (i : I) → ¬ Divides (Polys R) (factor C i) 1ₛ
    factor_not_unit i d =
        let z : u ≡ 0 = unit_degree R K (factor_deg i).below (factor_deg i).top d.by_in.below d.eq in
        omega (arith, C.v_lt)

    pub locator_ne : (l : List I) → locator C l ≢ 0ₛ
    locator_ne l e = K.one_ne (sym (locator_zero C l) ∙ ap (λ p. p zero) e ∙ zero_at R zero)

    pub no_root : (i : I) (l : List I) → All (λ j. i ≢ j) l → ¬ Divides (Polys R) (factor C i) (locator C l)
    no_root i l ne d = factor_not_unit i (coprime_unit (Polys R) (factor_coprime C ne) d)

    module _ (Y : I → A) where
      pub locator_coprime : {l : List I} → Distinct l → All (λ i. Y i ≢ 𝟘) l
          → Coprime (Polys R) (locator C l) (numer C Y l)
      unfolding prod numer
      locator_coprime d_nil none = coprime_sym (Polys R) (coprime_one (Polys R) 0ₛ)
      locator_coprime (d_cons {b = i} {l = l} ne d) (more y ys) =
          coprime_sym P
          (coprime_mul P (numer_poly C Y (i ∷ l)) (factor_poly C i) (locator_poly C l) (coprime_sym P first)
          (coprime_sym P (rest (locator_coprime d ys))))
        where
          P : Sub (Ser R) (IsPoly R)
          P = Polys R

          c : ℕ → A
          c = const R (Y i)

          c_inv : c ⊗ const R (K.inv (Y i)) ≡ 1ₛ
          c_inv = const_const R _ _ ∙ ap (const R) (K.mul_inv (Y i) y) ∙ sym (one_is R)

          hi : ℕ → A
          hi = sub R (X i) h

          hi_poly : IsPoly R hi
          hi_poly = sub_poly R (X i) (is_poly R C.h_below)

          first : Coprime P (factor C i) (numer C Y (i ∷ l))
          first =
              coprime_add P (numer C Y l) (numer_poly C Y l)
              (coprime_unit_mul P c _ (const_poly R _) c_inv
              (coprime_mul P (factor_poly C i) hi_poly (locator_poly C l) (sub_coprime R (X i) C.fh) (factor_coprime C ne)))

          rest : Coprime P (locator C l) (numer C Y l) → Coprime P (locator C l) (numer C Y (i ∷ l))
          rest ih =
              subst (Coprime P (locator C l)) (exchange (Ser R) (factor C i) (numer C Y l) (locator C l) c hi)
              (coprime_add P (c ⊗ hi) (P.has_mul (const_poly R _) hi_poly)
              (coprime_mul P (locator_poly C l) (factor_poly C i) (numer_poly C Y l) (coprime_sym P (factor_coprime C ne)) ih))

      -- else the numerator were 0 by its degree, and a factor of the locator a unit
      pub distance : {l : List I} → Distinct l → All (λ i. Y i ≢ 𝟘) l → 1 ≤ length l → (L : ℕ)
          → ((j : ℕ) → j < L → syndrome C Y l j ≡ 𝟘) → L +ℕ u ≤ length l *ℕ u +ℕ v
      unfolding prod
      distance d_nil none n L s = absurd (omega arith)
      distance (d_cons {b = i} {l = l} ne d) ys n L s =
          elim (le_or_lt L (length l *ℕ u +ℕ v)) [
            | inl t ↦ omega arith
            | inr t ↦ absurd (factor_not_unit i (split (unit (zero_numer t))))
          ]
        where
          zero_numer : length l *ℕ u +ℕ v < L → numer C Y (i ∷ l) ≡ 0ₛ
          zero_numer t =
              below_above R (Below-weaken R t (numer_below C Y i l))
              (subst (Above R L) (numer_is C Y (i ∷ l))
              (Above-mul R (locator C (i ∷ l)) (record { at = λ j lt. series_at C Y (i ∷ l) j ∙ s j lt })))

          unit : numer C Y (i ∷ l) ≡ 0ₛ → Divides (Polys R) (locator C (i ∷ l)) 1ₛ
          unit e =
              coprime_unit (Polys R) (locator_coprime (d_cons ne d) ys)
              (record { by = 0ₛ; by_in = has_zero (Polys R); eq = mul-zero (Ser R) _ ∙ sym e })

          split : Divides (Polys R) (factor C i ⊗ locator C l) 1ₛ → Divides (Polys R) (factor C i) 1ₛ
          split q = record {
            by = locator C l ⊗ q.by;
            by_in = (Polys R).has_mul (locator_poly C l) q.by_in;
            eq = sym (mul_assoc (Ser R) _ _ _) ∙ q.eq;
          }

      pub locate : {l : List I} → Distinct l → All (λ i. Y i ≢ 𝟘) l → {L τ : ℕ} {S : ℕ → A} → Below R L S
          → ((j : ℕ) → j < L → S j ≡ syndrome C Y l j) → (0 < length l → length l *ℕ u +ℕ v < τ +ℕ u) → length l *ℕ u +ℕ τ ≤ L
          → {n₀ e₀ n₁ e₁ : ℕ} {r₀ t₀ r₁ t₁ : ℕ → A} → Rows R L S r₀ t₀ r₁ t₁ n₀ e₀ n₁ e₁ → n₁ ≤ τ → τ < n₀
          → (c : A) × (c ≢ 𝟘) × (t₁ ≡ const R c ⊗ locator C l) × (r₁ ≡ const R c ⊗ numer C Y l)
      unfolding numer
      locate {l} d ys {L} {τ} {S} b s few fit z lo hi =
          answer R K (is_poly R b) z lo hi
          (record {
            Λ-below = locator_below C l;
            Ω-below = short l few;
            fit = fit;
            Λ-ne = locator_ne l;
            coprime = locator_coprime d ys;
            eq = key;
          })
        where
          short : (l : List I) → (0 < length l → length l *ℕ u +ℕ v < τ +ℕ u) → Below R τ (numer C Y l)
          short [] k = Below-zero R _
          short (i ∷ l) k =
              let g : suc (length l) *ℕ u +ℕ v < τ +ℕ u = k (omega arith) in
              Below-weaken R (omega arith) (numer_below C Y i l)

          agree : Above R L (S ⊕ series C Y l)
          agree = record { at = λ j lt. add_at R S _ j ∙ ap₂ ◌+◌ (s j lt) (series_at C Y l j) ∙ add_self R _ }

          key : Above R L (locator C l ⊗ S ⊕ numer C Y l)
          key =
              subst (Above R L)
              (mul-add (Ser R) (locator C l) S (series C Y l) ∙ ap (λ x. locator C l ⊗ S ⊕ x) (numer_is C Y l))
              (Above-mul R (locator C l) agree)
