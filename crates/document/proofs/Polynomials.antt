-- Polynomials on plain numbers as polynomials over the field.
--
--   over d p           the polynomial with the coefficients p, over the field of the degree that d vouches for
--   Elements s p       every coefficient is an element
--   coefficient_lt, coefficient_above, coefficient_below      a number below 2^(s m) writes a polynomial of at most m coefficients
--   number_of          the number that writes a polynomial of at most m coefficients
--   coefficients_zero  only 0 writes 0
--   product_is, product_lt      the product is that of the field
--   quotient_below, divisor_below     quotient and divisor are no longer than the dividend
--   divides_sound, divides_complete      `divides_over` says what Divides does
--   common_sound, common_complete        `common_over` says what CommonFactor does
use mathlib.Core.Path.{◌≡◌, sym, ap, ap₂, ◌∙◌, subst, fun_ext}
use mathlib.Core.Logic.{◌≢◌, ◌⊎◌, inl, inr}
use mathlib.Core.Bool.{true, ◌&&◌}
use Prim.Native.Nat.{ℕ, zero, suc, ◌+◌, ◌-◌, ◌*◌, ◌/◌, ◌%◌, ◌^◌, ◌≤◌, ◌<◌}
use native.Mathlib.Nat.{mod-lt, div-one, mul-zero as mul_zeroℕ, mul-suc, div-div-eq-div-mul, mul_comm as mul_commℕ}
use native.Mathlib.Nat.{div-eq_of_lt, zero-mod, div-lt_iff_lt-mul, mod-add-div, add-mul-div_right, add-mul-mod_self_right}
use native.Mathlib.Nat.{zero-add, lt_of_lt_of_le, mod-eq_of_lt, mul-le-mul_left, mul-le-mul_right, lt_of_le_of_lt, div-le_self, mul-one}
use native.Mathlib.Decide.{dec_lt}
use native.Mathlib.Omega.{arith}
use lib.Dec.{eqb}
use lib.Pow.{pow_pos, pow_mono, pow-add as pow_addℕ}
use borrow.Author.Tests.{eqb-true, eq-eqb}
use Rattle.algebra.proofs.Ring.{Ring, mul-zero}
use Rattle.algebra.proofs.Field.{Field}
use Rattle.algebra.proofs.Sum.{sum, sum_z, sum_s}
use Rattle.algebra.proofs.Coprime.{Divides}
use Rattle.algebra.proofs.Series.{Ser, zero_at, mul_sum}
use Rattle.algebra.proofs.Poly.{Below, Below-weaken, Below-zero, Below-mul, IsPoly, Polys, is_poly, le_or_lt}
use Rattle.algebra.proofs.Divide.{Deg, Deg-mul, degree}
use Rattle.field.specs.Search.{up_to, some}
use Rattle.field.proofs.Search.{and_both, some_at, some_of, every_at, every_of}
use Rattle.field.specs.Field.{Degree, field_multiply}
use Rattle.field.proofs.Xor.{⊕-lt}
use Rattle.field.proofs.Remainder.{lt_of_high}
use Rattle.field.proofs.Elements.{F, GF, is_field, el, el_zero, el_null, el_add, el_mul, el_of, el_inj}
use Rattle.field.proofs.Numbers.{multiply_lt}
use Rattle.document.specs.Apart.{polynomial, field_sum, product_at, divides_over, common_over}
use Rattle.algebra.proofs.CommonFactor.{CommonFactor}

-- ---- numbers in base 2^s
module _ (s : ℕ) where
  abbrev pub Elements : (ℕ → ℕ) → Type 0
  Elements p = (k : ℕ) → p k < 2 ^ s

  pub coefficient_lt : (N : ℕ) → Elements (polynomial s N)
  unfolding polynomial
  coefficient_lt N k = mod-lt _ (pow_pos s)

  coefficient_z : (N : ℕ) → polynomial s N 0 ≡ N % 2 ^ s
  unfolding polynomial
  coefficient_z N = ap (λ (x : ℕ). N / 2 ^ x % 2 ^ s) (mul_zeroℕ s) ∙ ap (λ (x : ℕ). x % 2 ^ s) (div-one N)

  coefficient_s : (N i : ℕ) → polynomial s N (suc i) ≡ polynomial s (N / 2 ^ s) i
  unfolding polynomial
  coefficient_s N i =
      ap (λ (x : ℕ). N / x % 2 ^ s)
      (ap (λ (x : ℕ). 2 ^ x) (mul-suc s i) ∙ pow_addℕ 2 (s * i) s ∙ mul_commℕ (2 ^ (s * i)) (2 ^ s))
      ∙ ap (λ (x : ℕ). x % 2 ^ s) (sym (div-div-eq-div-mul N (2 ^ s) (2 ^ (s * i))))

  size_suc : (m : ℕ) → 2 ^ (s * suc m) ≡ 2 ^ (s * m) * 2 ^ s
  size_suc m = ap (λ (x : ℕ). 2 ^ x) (mul-suc s m) ∙ pow_addℕ 2 (s * m) s

  half_lt : (m N : ℕ) → N < 2 ^ (s * suc m) → N / 2 ^ s < 2 ^ (s * m)
  half_lt m N h = (div-lt_iff_lt-mul (pow_pos s)).1 (subst (λ (x : ℕ). N < x) (size_suc m) h)

  pub coefficient_above : (m N : ℕ) → N < 2 ^ (s * m) → (i : ℕ) → m ≤ i → polynomial s N i ≡ 0
  unfolding polynomial
  coefficient_above m N h i l =
      ap (λ (x : ℕ). x % 2 ^ s) (div-eq_of_lt (lt_of_lt_of_le h (pow_mono (times l)))) ∙ zero-mod (2 ^ s)
    where
      times : m ≤ i → s * m ≤ s * i
      times l = mul-le-mul_left s l

  pub coefficients_zero : (m N : ℕ) → N < 2 ^ (s * m) → ((i : ℕ) → polynomial s N i ≡ 0) → N ≡ 0
  coefficients_zero zero N h e =
      let k : N < 2 ^ 0 = subst (λ (x : ℕ). N < 2 ^ x) (mul_zeroℕ s) h in
      omega arith
  coefficients_zero (suc m) N h e =
      let low : N % 2 ^ s ≡ 0 = sym (coefficient_z N) ∙ e 0 in
      let high : N / 2 ^ s ≡ 0 = coefficients_zero m (N / 2 ^ s) (half_lt m N h) (λ i. sym (coefficient_s N i) ∙ e (suc i)) in
      sym (mod-add-div N (2 ^ s)) ∙ ap₂ (λ (x y : ℕ). x + 2 ^ s * y) low high ∙ zero-add (2 ^ s * 0) ∙ mul_zeroℕ (2 ^ s)

  -- the number with the coefficients p
  number : (m : ℕ) → (ℕ → ℕ) → ℕ
  number zero p = 0
  number (suc m) p = p 0 + number m (λ i. p (suc i)) * 2 ^ s

  number_lt : (m : ℕ) (p : ℕ → ℕ) → Elements p → number m p < 2 ^ (s * m)
  unfolding number
  number_lt zero p h = subst (λ (x : ℕ). 0 < 2 ^ x) (sym (mul_zeroℕ s)) (omega arith)
  number_lt (suc m) p h =
      let G : ℕ = number m (λ i. p (suc i)) in
      let less : G < 2 ^ (s * m) = number_lt m (λ i. p (suc i)) (λ i. h (suc i)) in
      let room : suc G * 2 ^ s ≤ 2 ^ (s * m) * 2 ^ s = mul-le-mul_right (2 ^ s) less in
      let first : p 0 < 2 ^ s = h 0 in
      subst (λ (x : ℕ). p 0 + G * 2 ^ s < x) (sym (size_suc m)) (omega arith)

  number_at : (m : ℕ) (p : ℕ → ℕ) → Elements p → (i : ℕ) → i < m → polynomial s (number m p) i ≡ p i
  unfolding number
  number_at zero p h i l = absurd (omega arith)
  number_at (suc m) p h zero l =
      coefficient_z _ ∙ add-mul-mod_self_right (p 0) (number m (λ i. p (suc i))) (2 ^ s) ∙ mod-eq_of_lt (h 0)
  number_at (suc m) p h (suc i) l =
      coefficient_s _ i
      ∙ ap (λ (x : ℕ). polynomial s x i)
      (add-mul-div_right (p 0) (number m (λ i. p (suc i))) (pow_pos s)
      ∙ ap (λ (x : ℕ). x + number m (λ i. p (suc i))) (div-eq_of_lt (h 0)) ∙ zero-add _)
      ∙ number_at m (λ i. p (suc i)) (λ i. h (suc i)) i (omega arith)

  sum_lt : (n : ℕ) (term : ℕ → ℕ) → Elements term → field_sum n term < 2 ^ s
  unfolding field_sum
  sum_lt zero term h = pow_pos s
  sum_lt (suc n) term h = ⊕-lt s _ _ (sum_lt n term h) (h n)

-- ---- over the field
module _ {A : Type 0} {R : Ring A} (K : Field R) where
  open Ser R use {mul as ◌⊗◌, 𝟘 as 0ₛ}

  infixl 70 ◌⊗◌
  -- degrees add up
  pub quotient_below : {a m : ℕ} {p q : ℕ → A} → Deg R a p → IsPoly R q → Below R m (p ⊗ q) → Below R m q
  quotient_below {a} {m} {p} {q} d h b = go (degree R K h.size q h.below)
    where
      go : (q ≡ 0ₛ) ⊎ ((k : ℕ) × Deg R k q) → Below R m q
      go (inl e) = subst (Below R m) (sym e) (Below-zero R m)
      go (inr e) =
          elim (le_or_lt m (a + e.0)) [
            | inl l ↦ absurd ((Deg-mul R K d e.1).top (b.at (a + e.0) l))
            | inr l ↦ Below-weaken R (omega arith) e.1.below
          ]

  pub divisor_below : {a m : ℕ} {p q : ℕ → A} → Deg R a p → IsPoly R q → p ⊗ q ≢ 0ₛ → Below R m (p ⊗ q) → Below R m p
  divisor_below {a} {m} {p} {q} d h ne b = go (degree R K h.size q h.below)
    where
      go : (q ≡ 0ₛ) ⊎ ((k : ℕ) × Deg R k q) → Below R m p
      go (inl e) = absurd (ne (ap (λ x. p ⊗ x) e ∙ mul-zero (Ser R) p))
      go (inr e) =
          elim (le_or_lt m (a + e.0)) [
            | inl l ↦ absurd ((Deg-mul R K d e.1).top (b.at (a + e.0) l))
            | inr l ↦ Below-weaken R (omega arith) d.below
          ]

module _ {s : ℕ} (d : Degree s) where
  open GF d use {𝟘}
  open Ser (GF d) use {mul as ◌⊗◌, 𝟘 as 0ₛ}

  infixl 70 ◌⊗◌
  abbrev pub over : (ℕ → ℕ) → ℕ → F s
  over p k = el d (p k)

  sum_is : (n : ℕ) (term : ℕ → ℕ) → el d (field_sum n term) ≡ sum (GF d) n (over term)
  unfolding field_sum
  sum_is zero term = el_zero d ∙ sym (sum_z (GF d) _)
  sum_is (suc n) term = el_add d _ _ ∙ ap (λ x. (GF d).add x (el d (term n))) (sum_is n term) ∙ sym (sum_s (GF d) n _)

  pub product_is : (p q : ℕ → ℕ) (k : ℕ) → el d (product_at s p q k) ≡ (over p ⊗ over q) k
  unfolding product_at
  product_is p q k =
      sum_is (suc k) (λ i. field_multiply s (p i) (q (k - i)))
      ∙ ap (sum (GF d) (suc k)) (fun_ext (λ i. el_mul d (p i) (q (k - i)))) ∙ sym (mul_sum (GF d) (over p) (over q) k)

  pub product_lt : (p q : ℕ → ℕ) → Elements s (product_at s p q)
  unfolding product_at
  product_lt p q k = sum_lt s (suc k) _ (λ i. multiply_lt d (p i) (q (k - i)))

  pub coefficient_below : (m N : ℕ) → N < 2 ^ (s * m) → Below (GF d) m (over (polynomial s N))
  coefficient_below m N h = record { at = λ k l. ap (el d) (coefficient_above s m N h k l) ∙ el_zero d }

  pub number_of : (m : ℕ) (p : ℕ → F s) → Below (GF d) m p → (N : ℕ) × (N < 2 ^ (s * m)) × (over (polynomial s N) ≡ p)
  number_of m p b = (N, number_lt s m coefficients (λ i. (p i).1), fun_ext (λ k. go k (le_or_lt m k)))
    where
      coefficients : ℕ → ℕ
      coefficients i = (p i).0

      N : ℕ
      N = number s m coefficients

      go : (k : ℕ) → (m ≤ k) ⊎ (k < m) → el d (polynomial s N k) ≡ p k
      go k (inl l) = (coefficient_below m N (number_lt s m coefficients (λ i. (p i).1))).at k l ∙ sym (b.at k l)
      go k (inr l) = ap (el d) (number_at s m coefficients (λ i. (p i).1) k l) ∙ el_of d (p k)

  -- ---- divisibility
  module _ {m : ℕ} (c p : ℕ → ℕ) (small : Elements s p) (short : Below (GF d) m (over p)) where
    pub divides_sound : Below (GF d) m (over c) → divides_over s m c p ≡ true → Divides (Polys (GF d)) (over c) (over p)
    unfolding divides_over
    divides_sound b e =
        let w = some_at _ _ e in
        let q : IsPoly (GF d) (over (polynomial s w.0)) = is_poly (GF d) (coefficient_below m w.0 w.1) in
        record { by = over (polynomial s w.0); by_in = q; eq = fun_ext (λ k. go w.0 w.1 (every_at _ (m + m) w.2) k (le_or_lt (m + m) k)) }
      where
        go : (N : ℕ) → N < 2 ^ (s * m) → ((k : ℕ) → k < m + m → eqb (product_at s c (polynomial s N) k) (p k) ≡ true)
            → (k : ℕ) → (m + m ≤ k) ⊎ (k < m + m) → (over c ⊗ over (polynomial s N)) k ≡ over p k
        go N h t k (inl l) =
            (Below-mul (GF d) b (Below-weaken (GF d) {n = m} {m = suc m} (omega arith) (coefficient_below m N h))).at k l
            ∙ sym (short.at k (omega arith))
        go N h t k (inr l) = sym (product_is c (polynomial s N) k) ∙ ap (el d) (eqb-true (product_at s c (polynomial s N) k) (p k) (t k l))

    pub divides_complete : {a : ℕ} → Deg (GF d) a (over c) → Divides (Polys (GF d)) (over c) (over p) → divides_over s m c p ≡ true
    unfolding divides_over
    divides_complete g w =
        let short' : Below (GF d) m (over c ⊗ w.by) = subst (Below (GF d) m) (sym w.eq) short in
        let n = number_of m w.by (quotient_below (is_field d) g w.by_in short') in
        some_of _ (2 ^ (s * m)) n.0 n.1
        (every_of _ (m + m) (λ k l. eq-eqb (product_at s c (polynomial s n.0) k) (p k)
        (el_inj d (product_lt c (polynomial s n.0) k) (small k)
        (product_is c (polynomial s n.0) k ∙ ap (λ x. (over c ⊗ x) k) n.2 ∙ ap (λ x. x k) w.eq))))

  -- ---- common factors
  module _ {m : ℕ} (p q : ℕ → ℕ) (p_small : Elements s p) (q_small : Elements s q) (p_short : Below (GF d) m (over p))
      (q_short : Below (GF d) m (over q)) (p_ne : over p ≢ 0ₛ) where
    zero_of : (N i : ℕ) → over (polynomial s N) i ≡ 𝟘 → polynomial s N i ≡ 0
    zero_of N i e = el_null d (coefficient_lt s N i) e

    -- a number from 2^s on writes a polynomial of degree 1 or more
    positive : (N : ℕ) → N < 2 ^ (s * m) → 2 ^ s ≤ N → (k : ℕ) × Deg (GF d) (suc k) (over (polynomial s N))
    positive N h l = go (degree (GF d) (is_field d) m (over (polynomial s N)) (coefficient_below m N h))
      where
        go : (over (polynomial s N) ≡ 0ₛ) ⊎ ((k : ℕ) × Deg (GF d) k (over (polynomial s N))) → (k : ℕ) × Deg (GF d) (suc k) (over (polynomial s N))
        go (inl e) =
            let z : N ≡ 0 = coefficients_zero s m N h (λ i. zero_of N i (ap (λ x. x i) e ∙ zero_at (GF d) i)) in
            let one : 0 < 2 ^ s = pow_pos s in
            absurd (omega arith)
        go (inr g) = split g.0 g.1
          where
            split : (k : ℕ) → Deg (GF d) k (over (polynomial s N)) → (k : ℕ) × Deg (GF d) (suc k) (over (polynomial s N))
            split (suc k) g = (k, g)
            split zero g =
                let high : N / 2 ^ s < 2 ^ (s * m) = lt_of_le_of_lt (div-le_self N (2 ^ s)) h in
                let z : N / 2 ^ s ≡ 0 =
                coefficients_zero s m (N / 2 ^ s) high (λ i. sym (coefficient_s s N i) ∙ zero_of N (suc i) (g.below.at (suc i) (omega arith))) in
                let b : N < 2 ^ s = lt_of_high s z in
                absurd (omega arith)

    pub common_sound : common_over s m p q ≡ true → CommonFactor (GF d) (over p) (over q)
    unfolding common_over
    common_sound e =
        let w = some_at _ _ e in
        let N : ℕ = w.0 + 2 ^ s in
        let h : N < 2 ^ (s * m) = omega (arith, w.1) in
        let g = positive N h (omega arith) in
        let t = and_both _ _ w.2 in
        record {
          factor = over (polynomial s N);
          deg = g.0;
          factor_deg = g.1;
          left = divides_sound (polynomial s N) p p_small p_short (coefficient_below m N h) t.0;
          right = divides_sound (polynomial s N) q q_small q_short (coefficient_below m N h) t.1;
        }

    pub common_complete : CommonFactor (GF d) (over p) (over q) → common_over s m p q ≡ true
    unfolding common_over
    common_complete f =
        let short : Below (GF d) m f.factor =
        divisor_below (is_field d) f.factor_deg f.left.by_in (subst (λ x. x ≢ 0ₛ) (sym f.left.eq) p_ne)
        (subst (Below (GF d) m) (sym f.left.eq) p_short) in
        let n = number_of m f.factor short in
        go n.0 n.1 n.2
      where
        go : (N : ℕ) → N < 2 ^ (s * m) → over (polynomial s N) ≡ f.factor
            → some (λ M. divides_over s m (polynomial s (M + 2 ^ s)) p && divides_over s m (polynomial s (M + 2 ^ s)) q) (up_to (2 ^ (s * m) - 2 ^ s)) ≡ true
        go N h e =
            let big : 2 ^ s ≤ N = large (dec_lt N (2 ^ s)) in
            let back : N - 2 ^ s + 2 ^ s ≡ N = omega arith in
            let g : Deg (GF d) (suc f.deg) (over (polynomial s N)) = subst (Deg (GF d) (suc f.deg)) (sym e) f.factor_deg in
            some_of _ (2 ^ (s * m) - 2 ^ s) (N - 2 ^ s) (omega arith)
            (ap (λ (M : ℕ). divides_over s m (polynomial s M) p && divides_over s m (polynomial s M) q) back
            ∙ ap₂ ◌&&◌
            (divides_complete (polynomial s N) p p_small p_short g (subst (λ x. Divides (Polys (GF d)) x (over p)) (sym e) f.left))
            (divides_complete (polynomial s N) q q_small q_short g (subst (λ x. Divides (Polys (GF d)) x (over q)) (sym e) f.right)))
          where
            -- a constant has no coefficient of x^(k + 1)
            large : Dec (N < 2 ^ s) → 2 ^ s ≤ N
            large (no l) = omega arith
            large (yes l) =
                absurd
                (f.factor_deg.top
                (ap (λ x. x (suc f.deg)) (sym e)
                ∙ ap (el d) (coefficient_above s 1 N (subst (λ (x : ℕ). N < 2 ^ x) (sym (mul-one s)) l) (suc f.deg) (omega arith)) ∙ el_zero d))
