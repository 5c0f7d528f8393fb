-- The definition of rule 3 on plain numbers, and the theory's condition.
--
--   substituted_is, substituted_small, substituted_short      f(a x) on numbers is the theory's f(a x)
--   CommonAt d n f i j      f(α^i x) and f(α^j x) have a common factor, over the field
--   bare_code         a code over a field of the table, with no defining set
--   apart_common     `factors_apart` is true exactly where no two of them have, for different i and j below n
--   apart_defined    so it says what the theory's FactorsApart does, of each code over a field of the table: its D plays no part
use mathlib.Core.Path.{◌≡◌, refl, sym, ap, ◌∙◌, subst, fun_ext}
use mathlib.Core.Logic.{◌≢◌, ◌↔◌}
use mathlib.Core.Bool.{Bool, true, false, not, ◌||◌}
use Prim.Native.Nat.{ℕ, ◌-◌, ◌*◌, ◌/◌, ◌^◌, ◌<◌, ◌∣◌}
use native.Mathlib.Nat.{zero-mul, one-mul}
use native.Mathlib.Decide.{ℕ_discrete}
use lib.Dec.{eqb}
use lib.Pow.{pow_pos}
use borrow.Author.Tests.{eqb-true, eq-eqb}
use Rattle.algebra.proofs.Ring.{zero-mul as 𝟘-mul, one-mul as 𝟙-mul, mul_comm}
use Rattle.algebra.proofs.Power.{pow}
use Rattle.algebra.proofs.Coprime.{Coprime}
use Rattle.algebra.proofs.Series.{Ser, zero_at}
use Rattle.algebra.proofs.Poly.{Below, IsPoly, Polys, is_poly}
use Rattle.algebra.proofs.CommonFactor.{CommonFactor, no_common_iff}
use Rattle.algebra.proofs.Substitute.{sub, sub_at, sub_below, sub_deg}
use Rattle.field.proofs.Search.{every_at, every_of, true_ne_false}
use Rattle.field.specs.Mask.{coefficient, size}
use Rattle.field.specs.Field.{Degree, field_power, α}
use Rattle.field.proofs.Xor.{digit, digit_lt}
use Rattle.field.proofs.MaskProduct.{size_lt}
use Rattle.field.proofs.Elements.{GF, is_field, el, el_zero, root}
use Rattle.field.proofs.Numbers.{power_lt, el_power, el_root}
use Rattle.field.proofs.Value.{coef, coef_0, coef_1}
use Rattle.cyclic.proofs.Monic.{monic_deg}
use Rattle.cyclic.proofs.Lift.{lift, lift_at, lift_below, lift_monic}
use Rattle.cyclic.proofs.Period.{Denominator}
use Rattle.cyclic.proofs.CyclicCode.{Code, table_code, power_ne}
use Rattle.cyclic.proofs.Apart.{FactorsApart}
use Rattle.document.specs.Apart.{common_over, substituted, at_root, pair_apart, factors_apart}
use Rattle.document.proofs.Polynomials.{over, Elements, common_sound, common_complete}

module _ {s : ℕ} (d : Degree s) (a f : ℕ) where
  pub substituted_is : over d (substituted s a f) ≡ sub (GF d) (el d a) (lift (GF d) f)
  unfolding substituted
  substituted_is = fun_ext (λ k. at k ∙ mul_comm (GF d) _ _ ∙ sym (sub_at (GF d) (el d a) (lift (GF d) f) k))
    where
      at : (k : ℕ) → el d (coefficient k f * field_power s a k) ≡ (GF d).mul (lift (GF d) f k) (pow (GF d) (el d a) k)
      at k =
          digit (λ x. el d (x * field_power s a k) ≡ (GF d).mul (coef (GF d) x) (pow (GF d) (el d a) k))
          (ap (el d) (zero-mul (field_power s a k)) ∙ el_zero d
          ∙ sym (ap (λ x. (GF d).mul x (pow (GF d) (el d a) k)) (coef_0 (GF d)) ∙ 𝟘-mul (GF d) _))
          (ap (el d) (one-mul (field_power s a k)) ∙ el_power d a k
          ∙ sym (ap (λ x. (GF d).mul x (pow (GF d) (el d a) k)) (coef_1 (GF d)) ∙ 𝟙-mul (GF d) _))
          (coefficient k f) (digit_lt (f / 2 ^ k))
          ∙ ap (λ x. (GF d).mul x (pow (GF d) (el d a) k)) (sym (lift_at (GF d) k f))

  pub substituted_small : Elements s (substituted s a f)
  unfolding substituted
  substituted_small k =
      digit (λ x. x * field_power s a k < 2 ^ s) (subst (λ (x : ℕ). x < 2 ^ s) (sym (zero-mul (field_power s a k))) (pow_pos s))
      (subst (λ (x : ℕ). x < 2 ^ s) (sym (one-mul (field_power s a k))) (power_lt d a k)) (coefficient k f) (digit_lt (f / 2 ^ k))

  pub substituted_short : Below (GF d) (size f) (over d (substituted s a f))
  substituted_short = subst (Below (GF d) (size f)) (sym substituted_is) (sub_below (GF d) (el d a) (lift_below (GF d) (size_lt f)))

-- f(α^i x) and f(α^j x), on numbers, have a common factor over the field
abbrev pub CommonAt : {s : ℕ} → Degree s → ℕ → ℕ → ℕ → ℕ → Type 0
CommonAt {s} d n f i j = CommonFactor (GF d) (over d (at_root s n f i)) (over d (at_root s n f j))

-- the code with no defining set: that plays no part
abbrev pub bare_code : {s : ℕ} (d : Degree s) (n : ℕ) → n ∣ 2 ^ s - 1 → Code (GF d) n
bare_code d n h = table_code d h (λ i. false) (λ i l t. absurd t)

module _ {s : ℕ} (d : Degree s) (n : ℕ) (h : n ∣ 2 ^ s - 1) {u : ℕ} (f : ℕ) (g : Denominator u f) where
  at_is : (i : ℕ) → over d (at_root s n f i) ≡ sub (GF d) (pow (GF d) (root d n) i) (lift (GF d) f)
  at_is i =
      substituted_is d (field_power s (α s n) i) f
      ∙ ap (λ x. sub (GF d) x (lift (GF d) f)) (el_power d (α s n) i ∙ ap (λ x. pow (GF d) x i) (el_root d n))

  at_ne : (i : ℕ) → over d (at_root s n f i) ≢ (Ser (GF d)).𝟘
  at_ne i e =
      (sub_deg (GF d) (is_field d) (pow (GF d) (root d n) i) (power_ne (bare_code d n h) i) (monic_deg (GF d) (is_field d) (lift_monic (GF d) f g.degree))).top
      (ap (λ x. x u) (sym (at_is i)) ∙ ap (λ x. x u) e ∙ zero_at (GF d) u)

  at_poly : (i : ℕ) → IsPoly (GF d) (over d (at_root s n f i))
  at_poly i = is_poly (GF d) (substituted_short d (field_power s (α s n) i) f)

  common_is : (i j : ℕ) → (common_over s (size f) (at_root s n f i) (at_root s n f j) ≡ true) ↔ CommonAt d n f i j
  common_is i j =
      let a : ℕ = field_power s (α s n) i in
      let b : ℕ = field_power s (α s n) j in (
        common_sound d (at_root s n f i) (at_root s n f j) (substituted_small d a f) (substituted_small d b f) (substituted_short d a f)
            (substituted_short d b f) (at_ne i),
        common_complete d (at_root s n f i) (at_root s n f j) (substituted_small d a f) (substituted_small d b f) (substituted_short d a f)
            (substituted_short d b f) (at_ne i),
      )

  -- the test of i and j
  pair_same : (i j : ℕ) → i ≡ j → pair_apart s n f i j ≡ true
  unfolding pair_apart
  pair_same i j e = rw (eq-eqb i j e) refl

  pair_is : (i j : ℕ) → i ≢ j → (pair_apart s n f i j ≡ true) ↔ (¬ CommonAt d n f i j)
  unfolding pair_apart
  pair_is i j ne = (
    λ e w. there (eqb i j) refl (common_over s (size f) (at_root s n f i) (at_root s n f j)) e ((common_is i j).1 w),
    λ k. back (common_over s (size f) (at_root s n f i) (at_root s n f j)) refl k,
  )
    where
      there : (b : Bool) → eqb i j ≡ b → (c : Bool) → b || not c ≡ true → c ≡ true → ⊥
      there true q c e w = ne (eqb-true i j q)
      there false q true e w = true_ne_false w (sym e)
      there false q false e w = true_ne_false w refl

      or_right : (b : Bool) → b || true ≡ true
      or_right true = refl
      or_right false = refl

      back : (c : Bool) → common_over s (size f) (at_root s n f i) (at_root s n f j) ≡ c → (¬ CommonAt d n f i j)
          → eqb i j || not c ≡ true
      back true q k = absurd (k ((common_is i j).0 q))
      back false q k = or_right (eqb i j)

  pub apart_common : (factors_apart s n f ≡ true) ↔ ((i j : ℕ) → i < n → j < n → i ≢ j → ¬ CommonAt d n f i j)
  unfolding factors_apart
  apart_common = (
    λ e i j hi hj ne. (pair_is i j ne).0 (every_at _ n (every_at _ n e i hi) j hj),
    λ a. every_of _ n (λ i hi. every_of _ n (λ j hj. each a i j hi hj (ℕ_discrete i j))),
  )
    where
      each : ((i j : ℕ) → i < n → j < n → i ≢ j → ¬ CommonAt d n f i j) → (i j : ℕ) → i < n → j < n → Dec (i ≡ j)
          → pair_apart s n f i j ≡ true
      each a i j hi hj (yes e) = pair_same i j e
      each a i j hi hj (no ne) = (pair_is i j ne).1 (a i j hi hj ne)

  coprime_at : (i j : ℕ) → Coprime (Polys (GF d)) (sub (GF d) (pow (GF d) (root d n) i) (lift (GF d) f)) (sub (GF d) (pow (GF d) (root d n) j) (lift (GF d) f))
      ↔ (¬ CommonAt d n f i j)
  coprime_at i j =
      rw (← at_is i, ← at_is j) (no_common_iff (GF d) (is_field d) (at_poly i) (at_poly j) (at_ne i))

  pub apart_defined : (factors_apart s n f ≡ true) ↔ FactorsApart (bare_code d n h) f
  apart_defined = (
    λ e i j hi hj ne. (coprime_at i j).1 (apart_common.0 e i j hi hj ne),
    λ a. apart_common.1 (λ i j hi hj ne. (coprime_at i j).0 (a i j hi hj ne)),
  )
