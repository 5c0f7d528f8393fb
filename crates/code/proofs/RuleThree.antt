-- Rule 3 of a certificate as it is computed and as it is published, and the rule that it was before 2026-03.
--
--   common_said        a common factor over the field, on numbers: both ways
--   rule3_said         rule 3, for an f of degree 1 to 8 with constant term 1
--   period_said        the rule before
--   period_suffices    which suffices
--   nine_alone         so judging answers what it did, but where it answered 9
use mathlib.Core.Path.{◌≡◌, sym, ap, ◌∙◌, fun_ext, subst}
use mathlib.Core.Logic.Iff
use mathlib.Core.Logic.{◌≢◌, ◌↔◌, ◌⊎◌, inl, inr}
use mathlib.Core.List.{List, []}
use Prim.Native.Nat.{ℕ, zero, suc, ◌+◌, ◌^◌, ◌<◌, ◌∣◌}
use native.Mathlib.Omega.{arith}
use Rattle.algebra.proofs.Coprime.{Divides as Divides-proved}
use Rattle.algebra.proofs.Series.{Ser, zero_at}
use Rattle.algebra.proofs.Poly.{Below, Polys, is_poly}
use Rattle.algebra.proofs.Divide.{Deg, degree as degree_or}
use Rattle.algebra.proofs.CommonFactor.{CommonFactor}
use Rattle.field.specs.Mask.{◌⊕◌}
use Rattle.field.specs.Field.{Degree, field_power, order_of_two, α}
use Rattle.field.proofs.OrderOfTwo.{order_divides}
use Rattle.field.proofs.Elements.{F, GF, is_field, el, el_zero, el_of, el_inj, el_null}
use Rattle.cyclic.proofs.Division.{◌∣ₘ◌}
use Rattle.binary.specs.Factor.{period, Modulus}
use Rattle.binary.proofs.MaskPeriod.{period_pos}
use Rattle.binary.proofs.Meaning.{coprime_iff, factor_iff, pow_one, period_divisor, period_least, period_unique}
use Rattle.binary.proofs.IndependentPowers.{denominator}
use Rattle.document.specs.Answer.{first_of, settle}
use Rattle.document.specs.Sheet.{Certificate, Stated}
use Rattle.document.specs.Apart.{at_root}
use Rattle.document.specs.Certificate.{rule3}
use Rattle.document.specs.Judge.{record_of, judge_entry}
use Rattle.document.specs.OtherTest.{conditions_with}
use Rattle.document.specs.Short.{short, stated, judge_of}
use Rattle.document.proofs.Reflect.{Says}
use Rattle.document.proofs.Sane.{settle_number}
use Rattle.document.proofs.Theory.{Length, degree as degree_of}
use Rattle.document.proofs.Polynomials.{over, Elements, product_is, product_lt}
use Rattle.document.proofs.ApartIs.{substituted_small, CommonAt, apart_common}
use Rattle.document.proofs.Tested.{apart_coprime, modulus_of, conditions_are, but_nine_first}
use Rattle.code.specs.Published.{Divides, PolynomialOver, DividesOver, Rule3}
use Rattle.code.specs.Before.{PeriodCoprime, period_coprime, judge_before}

-- ---- polynomials on numbers, and over the field
module _ {s : ℕ} (d : Degree s) where
  below : (p : ℕ → ℕ) (h : PolynomialOver s p) → Below (GF d) h.end (over d p)
  below p h = record { at = λ k l. ap (el d) (h.ends k l) ∙ el_zero d }

  -- the numbers of a polynomial over the field
  numbers : (ℕ → F s) → ℕ → ℕ
  numbers p k = (p k).0

  over_numbers : (p : ℕ → F s) → over d (numbers p) ≡ p
  unfolding numbers
  over_numbers p = fun_ext (λ k. el_of d (p k))

  numbers_over : {n : ℕ} (p : ℕ → F s) → Below (GF d) n p → PolynomialOver s (numbers p)
  unfolding numbers
  numbers_over {n} p b = record {
    element = λ i. (p i).1;
    end = n;
    ends = λ i l. el_null d (p i).1 (el_of d (p i) ∙ b.at i l);
  }

  divides_there : (c p : ℕ → ℕ) → DividesOver s c p → Divides-proved (Polys (GF d)) (over d c) (over d p)
  divides_there c p w = record {
    by = over d w.0;
    by_in = is_poly (GF d) (below w.0 w.1);
    eq = fun_ext (λ k. sym (product_is d c w.0 k) ∙ ap (el d) (w.2 k));
  }

  divides_back : (c p : ℕ → ℕ) → Elements s p → Divides-proved (Polys (GF d)) (over d c) (over d p) → DividesOver s c p
  divides_back c p small w = (
    numbers w.by,
    numbers_over w.by w.by_in.below,
    λ k. el_inj d (product_lt d c (numbers w.by) k) (small k)
        (product_is d c (numbers w.by) k
        ∙ ap (λ q. (Ser (GF d)).mul (over d c) q k) (over_numbers w.by) ∙ ap (λ q. q k) w.eq),
  )

  -- a polynomial of degree 1 or more that divides both
  abbrev Shared : (ℕ → ℕ) → (ℕ → ℕ) → Type 0
  Shared p q = (c : ℕ → ℕ) × PolynomialOver s c × ((k : ℕ) × (0 < k) × (c k ≢ 0)) × DividesOver s c p × DividesOver s c q

  pub common_said : (p q : ℕ → ℕ) → Elements s p → Elements s q → CommonFactor (GF d) (over d p) (over d q) ↔ Shared p q
  common_said p q hp hq = (there, back)
    where
      there : CommonFactor (GF d) (over d p) (over d q) → Shared p q
      there w =
          let c : ℕ → ℕ = numbers w.factor in
          let same : over d c ≡ w.factor = over_numbers w.factor in (
            c,
            numbers_over w.factor w.factor_deg.below,
            (suc w.deg, omega arith, λ z. w.factor_deg.top (ap (λ f. f (suc w.deg)) (sym same) ∙ ap (el d) z ∙ el_zero d)),
            divides_back c p hp (subst (λ f. Divides-proved (Polys (GF d)) f (over d p)) (sym same) w.left),
            divides_back c q hq (subst (λ f. Divides-proved (Polys (GF d)) f (over d q)) (sym same) w.right),
          )

      back : Shared p q → CommonFactor (GF d) (over d p) (over d q)
      back w = go (degree_or (GF d) (is_field d) w.1.end (over d w.0) (below w.0 w.1))
        where
          high : over d w.0 w.2.0 ≢ (GF d).𝟘
          high e = w.2.2 (el_null d (w.1.element w.2.0) e)

          split : (m : ℕ) → Deg (GF d) m (over d w.0) → CommonFactor (GF d) (over d p) (over d q)
          split zero g = absurd (high (g.below.at w.2.0 w.2.1))
          split (suc m) g = record {
            factor = over d w.0;
            deg = m;
            factor_deg = g;
            left = divides_there w.0 p w.3;
            right = divides_there w.0 q w.4;
          }

          go : (over d w.0 ≡ (Ser (GF d)).𝟘) ⊎ ((m : ℕ) × Deg (GF d) m (over d w.0)) → CommonFactor (GF d) (over d p) (over d q)
          go (inl e) = absurd (high (ap (λ f. f w.2.0) e ∙ zero_at (GF d) w.2.0))
          go (inr g) = split g.0 g.1

-- ---- the rule
module _ {n : ℕ} (l : Length n) (c : Certificate) {u : ℕ} (m : Modulus c.f u) where
  abbrev d : Degree (order_of_two n)
  d = degree_of l

  abbrev f_at : ℕ → ℕ → ℕ
  f_at i = at_root (order_of_two n) n c.f i

  at : (i j : ℕ) → CommonAt d n c.f i j ↔ Shared d (f_at i) (f_at j)
  at i j =
      common_said d (f_at i) (f_at j) (substituted_small d (field_power (order_of_two n) (α (order_of_two n) n) i) c.f)
      (substituted_small d (field_power (order_of_two n) (α (order_of_two n) n) j) c.f)

  pub rule3_said : Says (rule3 n c) (Rule3 n c)
  unfolding rule3
  rule3_said =
      Iff.trans (apart_common d n (order_divides l.odd) c.f (denominator m)) (
        λ none i j hi hj ne e pe k p nz x y. none i j hi hj ne ((at i j).1 (e, pe, (k, p, nz), x, y)),
        λ none i j hi hj ne w.
            let v = (at i j).0 w in
            none i j hi hj ne v.0 v.1 v.2.0 v.2.1 v.2.2 v.3 v.4,
      )

  -- ---- the rule before: f divides x^q + 1, as a mask and as a number
  period_there : (q : ℕ) → 0 < q → Divides c.f (2 ^ q + 1) → c.f ∣ₘ 2 ^ q ⊕ 1
  period_there q h w = subst (λ (a : ℕ). c.f ∣ₘ a) (sym (pow_one q h)) ((factor_iff c.f (2 ^ q + 1)).1 w)

  period_back : (q : ℕ) → 0 < q → c.f ∣ₘ 2 ^ q ⊕ 1 → Divides c.f (2 ^ q + 1)
  period_back q h w = (factor_iff c.f (2 ^ q + 1)).0 (subst (λ (a : ℕ). c.f ∣ₘ a) (pow_one q h) w)

  pub period_said : Says (period_coprime n c) (PeriodCoprime n c)
  period_said =
      let w = coprime_iff (period c.f) n in (
        λ e. record {
          p = period c.f;
          above = period_pos c.f;
          divides = period_back (period c.f) (period_pos c.f) (period_divisor m);
          smallest = λ q h w. period_least m q h (period_there q h w);
          coprime = w.0 e;
        },
        λ q.
            let e : q.p ≡ period c.f = period_unique m q.p q.above (period_there q.p q.above q.divides) (λ r h w. q.smallest r h (period_back r h w)) in
            w.1 (subst (λ (p : ℕ). (d : ℕ) → 1 < d → d ∣ p → ¬ (d ∣ n)) e q.coprime),
      )

  pub period_suffices : PeriodCoprime n c → Rule3 n c
  unfolding rule3
  period_suffices p = rule3_said.0 (apart_coprime l m (period_said.1 p))

-- ---- judging
pub nine_alone : (sheet : List ℕ) → (judge_before sheet).number ≢ 9 → judge_of sheet ≡ judge_before sheet
unfolding judge_entry rule3
nine_alone sheet ne =
    let x : Stated = stated sheet in
    ap (λ (r : ℕ). (settle r (record_of x) [] []).0)
    (ap first_of (sym (conditions_are short sheet))
    ∙ but_nine_first period_coprime rule3 short (omega arith) sheet (λ l c e p. apart_coprime l (modulus_of 1023 x.n c e) p)
    (λ e. ne (settle_number (first_of (conditions_with period_coprime short sheet)) (record_of x) [] [] ∙ e)))
