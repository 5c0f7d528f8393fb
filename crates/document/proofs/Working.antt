-- The working certificate: the first that no other beats.
--
--   Ranking, First, first_one, first_new, first_same, first_least, least_first      the first of the best, in any ranking, one index more at a time
--   beats_iff, unbeaten_iff      when a certificate beats another, and when it does not
--   unbeaten, ranked     certificate j does not beat certificate i; they are ranked by that
--   working_first, working_is, working_within      the working certificate is the first of the best, and nothing else is
--   working_iff          it is the one with the largest d, then the fewest terms, then the earliest, and no other is
--   radius_rises, radius_most      the largest d has the largest t: that of every other on the sheet is at most the sheet's t
use mathlib.Core.Path.{◌≡◌, refl, sym, ◌∙◌, subst}
use mathlib.Core.Logic.{◌↔◌, ◌⊎◌, inl, inr}
use mathlib.Core.Bool.{Bool, true, false, not}
use Prim.Native.Nat.{ℕ, zero, suc, ◌+◌, ◌≤◌, ◌<◌}
use native.Mathlib.Decide.{ℕ_discrete, dec_lt}
use native.Mathlib.Numerals.{add-one}
use native.Mathlib.Omega.{arith}
use lib.ListN.{length}
use Rattle.field.specs.Search.{least, up_to, every}
use Rattle.field.proofs.Search.{least_is, least_unique, every_of, true_ne_false}
use Rattle.binary.proofs.Coprime.{every_not}
use Rattle.binary.proofs.Meaning.{is_false}
use Rattle.document.specs.Sheet.{Certificate, Stated, certificate_at}
use Rattle.document.specs.Certificate.{distance, radius, beats, working}
use Rattle.document.specs.Judge.{working_of, working_certificate}
use Rattle.document.proofs.Reflect.{Says, eqb_iff, ltb_iff, not_iff, or_of, and_of}
use Rattle.document.proofs.Stated.{not-false}

-- ---- any ranking of indices
pub record Ranking (no_better : ℕ → ℕ → Bool) : Type 0 where
  pub through : (i j k : ℕ) → no_better i j ≡ true → no_better j k ≡ true → no_better i k ≡ true
  pub either : (i j : ℕ) → no_better i j ≡ false → no_better j i ≡ true

-- of the indices below i, w is the first than which none is better
pub record First (no_better : ℕ → ℕ → Bool) (i w : ℕ) : Type 0 where
  pub below : w < i
  pub best : (e : ℕ) → e < i → no_better e w ≡ true
  pub fresh : (c : ℕ) → c < w → no_better w c ≡ false

module _ {no_better : ℕ → ℕ → Bool} (r : Ranking no_better) where
  itself : (i : ℕ) → no_better i i ≡ true
  itself i = go (no_better i i) refl
    where
      go : (b : Bool) → no_better i i ≡ b → b ≡ true
      go true e = refl
      go false e = sym e ∙ r.either i i e

  pub first_one : First no_better 1 0
  first_one = record {
    below = omega arith;
    best = λ e h. let z : e ≡ 0 = omega arith in subst (λ (y : ℕ). no_better y 0 ≡ true) (sym z) (itself 0);
    fresh = λ c h. absurd (omega arith);
  }

  pub first_new : {i w : ℕ} → First no_better i w → no_better i w ≡ false → First no_better (i + 1) i
  first_new {i} {w} f h = record {
    below = omega arith;
    best = λ e l. elim (ℕ_discrete e i) [
      | yes q ↦ subst (λ (y : ℕ). no_better y i ≡ true) (sym q) (itself i)
      | no q ↦ r.through e w i (f.best e (omega arith)) (r.either i w h)
    ];
    fresh = λ c l. is_false (no_better i c) (λ t. true_ne_false (r.through i c w t (f.best c l)) h);
  }

  pub first_same : {i w : ℕ} → First no_better i w → no_better i w ≡ true → First no_better (i + 1) w
  first_same {i} {w} f h = record {
    below = omega (arith, f.below);
    best = λ e l. elim (ℕ_discrete e i) [
      | yes q ↦ subst (λ (y : ℕ). no_better y w ≡ true) (sym q) h
      | no q ↦ f.best e (omega arith)
    ];
    fresh = f.fresh;
  }

  first_some : (n : ℕ) → (w : ℕ) × First no_better (suc n) w
  first_some zero = (0, first_one)
  first_some (suc n) = let p = first_some n in go p.0 p.1 (no_better (suc n) p.0) refl
    where
      go : (w : ℕ) → First no_better (suc n) w → (b : Bool) → no_better (suc n) w ≡ b → (w : ℕ) × First no_better (suc (suc n)) w
      go w f true e = (w, subst (λ (y : ℕ). First no_better y w) (add-one (suc n)) (first_same f e))
      go w f false e = (suc n, subst (λ (y : ℕ). First no_better y (suc n)) (add-one (suc n)) (first_new f e))

  -- it is the least index than which none is better
  pub first_least : {n w : ℕ} → First no_better n w → least (λ i. every (λ j. no_better j i) (up_to n)) n ≡ w
  first_least {n} {w} f =
      least_unique (least_is (λ i. every (λ j. no_better j i) (up_to n)) n)
      (record {
        le = omega (arith, f.below);
        before = λ c l. every_not (λ j. no_better j c) n w f.below (f.fresh c l);
        passes = λ l. every_of (λ j. no_better j w) n f.best;
      })

  pub least_first : (n : ℕ) → 0 < n → First no_better n (least (λ i. every (λ j. no_better j i) (up_to n)) n)
  least_first zero h = absurd (omega arith)
  least_first (suc n) h = let p = first_some n in subst (First no_better (suc n)) (sym (first_least p.1)) p.1

-- ---- of two certificates
pub beats_iff : (c e : Certificate) → Says (beats c e) ((distance e < distance c) ⊎ ((distance c ≡ distance e) × (c.L < e.L)))
unfolding beats
beats_iff c e = or_of (ltb_iff (distance e) (distance c)) (and_of (eqb_iff (distance c) (distance e)) (ltb_iff c.L e.L))

pub unbeaten_iff : (c e : Certificate)
    → Says (not (beats c e)) ((distance c < distance e) ⊎ ((distance c ≡ distance e) × (e.L ≤ c.L)))
unbeaten_iff c e = (
  λ b. there ((not_iff (beats c e)).0 b) (dec_lt (distance c) (distance e)) (ℕ_discrete (distance c) (distance e)) (dec_lt c.L e.L),
  λ w. (not_iff (beats c e)).1 (λ b. back w ((beats_iff c e).0 b)),
)
  where
    there : ¬ (beats c e ≡ true) → Dec (distance c < distance e) → Dec (distance c ≡ distance e) → Dec (c.L < e.L)
        → (distance c < distance e) ⊎ ((distance c ≡ distance e) × (e.L ≤ c.L))
    there n (yes l) same fewer = inl l
    there n (no l) (no d) fewer = absurd (n ((beats_iff c e).1 (inl (omega arith))))
    there n (no l) (yes d) (yes m) = absurd (n ((beats_iff c e).1 (inr (d, m))))
    there n (no l) (yes d) (no m) = inr (d, omega arith)

    back : (distance c < distance e) ⊎ ((distance c ≡ distance e) × (e.L ≤ c.L))
        → (distance e < distance c) ⊎ ((distance c ≡ distance e) × (c.L < e.L)) → ⊥
    back (inl l) (inl m) = omega arith
    back (inl l) (inr m) = omega (arith, m.0)
    back (inr l) (inl m) = omega (arith, l.0)
    back (inr l) (inr m) = omega (arith, l.1, m.1)

-- ---- all of them
module _ (at : ℕ → Certificate) where
  abbrev pub unbeaten : ℕ → ℕ → Bool
  unbeaten j i = not (beats (at j) (at i))

  pub ranked : Ranking unbeaten
  ranked = record {
    through = λ i j k p q. (unbeaten_iff (at i) (at k)).1 (join i j k ((unbeaten_iff (at i) (at j)).0 p) ((unbeaten_iff (at j) (at k)).0 q));
    either = λ i j e. (unbeaten_iff (at j) (at i)).1 (turn i j ((beats_iff (at i) (at j)).0 (not-false (beats (at i) (at j)) e)));
  }
    where
      Behind : ℕ → ℕ → Type 0
      Behind i j = (distance (at i) < distance (at j)) ⊎ ((distance (at i) ≡ distance (at j)) × ((at j).L ≤ (at i).L))

      join : (i j k : ℕ) → Behind i j → Behind j k → Behind i k
      join i j k (inl p) (inl q) = inl (omega arith)
      join i j k (inl p) (inr q) = inl (omega (arith, q.0))
      join i j k (inr p) (inl q) = inl (omega (arith, p.0))
      join i j k (inr p) (inr q) = inr (p.0 ∙ q.0, omega (arith, p.1, q.1))

      turn : (i j : ℕ) → (distance (at j) < distance (at i)) ⊎ ((distance (at i) ≡ distance (at j)) × ((at i).L < (at j).L)) → Behind j i
      turn i j (inl p) = inl p
      turn i j (inr p) = inr (sym p.0, omega (arith, p.1))

  pub working_first : (count : ℕ) → 0 < count → First unbeaten count (working count at)
  unfolding working
  working_first count h = least_first ranked count h

  pub working_is : {count w : ℕ} → First unbeaten count w → working count at ≡ w
  unfolding working
  working_is f = first_least ranked f

  pub working_iff : (count w : ℕ) → 0 < count → (working count at ≡ w)
      ↔ ((w < count) × ((i : ℕ) → i < count → distance (at i) ≤ distance (at w))
      × ((i : ℕ) → i < count → distance (at i) ≡ distance (at w) → (at w).L ≤ (at i).L)
      × ((i : ℕ) → i < count → distance (at i) ≡ distance (at w) → (at i).L ≡ (at w).L → w ≤ i))
  working_iff count w h = (
    λ e. let f = subst (First unbeaten count) e (working_first count h) in (
      f.below,
      λ i l. largest i ((unbeaten_iff (at i) (at w)).0 (f.best i l)),
      λ i l d. fewest i d ((unbeaten_iff (at i) (at w)).0 (f.best i l)),
      λ i l d m. earliest i d m (f.fresh i) (dec_lt i w),
    ),
    λ p. working_is (record {
      below = p.0;
      best = λ i l. (unbeaten_iff (at i) (at w)).1 (behind i (p.1 i l) (p.2 i l) (ℕ_discrete (distance (at i)) (distance (at w))));
      fresh = λ i l. is_false (unbeaten w i)
          (λ b. beaten i (p.1 i (omega (arith, p.0))) (p.2 i (omega (arith, p.0))) (λ d m. omega (arith, p.3 i (omega (arith, p.0)) d m))
          ((unbeaten_iff (at w) (at i)).0 b));
    }),
  )
    where
      largest : (i : ℕ) → (distance (at i) < distance (at w)) ⊎ ((distance (at i) ≡ distance (at w)) × ((at w).L ≤ (at i).L))
          → distance (at i) ≤ distance (at w)
      largest i (inl l) = omega arith
      largest i (inr l) = omega (arith, l.0)

      fewest : (i : ℕ) → distance (at i) ≡ distance (at w)
          → (distance (at i) < distance (at w)) ⊎ ((distance (at i) ≡ distance (at w)) × ((at w).L ≤ (at i).L)) → (at w).L ≤ (at i).L
      fewest i d (inl l) = absurd (omega arith)
      fewest i d (inr l) = l.1

      earliest : (i : ℕ) → distance (at i) ≡ distance (at w) → (at i).L ≡ (at w).L → (i < w → unbeaten w i ≡ false) → Dec (i < w) → w ≤ i
      earliest i d m f (yes l) = absurd (true_ne_false ((unbeaten_iff (at w) (at i)).1 (inr (sym d, omega arith))) (f l))
      earliest i d m f (no l) = omega arith

      behind : (i : ℕ) → distance (at i) ≤ distance (at w) → (distance (at i) ≡ distance (at w) → (at w).L ≤ (at i).L)
          → Dec (distance (at i) ≡ distance (at w))
          → (distance (at i) < distance (at w)) ⊎ ((distance (at i) ≡ distance (at w)) × ((at w).L ≤ (at i).L))
      behind i l f (yes d) = inr (d, f d)
      behind i l f (no d) = inl (omega arith)

      beaten : (i : ℕ) → distance (at i) ≤ distance (at w) → (distance (at i) ≡ distance (at w) → (at w).L ≤ (at i).L)
          → (distance (at i) ≡ distance (at w) → (at i).L ≡ (at w).L → ⊥)
          → (distance (at w) < distance (at i)) ⊎ ((distance (at w) ≡ distance (at i)) × ((at i).L ≤ (at w).L)) → ⊥
      beaten i l f g (inl m) = omega arith
      beaten i l f g (inr m) = g (sym m.0) (omega (arith, m.1, f (sym m.0)))

-- ---- the largest d has the largest t
pub radius_rises : (c e : Certificate) → distance c ≤ distance e → radius c ≤ radius e
unfolding radius
radius_rises c e h = omega arith

module _ (x : Stated) where
  pub working_within : 0 < length x.certificates → working_of x < length x.certificates
  unfolding working_of
  working_within h = (working_first (certificate_at x) (length x.certificates) h).below

  pub radius_most : (i : ℕ) → i < length x.certificates → radius (certificate_at x i) ≤ radius (working_certificate x)
  unfolding working_certificate working_of
  radius_most i h =
      let w = (working_iff (certificate_at x) (length x.certificates) (working_of x) (omega arith)).0 refl in
      radius_rises (certificate_at x i) (certificate_at x (working_of x)) (w.1 i h)
