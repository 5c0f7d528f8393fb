-- Decoding by the key equation: it finds the one codeword within the radius, if there is one.
--
--   ReceivedSyndromes S r s     the series s holds the syndromes of r
--   Final S s          Euclid's rows on s at the stop; solved: there are such
--   PlacesMarked S t e      e marks the places whose factor divides t
--   wrong_iff          if c is near r, the factor of a place divides the row t exactly where they differ
--   located_is         so what is marked are the differences; repaired: and c is r with the marked places changed
--   refuse             so nothing is near where that is not
use mathlib.Core.Path.{◌≡◌, sym, ap, ◌∙◌, subst}
use mathlib.Core.Logic.{◌≢◌, ◌↔◌}
use mathlib.Core.List.{List}
use lib.ListN.{length}
use Prim.Native.Nat.{ℕ, ◌^◌, ◌≤◌, ◌<◌}
use native.Mathlib.Omega.{arith}
use Rattle.algebra.proofs.Ring.{Ring, add-zero}
use Rattle.algebra.proofs.Coprime.{Divides}
use Rattle.algebra.proofs.Series.{Ser, const}
use Rattle.algebra.proofs.Poly.{Below, Polys, const_poly}
use Rattle.algebra.proofs.Rows.{Done, key}
use Rattle.algebra.proofs.Alternant.{factor, factor_poly, locator, no_root, locate}
use Rattle.algebra.proofs.Alternant as Alternant
use Rattle.algebra.proofs.Weight.{support, support_ne, support_distinct, support_syndrome}
use Rattle.field.specs.Mask.{◌⊕◌, coefficient}
use Rattle.field.proofs.Xor.{⊕-lt, ⊕-cancel}
use Rattle.cyclic.proofs.Places.{same_places, same_bit, one_of, count}
use Rattle.cyclic.proofs.CyclicCode.{Code}
use Rattle.cyclic.proofs.Radius.{stop_le, rows_fit, fits}
use Rattle.cyclic.proofs.Errors.{Place, all, all_in, all_distinct, support_count, in_support, off_support}
use Rattle.cyclic.proofs.Divides.{in_divides, divides_mul, divides_const}
use Rattle.cyclic.proofs.Nearest.{Near}
use Rattle.cyclic.proofs.Syndromes.{Syndromes, weights, weights_zero, syndrome, syndrome_add, syndrome_codeword, radius, stop}

module _ {A : Type 0} {R : Ring A} {n : ℕ} {C : Code R n} (S : Syndromes C) where
  open S use {alternant, L}

  -- ---- what the decoder has
  pub record ReceivedSyndromes (r : ℕ) (s : ℕ → A) : Type 0 where
    pub below : Below R L s
    pub at : (j : ℕ) → j < L → s j ≡ syndrome S r j

  abbrev pub Final : (ℕ → A) → Type 0
  Final s = Done R L (stop S) s

  pub record PlacesMarked (t : ℕ → A) (e : ℕ) : Type 0 where
    pub small : e < 2 ^ n
    pub marks : (i : Place n) → Divides (Polys R) (factor R alternant i) t ↔ (coefficient i.0 e ≡ 1)

  pub solved : {s : ℕ → A} → Below R L s → Final s
  solved {s} b = key R C.K L (stop S) s b (stop_le L alternant.u alternant.v)

  -- ---- a codeword within the radius: the row is its differences' locator, up to a constant
  module _ {r c : ℕ} {s : ℕ → A} (hr : r < 2 ^ n) (near : Near C (radius S) r c) (rec : ReceivedSyndromes r s) (z : Final s) where
    places : List (Place n)
    places = support R C.K (weights S (r ⊕ c)) (all n)

    few : length places ≤ radius S
    unfolding places
    few =
        let e : length (support R C.K (weights S (r ⊕ c)) (all n)) ≡ count n (r ⊕ c) =
        support_count R C.K (weights S (r ⊕ c)) (r ⊕ c) (weights_zero S (r ⊕ c)) in
        omega (arith, near.close)

    agree : (j : ℕ) → j < L → s j ≡ Alternant.syndrome R alternant (weights S (r ⊕ c)) places j
    unfolding places
    agree j h =
        rec.at j h
        ∙ sym
        (support_syndrome R C.K alternant (weights S (r ⊕ c)) (all n) j ∙ syndrome_add S r c j
        ∙ ap (R.add (syndrome S r j)) (syndrome_codeword S c near.small near.word j h) ∙ add-zero R _)

    row : (k : A) × (k ≢ R.𝟘) × (z.t ≡ (Ser R).mul (const R k) (locator R alternant places))
    unfolding places
    row =
        let w = locate R C.K alternant (weights S (r ⊕ c)) (support_distinct R C.K _ (all_distinct n))
        (support_ne R C.K (weights S (r ⊕ c)) (all n)) rec.below agree
        (rows_fit L alternant.u alternant.v alternant.v_lt (length places) few)
        (fits L alternant.u alternant.v alternant.v_lt (length places) few) z.rows z.short z.long in
        (w.0, w.1, w.2)

    pub wrong_iff : (i : Place n) → Divides (Polys R) (factor R alternant i) z.t ↔ (coefficient i.0 (r ⊕ c) ≡ 1)
    unfolding places
    wrong_iff i = (to, from)
      where
        to : Divides (Polys R) (factor R alternant i) z.t → coefficient i.0 (r ⊕ c) ≡ 1
        to d =
            one_of i.0 (r ⊕ c)
            (λ e. no_root R C.K alternant i places (off_support R C.K _ (all n) ((weights_zero S (r ⊕ c) i).1 e))
            (divides_const R C.K row.0 row.1 (subst (Divides (Polys R) (factor R alternant i)) row.2 d)))

        from : coefficient i.0 (r ⊕ c) ≡ 1 → Divides (Polys R) (factor R alternant i) z.t
        from e =
            subst (Divides (Polys R) (factor R alternant i)) (sym row.2)
            (divides_mul (Polys R) (const R row.0) (const_poly R row.0)
            (in_divides (Polys R) (factor R alternant) (factor_poly R alternant)
            (in_support R C.K (weights S (r ⊕ c)) (all_in n i)
            (λ y. let o : coefficient i.0 (r ⊕ c) ≡ 0 = (weights_zero S (r ⊕ c) i).0 y in absurd (omega arith)))))

    pub located_is : {e : ℕ} → PlacesMarked z.t e → e ≡ r ⊕ c
    located_is {e} l =
        same_places l.small (⊕-lt n r c hr near.small)
        (λ i h. same_bit i e (r ⊕ c) (l.marks (i, h)) (wrong_iff (i, h)))

    pub repaired : {e : ℕ} → PlacesMarked z.t e → c ≡ r ⊕ e
    repaired l = sym (⊕-cancel r c) ∙ ap (λ (x : ℕ). r ⊕ x) (sym (located_is l))

  -- ---- where the word with the marked places changed is not near, nothing is
  pub refuse : {r e : ℕ} {s : ℕ → A} → r < 2 ^ n → ReceivedSyndromes r s → (z : Final s) → PlacesMarked z.t e
      → ¬ Near C (radius S) r (r ⊕ e) → (c : ℕ) → ¬ Near C (radius S) r c
  refuse {r} {e} hr rec z l far c near = far (subst (λ (x : ℕ). Near C (radius S) r x) (repaired hr near rec z l) near)
