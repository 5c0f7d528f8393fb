-- The terms of a locator in slices, as the search asks for them place by place. No entry's contract cites this file.
--
--   exponents_of, steps_of, low_of, high_of      the numbers of terms, and of remainders in lanes, each kind in a list
--   lanes y                 the lowest four coefficients of the mask y, 16 places apart
--   term_sum s lg st κ i c   the sum of κ m ω^(lg m + i st m) over the terms m below c
--   vanishes                whether all coefficients of the remainder at place i are 0: a lane of two such sums for each
--   alone_at, vanishes_alone  the same for f = 1 + x: the one coefficient of the remainder
--   alone_of, vanishes_alone_of, vanishes_of      these three of terms in a slice
--   LocatorSlices                 a locator, and slices long enough for its terms
--   TermsListable, TermsListed        the locator's terms: what listing them needs, and leaves
--   Logged s c lg st        logarithms and steps of c terms
--   Laned c lo hi           the remainders of c terms, in lanes
--   Ones u c lo hi          of f = 1 + x every remainder is 1
use Rattle.std.specs.Prelude.{◌≡◌, Bool, true, ◌&&◌, ◌↔◌, List, ℕ, zero, suc, ◌+◌, ◌-◌, ◌*◌, ◌^◌, ◌≤◌, ◌<◌, eqb, length, get_or, map}
use Rattle.algebra.proofs.Power.{pow}
use Rattle.algebra.proofs.Coprime.{Divides}
use Rattle.algebra.proofs.Poly.{Polys}
use Rattle.algebra.proofs.Substitute.{sub}
use Rattle.field.specs.Mask.{◌⊕◌, coefficient}
use Rattle.field.specs.Field.{Degree, ω, field_power, logarithm}
use Rattle.field.proofs.Elements.{GF, gen}
use Rattle.cyclic.proofs.Lift.{lift}
use Rattle.binary.specs.Factor.{Modulus}
use Rattle.binary.specs.Lanes.{in_lanes}
use Rattle.poly.specs.Slice.{Small, series}
use Rattle.locator.specs.declared.terms.Term.{Term}
use Rattle.locator.specs.declared.terms.Lanes.{Lanes}

abbrev pub exponents_of : List Term → List ℕ
exponents_of terms = map (λ (t : Term). t.exponent) terms

abbrev pub steps_of : List Term → List ℕ
steps_of terms = map (λ (t : Term). t.step) terms

abbrev pub low_of : List Lanes → List ℕ
low_of words = map (λ (l : Lanes). l.low) words

abbrev pub high_of : List Lanes → List ℕ
high_of words = map (λ (l : Lanes). l.high) words

unfoldable pub lanes : ℕ → ℕ
lanes y = in_lanes (λ j. coefficient j y)

unfoldable pub term_sum : ℕ → (lg st : List ℕ) → (ℕ → ℕ) → (i c : ℕ) → ℕ
term_sum s lg st κ i zero = 0
term_sum s lg st κ i (suc m) = term_sum s lg st κ i m ⊕ κ m * field_power s ω (get_or lg m 0 + i * get_or st m 0)

-- the constant term of the locator is `first`
-- for f = 1 + x the remainder is one coefficient
unfoldable pub alone_at : (s first c : ℕ) (lg st : List ℕ) → ℕ → ℕ
alone_at s first c lg st i = first ⊕ term_sum s lg st (λ m. 1) i c

unfoldable pub vanishes_alone : (s first c : ℕ) (lg st : List ℕ) → ℕ → Bool
vanishes_alone s first c lg st i = eqb (alone_at s first c lg st i) 0

unfoldable pub vanishes : (s first c : ℕ) → (lg st lo hi : List ℕ) → ℕ → Bool
vanishes s first c lg st lo hi i =
    eqb (term_sum s lg st (λ m. get_or hi m 0) i c) 0 && eqb (first ⊕ term_sum s lg st (λ m. get_or lo m 0) i c) 0

-- of terms in a slice
abbrev pub alone_of : (s first : ℕ) → List Term → ℕ → ℕ
alone_of s first terms i = alone_at s first (length terms) (exponents_of terms) (steps_of terms) i

abbrev pub vanishes_alone_of : (s first : ℕ) → List Term → ℕ → Bool
vanishes_alone_of s first terms i = vanishes_alone s first (length terms) (exponents_of terms) (steps_of terms) i

abbrev pub vanishes_of : (s first : ℕ) → List Term → List Lanes → ℕ → Bool
vanishes_of s first terms words i = vanishes s first (length terms) (exponents_of terms) (steps_of terms) (low_of words) (high_of words) i

pub record Logged (s c : ℕ) (lg st : List ℕ) : Type 0 where
  pub lg_long : c ≤ length lg
  pub st_long : c ≤ length st
  pub logs : (m : ℕ) → m < c → get_or lg m 0 < 2 ^ s - 1
  pub steps : (m : ℕ) → m < c → get_or st m 0 < 2 ^ s - 1

-- no lane holds more than 1
pub record Laned (c : ℕ) (lo hi : List ℕ) : Type 0 where
  pub lo_long : c ≤ length lo
  pub hi_long : c ≤ length hi
  pub lo_le : (m : ℕ) → m < c → get_or lo m 0 ≤ lanes 15
  pub hi_le : (m : ℕ) → m < c → get_or hi m 0 ≤ lanes 15

pub record Ones (u c : ℕ) (lo hi : List ℕ) : Type 0 where
  pub lo_one : u ≡ 1 → (m : ℕ) → m < c → get_or lo m 0 ≡ 1
  pub hi_one : u ≡ 1 → (m : ℕ) → m < c → get_or hi m 0 ≡ 0

pub record LocatorSlices (s : ℕ) (lam : List ℕ) (terms : List Term) (words : List Lanes) : Type 0 where
  pub small : Small s lam
  pub pos : 0 < length lam
  pub terms_long : length lam ≤ length terms
  pub lanes_long : length lam ≤ length words

pub record TermsListable (s back f u : ℕ) (lam g : List ℕ) (terms : List Term) (words : List Lanes) : Type 0 where
  pub degree : Degree s
  pub modulus : Modulus f u
  pub back_lt : back < 2 ^ s - 1
  pub g_long : 2 ^ s ≤ length g
  pub g_at : (a : ℕ) → a < 2 ^ s → get_or g a 0 ≡ logarithm s a
  pub locator : LocatorSlices s lam terms words

-- at place i the c terms are those of the locator at ω^(i back) x
pub record TermsListed (s back f u : ℕ) (lam lg st lo hi : List ℕ) (c : ℕ) : Type 0 where
  pub listed : Logged s c lg st
  pub laned : Laned c lo hi
  pub ones : Ones u c lo hi
  pub means : (d : Degree s) (i : ℕ)
      → (vanishes s (get_or lam 0 0) c lg st lo hi i ≡ true)
      ↔ Divides (Polys (GF d)) (lift (GF d) f) (sub (GF d) (pow (GF d) (gen d) (i * back)) (series d lam))
