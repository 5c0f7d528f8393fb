-- The rules of a certificate in the theory's words.
--
--   register_digit    the terms of h/f are the theory's digits
--   no_common         masks for which `common` says no have no factor in common
--   Sound n reps c    a certificate that meets rules 1 to 4, whatever the largest L; sound_of: by the rules
--   covered_here      rule 4 term by term
--   theory            it is one of the theory, over the code of n and reps: distance_is, radius_is
use mathlib.Core.Path.{◌≡◌, refl, sym, ap, ◌∙◌}
use mathlib.Core.Logic.{◌≢◌, ◌⊎◌, inl, inr}
use mathlib.Core.Bool.{Bool, true, false, not, ◌||◌}
use mathlib.Core.List.{List}
use Prim.Native.Nat.{ℕ, zero, suc, ◌+◌, ◌-◌, ◌*◌, ◌/◌, ◌%◌, ◌<◌}
use native.Mathlib.Decide.{dec_lt, ℕ_discrete}
use native.Mathlib.Omega.{arith}
use lib.Dec.{T, eqb}
use lib.ListN.{get_or}
use borrow.Author.Tests.{eqb-true}
use Rattle.field.specs.Mask.{◌⊕◌, clmul}
use Rattle.field.proofs.Search.{true_ne_false, every_at}
use Rattle.field.proofs.Xor.{digit_lt}
use Rattle.field.proofs.OrderOfTwo.{order_divides}
use Rattle.field.proofs.MaskProduct.{digit_mul, clmul_zero_l}
use Rattle.binary.specs.Factor.{degree, common, terms}
use Rattle.binary.proofs.Degree.{degree_top}
use Rattle.binary.proofs.Series.{register, register_z, register_s, terms_at}
use Rattle.binary.proofs.Meaning.{no_factor, common_iff}
use Rattle.cyclic.proofs.MaskGcd.{NoCommon}
use Rattle.cyclic.proofs.Period.{Denominator}
use Rattle.cyclic.proofs.Apart.{FactorsApart}
use Rattle.cyclic.proofs.Ratio.{next, digits, digits_z, digits_s}
use Rattle.cyclic.proofs.Radius.{distance_of, radius_for}
use Rattle.cyclic.proofs.Syndromes as Syndromes
use Rattle.cyclic.proofs.Certificate.{RationalCertificate, syndromes}
use Rattle.document.specs.Sheet.{Certificate as Written}
use Rattle.document.specs.Coset.{in_set}
use Rattle.document.specs.Certificate.{rule2, rule3, rule4, distance, radius}
use Rattle.document.proofs.Theory.{Length, degree as degree_of, T_of, code_of}
use Rattle.document.proofs.ApartIs.{apart_defined}
use Rattle.document.proofs.Acceptance.{Rules}
use Rattle.certificate.proofs.Ranges.{Ranged, ranged}

-- ---- the series
register_on : (f h j : ℕ) → register f h (suc j) ≡ register f (next f h) j
register_on f h zero =
    register_s f h 0 ∙ ap (λ (r : ℕ). (r ⊕ (r % 2) * f) / 2) (register_z f h)
    ∙ ap (λ (x : ℕ). (h ⊕ x) / 2) (digit_mul f (h % 2) (digit_lt h)) ∙ sym (register_z f (next f h))
register_on f h (suc j) =
    register_s f h (suc j) ∙ ap (λ (r : ℕ). (r ⊕ (r % 2) * f) / 2) (register_on f h j) ∙ sym (register_s f (next f h) j)

pub register_digit : (f h j : ℕ) → register f h j % 2 ≡ digits f h j
register_digit f h zero = ap (λ (r : ℕ). r % 2) (register_z f h) ∙ sym (digits_z f h)
register_digit f h (suc j) =
    ap (λ (r : ℕ). r % 2) (register_on f h j) ∙ register_digit f (next f h) j ∙ sym (digits_s f h j)

-- ---- factors: a mask that is not above 1 is 0 or 1
no_common : (f h : ℕ) → 0 < f → common f h ≡ false → NoCommon f h
no_common f h p e d x y = elim (dec_lt 1 d) [
  | yes l ↦ absurd (true_ne_false ((common_iff f h p).1 (d, l, x, y)) e)
  | no l ↦ elim (ℕ_discrete d 0) [
    | yes z ↦
        (let q : f ≡ 0 = x.1 ∙ ap (λ (m : ℕ). clmul m x.0) z ∙ clmul_zero_l x.0 in
        absurd (omega arith))
    | no z ↦ omega arith
  ]
]

-- ---- the certificate
pub record Sound (n : ℕ) (reps : List ℕ) (c : Written) : Type 0 where
  pub range : Ranged n c
  pub factor : rule2 c ≡ true
  pub apart : rule3 n c ≡ true
  pub covered : rule4 n reps c ≡ true

pub sound_of : {most n : ℕ} {reps : List ℕ} {c : Written} → Rules most n reps c → Sound n reps c
sound_of {most} {n} {reps} {c} r = record { range = ranged most n c (ap not r.range); factor = r.factor; apart = r.apart; covered = r.terms }

not-true : (b : Bool) → not b ≡ true → b ≡ false
not-true true e = sym e
not-true false e = refl

or_cases : (a b : Bool) → a || b ≡ true → (a ≡ true) ⊎ (b ≡ true)
or_cases true b e = inl refl
or_cases false b e = inr e

module _ {n : ℕ} (l : Length n) (reps : List ℕ) (c : Written) (s : Sound n reps c) where
  pub in_range : Ranged n c
  in_range = s.range

  pub f_pos : 0 < c.f
  f_pos = let o : c.f % 2 ≡ 1 = in_range.f_odd in omega arith

  pub h_pos : 0 < c.h
  h_pos = let o : c.h ≢ 0 = in_range.h in omega arith

  pub no_common_here : NoCommon c.f c.h
  unfolding rule2
  no_common_here = no_common c.f c.h f_pos (not-true _ s.factor)

  pub f_is : Denominator (degree c.f) c.f
  f_is = record { pos = in_range.u_low; degree = degree_top c.f f_pos; odd = in_range.f_odd }

  pub apart_here : FactorsApart (code_of l reps) c.f
  unfolding rule3
  apart_here = (apart_defined (degree_of l) n (order_divides l.odd) c.f f_is).0 s.apart

  pub covered_here : (j : ℕ) → j < c.L → (digits c.f c.h j ≡ 0) ⊎ T (in_set n reps ((c.b + j * c.z) % n))
  unfolding rule4
  covered_here j h =
      let a : List ℕ = terms c.f c.h c.L in
      elim (or_cases (eqb (get_or a j 0) 0) (in_set n reps ((c.b + j * c.z) % n))
      (every_at (λ j. eqb (get_or a j 0) 0 || in_set n reps ((c.b + j * c.z) % n)) c.L s.covered j h)) [
        | inl e ↦ inl (sym (terms_at c.f c.h in_range.f_odd c.L j h ∙ register_digit c.f c.h j) ∙ eqb-true (get_or a j 0) 0 e)
        | inr e ↦ inr (T_of e)
      ]

  unfoldable pub theory : RationalCertificate (code_of l reps)
  theory = record {
    b = c.b;
    z = c.z;
    f = c.f;
    h = c.h;
    L = c.L;
    u = degree c.f;
    v = degree c.h;
    z_coprime = no_factor c.z n (omega (arith, l.odd.least)) in_range.z_coprime;
    f_is = f_is;
    h_degree = degree_top c.h h_pos;
    v_lt = in_range.v;
    fh = no_common_here;
    apart = apart_here;
    terms = covered_here;
  }

  pub distance_is : Syndromes.distance (syndromes theory) ≡ distance c
  unfolding theory distance_of distance
  distance_is = refl

  pub radius_is : Syndromes.radius (syndromes theory) ≡ radius c
  unfolding theory radius_for radius
  radius_is = ap (λ (d : ℕ). (d - 1) / 2) distance_is
