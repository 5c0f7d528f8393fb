-- The rules of a certificate as they are computed, and as they are published.
--
--   odd_of                   f with constant term 1
--   modulus                  f of a certificate that meets rule 1
--   rule1_said, rule2_said, rule4_said      each rule, both ways, but 3 (RuleThree.antt): 2 and 4 for a certificate that meets rule 1
--   certificate_said, certificates_said      so the conditions 7 to 10, of one certificate and of a list
--   published_iff            a certificate meets the rules exactly when it meets the published conditions
--   rounded_of               and its distance is the published one
use mathlib.Core.Path.{◌≡◌, refl, sym, ap, ◌∙◌, subst}
use mathlib.Core.Logic.Iff
use mathlib.Core.Logic.{◌↔◌, ◌⊎◌}
use mathlib.Core.Bool.{Bool, not, ◌||◌}
use mathlib.Core.List.{List, [], ◌∷◌, flat_map}
use Prim.Native.Nat.{ℕ, ◌+◌, ◌*◌, ◌%◌, ◌≤◌, ◌<◌}
use native.Mathlib.Nat.{div-one}
use native.Mathlib.Omega.{arith}
use lib.Dec.{eqb}
use lib.ListN.{get_or}
use Rattle.field.specs.Mask.{coefficient}
use Rattle.field.proofs.Search.{every_at, every_of}
use Rattle.field.proofs.Xor.{digit_lt}
use Rattle.binary.specs.Factor.{degree, terms, Modulus}
use Rattle.binary.proofs.Degree.{degree_of, degree_low, degree_high}
use Rattle.binary.proofs.Series.{register, terms_at}
use Rattle.binary.proofs.Meaning.{common_iff, factor_iff, series_product, series_unique}
use Rattle.document.specs.Answer.{first_of}
use Rattle.document.specs.Sheet.{Certificate}
use Rattle.document.specs.Coset.{in_set}
use Rattle.document.specs.Certificate.{rule1, rule2, rule4, distance}
use Rattle.document.specs.Judge.{certificate_conditions}
use Rattle.document.proofs.Reflect.{Says, not_iff, eqb_iff, or_of}
use Rattle.document.proofs.Meaning.{rule1_iff, set_iff, distance_least}
use Rattle.document.proofs.Theory.{Length}
use Rattle.code.specs.Published.{HasDegree, Rule1, Rule2, Rule4, Published, InDefiningSet, Rounded}
use Rattle.code.specs.Table.{certificate_turns, last_refusal}
use Rattle.code.proofs.InTurn.{Said, stable, said_none, said_append}
use Rattle.code.proofs.RuleThree.{rule3_said}

not_said : {b : Bool} {P : Type 0} → Says b P → Says (not b) (¬ P)
not_said {b} w = Iff.trans (not_iff b) (Iff.not w)

-- ---- rule 1
degree_has : {f : ℕ} → 0 < f → HasDegree f (degree f)
degree_has {f} p = record { low = degree_low f p; high = degree_high f p }

has_degree : {f u : ℕ} → HasDegree f u → degree f ≡ u
has_degree {f} {u} h = degree_of f u h.low h.high

odd_of : (f : ℕ) → coefficient 0 f ≡ 1 → f % 2 ≡ 1
odd_of f e = sym (ap (λ (x : ℕ). x % 2) (div-one f)) ∙ e

odd_pos : (f : ℕ) → f % 2 ≡ 1 → 0 < f
odd_pos f e = omega arith

rule1_said : (n : ℕ) (c : Certificate) → Says (rule1 1023 n c) (Rule1 n c)
rule1_said n c = Iff.trans (rule1_iff 1023 n c) (
  λ w.
      let h_pos : 0 < c.h = let q = w.7 in omega arith in
      record {
        b_below = w.0;
        z_range = (w.1, w.2);
        z_coprime = w.3;
        u = degree c.f;
        u_is = degree_has (odd_pos c.f (odd_of c.f w.6));
        u_range = (w.4, w.5);
        constant = w.6;
        h_nonzero = w.7;
        v = degree c.h;
        v_is = degree_has h_pos;
        v_range = w.8;
        L-range = (w.9, w.10);
        zero_byte = w.11;
      },
  λ r.
      let eu : degree c.f ≡ r.u = has_degree r.u_is in
      let ev : degree c.h ≡ r.v = has_degree r.v_is in (
        r.b_below,
        r.z_range.0,
        r.z_range.1,
        r.z_coprime,
        subst (λ (x : ℕ). 1 ≤ x) (sym eu) r.u_range.0,
        subst (λ (x : ℕ). x ≤ 8) (sym eu) r.u_range.1,
        r.constant,
        r.h_nonzero,
        omega (arith, r.v_range),
        r.L-range.0,
        r.L-range.1,
        r.zero_byte,
      ),
)

-- what rule 1 leaves for the others
module _ {n : ℕ} {c : Certificate} (r : Rule1 n c) where
  f_odd : c.f % 2 ≡ 1
  f_odd = odd_of c.f r.constant

  f_pos : 0 < c.f
  f_pos = odd_pos c.f f_odd

  pub modulus : Modulus c.f (degree c.f)
  modulus =
      let e : degree c.f ≡ r.u = has_degree r.u_is in
      record { is = refl; lo = omega (arith, r.u_range.0); hi = omega (arith, r.u_range.1); odd = f_odd }

  rule2_said : Says (rule2 c) (Rule2 c)
  unfolding rule2
  rule2_said =
      Iff.trans (not_said (common_iff c.f c.h f_pos)) (
        λ w d l x y. w (d, l, (factor_iff d c.f).1 y, (factor_iff d c.h).1 x),
        λ w q. w q.0 q.1 ((factor_iff q.0 c.h).0 q.3) ((factor_iff q.0 c.f).0 q.2),
      )

  module _ (o : Length n) (reps : List ℕ) where
    term : ℕ → ℕ
    term j = get_or (terms c.f c.h c.L) j 0

    place : ℕ → ℕ
    place j = (c.b + j * c.z) % n

    covered_said : (j : ℕ) → Says (eqb (term j) 0 || in_set n reps (place j)) ((term j ≡ 0) ⊎ InDefiningSet n reps (place j))
    covered_said j = or_of (eqb_iff (term j) 0) (set_iff o.odd reps (place j))

    -- the series is the one that f times makes h
    rule4_said : Says (rule4 n reps c) (Rule4 n reps c)
    unfolding rule4 term place
    rule4_said = (
      λ e. record {
        a = λ j. register c.f c.h j % 2;
        two = λ j. digit_lt (register c.f c.h j);
        series = series_product c.f c.h f_odd;
        covered = λ j l.
            subst (λ (x : ℕ). (x ≡ 0) ⊎ InDefiningSet n reps (place j)) (terms_at c.f c.h f_odd c.L j l)
            ((covered_said j).0 (every_at (λ j. eqb (term j) 0 || in_set n reps (place j)) c.L e j l));
      },
      λ q. every_of (λ j. eqb (term j) 0 || in_set n reps (place j)) c.L
          (λ j l. (covered_said j).1
          (subst (λ (x : ℕ). (x ≡ 0) ⊎ InDefiningSet n reps (place j))
          (series_unique c.f c.h f_odd q.a q.two q.series j ∙ sym (terms_at c.f c.h f_odd c.L j l))
          (q.covered j l))),
    )

-- ---- conditions 7 to 10
module _ {n : ℕ} (o : Length n) (reps : List ℕ) where
  pub certificate_said : (c : Certificate) → Said last_refusal (certificate_conditions 1023 n reps c) (certificate_turns n reps c)
  unfolding certificate_conditions
  certificate_said c = (
    omega arith,
    omega arith,
    refl,
    not_said (rule1_said n c),
    λ n₁. let r : Rule1 n c = stable (rule1_said n c) n₁ in (
      omega arith,
      omega arith,
      refl,
      not_said (rule2_said r),
      λ n₂. (
        omega arith,
        omega arith,
        refl,
        not_said (rule3_said o c (modulus r)),
        λ n₃. (omega arith, omega arith, refl, not_said (rule4_said r o reps), λ n₄. tt),
      ),
    ),
  )

  pub certificates_said : (l : List Certificate)
      → Said last_refusal (flat_map (certificate_conditions 1023 n reps) l) (flat_map (certificate_turns n reps) l)
  unfolding flat_map
  certificates_said [] = tt
  certificates_said (c ∷ l) =
      said_append last_refusal (certificate_conditions 1023 n reps c) (certificate_turns n reps c)
      (flat_map (certificate_conditions 1023 n reps) l) (flat_map (certificate_turns n reps) l) (certificate_said c)
      (λ none. certificates_said l)

  pub published_iff : (c : Certificate) → (first_of (certificate_conditions 1023 n reps c) ≡ 0) ↔ Published n reps c
  published_iff c =
      Iff.trans (said_none last_refusal (certificate_conditions 1023 n reps c) (certificate_turns n reps c) (certificate_said c)) (
        λ h.
            let r : Rule1 n c = stable (rule1_said n c) h.0 in
            record {
              rule1 = r;
              rule2 = stable (rule2_said r) h.1.0;
              rule3 = stable (rule3_said o c (modulus r)) h.1.1.0;
              rule4 = stable (rule4_said r o reps) h.1.1.1.0;
            },
        λ p. (λ h. h p.rule1, (λ h. h p.rule2, (λ h. h p.rule3, (λ h. h p.rule4, tt)))),
      )

-- ---- the distance
pub rounded_of : {n : ℕ} {c : Certificate} → Rule1 n c → Rounded c (distance c)
rounded_of {n} {c} r =
    let eu : degree c.f ≡ r.u = has_degree r.u_is in
    let ev : degree c.h ≡ r.v = has_degree r.v_is in
    let w = distance_least c (omega (arith, r.u_range.0)) (omega (arith, r.v_range)) in
    record {
      u = degree c.f;
      u_is = subst (HasDegree c.f) (sym eu) r.u_is;
      v = degree c.h;
      v_is = subst (HasDegree c.h) (sym ev) r.v_is;
      enough = w.0;
      least = w.1;
    }
