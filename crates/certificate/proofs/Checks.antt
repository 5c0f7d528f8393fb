-- One certificate against its four rules, and what rule 1 gives the code that checks the others.
--
--   check_pass                 a certificate that keeps all four is answered by its distance
--   ratio_of, modulus_of, walkable_of      what the functions that test them need
--   quotient_le                a distance is at most 8 above the number of terms
use mathlib.Core.Path.{◌≡◌, refl, sym, ap, ap₂, ◌∙◌}
use mathlib.Core.Logic.{◌≢◌}
use mathlib.Core.Bool.{Bool, true, false, not}
use mathlib.Core.List.{List, [], ◌∷◌}
use Prim.Native.Nat.{ℕ, suc, ◌+◌, ◌/◌, ◌^◌, ◌≤◌, ◌<◌}
use native.Mathlib.Nat.{div-le_self}
use native.Mathlib.Omega.{arith}
use lib.ListN.{length}
use lib.Pow.{pow_mono}
use Rattle.field.specs.Field.{order_of_two}
use Rattle.binary.specs.Factor.{degree, common, Modulus, Ratio}
use Rattle.binary.proofs.Degree.{degree_low, degree_high, degree_eq}
use Rattle.sheet.specs.declared.types.Certificate.{Certificate as CodeCertificate}
use Rattle.document.specs.Answer.{Answer, returned, first_of, settle_in, settle}
use Rattle.document.specs.Sheet.{Certificate}
use Rattle.document.specs.Apart.{factors_apart}
use Rattle.document.specs.Certificate.{rule1, rule2, rule3, rule4, distance}
use Rattle.document.specs.Judge.{certificate_conditions}
use Rattle.sheet.specs.Stage.{certificate_as}
use Rattle.certificate.specs.Rules.{Walkable, Ruled, CheckedBy, check_of}
use Rattle.certificate.proofs.Ranges.{Ranged}

-- the answer by the four conditions
abbrev four : Bool → Bool → Bool → Bool → List ℕ → Answer
four a b c d v = (settle (first_of ((7, a) ∷ (8, b) ∷ (9, c) ∷ (10, d) ∷ [])) v [] []).0

miss : (a b c d : Bool) (v : List ℕ) → a ≡ false → b ≡ false → c ≡ false → d ≡ false → returned v ≡ four a b c d v
unfolding first_of settle_in
miss a b c d v e f g h =
    ap₂ (λ z w. four false false z w v) (sym g) (sym h) ∙ ap₂ (λ x y. four x y c d v) (sym e) (sym f)

module _ (most n : ℕ) (k : Certificate) (z : List ℕ) where
  check_is : (reps : List ℕ) → check_of most n reps k
      ≡ four (not (rule1 most n k)) (not (rule2 k)) (not (rule3 n k)) (not (rule4 n reps k)) (distance k ∷ [])
  unfolding check_of certificate_conditions
  check_is reps = refl

  not_not : (b : Bool) → not (not b) ≡ b
  not_not true = refl
  not_not false = refl

  module _ (a : false ≡ not (rule1 most n k)) where
    module _ (b : common k.f k.h ≡ false) where
      module _ (c : false ≡ not (factors_apart (order_of_two n) n k.f)) where
        pub check_pass : Ruled n k z false → {x : ℕ} → x ≡ distance k → CheckedBy most n k z (returned (x ∷ []))
        unfolding rule2 rule3
        check_pass d q = record {
          is = λ reps m. ap (λ (x : ℕ). returned (x ∷ [])) q
              ∙ miss _ _ _ _ _ (sym a) (not_not (common k.f k.h) ∙ b) (sym c) (sym (d.is reps m)) ∙ sym (check_is reps);
        }

-- ---- what rule 1 gives
module _ {n : ℕ} {c : CodeCertificate} (r : Ranged n (certificate_as c)) where
  f_pos : 0 < c.f
  f_pos = degree_eq c.f (degree c.f) refl r.u_low

  h_pos : 0 < c.h
  h_pos = let k : c.h ≢ 0 = r.h in omega arith

  h_lt : c.h < 2 ^ degree c.f
  h_lt =
      let a : c.h < 2 ^ suc (degree c.h) = degree_high c.h h_pos in
      let b : 2 ^ suc (degree c.h) ≤ 2 ^ degree c.f = pow_mono r.v in
      omega arith

  f_lt : c.f < 2 ^ suc (degree c.f)
  f_lt = degree_high c.f f_pos

  pub ratio_of : Ratio c.f c.h
  ratio_of =
      let a : 2 ^ degree c.f ≤ c.f = degree_low c.f f_pos in
      let b : 2 ^ 1 ≤ 2 ^ degree c.f = pow_mono r.u_low in
      let d : 2 ^ suc (degree c.f) ≤ 2 ^ 9 = pow_mono {j = 9} (omega (arith, r.u_high)) in
      let l : c.f < 2 ^ suc (degree c.f) = f_lt in
      record { two = omega arith; cap = omega arith; odd = r.f_odd; pos = h_pos; proper = h_lt }

  pub modulus_of : {u : ℕ} → u ≡ degree c.f → Modulus c.f u
  modulus_of e = record { is = e; lo = omega (arith, r.u_low); hi = omega (arith, r.u_high); odd = r.f_odd }

  pub walkable_of : {z : List ℕ} → n ≤ 65535 → c.terms ≤ 65535 → n ≤ length z → Walkable n c z
  walkable_of most few long = record {
    most = most;
    start = r.b;
    step = omega (arith, r.z_high, r.z_low);
    odd = r.f_odd;
    f_lt = f_lt;
    h_lt = h_lt;
    small = r.u_high;
    few = few;
    long = long;
  }

pub quotient_le : (a u L : ℕ) → a ≤ L + 7 → a / u + 1 ≤ L + 8
quotient_le a u L h = omega (arith, div-le_self a u)
