-- What the code computes as syndromes are the theory's.
--
--   Known, known         what `evaluate` and `extend` leave: the word's values on D
--   syndromes_small      they are elements of the field
--   received             as a series they are what the theory says of a received word
use mathlib.Core.Path.{◌≡◌, sym, ap, ◌∙◌, subst}
use mathlib.Core.Logic.{◌⊎◌, inl, inr}
use mathlib.Core.Bool.{true}
use mathlib.Core.List.{List}
use Prim.Native.Nat.{ℕ, ◌+◌, ◌*◌, ◌%◌, ◌^◌, ◌≤◌, ◌<◌}
use native.Mathlib.Nat.{zero-mul, one-mul}
use native.Mathlib.Decide.{dec_lt}
use native.Mathlib.Omega.{arith}
use lib.ListN.{get_or}
use lib.Pow.{pow_pos}
use Rattle.algebra.proofs.Ring.{zero-mul as 𝟘-mul, one-mul as 𝟙-mul}
use Rattle.algebra.proofs.Power.{pow}
use Rattle.field.specs.Field.{Degree, order_of_two, α, field_power}
use Rattle.field.proofs.Xor.{digit}
use Rattle.field.proofs.Elements.{GF, el, el_zero, root}
use Rattle.field.proofs.Numbers.{el_power, el_root}
use Rattle.field.proofs.Value.{coef, coef_0, coef_1, value}
use Rattle.binary.specs.Factor.{terms}
use Rattle.binary.proofs.Series.{terms_at}
use Rattle.cyclic.proofs.Ratio.{digits, digits_lt}
use Rattle.cyclic.proofs.Certificate.{syndromes, syndrome_is}
use Rattle.cyclic.proofs.Decode.{ReceivedSyndromes}
use Rattle.document.specs.Sheet.{Certificate}
use Rattle.document.specs.Coset.{in_set}
use Rattle.document.specs.Generator.{value_at}
use Rattle.document.proofs.Theory.{Length, degree, of_T, root_mod}
use Rattle.document.proofs.Encoding.{value_is}
use Rattle.certificate.proofs.RulesHeld.{Sound, in_range, covered_here, register_digit, theory}
use Rattle.poly.specs.Slice.{Small, Short, series}
use Rattle.binary.specs.Bits.{Holds}
use Rattle.syndrome.specs.Value.{value_of, Computed, Extended}
use Rattle.syndrome.specs.Series.{SyndromesOf}
use Rattle.syndrome.proofs.Setting.{value_lt}

-- val holds the word's values at α^i for every i of D
pub record Known (n s : ℕ) (w reps val : List ℕ) : Type 0 where
  pub at : (c : ℕ) → Holds c w → c < 2 ^ n → (i : ℕ) → in_set n reps i ≡ true → get_or val i 0 ≡ value_of n s c i

pub known : {n s : ℕ} {w reps val val' : List ℕ} → Computed n s w reps val → Extended n s reps val val' → Known n s w reps val'
known y z = record { at = λ c h l i q. z.at c (y.at c h l) i q }

module _ {n : ℕ} (l : Length n) (reps : List ℕ) (c : Certificate) (sound : Sound n reps c)
    {w val out out' : List ℕ} (values : Known n (order_of_two n) w reps val) (written : SyndromesOf n c val out out')
    (fresh : Short 0 out) {r : ℕ} (holds : Holds r w) (small : r < 2 ^ n) where
  abbrev s : ℕ
  s = order_of_two n

  abbrev d : Degree s
  d = degree l

  abbrev at : ℕ → ℕ
  at j = (c.b + j * c.z) % n

  term_is : (j : ℕ) → j < c.L → get_or (terms c.f c.h c.L) j 0 ≡ digits c.f c.h j
  term_is j h = terms_at c.f c.h (in_range l reps c sound).f_odd c.L j h ∙ register_digit c.f c.h j

  entry : (j : ℕ) → j < c.L → get_or out' j 0 ≡ digits c.f c.h j * get_or val (at j) 0
  entry j h = written.at j h ∙ ap (λ (x : ℕ). x * get_or val (at j) 0) (term_is j h)

  past : (j : ℕ) → c.L ≤ j → get_or out' j 0 ≡ 0
  past j h = written.rest j h ∙ fresh.at j (omega arith)

  value_there : (i : ℕ) → in_set n reps i ≡ true → get_or val i 0 ≡ value_of n s r i
  value_there i t = values.at r holds small i t

  covered : (j : ℕ) → j < c.L → (digits c.f c.h j ≡ 0) ⊎ (in_set n reps (at j) ≡ true)
  covered j h =
      elim (covered_here l reps c sound j h) [
        | inl e ↦ inl e
        | inr t ↦ inr (of_T (in_set n reps (at j)) t)
      ]

  pub syndromes_short : Short c.L out'
  syndromes_short = record { at = past }

  pub syndromes_small : Small s out'
  syndromes_small = record { at = λ j. go j (dec_lt j c.L) }
    where
      part : (x y : ℕ) → x < 2 → y < 2 ^ s → x * y < 2 ^ s
      part x y h b =
          digit (λ x. x * y < 2 ^ s) (subst (λ (z : ℕ). z < 2 ^ s) (sym (zero-mul y)) (pow_pos s))
          (subst (λ (z : ℕ). z < 2 ^ s) (sym (one-mul y)) b) x h

      inside : (j : ℕ) → j < c.L → (digits c.f c.h j ≡ 0) ⊎ (in_set n reps (at j) ≡ true)
          → digits c.f c.h j * get_or val (at j) 0 < 2 ^ s
      inside j h (inl e) =
          subst (λ (z : ℕ). z < 2 ^ s) (sym (ap (λ (x : ℕ). x * get_or val (at j) 0) e ∙ zero-mul (get_or val (at j) 0))) (pow_pos s)
      inside j h (inr t) =
          part (digits c.f c.h j) (get_or val (at j) 0) (digits_lt c.f c.h j)
          (subst (λ (z : ℕ). z < 2 ^ s) (sym (value_there (at j) t)) (value_lt d (field_power s (α s n) (at j)) r))

      go : (j : ℕ) → Dec (j < c.L) → get_or out' j 0 < 2 ^ s
      go j (yes h) = subst (λ (z : ℕ). z < 2 ^ s) (sym (entry j h)) (inside j h (covered j h))
      go j (no h) = subst (λ (z : ℕ). z < 2 ^ s) (sym (past j (omega arith))) (pow_pos s)

  -- a term times an element
  el_term : (x y : ℕ) → x < 2 → el d (x * y) ≡ (GF d).mul (coef (GF d) x) (el d y)
  el_term x y h =
      digit (λ x. el d (x * y) ≡ (GF d).mul (coef (GF d) x) (el d y))
      (ap (el d) (zero-mul y) ∙ el_zero d ∙ sym (ap (λ a. (GF d).mul a (el d y)) (coef_0 (GF d)) ∙ 𝟘-mul (GF d) _))
      (ap (el d) (one-mul y) ∙ sym (ap (λ a. (GF d).mul a (el d y)) (coef_1 (GF d)) ∙ 𝟙-mul (GF d) _)) x h

  el_value : (k : ℕ) → el d (value_of n s r k) ≡ value (GF d) (pow (GF d) (root d n) k) r
  el_value k =
      value_is d (field_power s (α s n) k) r
      ∙ ap (λ a. value (GF d) a r) (el_power d (α s n) k ∙ ap (λ a. pow (GF d) a k) (el_root d n))

  syndrome_at : (j : ℕ) → j < c.L
      → el d (get_or out' j 0) ≡ (GF d).mul (coef (GF d) (digits c.f c.h j)) (value (GF d) (pow (GF d) (root d n) (c.b + j * c.z)) r)
  syndrome_at j h =
      ap (el d) (entry j h) ∙ el_term (digits c.f c.h j) (get_or val (at j) 0) (digits_lt c.f c.h j) ∙ go (covered j h)
    where
      go : (digits c.f c.h j ≡ 0) ⊎ (in_set n reps (at j) ≡ true)
          → (GF d).mul (coef (GF d) (digits c.f c.h j)) (el d (get_or val (at j) 0))
          ≡ (GF d).mul (coef (GF d) (digits c.f c.h j)) (value (GF d) (pow (GF d) (root d n) (c.b + j * c.z)) r)
      go (inl e) =
          let none = ap (coef (GF d)) e ∙ coef_0 (GF d) in
          ap (λ a. (GF d).mul a (el d (get_or val (at j) 0))) none ∙ 𝟘-mul (GF d) _
          ∙ sym (ap (λ a. (GF d).mul a (value (GF d) (pow (GF d) (root d n) (c.b + j * c.z)) r)) none ∙ 𝟘-mul (GF d) _)
      go (inr t) =
          ap (λ a. (GF d).mul (coef (GF d) (digits c.f c.h j)) a)
          (ap (el d) (value_there (at j) t ∙ ap (λ (a : ℕ). value_at s a r) (root_mod l (c.b + j * c.z))) ∙ el_value (c.b + j * c.z))

  pub received : ReceivedSyndromes (syndromes (theory l reps c sound)) r (series d out')
  unfolding series theory
  received = record {
    below = record { at = λ j h. ap (el d) (past j h) ∙ el_zero d };
    at = λ j h. syndrome_at j h ∙ sym (syndrome_is (theory l reps c sound) r j small);
  }
