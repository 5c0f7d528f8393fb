-- The code of a sheet as a code of the theory.
--
--   Length n            n is odd, and the order of 2 modulo n is a degree of the field's table: degree
--   T_of, of_T          a test that says true
--   represented     D is the union of the cosets of any list of numbers
--   root_mod            exponents of α count modulo n
--   code_of              so it is the defining set of a code: its checks are n - k, and its dimension is k
use mathlib.Core.Path.{◌≡◌, refl, sym, ap, ◌∙◌, subst}
use mathlib.Core.Bool.{Bool, true, false, ◌||◌}
use mathlib.Core.List.{List, [], ◌∷◌}
use Prim.Native.Nat.{ℕ, ◌-◌, ◌*◌, ◌%◌, ◌^◌, ◌≤◌, ◌<◌}
use native.Mathlib.Nat.{mod-eq_of_lt}
use native.Mathlib.Decide.{dec_lt}
use native.Mathlib.Omega.{arith}
use lib.Dec.{T}
use lib.ListN.{length}
use Rattle.algebra.proofs.Lists.{In, here, there}
use Rattle.field.specs.Search.{some}
use Rattle.algebra.proofs.Power.{pow, pow_mod}
use Rattle.field.specs.Field.{Degree, OddLength, field_power, order_of_two, α}
use Rattle.field.proofs.Search.{true_ne_false}
use Rattle.field.proofs.OrderOfTwo.{order_pos, order_mod, order_divides}
use Rattle.field.proofs.Elements.{GF, el, el_inj, root_order}
use Rattle.field.proofs.Numbers.{power_lt, el_power, el_root}
use Rattle.cyclic.proofs.CyclicCode.{Code}
use Rattle.cyclic.proofs.Coset.{Representatives, coset_code}
use Rattle.cyclic.proofs.Members.{members}
use Rattle.cyclic.proofs.Generator as Generator
use Rattle.document.specs.Coset.{in_coset, in_set, defining_set, dimension}
use Rattle.document.proofs.Cosets.{coset_at, coset_of}
use Rattle.document.proofs.Sane.{set_size}

pub record Length (n : ℕ) : Type 0 where
  pub odd : OddLength n
  pub most : order_of_two n ≤ 12

-- n divides 2^s - 1, and is at least 3: so s is not 1
pub degree : {n : ℕ} → Length n → Degree (order_of_two n)
degree {n} l = record { lo = go (dec_lt (order_of_two n) 2); hi = l.most }
  where
    go : Dec (order_of_two n < 2) → 2 ≤ order_of_two n
    go (no h) = omega arith
    go (yes h) =
        let p : 0 < order_of_two n = order_pos n in
        let e : order_of_two n ≡ 1 = omega arith in
        let z : 1 % n ≡ 0 = ap (λ (k : ℕ). (2 ^ k - 1) % n) (sym e) ∙ order_mod l.odd in
        let o : 1 % n ≡ 1 = mod-eq_of_lt (omega (arith, l.odd.least)) in
        absurd (omega arith)

-- ---- tests
pub T_of : {b : Bool} → b ≡ true → T b
T_of e = subst T (sym e) tt

pub of_T : (b : Bool) → T b → b ≡ true
of_T true t = refl
of_T false t = absurd t

some_in : (test : ℕ → Bool) {x : ℕ} {l : List ℕ} → In x l → test x ≡ true → some test l ≡ true
unfolding some
some_in test (here {l = l}) e = ap (λ b. b || some test l) e
some_in test (there {c = c} {l = l} m) e = or_right (test c) (some_in test m e)
  where
    or_right : (a : Bool) {b : Bool} → b ≡ true → a || b ≡ true
    or_right true e = refl
    or_right false e = e

in_some : (test : ℕ → Bool) (l : List ℕ) → some test l ≡ true → (x : ℕ) × In x l × (test x ≡ true)
unfolding some
in_some test [] e = absurd (true_ne_false e refl)
in_some test (x ∷ l) e = go (test x) refl (in_some test l) e
  where
    go : (b : Bool) → test x ≡ b → (some test l ≡ true → (y : ℕ) × In y l × (test y ≡ true)) → b || some test l ≡ true
        → (y : ℕ) × In y (x ∷ l) × (test y ≡ true)
    go true q later e = (x, here, q)
    go false q later e = let r = later e in (r.0, there r.1, r.2)

-- ---- the code
module _ {n : ℕ} (l : Length n) (reps : List ℕ) where
  pub represented : Representatives n (in_set n reps) reps
  unfolding in_set
  represented = record {
    inside = λ {r} m j. T_of (some_in (λ r₁. in_coset n r₁ (r * 2 ^ j % n)) m (coset_of l.odd r (r * 2 ^ j % n) j refl));
    cover = λ i t. let w = in_some (λ r. in_coset n r i) reps (of_T (in_set n reps i) t) in
        let v = coset_at l.odd w.0 i w.2 in
        (w.0, v.0, w.1, v.2);
  }

  abbrev pub code_of : Code (GF (degree l)) n
  code_of = coset_code (degree l) (order_divides l.odd) represented

  pub members_are : members (in_set n reps) n ≡ defining_set n reps
  unfolding members defining_set
  members_are = refl

  pub checks_are : Generator.checks code_of ≡ n - dimension n reps
  unfolding Generator.checks
  checks_are = ap length members_are ∙ sym (set_size n reps)

  pub dimension_is : Generator.dimension code_of ≡ dimension n reps
  unfolding Generator.checks dimension
  dimension_is = ap (λ l. n - length l) members_are

-- ---- exponents of α are modulo n
module _ {n : ℕ} (l : Length n) where
  pub root_mod : (k : ℕ) → field_power (order_of_two n) (α (order_of_two n) n) (k % n) ≡ field_power (order_of_two n) (α (order_of_two n) n) k
  root_mod k =
      let d : Degree (order_of_two n) = degree l in
      let e : (i : ℕ) → el d (field_power (order_of_two n) (α (order_of_two n) n) i) ≡ pow (GF d)
      (el d (α (order_of_two n) n)) i = λ i. el_power d (α (order_of_two n) n) i in
      el_inj d (power_lt d (α (order_of_two n) n) (k % n)) (power_lt d (α (order_of_two n) n) k)
      (e (k % n) ∙ ap (λ x. pow (GF d) x (k % n)) (el_root d n)
      ∙ sym (pow_mod (GF d) _ n (root_order d n (order_divides l.odd)) k)
      ∙ ap (λ x. pow (GF d) x k) (sym (el_root d n)) ∙ sym (e k))
