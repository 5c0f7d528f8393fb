-- Euclid on numbers: a turn keeps the common divisors.
--
--   and_turn                   the step behind both algorithms of Euclid
--   every_not                  not all numbers below n pass where one does not
--   both_yes, both_at          the test whether d divides a and b
--   shared, none               a divisor that both have, of any size, and none
--   SameDivisors a b x y       a and b have the divisors in common that x and y have
--   divisors_turn                in the loop
--   divisors_one, divisors_end                   after it, where y is 1 and where it is 0
use mathlib.Core.Path.{◌≡◌, refl, sym, ap, ap₂, ◌∙◌}
use mathlib.Core.Bool.{Bool, true, false, not, ◌&&◌, and_comm}
use Prim.Native.Nat.{ℕ, ◌+◌, ◌-◌, ◌%◌, ◌≤◌, ◌<◌}
use native.Mathlib.Nat.{mod-eq_of_lt, mod-mod_of_dvd, dvd_of_mod-eq-zero, zero-mod, mod_self}
use native.Mathlib.Decide.{dec_lt, ℕ_discrete}
use native.Mathlib.Omega.{arith}
use lib.Dec.{eqb}
use borrow.Author.Tests.{eqb-true, eq-eqb, ne_eqb}
use Rattle.field.specs.Search.{up_to, every}
use Rattle.field.proofs.Search.{true_ne_false, every_at, every_of}
use Rattle.binary.specs.Factor.{coprime}

-- p: d divides x, q: d divides y, r: d divides the remainder of x by y
pub and_turn : (p q r : Bool) → (q ≡ true → p ≡ r) → p && q ≡ q && r
and_turn true true r h = h refl
and_turn false true r h = h refl
and_turn true false r h = refl
and_turn false false r h = refl

pub every_not : (test : ℕ → Bool) (n k : ℕ) → k < n → test k ≡ false → every test (up_to n) ≡ false
every_not test n k h e = go (every test (up_to n)) refl
  where
    go : (b : Bool) → every test (up_to n) ≡ b → every test (up_to n) ≡ false
    go true q = absurd (true_ne_false (every_at test n q k h) e)
    go false q = q

abbrev both : ℕ → ℕ → ℕ → Bool
both d a b = eqb (a % d) 0 && eqb (b % d) 0

pub record SameDivisors (a b x y : ℕ) : Type 0 where
  pub same : (d : ℕ) → 2 ≤ d → both d a b ≡ both d x y

pub divisors_turn : {a b x y r : ℕ} → r ≡ x % y → SameDivisors a b x y → SameDivisors a b y r
divisors_turn {a} {b} {x} {y} {r} e v = record {
  same = λ d h. v.same d h
      ∙ and_turn (eqb (x % d) 0) (eqb (y % d) 0) (eqb (r % d) 0)
      (λ t. ap (λ (z : ℕ). eqb z 0)
      (sym (ap (λ (z : ℕ). z % d) e ∙ mod-mod_of_dvd d x (dvd_of_mod-eq-zero d (eqb-true (y % d) 0 t)))));
}

pub both_yes : (d a b : ℕ) → a % d ≡ 0 → b % d ≡ 0 → both d a b ≡ true
both_yes d a b p q = ap₂ ◌&&◌ (eq-eqb (a % d) 0 p) (eq-eqb (b % d) 0 q)

pub both_at : (d a b : ℕ) → both d a b ≡ true → (a % d ≡ 0) × (b % d ≡ 0)
both_at d a b e = go (eqb (a % d) 0) refl (eqb (b % d) 0) refl e
  where
    go : (p : Bool) → eqb (a % d) 0 ≡ p → (q : Bool) → eqb (b % d) 0 ≡ q → p && q ≡ true → (a % d ≡ 0) × (b % d ≡ 0)
    go true s true t h = (eqb-true (a % d) 0 s, eqb-true (b % d) 0 t)
    go true s false t h = absurd (true_ne_false h refl)
    go false s q t h = absurd (true_ne_false h refl)

module _ (a b : ℕ) where
  test : ℕ → Bool
  test d = not (both (d + 2) a b)

  -- a divisor that both have, wherever it lies: beyond a + b it divides 0 and 0 alone, as 2 does
  pub shared : (d : ℕ) → 2 ≤ d → both d a b ≡ true → coprime a b ≡ false
  unfolding coprime test
  shared d h e = go (dec_lt (d - 2) (a + b + 1))
    where
      go : Dec (d - 2 < a + b + 1) → every test (up_to (a + b + 1)) ≡ false
      go (yes l) =
          let k : d - 2 + 2 ≡ d = omega arith in
          every_not test (a + b + 1) (d - 2) l (ap (λ (x : ℕ). not (both x a b)) k ∙ ap not e)
      go (no l) =
          let z = both_at d a b e in
          let ha : a < d = omega arith in
          let hb : b < d = omega arith in
          let p : a ≡ 0 = sym (mod-eq_of_lt ha) ∙ z.0 in
          let q : b ≡ 0 = sym (mod-eq_of_lt hb) ∙ z.1 in
          every_not test (a + b + 1) 0 (omega arith)
          (ap not (both_yes 2 a b (ap (λ (x : ℕ). x % 2) p) (ap (λ (x : ℕ). x % 2) q)))

  pub none : ((d : ℕ) → 2 ≤ d → both d a b ≡ false) → coprime a b ≡ true
  unfolding coprime test
  none h = every_of test (a + b + 1) (λ k l. ap not (h (k + 2) (omega arith)))

not_of_one : {x : ℕ} (d : ℕ) → 2 ≤ d → x ≡ 1 → eqb (x % d) 0 ≡ false
not_of_one {x} d h q = let e : x % d ≡ x = mod-eq_of_lt (omega arith) in ne_eqb (x % d) 0 (λ z. omega arith)

pub divisors_one : {a b x y : ℕ} → y ≡ 1 → SameDivisors a b x y → true ≡ coprime a b
divisors_one {a} {b} {x} {y} e v =
    sym (none a b (λ d h. v.same d h ∙ and_comm (eqb (x % d) 0) (eqb (y % d) 0) ∙ ap (λ t. t && eqb (x % d) 0) (not_of_one d h e)))

pub divisors_end : {a b x y : ℕ} → y ≡ 0 → SameDivisors a b x y → eqb x 1 ≡ coprime a b
divisors_end {a} {b} {x} {y} e v = go (ℕ_discrete x 1) (ℕ_discrete x 0)
  where
    by_y : (d : ℕ) → y % d ≡ 0
    by_y d = ap (λ (z : ℕ). z % d) e ∙ zero-mod d

    go : Dec (x ≡ 1) → Dec (x ≡ 0) → eqb x 1 ≡ coprime a b
    go (yes q) c = eq-eqb x 1 q ∙ sym (none a b (λ d h. v.same d h ∙ ap (λ t. t && eqb (y % d) 0) (not_of_one d h q)))
    go (no q) (yes z) =
        ne_eqb x 1 q
        ∙ sym
        (shared a b 2 (omega arith) (v.same 2 (omega arith) ∙ both_yes 2 x y (ap (λ (w : ℕ). w % 2) z) (by_y 2)))
    go (no q) (no z) =
        let h : 2 ≤ x = omega arith in
        ne_eqb x 1 q ∙ sym (shared a b x h (v.same x h ∙ both_yes x x y (mod_self x) (by_y x)))
