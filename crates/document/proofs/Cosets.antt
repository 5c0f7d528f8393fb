-- Cosets by any exponents.
--
--   bool_eq                 two tests that say true alike
--   turn_back               exponents count modulo s
--   coset_at, coset_of      i is in the coset of r exactly when it is r 2^j mod n for some j, of any size or below s
--   smallest_at, smallest_of      likewise for the smallest of a coset
--   coset_doubles, set_doubles    cosets and D are closed under doubling
--   round                   after s doublings r is back; walk_on, walk_back: exponents add up
--   walk_start, walk_more      the members of a coset one after the other
use mathlib.Core.Path.{◌≡◌, refl, sym, ap, ◌∙◌, subst}
use mathlib.Core.Bool.{Bool, true, false}
use mathlib.Core.List.{List}
use Prim.Native.Nat.{ℕ, suc, ◌+◌, ◌-◌, ◌*◌, ◌%◌, ◌^◌, ◌≤◌, ◌<◌}
use native.Mathlib.Nat.{mod-lt, mod-eq_of_lt, mul_assoc, mul_comm, mul-one, one-mul, pow-suc}
use lib.Pow.{pow-add}
use native.Mathlib.Numerals.{add-one}
use native.Mathlib.Omega.{arith}
use lib.Dec.{eqb, leb}
use borrow.Author.Tests.{eqb-true, eq-eqb, leb-true, le-leb}
use Rattle.field.specs.Field.{OddLength, order_of_two}
use Rattle.field.proofs.Search.{some_at, some_of, some_map, every_at, every_of}
use Rattle.field.proofs.OrderOfTwo.{mul_mod, one_iff, order_lt, order_divides, order_mod, order_pos}
use Rattle.cyclic.proofs.Coset as Coset
use Rattle.document.specs.Coset.{in_coset, smallest, in_set}

pub bool_eq : (a b : Bool) → (a ≡ true → b ≡ true) → (b ≡ true → a ≡ true) → a ≡ b
bool_eq true b f g = sym (f refl)
bool_eq false true f g = g refl
bool_eq false false f g = refl

module _ {n : ℕ} (o : OddLength n) where
  abbrev s : ℕ
  s = order_of_two n

  pub turn_back : (r j : ℕ) → r * 2 ^ j % n ≡ r * 2 ^ (j % s) % n
  turn_back r j = Coset.round n s (order_divides o) r j

  pub coset_of : (r i j : ℕ) → r * 2 ^ j % n ≡ i → in_coset n r i ≡ true
  unfolding in_coset
  coset_of r i j e =
      let l : j % s < s = mod-lt j (order_pos n) in
      some_of (λ j. eqb (r * 2 ^ j % n) i) n (j % s) (omega (arith, order_lt o))
      (eq-eqb (r * 2 ^ (j % s) % n) i (sym (turn_back r j) ∙ e))

  pub coset_at : (r i : ℕ) → in_coset n r i ≡ true → (j : ℕ) × (j < s) × (r * 2 ^ j % n ≡ i)
  unfolding in_coset
  coset_at r i e =
      let f = some_at (λ j. eqb (r * 2 ^ j % n) i) n e in
      (f.0 % s, mod-lt f.0 (order_pos n), sym (turn_back r f.0) ∙ eqb-true (r * 2 ^ f.0 % n) i f.2)

  pub smallest_of : (r : ℕ) → ((j : ℕ) → j < s → r ≤ r * 2 ^ j % n) → smallest n r ≡ true
  unfolding smallest
  smallest_of r h =
      every_of (λ j. leb r (r * 2 ^ j % n)) n
      (λ j l. le-leb r (r * 2 ^ j % n) (subst (λ (x : ℕ). r ≤ x) (sym (turn_back r j)) (h (j % s) (mod-lt j (order_pos n)))))

  pub smallest_at : (r : ℕ) → smallest n r ≡ true → (j : ℕ) → r ≤ r * 2 ^ j % n
  unfolding smallest
  smallest_at r e j =
      let l : j % s < s = mod-lt j (order_pos n) in
      subst (λ (x : ℕ). r ≤ x) (sym (turn_back r j))
      (leb-true r (r * 2 ^ (j % s) % n) (every_at (λ j. leb r (r * 2 ^ j % n)) n e (j % s) (omega (arith, order_lt o))))

  -- ---- doubling
  pub doubled : (r i j : ℕ) → r * 2 ^ j % n ≡ i → r * 2 ^ suc j % n ≡ i * 2 % n
  doubled r i j e =
      ap (λ (x : ℕ). x % n) (ap (λ (x : ℕ). r * x) (pow-suc 2 j) ∙ sym (mul_assoc r (2 ^ j) 2)) ∙ sym (mul_mod (r * 2 ^ j) 2 n)
      ∙ ap (λ (x : ℕ). x * 2 % n) e

  pub coset_doubles : (r i : ℕ) → in_coset n r i ≡ true → in_coset n r (i * 2 % n) ≡ true
  coset_doubles r i e = let f = coset_at r i e in coset_of r (i * 2 % n) (suc f.0) (doubled r i f.0 f.2)

  pub set_doubles : (reps : List ℕ) (i : ℕ) → in_set n reps i ≡ true → in_set n reps (i * 2 % n) ≡ true
  unfolding in_set
  set_doubles reps i e = some_map (λ r. in_coset n r i) (λ r. in_coset n r (i * 2 % n)) (λ r. coset_doubles r i) reps e

pub walk_start : {n r : ℕ} → r < n → r ≡ r * 2 ^ 0 % n
walk_start {n} {r} h = sym (ap (λ (x : ℕ). x % n) (mul-one r) ∙ mod-eq_of_lt h)

pub walk_more : {n : ℕ} → OddLength n → (r j : ℕ) {x y : ℕ} → x ≡ r * 2 ^ j % n → y ≡ x * 2 % n → y ≡ r * 2 ^ (j + 1) % n
walk_more {n} o r j e q = q ∙ sym (doubled o r _ j (sym e)) ∙ ap (λ (k : ℕ). r * 2 ^ k % n) (sym (add-one j))

pub round : {n r : ℕ} → OddLength n → r < n → r * 2 ^ order_of_two n % n ≡ r
round {n} {r} o h =
    ap (λ (x : ℕ). x % n) (mul_comm r (2 ^ order_of_two n)) ∙ sym (mul_mod (2 ^ order_of_two n) r n)
    ∙ ap (λ (x : ℕ). x * r % n) ((one_iff o (order_of_two n)).1 (order_mod o)) ∙ ap (λ (x : ℕ). x % n) (one-mul r) ∙ mod-eq_of_lt h

-- exponents add up
pub walk_on : (n r i k : ℕ) {x : ℕ} → r * 2 ^ i % n ≡ x → x * 2 ^ k % n ≡ r * 2 ^ (i + k) % n
walk_on n r i k {x} e =
    ap (λ (y : ℕ). y * 2 ^ k % n) (sym e) ∙ mul_mod (r * 2 ^ i) (2 ^ k) n
    ∙ ap (λ (y : ℕ). y % n) (mul_assoc r (2 ^ i) (2 ^ k) ∙ ap (λ (y : ℕ). r * y) (sym (pow-add 2 i k)))

-- and so do those that lead back
pub walk_back : {n r : ℕ} → OddLength n → r < n → (i : ℕ) → i ≤ order_of_two n → {x : ℕ} → r * 2 ^ i % n ≡ x
    → x * 2 ^ (order_of_two n - i) % n ≡ r
walk_back {n} {r} o h i l e =
    let q : i + (order_of_two n - i) ≡ order_of_two n = omega arith in
    walk_on n r i (order_of_two n - i) e ∙ ap (λ (k : ℕ). r * 2 ^ k % n) q ∙ round o h
