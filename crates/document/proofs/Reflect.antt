-- Tests and what they say, in both directions.
--
--   Says b P                   the test b is true exactly when P holds
--   eqb_iff, leb_iff, ltb_iff      comparisons
--   not_iff                    a negated test; not_eq_iff, not_lt_iff: a negated comparison
--   or_iff, and_iff            two tests
--   or_of, and_of              two tests by what each says; right, left: a chain of them regrouped
--   some_says, not_every_iff      some number below n passes, by what the test says; not every one does
--   member_iff                 a search through a list
use mathlib.Core.Path.{◌≡◌, refl, ap}
use mathlib.Core.Logic.{◌↔◌, ◌≢◌, ◌⊎◌, inl, inr}
use mathlib.Core.Bool.{Bool, true, false, not, ◌&&◌, ◌||◌}
use mathlib.Core.List.{List, [], ◌∷◌}
use Prim.Native.Nat.{ℕ, zero, suc, ◌≤◌, ◌<◌}
use native.Mathlib.Omega.{arith}
use lib.Dec.{eqb, leb, ltb}
use lib.ListN.{length, get_or}
use borrow.Author.Tests.{eqb-true, eqb-false, eq-eqb, ne_eqb, leb-true, le-leb, ltb-true, ltb-false, lt-ltb, le-ltb, not-true, not-false}
use Rattle.field.specs.Search.{up_to, some, every}
use Rattle.field.proofs.Search.{true_ne_false, some_at, some_of, some_none, every_at, every_of}

abbrev pub Says : Bool → Type 0 → Type 0
Says b P = (b ≡ true) ↔ P

-- ---- comparisons
pub eqb_iff : (a b : ℕ) → (eqb a b ≡ true) ↔ (a ≡ b)
eqb_iff a b = (eqb-true a b, eq-eqb a b)

pub leb_iff : (a b : ℕ) → (leb a b ≡ true) ↔ (a ≤ b)
leb_iff a b = (leb-true a b, le-leb a b)

pub ltb_iff : (a b : ℕ) → (ltb a b ≡ true) ↔ (a < b)
ltb_iff a b = (ltb-true a b, lt-ltb a b)

pub not_eq_iff : (a b : ℕ) → (not (eqb a b) ≡ true) ↔ (a ≢ b)
not_eq_iff a b = (λ e. eqb-false a b (not-true (eqb a b) e), λ n. ap not (ne_eqb a b n))

pub not_lt_iff : (a b : ℕ) → (not (ltb a b) ≡ true) ↔ (b ≤ a)
not_lt_iff a b = (λ e. ltb-false a b (not-true (ltb a b) e), λ h. ap not (le-ltb a b h))

-- ---- not, or, and
pub not_iff : (b : Bool) → (not b ≡ true) ↔ (¬ (b ≡ true))
not_iff true = (λ e q. true_ne_false e refl, λ n. absurd (n refl))
not_iff false = (λ e q. true_ne_false q refl, λ n. refl)

pub or_iff : (a b : Bool) → (a || b ≡ true) ↔ ((a ≡ true) ⊎ (b ≡ true))
or_iff true b = (λ e. inl refl, λ w. refl)
or_iff false b = (inr, λ w. elim w [ inl e ↦ absurd (true_ne_false e refl) | inr e ↦ e ])

pub and_iff : (a b : Bool) → (a && b ≡ true) ↔ ((a ≡ true) × (b ≡ true))
and_iff true b = (λ e. (refl, e), λ w. w.1)
and_iff false b = (λ e. absurd (true_ne_false e refl), λ w. absurd (true_ne_false w.0 refl))

module _ {P Q : Type 0} where
  pub or_of : {a b : Bool} → Says a P → Says b Q → Says (a || b) (P ⊎ Q)
  or_of {a} {b} p q = (
    λ e. elim ((or_iff a b).0 e) [ inl x ↦ inl (p.0 x) | inr y ↦ inr (q.0 y) ],
    λ w. (or_iff a b).1 (elim w as (λ _. (a ≡ true) ⊎ (b ≡ true)) [ inl x ↦ inl (p.1 x) | inr y ↦ inr (q.1 y) ]),
  )

  pub and_of : {a b : Bool} → Says a P → Says b Q → Says (a && b) (P × Q)
  and_of {a} {b} p q = (
    λ e. let w = (and_iff a b).0 e in (p.0 w.0, q.0 w.1),
    λ w. (and_iff a b).1 (p.1 w.0, q.1 w.1),
  )

module _ {b : Bool} {P Q R : Type 0} where
  pub right : Says b ((P ⊎ Q) ⊎ R) → Says b (P ⊎ (Q ⊎ R))
  right s = (λ e. there (s.0 e), λ w. s.1 (back w))
    where
      there : (P ⊎ Q) ⊎ R → P ⊎ (Q ⊎ R)
      there (inl (inl x)) = inl x
      there (inl (inr y)) = inr (inl y)
      there (inr z) = inr (inr z)

      back : P ⊎ (Q ⊎ R) → (P ⊎ Q) ⊎ R
      back (inl x) = inl (inl x)
      back (inr (inl y)) = inl (inr y)
      back (inr (inr z)) = inr z

  pub left : Says b (P ⊎ (Q ⊎ R)) → Says b ((P ⊎ Q) ⊎ R)
  left s = (λ e. there (s.0 e), λ w. s.1 (back w))
    where
      there : P ⊎ (Q ⊎ R) → (P ⊎ Q) ⊎ R
      there (inl x) = inl (inl x)
      there (inr (inl y)) = inl (inr y)
      there (inr (inr z)) = inr z

      back : (P ⊎ Q) ⊎ R → P ⊎ (Q ⊎ R)
      back (inl (inl x)) = inl x
      back (inl (inr y)) = inr (inl y)
      back (inr z) = inr (inr z)

-- ---- searches
pub some_says : (test : ℕ → Bool) (P : ℕ → Type 0) (n : ℕ) → ((k : ℕ) → Says (test k) (P k))
    → Says (some test (up_to n)) ((k : ℕ) × (k < n) × P k)
some_says test P n s = (
  λ e. let w = some_at test n e in (w.0, w.1, (s w.0).0 w.2),
  λ w. some_of test n w.0 w.1 ((s w.0).1 w.2),
)

pub not_every_iff : (test : ℕ → Bool) (n : ℕ) → (not (every test (up_to n)) ≡ true) ↔ ((k : ℕ) × (k < n) × (test k ≡ false))
not_every_iff test n = (
  λ e. go e (some (λ k. not (test k)) (up_to n)) refl,
  λ w. (not_iff _).1 (λ e. true_ne_false (every_at test n e w.0 w.1) w.2),
)
  where
    go : not (every test (up_to n)) ≡ true → (b : Bool) → some (λ k. not (test k)) (up_to n) ≡ b
        → (k : ℕ) × (k < n) × (test k ≡ false)
    go e true q = let w = some_at (λ k. not (test k)) n q in (w.0, w.1, not-true (test w.0) w.2)
    go e false q =
        absurd ((not_iff _).0 e (every_of test n (λ k l. not-false (test k) (some_none (λ k. not (test k)) n q k l))))

-- through the members of a list
pub member_iff : (test : ℕ → Bool) (l : List ℕ)
    → (some test l ≡ true) ↔ ((m : ℕ) × (m < length l) × (test (get_or l m 0) ≡ true))
unfolding some
member_iff test l = (there l, λ w. back l w.0 w.1 w.2)
  where
    there : (l : List ℕ) → some test l ≡ true → (m : ℕ) × (m < length l) × (test (get_or l m 0) ≡ true)
    there [] e = absurd (true_ne_false e refl)
    there (x ∷ l) e = go ((or_iff (test x) (some test l)).0 e) (there l)
      where
        go : (test x ≡ true) ⊎ (some test l ≡ true) → (some test l ≡ true → (m : ℕ) × (m < length l) × (test (get_or l m 0) ≡ true))
            → (m : ℕ) × (m < suc (length l)) × (test (get_or (x ∷ l) m 0) ≡ true)
        go (inl q) later = (0, omega arith, q)
        go (inr q) later = let w = later q in (suc w.0, omega (arith, w.1), w.2)

    back : (l : List ℕ) (m : ℕ) → m < length l → test (get_or l m 0) ≡ true → some test l ≡ true
    back [] m h e = absurd (omega arith)
    back (x ∷ l) zero h e = (or_iff (test x) (some test l)).1 (inl e)
    back (x ∷ l) (suc m) h e = (or_iff (test x) (some test l)).1 (inr (back l m (omega arith) e))
