-- Laws of search, of tests over the numbers below n, and of sums.
--
--   Least test n m      m is the least number below n that passes, or n
--   least_is            so is `least test n`; least_unique: and nothing else is
--   least_most          it is at most any number that passes
--   keep_one            where one number below n passes, that one is kept; keep_none: where none does, none
--   some_at, some_of, some_none     some number below n passes exactly when there is one; none does where `some` says so
--   some_false                      none passes where each fails; some_append: of two lists
--   some_map                        what follows from a test follows for a list
--   every_at, every_of              all numbers below n pass exactly when each does
--   length_up_to, length_keep        lengths
--   total_z, total_s, total_more, total_ext     sums
--   total_add, total_join      of two terms, and of more terms
--   total_le, total_term       smaller terms have a smaller sum; each term is at most the sum
--   total_most, total_still    terms of 0 and 1 amount to at most their number; terms that are 0 from n on may be left out
use mathlib.Core.Path.{◌≡◌, refl, sym, ap, ap₂, ◌∙◌}
use mathlib.Core.Logic.{◌≢◌, ◌⊎◌, inl, inr}
use mathlib.Core.Bool.{Bool, true, false, ◌&&◌, ◌||◌}
use mathlib.Core.List.{List, [], ◌∷◌, ◌++◌}
use Prim.Native.Nat.{ℕ, zero, suc, ◌+◌, ◌-◌, ◌≤◌, ◌<◌}
use native.Mathlib.Decide.{ℕ_discrete, dec_lt}
use native.Mathlib.Numerals.{add-one}
use native.Mathlib.Omega.{arith}
use lib.ListN.{length, length-append}
use Rattle.field.specs.Search.{least_from, least, up_to, keep, some, every, total}

pub record Least (test : ℕ → Bool) (n m : ℕ) : Type 0 where
  pub le : m ≤ n
  pub before : (k : ℕ) → k < m → test k ≡ false
  pub passes : m < n → test m ≡ true

-- the same from i on
record From (test : ℕ → Bool) (n i m : ℕ) : Type 0 where
  ge : i ≤ m
  le : m ≤ i + n
  before : (k : ℕ) → i ≤ k → k < m → test k ≡ false
  passes : m < i + n → test m ≡ true

from_is : (test : ℕ → Bool) (n i : ℕ) → From test n i (least_from test n i)
unfolding least_from
from_is test zero i = record {
  ge = omega arith;
  le = omega arith;
  before = λ k h l. absurd (omega arith);
  passes = λ h. absurd (omega arith);
}
from_is test (suc n) i = go (test i) refl (from_is test n (suc i))
  where
    go : (b : Bool) → test i ≡ b → From test n (suc i) (least_from test n (suc i))
        → From test (suc n) i (elim b as (λ _. ℕ) [ true ↦ i | false ↦ least_from test n (suc i) ])
    go true e f = record { ge = omega arith; le = omega arith; before = λ k h l. absurd (omega arith); passes = λ h. e }
    go false e f = record {
      ge = omega (arith, f.ge);
      le = omega (arith, f.le);
      before = λ k h l. elim (ℕ_discrete k i) [ yes q ↦ ap test q ∙ e | no q ↦ f.before k (omega arith) l ];
      passes = λ h. f.passes (omega arith);
    }

pub least_is : (test : ℕ → Bool) (n : ℕ) → Least test n (least test n)
unfolding least
least_is test n =
    let f = from_is test n 0 in
    record {
      le = omega (arith, f.le);
      before = λ k l. f.before k (omega arith) l;
      passes = λ h. f.passes (omega arith);
    }

pub true_ne_false : {b : Bool} → b ≡ true → b ≡ false → ⊥
true_ne_false p q = let z : ◌≡◌ {A = Bool} true false = sym p ∙ q in let o : ◌≡◌ {A = ℕ} 0 1 = cc in omega arith

pub least_unique : {test : ℕ → Bool} {n m k : ℕ} → Least test n m → Least test n k → m ≡ k
least_unique {test} {n} {m} {k} a b = go (dec_lt m k) (dec_lt k m)
  where
    go : Dec (m < k) → Dec (k < m) → m ≡ k
    go (yes h) d = absurd (true_ne_false (a.passes (omega (arith, b.le))) (b.before m h))
    go (no h) (yes l) = absurd (true_ne_false (b.passes (omega (arith, a.le))) (a.before k l))
    go (no h) (no l) = omega arith

pub least_most : (test : ℕ → Bool) (n k : ℕ) → test k ≡ true → least test n ≤ k
least_most test n k e = go (dec_lt k (least test n))
  where
    go : Dec (k < least test n) → least test n ≤ k
    go (yes h) = absurd (true_ne_false e ((least_is test n).before k h))
    go (no h) = omega arith

-- ---- lists
keep_yes : (test : ℕ → Bool) (x : ℕ) (l : List ℕ) → test x ≡ true → keep test (x ∷ l) ≡ x ∷ keep test l
unfolding keep
keep_yes test x l e = rw (keep, e)

keep_no : (test : ℕ → Bool) (x : ℕ) (l : List ℕ) → test x ≡ false → keep test (x ∷ l) ≡ keep test l
unfolding keep
keep_no test x l e = rw (keep, e)

keep_append : (test : ℕ → Bool) (l m : List ℕ) → keep test (l ++ m) ≡ keep test l ++ keep test m
unfolding keep
keep_append test [] m = refl
keep_append test (x ∷ l) m = go (test x) (keep_append test l m)
  where
    go : (b : Bool) → keep test (l ++ m) ≡ keep test l ++ keep test m
        → elim b as (λ _. List ℕ) [ true ↦ x ∷ keep test (l ++ m) | false ↦ keep test (l ++ m) ]
        ≡ elim b as (λ _. List ℕ) [ true ↦ x ∷ keep test l | false ↦ keep test l ] ++ keep test m
    go true h = ap (λ l. x ∷ l) h
    go false h = h

pub up_to_suc : (n : ℕ) → up_to (suc n) ≡ up_to n ++ (n ∷ [])
unfolding up_to
up_to_suc n = refl

pub keep_suc : (test : ℕ → Bool) (n : ℕ) → keep test (up_to (suc n)) ≡ keep test (up_to n) ++ keep test (n ∷ [])
keep_suc test n = ap (keep test) (up_to_suc n) ∙ keep_append test (up_to n) (n ∷ [])

pub keep_none : (test : ℕ → Bool) (n : ℕ) → ((k : ℕ) → k < n → test k ≡ false) → keep test (up_to n) ≡ []
unfolding keep up_to
keep_none test zero h = refl
keep_none test (suc n) h =
    keep_suc test n ∙ ap₂ ◌++◌ (keep_none test n (λ k l. h k (omega arith))) (keep_no test n [] (h n (omega arith)))

pub keep_one : (test : ℕ → Bool) (n x : ℕ) → x < n → test x ≡ true → ((k : ℕ) → k < n → k ≢ x → test k ≡ false)
    → keep test (up_to n) ≡ x ∷ []
unfolding keep
keep_one test zero x l e h = absurd (omega arith)
keep_one test (suc n) x l e h = keep_suc test n ∙ go (ℕ_discrete n x) (λ m. keep_one test n x m e (λ k j. h k (omega arith)))
  where
    go : Dec (n ≡ x) → (x < n → keep test (up_to n) ≡ x ∷ []) → keep test (up_to n) ++ keep test (n ∷ []) ≡ x ∷ []
    go (yes q) ih =
        ap₂ ◌++◌ (keep_none test n (λ k m. h k (omega arith) (λ z. omega arith)))
        (ap (λ (y : ℕ). keep test (y ∷ [])) q ∙ keep_yes test x [] e)
    go (no q) ih = ap₂ ◌++◌ (ih (omega arith)) (keep_no test n [] (h n (omega arith) q))

-- ---- tests over the numbers below n
or_cases : (a b : Bool) → a || b ≡ true → (a ≡ true) ⊎ (b ≡ true)
or_cases true b e = inl refl
or_cases false b e = inr e

or_none : (a b : Bool) → a || b ≡ false → (a ≡ false) × (b ≡ false)
or_none true b e = absurd (true_ne_false refl e)
or_none false b e = (refl, e)

or_right : (a b : Bool) → b ≡ true → a || b ≡ true
or_right true b e = refl
or_right false b e = e

pub and_both : (a b : Bool) → a && b ≡ true → (a ≡ true) × (b ≡ true)
and_both true b e = (refl, e)
and_both false b e = absurd (true_ne_false e refl)

or-false : (a : Bool) → a || false ≡ a
or-false true = refl
or-false false = refl

and_true : (a : Bool) → a && true ≡ a
and_true true = refl
and_true false = refl

pub some_append : (test : ℕ → Bool) (l m : List ℕ) → some test (l ++ m) ≡ some test l || some test m
unfolding some
some_append test [] m = refl
some_append test (x ∷ l) m = ap (λ b. test x || b) (some_append test l m) ∙ go (test x) (some test l) (some test m)
  where
    go : (a b c : Bool) → a || (b || c) ≡ a || b || c
    go true b c = refl
    go false b c = refl

every_append : (test : ℕ → Bool) (l m : List ℕ) → every test (l ++ m) ≡ every test l && every test m
unfolding every
every_append test [] m = refl
every_append test (x ∷ l) m = ap (λ b. test x && b) (every_append test l m) ∙ go (test x) (every test l) (every test m)
  where
    go : (a b c : Bool) → a && (b && c) ≡ a && b && c
    go true b c = refl
    go false b c = refl

pub some_suc : (test : ℕ → Bool) (n : ℕ) → some test (up_to (suc n)) ≡ some test (up_to n) || test n
unfolding some
some_suc test n =
    ap (some test) (up_to_suc n) ∙ some_append test (up_to n) (n ∷ []) ∙ ap (λ b. some test (up_to n) || b) (or-false (test n))

pub every_suc : (test : ℕ → Bool) (n : ℕ) → every test (up_to (suc n)) ≡ every test (up_to n) && test n
unfolding every
every_suc test n =
    ap (every test) (up_to_suc n) ∙ every_append test (up_to n) (n ∷ []) ∙ ap (λ b. every test (up_to n) && b) (and_true (test n))

pub some_zero : (test : ℕ → Bool) → some test (up_to 0) ≡ false
unfolding some up_to
some_zero test = refl

pub every_zero : (test : ℕ → Bool) → every test (up_to 0) ≡ true
unfolding every up_to
every_zero test = refl

pub some_at : (test : ℕ → Bool) (n : ℕ) → some test (up_to n) ≡ true → (k : ℕ) × (k < n) × (test k ≡ true)
some_at test zero e = absurd (true_ne_false e (some_zero test))
some_at test (suc n) e = elim (or_cases (some test (up_to n)) (test n) (sym (some_suc test n) ∙ e)) [
  | inl h ↦ (let r = some_at test n h in (r.0, omega (arith, r.1), r.2))
  | inr h ↦ (n, omega arith, h)
]

pub some_none : (test : ℕ → Bool) (n : ℕ) → some test (up_to n) ≡ false → (k : ℕ) → k < n → test k ≡ false
some_none test zero e k h = absurd (omega arith)
some_none test (suc n) e k h =
    let b = or_none (some test (up_to n)) (test n) (sym (some_suc test n) ∙ e) in
    elim (ℕ_discrete k n) [ yes q ↦ ap test q ∙ b.1 | no q ↦ some_none test n b.0 k (omega arith) ]

pub some_of : (test : ℕ → Bool) (n k : ℕ) → k < n → test k ≡ true → some test (up_to n) ≡ true
some_of test n k h e = go (some test (up_to n)) refl
  where
    go : (b : Bool) → some test (up_to n) ≡ b → some test (up_to n) ≡ true
    go true q = q
    go false q = absurd (true_ne_false e (some_none test n q k h))

pub some_false : (test : ℕ → Bool) (n : ℕ) → ((k : ℕ) → k < n → test k ≡ false) → some test (up_to n) ≡ false
some_false test zero h = some_zero test
some_false test (suc n) h =
    some_suc test n ∙ ap₂ ◌||◌ (some_false test n (λ k l. h k (omega arith))) (h n (omega arith))

pub every_at : (test : ℕ → Bool) (n : ℕ) → every test (up_to n) ≡ true → (k : ℕ) → k < n → test k ≡ true
every_at test zero e k h = absurd (omega arith)
every_at test (suc n) e k h =
    let b = and_both (every test (up_to n)) (test n) (sym (every_suc test n) ∙ e) in
    elim (ℕ_discrete k n) [ yes q ↦ ap test q ∙ b.1 | no q ↦ every_at test n b.0 k (omega arith) ]

pub every_of : (test : ℕ → Bool) (n : ℕ) → ((k : ℕ) → k < n → test k ≡ true) → every test (up_to n) ≡ true
every_of test zero h = every_zero test
every_of test (suc n) h =
    every_suc test n ∙ ap₂ ◌&&◌ (every_of test n (λ k l. h k (omega arith))) (h n (omega arith))

pub some_map : (p q : ℕ → Bool) → ((x : ℕ) → p x ≡ true → q x ≡ true) → (l : List ℕ) → some p l ≡ true → some q l ≡ true
unfolding some
some_map p q f [] e = e
some_map p q f (x ∷ l) e = elim (or_cases (p x) (some p l) e) [
  | inl h ↦ ap (λ b. b || some q l) (f x h)
  | inr h ↦ or_right (q x) (some q l) (some_map p q f l h)
]

-- ---- lengths and sums
pub length_up_to : (n : ℕ) → length (up_to n) ≡ n
unfolding up_to
length_up_to zero = refl
length_up_to (suc n) = length-append (up_to n) (n ∷ []) ∙ ap (λ (x : ℕ). x + 1) (length_up_to n) ∙ add-one n

pub length_keep : (test : ℕ → Bool) (l : List ℕ) → length (keep test l) ≤ length l
unfolding keep
length_keep test [] = omega arith
length_keep test (x ∷ l) = go (test x) (length_keep test l)
  where
    go : (b : Bool) → length (keep test l) ≤ length l
        → length {A = ℕ} (elim b as (λ _. List ℕ) [ true ↦ x ∷ keep test l | false ↦ keep test l ]) ≤ suc (length l)
    go true h = omega arith
    go false h = omega arith

pub total_z : (term : ℕ → ℕ) → total 0 term ≡ 0
unfolding total
total_z term = refl

pub total_s : (n : ℕ) (term : ℕ → ℕ) → total (suc n) term ≡ total n term + term n
unfolding total
total_s n term = refl

pub total_more : (n : ℕ) (term : ℕ → ℕ) {x : ℕ} → x ≡ total n term → x + term n ≡ total (n + 1) term
total_more n term e = ap (λ (y : ℕ). y + term n) e ∙ sym (ap (λ (k : ℕ). total k term) (add-one n) ∙ total_s n term)

pub total_ext : (n : ℕ) (f g : ℕ → ℕ) → ((i : ℕ) → i < n → f i ≡ g i) → total n f ≡ total n g
total_ext zero f g h = total_z f ∙ sym (total_z g)
total_ext (suc n) f g h =
    total_s n f ∙ ap₂ ◌+◌ (total_ext n f g (λ i l. h i (omega arith))) (h n (omega arith)) ∙ sym (total_s n g)

pub total_add : (n : ℕ) (f g : ℕ → ℕ) → total n (λ i. f i + g i) ≡ total n f + total n g
total_add zero f g = total_z (λ i. f i + g i) ∙ sym (ap₂ ◌+◌ (total_z f) (total_z g))
total_add (suc n) f g =
    let ih : total n (λ i. f i + g i) ≡ total n f + total n g = total_add n f g in
    let a : total (suc n) (λ i. f i + g i) ≡ total n (λ i. f i + g i) + (f n + g n) = total_s n (λ i. f i + g i) in
    let b : total (suc n) f ≡ total n f + f n = total_s n f in
    let c : total (suc n) g ≡ total n g + g n = total_s n g in
    omega arith

pub total_le : (n : ℕ) (f g : ℕ → ℕ) → ((i : ℕ) → i < n → f i ≤ g i) → total n f ≤ total n g
total_le zero f g h = let a : total 0 f ≡ 0 = total_z f in omega arith
total_le (suc n) f g h =
    let ih : total n f ≤ total n g = total_le n f g (λ i l. h i (omega arith)) in
    let a : total (suc n) f ≡ total n f + f n = total_s n f in
    let b : total (suc n) g ≡ total n g + g n = total_s n g in
    let c : f n ≤ g n = h n (omega arith) in
    omega arith

pub total_join : (m n : ℕ) (f : ℕ → ℕ) → total (m + n) f ≡ total m f + total n (λ i. f (m + i))
total_join m zero f =
    let a : total 0 (λ i. f (m + i)) ≡ 0 = total_z (λ i. f (m + i)) in
    let e : m + 0 ≡ m = omega arith in
    ap (λ (k : ℕ). total k f) e ∙ omega arith
total_join m (suc n) f =
    let ih : total (m + n) f ≡ total m f + total n (λ i. f (m + i)) = total_join m n f in
    let a : total (suc n) (λ i. f (m + i)) ≡ total n (λ i. f (m + i)) + f (m + n) = total_s n (λ i. f (m + i)) in
    let e : m + suc n ≡ suc (m + n) = omega arith in
    ap (λ (k : ℕ). total k f) e ∙ total_s (m + n) f ∙ omega arith

pub total_term : (n : ℕ) (f : ℕ → ℕ) (i : ℕ) → i < n → f i ≤ total n f
total_term zero f i h = absurd (omega arith)
total_term (suc n) f i h =
    let a : total (suc n) f ≡ total n f + f n = total_s n f in
    elim (ℕ_discrete i n) [
      | yes e ↦ (let q : f i ≡ f n = ap f e in omega arith)
      | no e ↦ (let ih : f i ≤ total n f = total_term n f i (omega arith) in omega arith)
    ]

pub total_most : (n : ℕ) (f : ℕ → ℕ) → ((i : ℕ) → f i < 2) → total n f ≤ n
total_most zero f h = let z : total 0 f ≡ 0 = total_z f in omega arith
total_most (suc n) f h =
    let s : total (suc n) f ≡ total n f + f n = total_s n f in
    let l : total n f ≤ n = total_most n f h in
    let k : f n < 2 = h n in
    omega arith

-- terms that are 0 from n on may be left out
pub total_still : (n m : ℕ) (f : ℕ → ℕ) → n ≤ m → ((i : ℕ) → n ≤ i → f i ≡ 0) → total m f ≡ total n f
total_still n m f h z =
    let e : m ≡ n + (m - n) = omega arith in
    ap (λ (k : ℕ). total k f) e ∙ total_join n (m - n) f ∙ omega (arith, none (m - n))
  where
    none : (k : ℕ) → total k (λ i. f (n + i)) ≡ 0
    none zero = total_z (λ i. f (n + i))
    none (suc k) = total_s k (λ i. f (n + i)) ∙ ap₂ ◌+◌ (none k) (z (n + k) (omega arith))
