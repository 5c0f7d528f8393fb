-- Lists: what all elements satisfy, distinct elements, sums and products over a ring.
--
--   All Q l         every element satisfies Q: none, more; all_map, all_of, all_at
--   In b l          b is an element: here, there; map_in, in_map
--   Distinct l      no two elements are equal: d_nil, d_cons; distinct_map
--   distinct_le     distinct elements that are all in m are no more than m has
--   prod R f l      the product of f b over the elements b: prod_nil, prod_cons
--   sum_l R f l      their sum
use mathlib.Core.Path.{◌≡◌, refl, sym, ◌∙◌}
use mathlib.Core.Logic.{◌≢◌}
use mathlib.Core.List.{List, [], ◌∷◌, map}
use Prim.Native.Nat.{suc, ◌≤◌}
use native.Mathlib.Omega.{arith}
use lib.ListN.{length}
use Rattle.algebra.proofs.Ring.{Ring}

pub data All {B : Type 0} (Q : B → Type 0) : List B → Type 0 where
  none : All Q []
  more : {b : B} {l : List B} → Q b → All Q l → All Q (b ∷ l)

pub data In {B : Type 0} (b : B) : List B → Type 0 where
  here : {l : List B} → In b (b ∷ l)
  there : {c : B} {l : List B} → In b l → In b (c ∷ l)

pub data Distinct {B : Type 0} : List B → Type 0 where
  d_nil : Distinct []
  d_cons : {b : B} {l : List B} → All (λ c. b ≢ c) l → Distinct l → Distinct (b ∷ l)

pub all_map : {B : Type 0} {P Q : B → Type 0} → ((b : B) → P b → Q b) → {l : List B} → All P l → All Q l
all_map f none = none
all_map f (more {b = b} h hs) = more (f b h) (all_map f hs)

pub all_of : {B : Type 0} {P : B → Type 0} (l : List B) → ((b : B) → In b l → P b) → All P l
all_of [] h = none
all_of (b ∷ l) h = more (h b here) (all_of l (λ c i. h c (there i)))

pub all_at : {B : Type 0} {P : B → Type 0} {l : List B} {b : B} → All P l → In b l → P b
all_at none i = elim i [ ]
all_at (more h hs) here = h
all_at (more h hs) (there i) = all_at hs i

pub map_in : {B C : Type 0} (f : B → C) {l : List B} {c : C} → In c (map f l) → (b : B) × In b l × (f b ≡ c)
map_in f {l = []} i = elim i [ ]
map_in f {l = b ∷ l} here = (b, here, refl)
map_in f {l = b ∷ l} (there i) = let r = map_in f {l = l} i in (r.0, there r.1, r.2)

pub in_map : {B C : Type 0} (f : B → C) {b : B} {l : List B} → In b l → In (f b) (map f l)
in_map f here = here
in_map f (there i) = there (in_map f i)

-- it is enough that f tells the elements of l apart
pub distinct_map : {B C : Type 0} (f : B → C) (l : List B) → Distinct l
    → ((b c : B) → In b l → In c l → f b ≡ f c → b ≡ c) → Distinct (map f l)
distinct_map f [] d_nil inj = d_nil
distinct_map f (b ∷ l) (d_cons ne d) inj =
    d_cons
    (all_of (map f l) (λ c i e. let r = map_in f i in all_at ne r.1 (inj b r.0 here (there r.1) (e ∙ sym r.2))))
    (distinct_map f l d (λ x y i j. inj x y (there i) (there j)))

-- a list without one of its elements
record Without {B : Type 0} (b : B) (m : List B) : Type 0 where
  rest : List B
  one_less : length m ≡ suc (length rest)
  keeps : (c : B) → In c m → b ≢ c → In c rest

without : {B : Type 0} {b : B} (m : List B) → In b m → Without b m
without [] i = elim i [ ]
without (b ∷ m) here = record { rest = m; one_less = refl; keeps = keeps }
  where
    keeps : (c : _) → In c (b ∷ m) → b ≢ c → In c m
    keeps c here n = absurd (n refl)
    keeps c (there i) n = i
without {B} {b} (a ∷ m) (there i) =
    let w = without m i in record { rest = a ∷ w.rest; one_less = omega (arith, w.one_less); keeps = keeps w }
  where
    keeps : (w : Without b m) (c : B) → In c (a ∷ m) → b ≢ c → In c (a ∷ w.rest)
    keeps w c here n = here
    keeps w c (there i) n = there (w.keeps c i n)

pub distinct_le : {B : Type 0} (l m : List B) → Distinct l → ((b : B) → In b l → In b m) → length l ≤ length m
distinct_le [] m d_nil h = omega arith
distinct_le (b ∷ l) m (d_cons n d) h =
    let w = without m (h b here) in
    omega (arith, w.one_less, distinct_le l w.rest d (λ c i. w.keeps c (h c (there i)) (all_at n i)))

module _ {A : Type 0} (R : Ring A) where
  open R use {add as ◌+◌, mul as ◌*◌, 𝟘, 𝟙}

  infixl 65 ◌+◌
  infixl 70 ◌*◌
  unfoldable pub prod : {B : Type 0} → (B → A) → List B → A
  prod f [] = 𝟙
  prod f (b ∷ l) = f b * prod f l

  pub prod_nil : {B : Type 0} (f : B → A) → prod f [] ≡ 𝟙
  unfolding prod
  prod_nil f = refl

  pub prod_cons : {B : Type 0} (f : B → A) (b : B) (l : List B) → prod f (b ∷ l) ≡ f b * prod f l
  unfolding prod
  prod_cons f b l = refl

  unfoldable pub sum_l : {B : Type 0} → (B → A) → List B → A
  sum_l f [] = 𝟘
  sum_l f (b ∷ l) = f b + sum_l f l
