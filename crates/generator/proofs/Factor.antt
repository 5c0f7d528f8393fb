-- The product over a coset is the generator of its representative alone.
--
--   walk_in, in_walk      the members of the walk
--   walk_distinct         are distinct,
--   coset_in_walk         and all of the coset
--   walked_size           so the coset has m members,
--   walked_holds          and the product over them is the generator
use mathlib.Core.Path.{◌≡◌, refl, sym, ap, ◌∙◌, subst}
use mathlib.Core.Logic.{◌≢◌, ◌⊎◌, inl, inr}
use mathlib.Core.Bool.{true}
use mathlib.Core.List.{List, [], ◌∷◌}
use Prim.Native.Nat.{ℕ, zero, suc, ◌+◌, ◌-◌, ◌*◌, ◌%◌, ◌^◌, ◌≤◌, ◌<◌}
use native.Mathlib.Nat.{mod-lt}
use native.Mathlib.Decide.{ℕ_discrete}
use native.Mathlib.Omega.{arith}
use lib.ListN.{length, get_or}
use Rattle.algebra.proofs.Lists.{In, here, there, Distinct, d_nil, d_cons, all_of, distinct_le}
use Rattle.field.specs.Field.{order_of_two, α}
use Rattle.cyclic.proofs.Members.{members_distinct, in_members, members_in}
use Rattle.document.specs.Coset.{in_set, defining_set}
use Rattle.document.specs.Generator.{root_product, generator}
use Rattle.document.proofs.Cosets.{coset_at, coset_of, doubled, round, walk_start, walk_on, walk_back}
use Rattle.document.proofs.Theory.{T_of, of_T, members_are}
use Rattle.document.proofs.Join.{alone_is, product_any}
use Rattle.binary.specs.Bits.{Holds}
use Rattle.generator.specs.Coset.{CosetOf, CosetWalked}
use Rattle.generator.proofs.CosetWalk.{walk, length_walk, length_stated}

pub walk_in : (n r m j : ℕ) → j < m → In (r * 2 ^ j % n) (walk n r m)
unfolding walk
walk_in n r zero j h = absurd (omega arith)
walk_in n r (suc m) j h =
    elim (ℕ_discrete j m) [
      | yes e ↦ subst (λ (k : ℕ). In (r * 2 ^ k % n) ((r * 2 ^ m % n) ∷ walk n r m)) (sym e) here
      | no e ↦ there (walk_in n r m j (omega arith))
    ]

in_head : {x y : ℕ} {l : List ℕ} → In x (y ∷ l) → (y ≡ x) ⊎ In x l
in_head here = inl refl
in_head (there i) = inr i

pub in_walk : (n r m x : ℕ) → In x (walk n r m) → (j : ℕ) × (j < m) × (r * 2 ^ j % n ≡ x)
unfolding walk
in_walk n r zero x i = elim i [ ]
in_walk n r (suc m) x i = go (in_head i) (in_walk n r m x)
  where
    go : (r * 2 ^ m % n ≡ x) ⊎ In x (walk n r m) → (In x (walk n r m) → (j : ℕ) × (j < m) × (r * 2 ^ j % n ≡ x))
        → (j : ℕ) × (j < suc m) × (r * 2 ^ j % n ≡ x)
    go (inl e) f = (m, omega arith, e)
    go (inr i) f = let w = f i in (w.0, omega (arith, w.1), w.2)

module _ {n s r m : ℕ} (c : CosetOf n s r) (w : CosetWalked n s r m) where
  -- two equal members would lead back to r in fewer than m turns
  apart : (i j : ℕ) → i < j → j < m → r * 2 ^ j % n ≢ r * 2 ^ i % n
  apart i j a b e =
      let o : i ≤ order_of_two n = omega (arith, c.s_is, w.most) in
      let k : ℕ = order_of_two n - i in
      let q : order_of_two n + (j - i) ≡ j + k = omega arith in
      w.first (j - i) (omega arith) (omega arith)
      (walk_on n r (order_of_two n) (j - i) (round c.odd c.r_lt) ∙ ap (λ (x : ℕ). r * 2 ^ x % n) q ∙ sym (walk_on n r j k e)
      ∙ walk_back c.odd c.r_lt i o refl)

  pub walk_distinct : (k : ℕ) → k ≤ m → Distinct (walk n r k)
  unfolding walk
  walk_distinct zero b = d_nil
  walk_distinct (suc k) b =
      d_cons
      (all_of (walk n r k) (λ x i e. let v = in_walk n r k x i in apart v.0 k v.1 (omega arith) (e ∙ sym v.2)))
      (walk_distinct k (omega arith))

  reach : (j : ℕ) → (i : ℕ) × (i < m) × (r * 2 ^ j % n ≡ r * 2 ^ i % n)
  reach zero = (0, omega (arith, w.pos), refl)
  reach (suc j) =
      let v = reach j in
      let e : r * 2 ^ suc j % n ≡ r * 2 ^ suc v.0 % n =
      doubled c.odd r (r * 2 ^ v.0 % n) j v.2 ∙ sym (doubled c.odd r (r * 2 ^ v.0 % n) v.0 refl) in
      elim (ℕ_discrete (suc v.0) m) [
        | yes q ↦ (0, omega (arith, w.pos), e ∙ ap (λ (k : ℕ). r * 2 ^ k % n) q ∙ w.back ∙ walk_start c.r_lt)
        | no q ↦ (suc v.0, omega (arith, v.1), e)
      ]

  pub coset_in_walk : (x : ℕ) → in_set n (r ∷ []) x ≡ true → In x (walk n r m)
  coset_in_walk x e =
      let v = coset_at c.odd r x (sym (alone_is n r x) ∙ e) in
      let t = reach v.0 in
      subst (λ (y : ℕ). In y (walk n r m)) (sym t.2 ∙ v.2) (walk_in n r m t.0 t.1)

  walk_in_coset : (x : ℕ) → In x (walk n r m) → (x < n) × (in_set n (r ∷ []) x ≡ true)
  walk_in_coset x i =
      let v = in_walk n r m x i in (
        subst (λ (y : ℕ). y < n) v.2 (mod-lt (r * 2 ^ v.0) (omega (arith, c.odd.least))),
        alone_is n r x ∙ coset_of c.odd r x v.0 v.2,
      )

  pub walked_size : m ≡ length (defining_set n (r ∷ []))
  walked_size =
      omega (
        arith,
        length_walk n r m,
        distinct_le (walk n r m) (defining_set n (r ∷ [])) (walk_distinct m (omega arith))
            (λ x i. let v = walk_in_coset x i in
            subst (In x) (members_are (length_stated c) (r ∷ [])) (members_in (in_set n (r ∷ [])) n x v.0 (T_of v.1))),
        distinct_le (defining_set n (r ∷ [])) (walk n r m)
            (subst Distinct (members_are (length_stated c) (r ∷ [])) (members_distinct (in_set n (r ∷ [])) n))
            (λ x i. coset_in_walk x
            (of_T (in_set n (r ∷ []) x) (in_members (in_set n (r ∷ [])) n x (subst (In x) (sym (members_are (length_stated c) (r ∷ []))) i)).1)),
      )

  pub walked_holds : Holds (generator n (r ∷ [])) (root_product s (α s n) (walk n r m))
  walked_holds = record {
    at = λ i. ap (λ (k : ℕ). get_or (root_product k (α k n) (walk n r m)) i 0) c.s_is
        ∙ product_any (length_stated c) (r ∷ []) (walk n r m) (length_walk n r m ∙ walked_size) (walk_distinct m (omega arith)) walk_in_coset i;
  }
