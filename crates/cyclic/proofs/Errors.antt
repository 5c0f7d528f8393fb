-- The places of a word as a list, and those in which a mask has a one.
--
--   Place n        the numbers below n
--   all n          all of them: all_length, all_in, all_distinct; all_sum: a sum over them
--   sum_l_add       sums over a list add up
--   support_count  as many places have a weight that is not 0 as the mask has ones
--   in_support, off_support      a place is in the support exactly where its weight is not 0
use mathlib.Core.Path.{◌≡◌, refl, sym, ap, ◌∙◌, subst}
use mathlib.Core.Logic.{◌≢◌, ◌↔◌}
use mathlib.Core.List.{List, [], ◌∷◌}
use lib.ListN.{length}
use Prim.Native.Nat.{ℕ, zero, suc, ◌+◌ as ◌+ℕ◌, ◌≤◌, ◌<◌}
use native.Mathlib.Nat.{le_refl}
use native.Mathlib.Fin
use native.Mathlib.Decide.{ℕ_discrete}
use native.Mathlib.Omega.{arith}
use Rattle.algebra.proofs.Ring.{Ring, ring, add_comm}
use Rattle.algebra.proofs.Field.{Field}
use Rattle.algebra.proofs.Lists.{All, In, here, there, Distinct, d_nil, d_cons, all_of, all_at, sum_l}
use Rattle.algebra.proofs.Sum.{sum, sum_z, sum_s}
use Rattle.algebra.proofs.Weight.{keep, support, support_ne}
use Rattle.field.specs.Mask.{coefficient}
use Rattle.cyclic.proofs.Places.{one_of, count, count_z, count_s}

-- by a name of its own, since it stands inside data
down : {m n : ℕ} → suc m ≤ n → m ≤ n
down h = omega arith

abbrev pub Place : ℕ → Type 0
Place n = (i : ℕ) × (i < n)

module _ (n : ℕ) where
  places : (m : ℕ) → m ≤ n → List (Place n)
  places zero h = []
  places (suc m) h = (m, h) ∷ places m (down h)

  pub all : List (Place n)
  all = places n (le_refl n)

  pub place_eq : (i j : Place n) → i.0 ≡ j.0 → i ≡ j
  place_eq i j e = Fin.val_path {n = n} {i = i} {j = j} e

  places_in : (m : ℕ) (h : m ≤ n) (i : Place n) → i.0 < m → In i (places m h)
  unfolding places
  places_in zero h i l = absurd (omega arith)
  places_in (suc m) h i l =
      elim (ℕ_discrete i.0 m) [
        | yes e ↦ subst (λ (x : Place n). In i (x ∷ places m (down h))) (place_eq i (m, h) e) here
        | no e ↦ there (places_in m (down h) i (omega arith))
      ]

  in_places : (m : ℕ) (h : m ≤ n) (i : Place n) → In i (places m h) → i.0 < m
  unfolding places
  in_places zero h i x = elim x [ ]
  in_places (suc m) h i x = go (m, h) i (places m (down h)) (omega arith) (in_places m (down h) i) x
    where
      go : (k i : Place n) (l : List (Place n)) → k.0 < suc m → (In i l → i.0 < m) → In i (k ∷ l) → i.0 < suc m
      go k i l b ih here = b
      go k i l b ih (there y) = omega (arith, ih y)

  places_distinct : (m : ℕ) (h : m ≤ n) → Distinct (places m h)
  unfolding places
  places_distinct zero h = d_nil
  places_distinct (suc m) h = d_cons (all_of (places m (down h)) fresh) (places_distinct m (down h))
    where
      fresh : (j : Place n) → In j (places m (down h)) → (m, h) ≢ j
      fresh j x e =
          let l : j.0 < m = in_places m (down h) j x in
          let q : m ≡ j.0 = ap (λ (p : Place n). p.0) e in
          omega arith

  places_length : (m : ℕ) (h : m ≤ n) → length (places m h) ≡ m
  unfolding places
  places_length zero h = refl
  places_length (suc m) h = ap suc (places_length m (down h))

  pub all_length : length all ≡ n
  unfolding all
  all_length = places_length n (le_refl n)

  pub all_in : (i : Place n) → In i all
  unfolding all
  all_in i = places_in n (le_refl n) i i.1

  pub all_distinct : Distinct all
  unfolding all
  all_distinct = places_distinct n (le_refl n)

module _ {A : Type 0} (R : Ring A) where
  open R use {add as ◌+◌, 𝟘}

  infixl 65 ◌+◌
  pub sum_l_add : {B : Type 0} (f g : B → A) (l : List B) → sum_l R (λ b. f b + g b) l ≡ sum_l R f l + sum_l R g l
  unfolding sum_l
  sum_l_add f g [] = simp ring
  sum_l_add f g (b ∷ l) = ap (λ x. f b + g b + x) (sum_l_add f g l) ∙ regroup (f b) (g b) (sum_l R f l) (sum_l R g l)
    where
      regroup : (a b c d : A) → a + b + (c + d) ≡ a + c + (b + d)
      regroup a b c d = simp ring

  places_sum : (n : ℕ) (f : ℕ → A) (m : ℕ) (h : m ≤ n) → sum_l R (λ (i : Place n). f i.0) (places n m h) ≡ sum R m f
  unfolding places sum_l
  places_sum n f zero h = sym (sum_z R f)
  places_sum n f (suc m) h = ap (λ x. f m + x) (places_sum n f m (down h)) ∙ add_comm R _ _ ∙ sym (sum_s R m f)

  pub all_sum : (n : ℕ) (f : ℕ → A) → sum_l R (λ (i : Place n). f i.0) (all n) ≡ sum R n f
  unfolding all
  all_sum n f = places_sum n f n (le_refl n)

  module _ (K : Field R) where
    -- the weights Y are 0 exactly where the mask e is
    module _ {n : ℕ} (Y : Place n → A) (e : ℕ) (same : (i : Place n) → (Y i ≡ 𝟘) ↔ (coefficient i.0 e ≡ 0)) where
      count_places : (m : ℕ) (h : m ≤ n) → length (support R K Y (places n m h)) ≡ count m e
      unfolding places support keep
      count_places zero h = sym (count_z e)
      count_places (suc m) h =
          go (K.discrete (Y (m, h)) 𝟘) (support R K Y (places n m (down h))) (count_places m (down h)) ∙ sym (count_s m e)
        where
          go : (d : Dec (Y (m, h) ≡ 𝟘)) (s : List (Place n)) → length s ≡ count m e
              → length (keep R K Y (m, h) d s) ≡ count m e +ℕ coefficient m e
          go (yes z) s q = let k : coefficient m e ≡ 0 = (same (m, h)).0 z in omega arith
          go (no z) s q = let k : coefficient m e ≡ 1 = one_of m e (λ w. z ((same (m, h)).1 w)) in omega arith

      pub support_count : length (support R K Y (all n)) ≡ count n e
      unfolding all
      support_count = count_places n (le_refl n)

    module _ {I : Type 0} (Y : I → A) where
      pub in_support : {i : I} {l : List I} → In i l → Y i ≢ 𝟘 → In i (support R K Y l)
      unfolding support keep
      in_support {i = i} (here {l = l}) ne = go (K.discrete (Y i) 𝟘) (support R K Y l)
        where
          go : (d : Dec (Y i ≡ 𝟘)) (s : List I) → In i (keep R K Y i d s)
          go (yes z) s = absurd (ne z)
          go (no z) s = here
      in_support {i = i} (there {c = c} {l = l} x) ne = go (K.discrete (Y c) 𝟘) (in_support x ne)
        where
          go : (d : Dec (Y c ≡ 𝟘)) {s : List I} → In i s → In i (keep R K Y c d s)
          go (yes z) y = y
          go (no z) y = there y

      pub off_support : (l : List I) {i : I} → Y i ≡ 𝟘 → All (λ j. i ≢ j) (support R K Y l)
      off_support l {i} z = all_of _ (λ j x e. all_at (support_ne R K Y l) x (ap Y (sym e) ∙ z))
