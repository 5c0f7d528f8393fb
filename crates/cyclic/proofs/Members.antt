-- The members of a set of numbers below n, as a list.
--
--   up_to_in, in_up_to, up_to_distinct      the numbers below n
--   keep_in, in_keep, keep_distinct      those of a list that pass a test
--   members D n      the members of D below n, rising: members_in, in_members, members_distinct, members_le
use mathlib.Core.Path.{◌≡◌, refl, sym, ◌∙◌, subst}
use mathlib.Core.Logic.{◌≢◌, ◌⊎◌, inl, inr}
use mathlib.Core.Bool.{Bool, true, false}
use mathlib.Core.List.{List, [], ◌∷◌, ◌++◌}
use lib.Dec.{T}
use lib.ListN.{length}
use Prim.Native.Nat.{ℕ, zero, suc, ◌≤◌, ◌<◌}
use native.Mathlib.Decide.{ℕ_discrete}
use native.Mathlib.Omega.{arith}
use Rattle.algebra.proofs.Lists.{none, In, here, there, Distinct, d_nil, d_cons, all_of, all_at}
use Rattle.field.specs.Search.{up_to, keep}
use Rattle.field.proofs.Search.{length_up_to, length_keep}

-- ---- one element more at the end
in_left : (x : ℕ) {i : ℕ} {l : List ℕ} → In i l → In i (l ++ (x ∷ []))
in_left x here = here
in_left x (there m) = there (in_left x m)

in_last : (l : List ℕ) (x : ℕ) → In x (l ++ (x ∷ []))
in_last [] x = here
in_last (y ∷ l) x = there (in_last l x)

in_cases : (l : List ℕ) (x i : ℕ) → In i (l ++ (x ∷ [])) → In i l ⊎ (i ≡ x)
in_cases [] x i here = inr refl
in_cases [] x i (there m) = elim m [ ]
in_cases (y ∷ l) x i here = inl here
in_cases (y ∷ l) x i (there m) = elim (in_cases l x i m) [ inl k ↦ inl (there k) | inr e ↦ inr e ]

distinct_last : {l : List ℕ} (x : ℕ) → Distinct l → ((i : ℕ) → In i l → i ≢ x) → Distinct (l ++ (x ∷ []))
distinct_last x d_nil h = d_cons none d_nil
distinct_last x (d_cons {b = y} {l = l} ne d) h =
    d_cons (all_of (l ++ (x ∷ [])) fresh) (distinct_last x d (λ i m. h i (there m)))
  where
    fresh : (i : ℕ) → In i (l ++ (x ∷ [])) → y ≢ i
    fresh i m = elim (in_cases l x i m) [ inl k ↦ all_at ne k | inr e ↦ (λ q. h y here (q ∙ e)) ]

-- ---- the numbers below n
pub up_to_in : (n i : ℕ) → i < n → In i (up_to n)
unfolding up_to
up_to_in zero i h = absurd (omega arith)
up_to_in (suc n) i h =
    elim (ℕ_discrete i n) [
      | yes e ↦ subst (λ (x : ℕ). In x (up_to n ++ (n ∷ []))) (sym e) (in_last (up_to n) n)
      | no e ↦ in_left n (up_to_in n i (omega arith))
    ]

pub in_up_to : (n i : ℕ) → In i (up_to n) → i < n
unfolding up_to
in_up_to zero i m = elim m [ ]
in_up_to (suc n) i m =
    elim (in_cases (up_to n) n i m) [ inl k ↦ (let l : i < n = in_up_to n i k in omega arith) | inr e ↦ omega arith ]

pub up_to_distinct : (n : ℕ) → Distinct (up_to n)
unfolding up_to
up_to_distinct zero = d_nil
up_to_distinct (suc n) =
    distinct_last n (up_to_distinct n) (λ i m e. let l : i < n = in_up_to n i m in omega arith)

-- ---- a test
module _ (test : ℕ → Bool) where
  pub keep_in : {i : ℕ} {l : List ℕ} → In i l → T (test i) → In i (keep test l)
  unfolding keep
  keep_in {i = i} (here {l = l}) t = go (test i) t
    where
      go : (b : Bool) → T b → In i (elim b as (λ _. List ℕ) [ true ↦ i ∷ keep test l | false ↦ keep test l ])
      go true t = here
      go false t = absurd t
  keep_in {i = i} (there {c = c} {l = l} m) t = go (test c) (keep_in m t)
    where
      go : (b : Bool) → In i (keep test l)
          → In i (elim b as (λ _. List ℕ) [ true ↦ c ∷ keep test l | false ↦ keep test l ])
      go true k = there k
      go false k = k

  pub in_keep : (l : List ℕ) (i : ℕ) → In i (keep test l) → In i l × T (test i)
  unfolding keep
  in_keep [] i m = elim m [ ]
  in_keep (c ∷ l) i m = go (test c) refl (λ k. let r = in_keep l i k in (there r.0, r.1)) m
    where
      first : (x j : ℕ) → T (test x) → (In j (keep test l) → In j (x ∷ l) × T (test j)) → In j (x ∷ keep test l)
          → In j (x ∷ l) × T (test j)
      first x j t later here = (here, t)
      first x j t later (there k) = later k

      go : (b : Bool) → test c ≡ b → (In i (keep test l) → In i (c ∷ l) × T (test i))
          → In i (elim b as (λ _. List ℕ) [ true ↦ c ∷ keep test l | false ↦ keep test l ]) → In i (c ∷ l) × T (test i)
      go true e later k = first c i (subst T (sym e) tt) later k
      go false e later k = later k

  pub keep_distinct : {l : List ℕ} → Distinct l → Distinct (keep test l)
  unfolding keep
  keep_distinct d_nil = d_nil
  keep_distinct (d_cons {b = c} {l = l} ne d) = go (test c) (keep_distinct d)
    where
      go : (b : Bool) → Distinct (keep test l)
          → Distinct {B = ℕ} (elim b as (λ _. List ℕ) [ true ↦ c ∷ keep test l | false ↦ keep test l ])
      go true k = d_cons (all_of (keep test l) (λ i m. all_at ne (in_keep l i m).0)) k
      go false k = k

module _ (D : ℕ → Bool) (n : ℕ) where
  unfoldable pub members : List ℕ
  members = keep D (up_to n)

  pub members_in : (i : ℕ) → i < n → T (D i) → In i members
  unfolding members
  members_in i h t = keep_in D (up_to_in n i h) t

  pub in_members : (i : ℕ) → In i members → (i < n) × T (D i)
  unfolding members
  in_members i m = let r = in_keep D (up_to n) i m in (in_up_to n i r.0, r.1)

  pub members_distinct : Distinct members
  unfolding members
  members_distinct = keep_distinct D (up_to_distinct n)

  pub members_le : length members ≤ n
  unfolding members
  members_le = omega (arith, length_keep D (up_to n), length_up_to n)
