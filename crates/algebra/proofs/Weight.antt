-- The weight of a word: how many of its coefficients are not 0.
--
--   support R K Y l     the places of l with a weight that is not 0, of which `keep` decides one
--   support_ne, support_all, support_distinct      what holds of them
--   support_sum, support_syndrome      the other places add nothing
--   support_zero        if there are none, all weights are 0
--   weight              a word with L zero syndromes is 0 or has many places that are not
use mathlib.Core.Path.{◌≡◌, refl, sym, ◌∙◌, ap}
use mathlib.Core.Logic.{◌≢◌, ◌⊎◌, inl, inr}
use mathlib.Core.List.{List, [], ◌∷◌}
use lib.ListN.{length}
use Prim.Native.Nat.{ℕ, zero, suc, ◌+◌ as ◌+ℕ◌, ◌*◌ as ◌*ℕ◌, ◌≤◌, ◌<◌}
use native.Mathlib.Omega.{arith}
use Rattle.algebra.proofs.Ring.{Ring, zero-mul, zero-add}
use Rattle.algebra.proofs.Power.{pow}
use Rattle.algebra.proofs.Field.{Field}
use Rattle.algebra.proofs.Lists.{All, none, more, Distinct, d_nil, d_cons, sum_l}
use Rattle.algebra.proofs.Alternant.{Alternant, syndrome, distance}

module _ {A : Type 0} (R : Ring A) where
  open R use {add as ◌+◌, mul as ◌*◌, 𝟘}

  infixl 65 ◌+◌
  infixl 70 ◌*◌
  module _ (K : Field R) {I : Type 0} (Y : I → A) where
    unfoldable pub keep : (i : I) → Dec (Y i ≡ 𝟘) → List I → List I
    keep i (yes e) l = l
    keep i (no e) l = i ∷ l

    unfoldable pub support : List I → List I
    support [] = []
    support (i ∷ l) = keep i (K.discrete (Y i) 𝟘) (support l)

    pub support_ne : (l : List I) → All (λ i. Y i ≢ 𝟘) (support l)
    unfolding support keep
    support_ne [] = none
    support_ne (i ∷ l) = go (K.discrete (Y i) 𝟘) (support_ne l)
      where
        go : (d : Dec (Y i ≡ 𝟘)) {s : List I} → All (λ i. Y i ≢ 𝟘) s → All (λ i. Y i ≢ 𝟘) (keep i d s)
        go (yes e) h = h
        go (no e) h = more e h

    pub support_all : {P : I → Type 0} {l : List I} → All P l → All P (support l)
    unfolding support keep
    support_all none = none
    support_all {P} (more {b = i} p h) = go (K.discrete (Y i) 𝟘) (support_all h)
      where
        go : (d : Dec (Y i ≡ 𝟘)) {s : List I} → All P s → All P (keep i d s)
        go (yes e) h = h
        go (no e) h = more p h

    pub support_distinct : {l : List I} → Distinct l → Distinct (support l)
    unfolding support keep
    support_distinct d_nil = d_nil
    support_distinct (d_cons {b = i} ne d) = go (K.discrete (Y i) 𝟘) (support_all ne) (support_distinct d)
      where
        go : (d : Dec (Y i ≡ 𝟘)) {s : List I} → All (λ j. i ≢ j) s → Distinct s → Distinct (keep i d s)
        go (yes e) n h = h
        go (no e) n h = d_cons n h

    pub support_sum : (g : I → A) (l : List I) → sum_l R (λ i. Y i * g i) (support l) ≡ sum_l R (λ i. Y i * g i) l
    unfolding support keep sum_l
    support_sum g [] = refl
    support_sum g (i ∷ l) = go (K.discrete (Y i) 𝟘) (support l) (support_sum g l)
      where
        total : List I → A
        total s = sum_l R (λ i. Y i * g i) s

        go : (d : Dec (Y i ≡ 𝟘)) (s : List I) → total s ≡ total l → total (keep i d s) ≡ Y i * g i + total l
        go (yes e) s h = h ∙ sym (ap (λ x. x * g i + total l) e ∙ rw (zero-mul, zero-add))
        go (no e) s h = ap (λ x. Y i * g i + x) h

    pub support_zero : (l : List I) → length (support l) ≡ 0 → All (λ i. Y i ≡ 𝟘) l
    unfolding support keep
    support_zero [] e = none
    support_zero (i ∷ l) e = go (K.discrete (Y i) 𝟘) (support l) (support_zero l) e
      where
        go : (d : Dec (Y i ≡ 𝟘)) (s : List I) → (length s ≡ 0 → All (λ i. Y i ≡ 𝟘) l) → length (keep i d s) ≡ 0
            → All (λ i. Y i ≡ 𝟘) (i ∷ l)
        go (yes z) s h e = more z (h e)
        go (no z) s h e = absurd (omega arith)

  module _ (K : Field R) {I : Type 0} (C : Alternant R I) (Y : I → A) where
    pub support_syndrome : (l : List I) (j : ℕ) → syndrome R C Y (support K Y l) j ≡ syndrome R C Y l j
    unfolding syndrome
    support_syndrome l j = support_sum K Y (λ i. C.a j * pow R (C.X i) j) l

    pub weight : {l : List I} → Distinct l → (L : ℕ) → ((j : ℕ) → j < L → syndrome R C Y l j ≡ 𝟘)
        → All (λ i. Y i ≡ 𝟘) l ⊎ (L +ℕ C.u ≤ length (support K Y l) *ℕ C.u +ℕ C.v)
    weight {l} d L s = go (length (support K Y l)) refl
      where
        go : (n : ℕ) → length (support K Y l) ≡ n
            → All (λ i. Y i ≡ 𝟘) l ⊎ (L +ℕ C.u ≤ length (support K Y l) *ℕ C.u +ℕ C.v)
        go zero e = inl (support_zero K Y l e)
        go (suc n) e =
            inr
            (distance R K C Y (support_distinct K Y d) (support_ne K Y l) (omega arith) L
            (λ j h. support_syndrome l j ∙ s j h))
