-- Syndromes that vanish on a code, and the distance that they prove.
--
--   Syndromes C      L syndromes of alternant form, 0 on all codewords: what a certificate supplies, of whatever kind
--   weighted R Y e i, weights S e i      the weight of place i in the mask e, Y i where e has a one, else 0: weights_zero
--   syndrome S e j   the j-th syndrome of e: syndrome_add, syndrome_codeword
--   distance S, radius S, stop S      d, t, and where Euclid stops
--   weight_bound     a codeword is 0 or has at least d ones
--   distance_bound   different codewords differ in at least d places
use mathlib.Core.Path.{◌≡◌, sym, ap, ◌∙◌, subst, fun_ext}
use mathlib.Core.Logic.{◌≢◌, ◌⊎◌, inl, inr, ◌↔◌}
use lib.ListN.{length}
use lib.Pow.{pow_pos}
use Prim.Native.Nat.{ℕ, ◌+◌ as ◌+ℕ◌, ◌*◌ as ◌*ℕ◌, ◌/◌, ◌^◌, ◌≤◌, ◌<◌}
use Rattle.algebra.proofs.Ring.{Ring, ring, mul_comm, zero-mul}
use Rattle.algebra.proofs.Power.{pow}
use Rattle.algebra.proofs.Field.{cancel}
use Rattle.algebra.proofs.Lists.{All, all_at, sum_l}
use Rattle.algebra.proofs.Series.{add_at}
use Rattle.algebra.proofs.Alternant.{Alternant}
use Rattle.algebra.proofs.Alternant as Alternant
use Rattle.algebra.proofs.Weight.{support, weight}
use Rattle.field.specs.Mask.{◌⊕◌, coefficient}
use Rattle.field.proofs.Xor.{digit_lt, ⊕-lt, ⊕-eq}
use Rattle.field.proofs.Value.{coef, coef_0}
use Rattle.cyclic.proofs.Places.{coefficient_zero, same_places, count}
use Rattle.cyclic.proofs.Lift.{lift, lift_add, lift_at, coef_null}
use Rattle.cyclic.proofs.CyclicCode.{Code, Vanishes}
use Rattle.cyclic.proofs.Generator.{InCode, codeword, codeword_add}
use Rattle.cyclic.proofs.Radius.{distance_of, radius_for, stop_of, distance_le}
use Rattle.cyclic.proofs.Errors.{Place, all, all_in, all_distinct, sum_l_add, support_count}

-- a one in place i has the weight Y i
unfoldable pub weighted : {A : Type 0} (R : Ring A) {n : ℕ} → (Place n → A) → ℕ → Place n → A
weighted R Y e i = R.mul (lift R e i.0) (Y i)

pub record Syndromes {A : Type 0} {R : Ring A} {n : ℕ} (C : Code R n) : Type 0 where
  pub alternant : Alternant R (Place n)
  pub Y : Place n → A
  pub Y-ne : (i : Place n) → Y i ≢ R.𝟘
  pub L : ℕ
  pub quiet : (c : ℕ) → c < 2 ^ n → Vanishes C c → (j : ℕ) → j < L
      → Alternant.syndrome R alternant (weighted R Y c) (all n) j ≡ R.𝟘

module _ {A : Type 0} {R : Ring A} {n : ℕ} {C : Code R n} (S : Syndromes C) where
  open R use {add as ◌+◌, mul as ◌*◌, 𝟘}

  infixl 65 ◌+◌
  infixl 70 ◌*◌
  open S use {alternant, Y, L}

  abbrev pub weights : ℕ → Place n → A
  weights e = weighted R Y e

  abbrev pub syndrome : ℕ → ℕ → A
  syndrome e j = Alternant.syndrome R alternant (weights e) (all n) j

  abbrev pub distance : ℕ
  distance = distance_of L alternant.u alternant.v

  abbrev pub radius : ℕ
  radius = radius_for distance

  abbrev pub stop : ℕ
  stop = stop_of L alternant.u alternant.v

  pub weights_zero : (e : ℕ) (i : Place n) → (weights e i ≡ 𝟘) ↔ (coefficient i.0 e ≡ 0)
  unfolding weighted
  weights_zero e i = (
    λ q. coef_null R C.K (coefficient i.0 e) (digit_lt (e / 2 ^ i.0))
        (sym (lift_at R i.0 e) ∙ cancel R C.K (Y i) (lift R e i.0) (S.Y-ne i) (mul_comm R _ _ ∙ q)),
    λ q. ap (λ x. x * Y i) (lift_at R i.0 e ∙ ap (coef R) q ∙ coef_0 R) ∙ zero-mul R (Y i),
  )

  pub syndrome_add : (a b j : ℕ) → syndrome (a ⊕ b) j ≡ syndrome a j + syndrome b j
  unfolding Alternant.syndrome weighted
  syndrome_add a b j = ap (λ f. sum_l R f (all n)) (fun_ext term) ∙ sum_l_add R _ _ (all n)
    where
      spread : (x y z w : A) → (x + y) * z * w ≡ x * z * w + y * z * w
      spread x y z w = simp ring

      at : Place n → A
      at i = alternant.a j * pow R (alternant.X i) j

      term : (i : Place n) → lift R (a ⊕ b) i.0 * Y i * at i ≡ lift R a i.0 * Y i * at i + lift R b i.0 * Y i * at i
      term i =
          ap (λ x. x * Y i * at i) (ap (λ p. p i.0) (lift_add R a b) ∙ add_at R _ _ i.0)
          ∙ spread (lift R a i.0) (lift R b i.0) (Y i) (at i)

  pub syndrome_codeword : (c : ℕ) → c < 2 ^ n → InCode C c → (j : ℕ) → j < L → syndrome c j ≡ 𝟘
  syndrome_codeword c h w = S.quiet c h ((codeword C c).0 w)

  pub weight_bound : (c : ℕ) → c < 2 ^ n → InCode C c → (c ≡ 0) ⊎ (distance ≤ count n c)
  weight_bound c h w = go (weight R C.K alternant (weights c) (all_distinct n) L (syndrome_codeword c h w))
    where
      go : All (λ i. weights c i ≡ 𝟘) (all n)
          ⊎ (L +ℕ alternant.u ≤ length (support R C.K (weights c) (all n)) *ℕ alternant.u +ℕ alternant.v)
          → (c ≡ 0) ⊎ (distance ≤ count n c)
      go (inl q) =
          inl
          (same_places h (pow_pos n)
          (λ i l. (weights_zero c (i, l)).0 (all_at q (all_in n (i, l))) ∙ sym (coefficient_zero i)))
      go (inr q) =
          inr
          (distance_le L alternant.u alternant.v alternant.v_lt (count n c)
          (subst (λ (k : ℕ). L +ℕ alternant.u ≤ k *ℕ alternant.u +ℕ alternant.v)
          (support_count R C.K (weights c) c (weights_zero c)) q))

  pub distance_bound : (c d : ℕ) → c < 2 ^ n → d < 2 ^ n → InCode C c → InCode C d → c ≢ d → distance ≤ count n (c ⊕ d)
  distance_bound c d hc hd wc wd ne =
      elim (weight_bound (c ⊕ d) (⊕-lt n c d hc hd) (codeword_add C c d wc wd)) [
        | inl e ↦ absurd (ne (⊕-eq e))
        | inr l ↦ l
      ]
