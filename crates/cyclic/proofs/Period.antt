-- The period of a mask f with constant term 1: the smallest p above 0 for which f divides x^p + 1.
--
--   Denominator u f     f has degree u, above 0, and constant term 1
--   period u f          counted by multiplying by x modulo f
--   period_pos, period_lt      it is from 1 to 2^u - 1
--   period_divides, period_least      and is what its name says
use mathlib.Core.Path.{◌≡◌, refl, sym, ap, ap₂, ◌∙◌}
use mathlib.Core.Logic.{◌≢◌, ◌↔◌}
use mathlib.Core.Bool.{Bool}
use Prim.Native.Nat.{ℕ, zero, suc, pred, ◌+◌, ◌-◌, ◌*◌, ◌/◌, ◌%◌, ◌^◌, ◌≤◌, ◌<◌}
use native.Mathlib.Omega.{arith}
use lib.Dec.{eqb}
use lib.Pow.{pow_mono}
use borrow.Author.Tests.{eqb-true, eqb-false, eq-eqb}
use Rattle.field.specs.Search.{least}
use Rattle.field.specs.Mask.{◌⊕◌, remainder}
use Rattle.field.proofs.Search.{least_is, least_most}
use Rattle.field.proofs.Xor.{digit, digit_lt, ⊕-zero-r, ⊕-self, ⊕-eq, dbl_odd, sel}
use Rattle.field.proofs.Remainder.{xtime, xtime_add, xtime_lt, remainder_add, remainder_small, remainder_dbl}
use Rattle.field.proofs.Pigeonhole.{collision}
use Rattle.field.proofs.Primitive.{xpow}
use Rattle.cyclic.proofs.Division.{◌∣ₘ◌, divides_iff}

pub record Denominator (u f : ℕ) : Type 0 where
  pub pos : 0 < u
  pub degree : f / 2 ^ u ≡ 1
  pub odd : f % 2 ≡ 1

-- x^p is 1 modulo f first for some p up to 2^u
unfoldable pub period : ℕ → ℕ → ℕ
period u f = suc (least (λ j. eqb (xpow u f (suc j)) 1) (2 ^ u))

pub period_pos : (u f : ℕ) → 0 < period u f
unfolding period
period_pos u f = omega arith

module _ {u f : ℕ} (d : Denominator u f) where
  two_le : 2 ≤ 2 ^ u
  two_le = pow_mono d.pos

  -- ---- powers of x modulo f
  xpow_s : (k : ℕ) → xpow u f (suc k) ≡ xtime u f (xpow u f k)
  unfolding xpow
  xpow_s k = refl

  xpow_is : (k : ℕ) → xpow u f k ≡ remainder u f (2 ^ k)
  unfolding xpow
  xpow_is zero = sym (remainder_small u f d.pos d.degree 1 two_le)
  xpow_is (suc k) =
      let e : 2 ^ k * 2 ≡ 2 ^ suc k = omega arith in
      ap (xtime u f) (xpow_is k) ∙ sym (remainder_dbl u f d.pos d.degree (2 ^ k)) ∙ ap (remainder u f) e

  xpow_lt : (k : ℕ) → xpow u f k < 2 ^ u
  unfolding xpow
  xpow_lt zero = two_le
  xpow_lt (suc k) = xtime_lt u f d.pos d.degree (xpow u f k) (xpow_lt k)

  -- f is odd, so 2 a + f is not 0
  kernel : (a : ℕ) → xtime u f a ≡ 0 → a ≡ 0
  unfolding xtime
  kernel a e = go (a * 2 / 2 ^ u % 2) (digit_lt (a * 2 / 2 ^ u)) e
    where
      go : (t : ℕ) → t < 2 → a * 2 ⊕ sel t f ≡ 0 → a ≡ 0
      go =
          digit (λ t. a * 2 ⊕ sel t f ≡ 0 → a ≡ 0) (λ e. let q : a * 2 ≡ 0 = sym (⊕-zero-r (a * 2)) ∙ e in omega arith)
          (λ e. let r : ◌≡◌ {A = ℕ} 0 1 = sym (dbl_odd a) ∙ ap (λ (x : ℕ). x % 2) (⊕-eq e) ∙ d.odd in absurd (omega arith))

  xtime_inj : (a b : ℕ) → xtime u f a ≡ xtime u f b → a ≡ b
  xtime_inj a b e =
      ⊕-eq (kernel (a ⊕ b) (xtime_add u f a b ∙ ap (λ (x : ℕ). x ⊕ xtime u f b) e ∙ ⊕-self (xtime u f b)))

  xpow_ne : (k : ℕ) → xpow u f k ≢ 0
  unfolding xpow
  xpow_ne zero e = omega arith
  xpow_ne (suc k) e = xpow_ne k (kernel (xpow u f k) e)

  -- powers that meet differ by one that is 1
  differ : (j k : ℕ) → xpow u f j ≡ xpow u f (j + k) → xpow u f k ≡ 1
  unfolding xpow
  differ zero k e = let z : 0 + k ≡ k = omega arith in ap (xpow u f) (sym z) ∙ sym e
  differ (suc j) k e =
      let z : suc j + k ≡ suc (j + k) = omega arith in
      differ j k (xtime_inj (xpow u f j) (xpow u f (j + k)) (e ∙ ap (xpow u f) z ∙ xpow_s (j + k)))

  -- 2^u powers, none of them 0, are not all different
  exists : (k : ℕ) × (0 < k) × (k < 2 ^ u) × (xpow u f k ≡ 1)
  exists =
      let two : 2 ≤ 2 ^ u = two_le in
      let c = collision (2 ^ u - 1) (λ i. pred (xpow u f i)) (λ i h. omega (arith, xpow_lt i, xpow_ne i)) in
      meet c.0 c.1 c.2 (omega (arith, c.3)) c.4
    where
      meet : (i j : ℕ) → j < i → i < 2 ^ u → pred (xpow u f j) ≡ pred (xpow u f i)
          → (k : ℕ) × (0 < k) × (k < 2 ^ u) × (xpow u f k ≡ 1)
      meet i j l h e =
          let k : j + (i - j) ≡ i = omega arith in
          let same : xpow u f j ≡ xpow u f i = omega (arith, xpow_ne i, xpow_ne j) in
          (i - j, omega arith, omega arith, differ j (i - j) (same ∙ ap (xpow u f) (sym k)))

  -- ---- the search
  test : ℕ → Bool
  test j = eqb (xpow u f (suc j)) 1

  period_is : period u f ≡ suc (least test (2 ^ u))
  unfolding test period
  period_is = refl

  pub period_lt : period u f < 2 ^ u
  unfolding test
  period_lt =
      let x = exists in
      let k : suc (x.0 - 1) ≡ x.0 = omega (arith, x.1) in
      let m : least test (2 ^ u) ≤ x.0 - 1 =
      least_most test (2 ^ u) (x.0 - 1) (eq-eqb (xpow u f (suc (x.0 - 1))) 1 (ap (xpow u f) k ∙ x.3)) in
      omega (arith, period_is, x.2)

  one_iff : (p : ℕ) → (xpow u f p ≡ 1) ↔ (f ∣ₘ 2 ^ p ⊕ 1)
  one_iff p =
      let one : remainder u f 1 ≡ 1 = remainder_small u f d.pos d.degree 1 two_le in
      let both : remainder u f (2 ^ p ⊕ 1) ≡ xpow u f p ⊕ 1 =
      remainder_add u f d.pos d.degree (2 ^ p) 1 ∙ ap₂ ◌⊕◌ (sym (xpow_is p)) one in
      let w = divides_iff u f d.degree (2 ^ p ⊕ 1) in
      (λ e. w.1 (both ∙ ap (λ (x : ℕ). x ⊕ 1) e ∙ ⊕-self 1), λ x. ⊕-eq (sym both ∙ w.0 x))

  pub period_divides : f ∣ₘ 2 ^ period u f ⊕ 1
  unfolding test
  period_divides =
      (one_iff (period u f)).0
      (ap (xpow u f) period_is
      ∙ eqb-true (xpow u f (suc (least test (2 ^ u)))) 1 ((least_is test (2 ^ u)).passes (omega (arith, period_lt, period_is))))

  pub period_least : (k : ℕ) → 0 < k → k < period u f → ¬ (f ∣ₘ 2 ^ k ⊕ 1)
  unfolding test
  period_least k h l w =
      let j : suc (k - 1) ≡ k = omega arith in
      eqb-false (xpow u f (suc (k - 1))) 1 ((least_is test (2 ^ u)).before (k - 1) (omega (arith, period_is)))
      (ap (xpow u f) j ∙ (one_iff k).1 w)
