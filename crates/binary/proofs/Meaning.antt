-- What the searches of Factor.antt mean, in both directions, with no search.
--
--   coprime_iff, no_factor     no number above 1 divides both; none but 1
--   product_coefficient        coefficient j of the product d·q: the sum of d_(j - i) q_i over i up to j, modulo 2
--   mask_iff                   the mask d divides a
--   factor_iff                 that is, some q makes every such sum the coefficient of a
--   pow_one                    x^p + 1 as a number
--   common_iff                 a mask above 1, so of degree 1 or more, divides both
--   period_divisor, period_least, period_unique      f divides x^p + 1 for p = period f, for no smaller p above 0, and no other p is such
--                              (that p is above 0 is period_pos of MaskPeriod.antt)
--   series_product, series_unique      f times the series of the terms is h, and no other series of 0s and 1s is such
use mathlib.Core.Path.{◌≡◌, refl, sym, ap, ap₂, ◌∙◌}
use mathlib.Core.Logic.{◌↔◌}
use mathlib.Core.Bool.{Bool, true, false, ◌&&◌}
use Prim.Native.Nat.{ℕ, zero, suc, ◌+◌, ◌-◌, ◌*◌, ◌/◌, ◌%◌, ◌^◌, ◌≤◌, ◌<◌, ◌∣◌}
use native.Mathlib.Nat.{pos_of_dvd_of_pos, mod-eq-zero_of_dvd, dvd_of_mod-eq-zero, one-mul, div-one, mul_assoc, pow-suc}
use native.Mathlib.Decide.{dec_lt, ℕ_discrete}
use native.Mathlib.Omega.{arith}
use lib.Pow.{pow_mono}
use borrow.Author.Tests.{eqb-true, eq-eqb}
use Rattle.field.specs.Search.{up_to, some, total}
use Rattle.field.specs.Mask.{◌⊕◌, coefficient, size, clmul, remainder}
use Rattle.field.proofs.Search.{and_both, true_ne_false, some_at, some_of, total_s, total_ext}
use Rattle.field.proofs.Xor.{digit_lt, ⊕-zero-r, ⊕-split, bit_⊕, bit_ext}
use Rattle.field.proofs.MaskProduct.{size_lt, product_enough, clmul_comm}
use Rattle.cyclic.proofs.Division.{◌∣ₘ◌, divides_iff}
use Rattle.cyclic.proofs.NumberGcd.{NoFactor}
use Rattle.cyclic.proofs.MaskGcd.{divisor_le}
use Rattle.binary.specs.Factor.{coprime, degree, divides, common, period, Modulus}
use Rattle.binary.proofs.Degree.{degree_top}
use Rattle.binary.proofs.Coprime.{both_yes, both_at, shared, none}
use Rattle.binary.proofs.MaskPeriod.{one_iff, period_divides, period_pos, period_least as period_before}
use Rattle.binary.proofs.Coefficient.{combine, combine_s, coefficient_combine, below_is}
use Rattle.binary.proofs.Series.{register, term_is}
use Rattle.binary.proofs.Digits.{shift_low}

pub is_false : (b : Bool) → ¬ (b ≡ true) → b ≡ false
is_false true h = absurd (h refl)
is_false false h = refl

-- ---- numbers
pub coprime_iff : (a b : ℕ) → (coprime a b ≡ true) ↔ ((d : ℕ) → 1 < d → d ∣ a → ¬ (d ∣ b))
coprime_iff a b = (
  λ e d h x y. true_ne_false e (shared a b d h (both_yes d a b (mod-eq-zero_of_dvd d x) (mod-eq-zero_of_dvd d y))),
  λ h. none a b (λ d l. is_false _ (λ e. let z = both_at d a b e in
      h d l (dvd_of_mod-eq-zero d z.0) (dvd_of_mod-eq-zero d z.1))),
)

-- a divisor that is not above 1 is 1
pub no_factor : (a b : ℕ) → 0 < b → coprime a b ≡ true → NoFactor b a
no_factor a b h e d x y = elim (dec_lt 1 d) [
  | yes l ↦ absurd ((coprime_iff a b).0 e d l y x)
  | no l ↦ omega (arith, pos_of_dvd_of_pos x h)
]

-- ---- masks
-- terms past x^j change no coefficient up to j
terms_past : (t : ℕ → ℕ) (f j m : ℕ) → coefficient j (combine t f (suc j + m)) ≡ coefficient j (combine t f (suc j))
terms_past t f j zero = let e : suc j + 0 ≡ suc j = omega arith in ap (λ (k : ℕ). coefficient j (combine t f k)) e
terms_past t f j (suc m) =
    let n : ℕ = suc j + m in
    let e : suc j + suc m ≡ suc n = omega arith in
    ap (λ (k : ℕ). coefficient j (combine t f k)) e ∙ ap (λ (x : ℕ). coefficient j x) (combine_s t f n)
    ∙ bit_⊕ j (combine t f n) (t n * (f * 2 ^ n))
    ∙ ap₂ ◌⊕◌ (terms_past t f j m)
    (ap (λ (x : ℕ). coefficient j x) (sym (mul_assoc (t n) f (2 ^ n))) ∙ shift_low (t n * f) n j (omega arith))
    ∙ ⊕-zero-r (coefficient j (combine t f (suc j)))

pub product_coefficient : (d q j : ℕ) → coefficient j (clmul d q) ≡ total (suc j) (λ i. coefficient (j - i) d * coefficient i q) % 2
product_coefficient d q j =
    let n : ℕ = suc j + size q in
    let l : 2 ^ size q ≤ 2 ^ n = let m : size q ≤ n = omega arith in pow_mono m in
    let b : q < 2 ^ n = omega (arith, size_lt q) in
    ap (λ (x : ℕ). coefficient j x) (clmul_comm d q ∙ sym (product_enough n q d b) ∙ below_is q d n)
    ∙ terms_past (λ i. coefficient i q) d j (size q)
    ∙ coefficient_combine (λ i. coefficient i q) (λ i. digit_lt (q / 2 ^ i)) d j (suc j) (omega arith)

pub mask_iff : (d a : ℕ) → 0 < d → (divides d a ≡ true) ↔ (d ∣ₘ a)
unfolding divides
mask_iff d a h =
    let w = divides_iff (degree d) d (degree_top d h) a in
    (λ e. w.1 (eqb-true (remainder (degree d) d a) 0 e), λ x. eq-eqb (remainder (degree d) d a) 0 (w.0 x))

pub factor_iff : (d a : ℕ)
    → (d ∣ₘ a) ↔ ((q : ℕ) × ((j : ℕ) → total (suc j) (λ i. coefficient (j - i) d * coefficient i q) % 2 ≡ coefficient j a))
factor_iff d a = (
  λ w. (w.0, λ j. sym (ap (λ (x : ℕ). coefficient j x) w.1 ∙ product_coefficient d w.0 j)),
  λ w. (w.0, bit_ext (λ j. sym (product_coefficient d w.0 j ∙ w.1 j))),
)

pub pow_one : (p : ℕ) → 0 < p → 2 ^ p ⊕ 1 ≡ 2 ^ p + 1
pow_one zero h = absurd (omega arith)
pow_one (suc m) h =
    let e : 2 ^ suc m ≡ 2 ^ m * 2 = pow-suc 2 m in
    let high : 2 ^ suc m ≡ (2 ^ suc m + 1) / 2 * 2 = omega arith in
    let low : 1 ≡ (2 ^ suc m + 1) % 2 = omega arith in
    ap₂ ◌⊕◌ high low ∙ ⊕-split (2 ^ suc m + 1)

pub common_iff : (f h : ℕ) → 0 < f → (common f h ≡ true) ↔ ((d : ℕ) × (1 < d) × (d ∣ₘ f) × (d ∣ₘ h))
unfolding common
common_iff f h p = (there, back)
  where
    test : ℕ → Bool
    test d = divides (d + 2) f && divides (d + 2) h

    above : (k : ℕ) → 0 < k + 2
    above k = omega arith

    there : some test (up_to (2 ^ size f - 2)) ≡ true → (d : ℕ) × (1 < d) × (d ∣ₘ f) × (d ∣ₘ h)
    there e =
        let w = some_at test (2 ^ size f - 2) e in
        let z = and_both (divides (w.0 + 2) f) (divides (w.0 + 2) h) w.2 in
        (w.0 + 2, omega arith, (mask_iff (w.0 + 2) f (above w.0)).0 z.0, (mask_iff (w.0 + 2) h (above w.0)).0 z.1)

    back : (d : ℕ) × (1 < d) × (d ∣ₘ f) × (d ∣ₘ h) → some test (up_to (2 ^ size f - 2)) ≡ true
    back w =
        let d : ℕ = w.0 in
        let l : 1 < d = w.1 in
        let b : f < 2 ^ size f = size_lt f in
        let k : d - 2 + 2 ≡ d = omega arith in
        some_of test (2 ^ size f - 2) (d - 2) (omega (arith, divisor_le d f p w.2))
        (ap (λ (m : ℕ). divides m f && divides m h) k
        ∙ ap₂ ◌&&◌ ((mask_iff d f (omega arith)).1 w.2) ((mask_iff d h (omega arith)).1 w.3))

-- ---- the period
module _ {f u : ℕ} (m : Modulus f u) where
  pos : 0 < f
  pos = let o : f % 2 ≡ 1 = m.odd in omega arith

  pub period_divisor : f ∣ₘ 2 ^ period f ⊕ 1
  period_divisor = (mask_iff f (2 ^ period f ⊕ 1) pos).0 (period_divides m)

  pub period_least : (q : ℕ) → 0 < q → f ∣ₘ 2 ^ q ⊕ 1 → period f ≤ q
  period_least q h w = go (dec_lt q (period f))
    where
      go : Dec (q < period f) → period f ≤ q
      go (yes l) = absurd (period_before m q h l ((one_iff m q).1 ((mask_iff f (2 ^ q ⊕ 1) pos).1 w)))
      go (no l) = omega arith

  pub period_unique : (p : ℕ) → 0 < p → f ∣ₘ 2 ^ p ⊕ 1 → ((q : ℕ) → 0 < q → f ∣ₘ 2 ^ q ⊕ 1 → p ≤ q) → p ≡ period f
  period_unique p h w least = omega (arith, period_least p h w, least (period f) (period_pos f) period_divisor)

-- ---- the power series
module _ (f h : ℕ) (odd : f % 2 ≡ 1) where
  abbrev product : (ℕ → ℕ) → ℕ → ℕ
  product a j = total (suc j) (λ i. coefficient (j - i) f * a i)

  -- the last term by itself: f's constant term is 1
  last : (a : ℕ → ℕ) (j : ℕ) → product a j ≡ total j (λ i. coefficient (j - i) f * a i) + a j
  last a j =
      let z : j - j ≡ 0 = omega arith in
      let o : coefficient (j - j) f ≡ 1 = ap (λ (k : ℕ). coefficient k f) z ∙ ap (λ (x : ℕ). x % 2) (div-one f) ∙ odd in
      total_s j (λ i. coefficient (j - i) f * a i)
      ∙ ap (λ (x : ℕ). total j (λ i. coefficient (j - i) f * a i) + x) (ap (λ (x : ℕ). x * a j) o ∙ one-mul (a j))

  pub series_product : (j : ℕ) → total (suc j) (λ i. coefficient (j - i) f * (register f h i % 2)) % 2 ≡ coefficient j h
  series_product j =
      let l : coefficient j h < 2 = digit_lt (h / 2 ^ j) in
      omega (arith, last (λ i. register f h i % 2) j, term_is f h odd j)

  pub series_unique : (a : ℕ → ℕ) → ((j : ℕ) → a j < 2)
      → ((j : ℕ) → total (suc j) (λ i. coefficient (j - i) f * a i) % 2 ≡ coefficient j h) → (j : ℕ) → a j ≡ register f h j % 2
  series_unique a two is j = below (suc j) j (omega arith)
    where
      next : (j : ℕ) → ((i : ℕ) → i < j → a i ≡ register f h i % 2) → a j ≡ register f h j % 2
      next j same =
          let e : total j (λ i. coefficient (j - i) f * a i) ≡ total j (λ i. coefficient (j - i) f * (register f h i % 2)) =
          total_ext j (λ i. coefficient (j - i) f * a i) (λ i. coefficient (j - i) f * (register f h i % 2))
          (λ i l. ap (λ (x : ℕ). coefficient (j - i) f * x) (same i l)) in
          omega (arith, two j, digit_lt (register f h j), last a j, is j, last (λ i. register f h i % 2) j, series_product j)

      below : (n i : ℕ) → i < n → a i ≡ register f h i % 2
      below zero i l = absurd (omega arith)
      below (suc n) i l = elim (ℕ_discrete i n) [
        | yes e ↦ ap a e ∙ next n (below n) ∙ ap (λ (k : ℕ). register f h k % 2) (sym e)
        | no e ↦ below n i (omega arith)
      ]
