-- The period of a mask f of degree u with constant term 1: it exists, and is below 2^u.
--
--   modulus_top, modulus_degree, modulus_lt, modulus_small, modulus_two, modulus_cap      what `Modulus f u` gives of f and of 2^u
--   one_iff                   x^k is 1 modulo f exactly when f divides x^k + 1
--   period_divides, period_one, period_least      f divides x^p + 1 for p = period f, and for no smaller p above 0
--   period_pos, period_lt     0 < p < 2^u
--   times_set, times_clear, times_lt, count_more, count_on, count_end      the steps and the count of the code
use mathlib.Core.Path.{◌≡◌, refl, sym, ap, ◌∙◌, subst}
use mathlib.Core.Logic.{◌≢◌, ◌↔◌}
use mathlib.Core.Bool.{Bool, true}
use Prim.Native.Nat.{ℕ, zero, suc, pred, ◌+◌, ◌-◌, ◌*◌, ◌/◌, ◌%◌, ◌^◌, ◌≤◌, ◌<◌}
use native.Mathlib.Nat.{pow-suc, lt_of_lt_of_le}
use native.Mathlib.Decide.{dec_lt}
use native.Mathlib.Numerals.{add-one}
use native.Mathlib.Omega.{arith}
use lib.Bits.{bit_xor}
use lib.Dec.{eqb}
use lib.Pow.{pow_mono}
use borrow.Author.Tests.{eqb-true, eqb-false, eq-eqb}
use Rattle.field.specs.Search.{least}
use Rattle.field.specs.Mask.{◌⊕◌, remainder, HasDegree}
use Rattle.field.proofs.Search.{least_is, least_most}
use Rattle.field.proofs.Xor.{digit, digit_lt, ⊕-zero-r, ⊕-self, ⊕-eq, sel}
use Rattle.field.proofs.Remainder.{xtime, xtime_add, remainder_lt, remainder_add, remainder_small, remainder_dbl}
use Rattle.field.proofs.Pigeonhole.{collision}
use Rattle.binary.specs.Factor.{degree, divides, period, Modulus}
use Rattle.binary.proofs.Degree.{degree_top, degree_eq, degree_high}

module _ {f u : ℕ} (m : Modulus f u) where
  pos : 0 < u
  pos = m.lo

  pub modulus_top : f / 2 ^ u ≡ 1
  modulus_top =
      ap (λ (s : ℕ). f / 2 ^ s) m.is ∙ degree_top f (degree_eq f u m.is m.lo)

  pub modulus_degree : HasDegree u f
  modulus_degree = record { lo = m.lo; hi = omega (arith, m.hi); top = modulus_top }

  pub modulus_lt : f < 2 ^ suc u
  modulus_lt = subst (λ (s : ℕ). f < 2 ^ suc s) (sym m.is) (degree_high f (degree_eq f u m.is m.lo))

  pub modulus_small : f < 512
  modulus_small = lt_of_lt_of_le modulus_lt (pow_mono {i = suc u} {j = 9} (omega (arith, m.hi)))

  pub modulus_two : 2 ≤ 2 ^ u
  modulus_two = pow_mono m.lo

  pub modulus_cap : 2 ^ u ≤ 256
  modulus_cap = pow_mono m.hi

  rem : ℕ → ℕ
  rem a = remainder u f a

  rem_lt : (a : ℕ) → rem a < 2 ^ u
  unfolding rem
  rem_lt = remainder_lt u f pos modulus_top

  rem_small : (a : ℕ) → a < 2 ^ u → rem a ≡ a
  unfolding rem
  rem_small = remainder_small u f pos modulus_top

  rem_dbl : (a : ℕ) → rem (a * 2) ≡ xtime u f (rem a)
  unfolding rem
  rem_dbl = remainder_dbl u f pos modulus_top

  -- ---- multiplication by x: the constant term 1 makes it one to one
  kernel : (a : ℕ) → xtime u f a ≡ 0 → a ≡ 0
  unfolding xtime
  kernel a e = go (a * 2 / 2 ^ u % 2) (digit_lt (a * 2 / 2 ^ u)) e
    where
      go : (t : ℕ) → t < 2 → (a * 2) ⊕ sel t f ≡ 0 → a ≡ 0
      go =
          digit (λ t. (a * 2) ⊕ sel t f ≡ 0 → a ≡ 0) (λ e. let q : a * 2 ≡ 0 = sym (⊕-zero-r (a * 2)) ∙ e in omega arith)
          (λ e. let q : a * 2 ≡ f = ⊕-eq e in let o : f % 2 ≡ 1 = m.odd in absurd (omega arith))

  xtime_inj : (a b : ℕ) → xtime u f a ≡ xtime u f b → a ≡ b
  xtime_inj a b e =
      ⊕-eq (kernel (a ⊕ b) (xtime_add u f a b ∙ ap (λ (x : ℕ). x ⊕ xtime u f b) e ∙ ⊕-self (xtime u f b)))

  residue_z : rem (2 ^ 0) ≡ 1
  residue_z = rem_small 1 (omega (arith, modulus_two))

  residue_s : (i : ℕ) → rem (2 ^ suc i) ≡ xtime u f (rem (2 ^ i))
  residue_s i = ap rem (pow-suc 2 i) ∙ rem_dbl (2 ^ i)

  residue_ne : (i : ℕ) → rem (2 ^ i) ≢ 0
  residue_ne zero e = let q : rem (2 ^ 0) ≡ 1 = residue_z in omega arith
  residue_ne (suc i) e = residue_ne i (kernel (rem (2 ^ i)) (sym (residue_s i) ∙ e))

  -- powers that meet differ by one that is 1
  differ : (j k : ℕ) → rem (2 ^ j) ≡ rem (2 ^ (j + k)) → rem (2 ^ k) ≡ 1
  differ zero k e = let z : 0 + k ≡ k = omega arith in ap (λ (i : ℕ). rem (2 ^ i)) (sym z) ∙ sym e ∙ residue_z
  differ (suc j) k e =
      let z : suc j + k ≡ suc (j + k) = omega arith in
      differ j k
      (xtime_inj (rem (2 ^ j)) (rem (2 ^ (j + k)))
      (sym (residue_s j) ∙ e ∙ ap (λ (i : ℕ). rem (2 ^ i)) z ∙ residue_s (j + k)))

  meet : (i j : ℕ) → j < i → rem (2 ^ j) ≡ rem (2 ^ i) → rem (2 ^ (i - j)) ≡ 1
  meet i j h e = let k : i ≡ j + (i - j) = omega arith in differ j (i - j) (e ∙ ap (λ (x : ℕ). rem (2 ^ x)) k)

  -- 2^u powers leave at most 2^u - 1 different masks
  exists : (k : ℕ) × (0 < k) × (k < 2 ^ u) × (rem (2 ^ k) ≡ 1)
  exists =
      let two : 2 ≤ 2 ^ u = modulus_two in
      let c = collision (2 ^ u - 1) (λ i. pred (rem (2 ^ i))) (λ i h. omega (arith, rem_lt (2 ^ i), residue_ne i)) in
      let same : rem (2 ^ c.1) ≡ rem (2 ^ c.0) = omega (arith, c.4, residue_ne c.0, residue_ne c.1) in
      (c.0 - c.1, omega (arith, c.2), omega (arith, c.3), meet c.0 c.1 c.2 same)

  -- ---- the search
  divides_is : (a : ℕ) → divides f a ≡ eqb (rem a) 0
  unfolding divides rem
  divides_is a = ap (λ (s : ℕ). eqb (remainder s f a) 0) (sym m.is)

  plus_one : (k : ℕ) → rem (2 ^ k ⊕ 1) ≡ rem (2 ^ k) ⊕ 1
  unfolding rem
  plus_one k = remainder_add u f pos modulus_top (2 ^ k) 1 ∙ ap (λ (x : ℕ). rem (2 ^ k) ⊕ x) residue_z

  pub one_iff : (k : ℕ) → (remainder u f (2 ^ k) ≡ 1) ↔ (divides f (2 ^ k ⊕ 1) ≡ true)
  unfolding rem
  one_iff k = (
    λ e. divides_is (2 ^ k ⊕ 1)
        ∙ eq-eqb (rem (2 ^ k ⊕ 1)) 0 (plus_one k ∙ ap (λ (x : ℕ). x ⊕ 1) e ∙ ⊕-self 1),
    λ e. ⊕-eq (sym (plus_one k) ∙ eqb-true (rem (2 ^ k ⊕ 1)) 0 (sym (divides_is (2 ^ k ⊕ 1)) ∙ e)),
  )

  test : ℕ → Bool
  test j = divides f (2 ^ suc j ⊕ 1)

  bound : 2 ^ degree f ≡ 2 ^ u
  bound = ap (λ (s : ℕ). 2 ^ s) (sym m.is)

  period_is : period f ≡ suc (least test (2 ^ degree f))
  unfolding test period
  period_is = refl

  pub period_lt : period f < 2 ^ u
  unfolding test rem
  period_lt =
      let x = exists in
      let k : suc (x.0 - 1) ≡ x.0 = omega (arith, x.1) in
      let l : least test (2 ^ degree f) ≤ x.0 - 1 =
      least_most test (2 ^ degree f) (x.0 - 1)
      (ap (λ (i : ℕ). divides f (2 ^ i ⊕ 1)) k ∙ (one_iff x.0).0 x.3) in
      omega (arith, period_is, x.2)

  pub period_divides : divides f (2 ^ period f ⊕ 1) ≡ true
  unfolding test
  period_divides =
      ap (λ (k : ℕ). divides f (2 ^ k ⊕ 1)) period_is
      ∙ (least_is test (2 ^ degree f)).passes (omega (arith, period_lt, period_is, bound))

  pub period_one : remainder u f (2 ^ period f) ≡ 1
  period_one = (one_iff (period f)).1 period_divides

  pub period_least : (k : ℕ) → 0 < k → k < period f → remainder u f (2 ^ k) ≢ 1
  unfolding test rem
  period_least k h l e =
      let j : suc (k - 1) ≡ k = omega arith in
      eqb-false (rem (2 ^ k ⊕ 1)) 0
      (sym (divides_is (2 ^ k ⊕ 1)) ∙ ap (λ (i : ℕ). divides f (2 ^ i ⊕ 1)) (sym j)
      ∙ (least_is test (2 ^ degree f)).before (k - 1) (omega (arith, period_is)))
      (eqb-true (rem (2 ^ k ⊕ 1)) 0 (sym (divides_is (2 ^ k ⊕ 1)) ∙ (one_iff k).0 e))

  -- ---- the count of the code: a is x^p modulo f, and p is not past the period
  double_is : (a : ℕ) → a < 2 ^ u → remainder u f (a * 2) ≡ xtime u f a
  unfolding rem
  double_is a h = rem_dbl a ∙ ap (xtime u f) (rem_small a h)

  pub times_set : (a : ℕ) → a < 2 ^ u → a * 2 / 2 ^ u % 2 ≡ 1 → bit_xor (a * 2) f ≡ remainder u f (a * 2)
  unfolding xtime ◌⊕◌
  times_set a h e = sym (double_is a h ∙ ap (λ (t : ℕ). a * 2 ⊕ sel t f) e)

  pub times_clear : (a : ℕ) → a < 2 ^ u → a * 2 / 2 ^ u % 2 ≢ 1 → a * 2 ≡ remainder u f (a * 2)
  unfolding xtime
  times_clear a h n =
      let d : a * 2 / 2 ^ u % 2 < 2 = digit_lt (a * 2 / 2 ^ u) in
      let z : a * 2 / 2 ^ u % 2 ≡ 0 = omega arith in
      sym (double_is a h ∙ ap (λ (t : ℕ). a * 2 ⊕ sel t f) z ∙ ⊕-zero-r (a * 2))

  pub times_lt : {x : ℕ} (a : ℕ) → x ≡ remainder u f a → x < 2 ^ u
  unfolding rem
  times_lt a e = subst (λ (y : ℕ). y < 2 ^ u) (sym e) (rem_lt a)

  pub count_more : (p x y : ℕ) → x ≡ remainder u f (2 ^ p) → y ≡ remainder u f (x * 2) → y ≡ remainder u f (2 ^ (p + 1))
  unfolding rem
  count_more p x y e q =
      q ∙ double_is x (times_lt (2 ^ p) e) ∙ ap (xtime u f) e ∙ sym (residue_s p)
      ∙ ap (λ (i : ℕ). rem (2 ^ i)) (sym (add-one p))

  pub count_on : (p x : ℕ) → x ≡ remainder u f (2 ^ p) → p ≤ period f → x ≢ 1 → p < period f
  count_on p x e h k = go (dec_lt p (period f))
    where
      go : Dec (p < period f) → p < period f
      go (yes l) = l
      go (no l) =
          let q : p ≡ period f = omega arith in absurd (k (e ∙ ap (λ (i : ℕ). remainder u f (2 ^ i)) q ∙ period_one))

  pub count_end : (p x : ℕ) → x ≡ remainder u f (2 ^ p) → 0 < p → p ≤ period f → x ≡ 1 → p ≡ period f
  count_end p x e h l k = go (dec_lt p (period f))
    where
      go : Dec (p < period f) → p ≡ period f
      go (yes n) = absurd (period_least p h n (sym e ∙ k))
      go (no n) = omega arith

pub period_pos : (f : ℕ) → 0 < period f
unfolding period
period_pos f = omega arith
