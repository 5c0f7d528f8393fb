-- Numbers by their binary digits: masks of single digits, and sums of different powers of two.
--
--   coefficient_or, coefficient_and      of a union and a meet
--   digit_low                of what is left modulo a power of two
--   shift_at, shift_low      the coefficients of a mask times x^at
--   pow_same, pow_other, digit_same, digit_other      the digits of a power of two, and of a digit times it
--   below_pow                a number whose digits are 0 from m on is below 2^m
--   put_same, put_other      a byte with digit p cleared and then set to x
--   sum_at, sum_other, sum_lt      a sum of d i 2^(s i) for i below n, where s takes no value twice, has d i as its digit s i
use mathlib.Core.Path.{◌≡◌, refl, sym, ap, ap₂, ◌∙◌}
use mathlib.Core.Logic.{◌≢◌}
use mathlib.Core.Bool.{Bool}
use Prim.Native.Nat.{ℕ, zero, suc, ◌+◌, ◌-◌, ◌*◌, ◌/◌, ◌%◌, ◌^◌, ◌≤◌, ◌<◌, min, max}
use native.Mathlib.Nat.{mul_assoc, div-eq_of_lt, div_self, pow-suc, mul-mod_left, one-mul, zero-mul, add-zero, div-lt_iff_lt-mul}
use native.Mathlib.Decide.{ℕ_discrete, dec_lt}
use native.Mathlib.Omega.{arith}
use lib.Dec.{eqb}
use lib.Bits.{bit_or, bit_and, or_step, and_step, or_shr, and_shr, or_disjoint}
use lib.Pow.{pow_pos, pow-lt, pow-add, shl-shr, shr-shr, field, mod-mod-pow}
use borrow.Author.Tests.{eqb-true}
use Rattle.field.specs.Search.{up_to, every, total}
use Rattle.field.specs.Mask.{coefficient}
use Rattle.field.proofs.Search.{every_at, total_z, total_s}
use Rattle.field.proofs.Xor.{digit, bit_ext}
use Rattle.cyclic.proofs.Places.{coefficient_zero}

pub coefficient_or : (i a b : ℕ) → coefficient i (bit_or a b) ≡ max (coefficient i a) (coefficient i b)
coefficient_or i a b =
    let x = a / 2 ^ i in
    let y = b / 2 ^ i in
    ap (λ (n : ℕ). n % 2) (or_shr a b i ∙ or_step x y) ∙ omega arith

pub coefficient_and : (i a b : ℕ) → coefficient i (bit_and a b) ≡ min (coefficient i a) (coefficient i b)
coefficient_and i a b =
    let x = a / 2 ^ i in
    let y = b / 2 ^ i in
    ap (λ (n : ℕ). n % 2) (and_shr a b i ∙ and_step x y) ∙ omega arith

-- a digit of what is left modulo a power of two
pub digit_low : (i m a : ℕ) → i < m → coefficient i (a % 2 ^ m) ≡ coefficient i a
digit_low i m a h =
    let e : m ≡ m - i - 1 + 1 + i = omega arith in
    ap (λ (k : ℕ). a % 2 ^ k / 2 ^ i % 2) e ∙ ap (λ (x : ℕ). x % 2) (field a (m - i - 1 + 1) i) ∙ mod-mod-pow (a / 2 ^ i) (m - i - 1) 1

-- ---- a mask times x^at
pub shift_at : (a at j : ℕ) → coefficient (at + j) (a * 2 ^ at) ≡ coefficient j a
shift_at a at j = ap (λ (x : ℕ). x % 2) (sym (shr-shr (a * 2 ^ at) at j) ∙ ap (λ (x : ℕ). x / 2 ^ j) (shl-shr a at))

pub shift_low : (a at i : ℕ) → i < at → coefficient i (a * 2 ^ at) ≡ 0
shift_low a at i h =
    let e : at ≡ suc (at - i - 1) + i = omega arith in
    let q : ℕ = 2 ^ (at - i - 1) in
    ap (λ (k : ℕ). a * 2 ^ k / 2 ^ i % 2) e
    ∙ ap (λ (x : ℕ). a * x / 2 ^ i % 2) (pow-add 2 (suc (at - i - 1)) i ∙ ap (λ (x : ℕ). x * 2 ^ i) (pow-suc 2 (at - i - 1)))
    ∙ ap (λ (x : ℕ). x / 2 ^ i % 2) (sym (mul_assoc a (q * 2) (2 ^ i)) ∙ ap (λ (x : ℕ). x * 2 ^ i) (sym (mul_assoc a q 2)))
    ∙ ap (λ (x : ℕ). x % 2) (shl-shr (a * q * 2) i) ∙ mul-mod_left (a * q) 2

-- ---- a power of two
pub pow_same : (p : ℕ) → coefficient p (2 ^ p) ≡ 1
pow_same p = ap (λ (n : ℕ). n % 2) (div_self (pow_pos p))

pow_above : (p q : ℕ) → p < q → coefficient q (2 ^ p) ≡ 0
pow_above p q h = ap (λ (n : ℕ). n % 2) (div-eq_of_lt (pow-lt h))

pow_below : (p q : ℕ) → q < p → coefficient q (2 ^ p) ≡ 0
pow_below p q h =
    let e : p ≡ suc (p - q - 1) + q = omega arith in
    ap (λ (n : ℕ). 2 ^ n / 2 ^ q % 2) e
    ∙ ap (λ (n : ℕ). n / 2 ^ q % 2) (pow-add 2 (suc (p - q - 1)) q)
    ∙ ap (λ (n : ℕ). n % 2) (shl-shr (2 ^ suc (p - q - 1)) q ∙ pow-suc 2 (p - q - 1))
    ∙ mul-mod_left (2 ^ (p - q - 1)) 2

pub pow_other : (p q : ℕ) → q ≢ p → coefficient q (2 ^ p) ≡ 0
pow_other p q n = elim (dec_lt p q) [ yes h ↦ pow_above p q h | no h ↦ pow_below p q (omega arith) ]

pub below_pow : (m a : ℕ) → ((i : ℕ) → m ≤ i → coefficient i a ≡ 0) → a < 2 ^ m
below_pow m a h =
    let z : a / 2 ^ m ≡ 0 =
    bit_ext (λ i. ap (λ (x : ℕ). x % 2) (shr-shr a m i) ∙ h (m + i) (omega arith) ∙ sym (coefficient_zero i)) in
    let l : a / 2 ^ m < 1 = omega arith in
    rw one-mul at ((div-lt_iff_lt-mul (pow_pos m)).0 l)

-- ---- a digit of a byte set
cleared : ℕ → ℕ → Bool
cleared p q = eqb (coefficient q (255 - 2 ^ p)) (1 - coefficient q (2 ^ p))

clear_mask : (p q : ℕ) → p < 8 → q < 8 → coefficient q (255 - 2 ^ p) ≡ 1 - coefficient q (2 ^ p)
unfolding cleared every up_to
clear_mask p q hp hq =
    eqb-true (coefficient q (255 - 2 ^ p)) (1 - coefficient q (2 ^ p))
    (every_at (cleared p) 8 (every_at (λ p. every (cleared p) (up_to 8)) 8 refl p hp) q hq)

pub digit_same : (p x : ℕ) → x < 2 → coefficient p (x * 2 ^ p) ≡ x
digit_same p =
    digit (λ x. coefficient p (x * 2 ^ p) ≡ x) (ap (coefficient p) (zero-mul (2 ^ p)) ∙ coefficient_zero p)
    (ap (coefficient p) (one-mul (2 ^ p)) ∙ pow_same p)

pub digit_other : (p q x : ℕ) → q ≢ p → x < 2 → coefficient q (x * 2 ^ p) ≡ 0
digit_other p q x n =
    digit (λ x. coefficient q (x * 2 ^ p) ≡ 0) (ap (coefficient q) (zero-mul (2 ^ p)) ∙ coefficient_zero q)
    (ap (coefficient q) (one-mul (2 ^ p)) ∙ pow_other p q n) x

module _ (b p x : ℕ) (hp : p < 8) (hx : x < 2) where
  at : (q : ℕ) → q < 8 → coefficient q (bit_or (bit_and b (255 - 2 ^ p)) (x * 2 ^ p))
      ≡ max (min (coefficient q b) (1 - coefficient q (2 ^ p))) (coefficient q (x * 2 ^ p))
  at q hq =
      coefficient_or q (bit_and b (255 - 2 ^ p)) (x * 2 ^ p)
      ∙ ap (λ (y : ℕ). max y (coefficient q (x * 2 ^ p)))
      (coefficient_and q b (255 - 2 ^ p) ∙ ap (min (coefficient q b)) (clear_mask p q hp hq))

  pub put_same : coefficient p (bit_or (bit_and b (255 - 2 ^ p)) (x * 2 ^ p)) ≡ x
  put_same =
      at p hp
      ∙ ap₂ (λ (y z : ℕ). max (min (coefficient p b) (1 - y)) z) (pow_same p) (digit_same p x hx)
      ∙ omega arith

  pub put_other : (q : ℕ) → q < 8 → q ≢ p → coefficient q (bit_or (bit_and b (255 - 2 ^ p)) (x * 2 ^ p)) ≡ coefficient q b
  put_other q hq n =
      at q hq
      ∙ ap₂ (λ (y z : ℕ). max (min (coefficient q b) (1 - y)) z) (pow_other p q n) (digit_other p q x n hx)
      ∙ omega arith

-- ---- a digit of 0 added
module _ (a p : ℕ) (h : coefficient p a ≡ 0) where
  apart : bit_and a (2 ^ p) ≡ 0
  apart = bit_ext (λ i. coefficient_and i a (2 ^ p) ∙ go i (ℕ_discrete i p) ∙ sym (coefficient_zero i))
    where
      go : (i : ℕ) → Dec (i ≡ p) → min (coefficient i a) (coefficient i (2 ^ p)) ≡ 0
      go i (yes e) = let z : coefficient i a ≡ 0 = ap (λ (k : ℕ). coefficient k a) e ∙ h in omega arith
      go i (no e) = let z : coefficient i (2 ^ p) ≡ 0 = pow_other p i e in omega arith

  sum_or : a + 2 ^ p ≡ bit_or a (2 ^ p)
  sum_or = sym (or_disjoint a (2 ^ p) apart)

  add_same : (x : ℕ) → x < 2 → coefficient p (a + x * 2 ^ p) ≡ x
  add_same =
      digit (λ x. coefficient p (a + x * 2 ^ p) ≡ x)
      (ap (coefficient p) (ap (λ (y : ℕ). a + y) (zero-mul (2 ^ p)) ∙ add-zero a) ∙ h)
      (ap (coefficient p) (ap (λ (y : ℕ). a + y) (one-mul (2 ^ p)) ∙ sum_or)
      ∙ coefficient_or p a (2 ^ p) ∙ ap₂ max h (pow_same p))

  add_other : (q : ℕ) → q ≢ p → (x : ℕ) → x < 2 → coefficient q (a + x * 2 ^ p) ≡ coefficient q a
  add_other q n =
      digit (λ x. coefficient q (a + x * 2 ^ p) ≡ coefficient q a)
      (ap (coefficient q) (ap (λ (y : ℕ). a + y) (zero-mul (2 ^ p)) ∙ add-zero a))
      (ap (coefficient q) (ap (λ (y : ℕ). a + y) (one-mul (2 ^ p)) ∙ sum_or)
      ∙ coefficient_or q a (2 ^ p) ∙ ap (max (coefficient q a)) (pow_other p q n) ∙ omega arith)

-- ---- sums of different powers of two
module _ (s d : ℕ → ℕ) (h : (i : ℕ) → d i < 2) where
  abbrev term : ℕ → ℕ
  term i = d i * 2 ^ s i

  abbrev Apart : ℕ → Type 0
  Apart n = (i j : ℕ) → i < n → j < n → s i ≡ s j → i ≡ j

  fewer : (n : ℕ) → Apart (suc n) → Apart n
  fewer n a i j hi hj = a i j (omega arith) (omega arith)

  last : (n : ℕ) → Apart (suc n) → (i : ℕ) → i < n → s n ≢ s i
  last n a i l e = let q : n ≡ i = a n i (omega arith) (omega arith) e in omega arith

  pub sum_other : (n : ℕ) → Apart n → (q : ℕ) → ((i : ℕ) → i < n → q ≢ s i) → coefficient q (total n term) ≡ 0
  sum_other zero a q f = ap (coefficient q) (total_z term) ∙ coefficient_zero q
  sum_other (suc n) a q f =
      ap (coefficient q) (total_s n term)
      ∙ add_other (total n term) (s n) (sum_other n (fewer n a) (s n) (last n a)) q (f n (omega arith)) (d n) (h n)
      ∙ sum_other n (fewer n a) q (λ i l. f i (omega arith))

  pub sum_at : (n : ℕ) → Apart n → (i : ℕ) → i < n → coefficient (s i) (total n term) ≡ d i
  sum_at zero a i l = absurd (omega arith)
  sum_at (suc n) a i l = ap (coefficient (s i)) (total_s n term) ∙ go (ℕ_discrete i n) (λ m. sum_at n (fewer n a) i m)
    where
      clear : coefficient (s n) (total n term) ≡ 0
      clear = sum_other n (fewer n a) (s n) (last n a)

      go : Dec (i ≡ n) → (i < n → coefficient (s i) (total n term) ≡ d i) → coefficient (s i) (total n term + term n) ≡ d i
      go (yes e) ih =
          ap (λ (k : ℕ). coefficient (s k) (total n term + term n)) e
          ∙ add_same (total n term) (s n) clear (d n) (h n) ∙ sym (ap d e)
      go (no e) ih =
          add_other (total n term) (s n) clear (s i) (λ q. e (a i n l (omega arith) q)) (d n) (h n) ∙ ih (omega arith)

  pub sum_lt : (n m : ℕ) → Apart n → ((i : ℕ) → i < n → s i < m) → total n term < 2 ^ m
  sum_lt n m a f =
      below_pow m (total n term)
      (λ q l. sum_other n a q (λ i k e. let x : s i < m = f i k in omega arith))
