-- Bits into packed polynomials, the highest first: products by Horner's rule, and the register of a division.
--
--   ones_digit, ones_sum, bit_lt      0 or 1 spread over a number, and back
--   bits_more, sum_low        one bit more of a number's bits taken so far
--   low_sum, split_mask       the lowest places of a sum, and a mask in two parts
--   times_start, times_more      a product, coefficient by coefficient
--   raised_sum, raised_low    masks times a power of x
--   stepped                   the remainder of x p + bit x^m by g, of degree m
--   no_degree                 by a mask of degree 0
--   top_of, top_is, top_lt     the highest place of a slice
--   step_is                   one bit into a register
--   fed_step                      so as the code feeds it
use mathlib.Core.Path.{◌≡◌, refl, sym, ap, ap₂, ◌∙◌, subst}
use mathlib.Core.List.{List}
use Prim.Native.Nat.{ℕ, suc, ◌+◌, ◌-◌, ◌*◌, ◌/◌, ◌%◌, ◌^◌, ◌≤◌, ◌<◌}
use native.Mathlib.Nat.{mul_assoc, mul_comm, mod-eq_of_lt, mod-lt, one-mul, zero-mul, div-eq_of_lt, div-add-mod', add-zero, add-mul-mod_self_right, mul-mod_left}
use native.Mathlib.Decide.{ℕ_discrete}
use native.Mathlib.Omega.{arith}
use lib.Bits.{bit_xor, bit_and, and_mask, xor_mod}
use lib.ListN.{length, get_or}
use lib.Pow.{pow_pos, split, high, shl-shr, shr-shr, mod-pow-add}
use Rattle.field.specs.Mask.{◌⊕◌, coefficient, clmul, remainder}
use Rattle.field.proofs.Xor.{digit, digit_lt, ⊕-zero-l, ⊕-zero-r, ⊕-norm, ⊕-lt}
use Rattle.field.proofs.MaskProduct.{clmul_add_l, clmul_dbl_l, clmul_zero_l, clmul_zero_r, clmul_one_l, clmul_one_r, clmul_pow}
use Rattle.field.proofs.Remainder.{remainder_unique}
use Rattle.cyclic.proofs.Division.{divide}
use Rattle.binary.specs.Packed.{joined, packed, places_in, TopHolds, Feedback, BitTaken}
use Rattle.binary.proofs.Packing.{Words, joined_s, joined_lt, block_is}

-- ---- a digit spread over a number
pub ones_digit : (b : ℕ) → b < 2 → b * 18446744073709551615 % 2 ≡ b
ones_digit = digit (λ b. b * 18446744073709551615 % 2 ≡ b) refl refl

pub ones_sum : (a : ℕ) → a < 2 → (b : ℕ) → b < 2 → bit_xor (a * 18446744073709551615) (b * 18446744073709551615) ≡ (a ⊕ b) * 18446744073709551615
unfolding ◌⊕◌
ones_sum =
    digit (λ a. (b : ℕ) → b < 2 → bit_xor (a * 18446744073709551615) (b * 18446744073709551615) ≡ (a ⊕ b) * 18446744073709551615)
    (digit (λ b. bit_xor (0 * 18446744073709551615) (b * 18446744073709551615) ≡ (0 ⊕ b) * 18446744073709551615) refl refl)
    (digit (λ b. bit_xor (1 * 18446744073709551615) (b * 18446744073709551615) ≡ (1 ⊕ b) * 18446744073709551615) refl refl)

pub bit_lt : (a : ℕ) → bit_and a 1 < 2
bit_lt a = subst (λ (x : ℕ). x < 2) (sym (and_mask a 1)) (digit_lt a)

-- ---- the bits of a taken so far: its quotient by 2^i
pub bits_more : (a i : ℕ) → 0 < i → a / 2 ^ i * 2 + coefficient (i - 1) a ≡ a / 2 ^ (i - 1)
bits_more a i h =
    let e : i ≡ i - 1 + 1 = omega arith in
    ap (λ (x : ℕ). x * 2 + coefficient (i - 1) a) (ap (λ (k : ℕ). a / 2 ^ k) e ∙ sym (shr-shr a (i - 1) 1))
    ∙ div-add-mod' (a / 2 ^ (i - 1)) 2

pub sum_low : (a b : ℕ) → b < 2 → a * 2 + b ≡ a * 2 ⊕ b
sum_low a b h = block_is a 1 b h

-- ---- a product
pub low_sum : (k a b : ℕ) → (a ⊕ b) % 2 ^ k ≡ (a % 2 ^ k) ⊕ (b % 2 ^ k)
unfolding ◌⊕◌
low_sum k a b = xor_mod a b k

by_digit : (p b : ℕ) → b < 2 → b * p ≡ clmul b p
by_digit p = digit (λ b. b * p ≡ clmul b p) (zero-mul p ∙ sym (clmul_zero_l p)) (one-mul p ∙ sym (clmul_one_l p))

digit_times_lt : (N p : ℕ) → p < 2 ^ N → (b : ℕ) → b < 2 → b * p < 2 ^ N
digit_times_lt N p h =
    digit (λ b. b * p < 2 ^ N) (subst (λ (x : ℕ). x < 2 ^ N) (sym (zero-mul p)) (pow_pos N))
    (subst (λ (x : ℕ). x < 2 ^ N) (sym (one-mul p)) h)

module _ (f p N : ℕ) (h : p < 2 ^ N) where
  pub times_start : (d x : ℕ) → f < 2 ^ d → x ≡ 0 → x ≡ clmul (f / 2 ^ d) p % 2 ^ N
  times_start d x l e =
      e ∙ sym (ap (λ (y : ℕ). clmul y p % 2 ^ N) (div-eq_of_lt l) ∙ ap (λ (y : ℕ). y % 2 ^ N) (clmul_zero_l p) ∙ mod-eq_of_lt (pow_pos N))

  twice_low : (x : ℕ) → x % 2 ^ N * 2 % 2 ^ N ≡ x * 2 % 2 ^ N
  twice_low x =
      let q : ℕ = x / 2 ^ N in
      let r : ℕ = x % 2 ^ N in
      let e : q * 2 ^ N + r ≡ x = split x N in
      let m : q * 2 * 2 ^ N ≡ q * 2 ^ N * 2 = mul_assoc q 2 (2 ^ N) ∙ ap (λ (y : ℕ). q * y) (mul_comm 2 (2 ^ N)) ∙ sym (mul_assoc q (2 ^ N) 2) in
      let f : r * 2 + q * 2 * 2 ^ N ≡ x * 2 = omega arith in
      sym (ap (λ (y : ℕ). y % 2 ^ N) (sym f) ∙ add-mul-mod_self_right (r * 2) (q * 2) (2 ^ N))

  pub times_more : (i b x y : ℕ) → 0 < i → b ≡ coefficient (i - 1) f → x ≡ clmul (f / 2 ^ i) p % 2 ^ N → y ≡ (x * 2 % 2 ^ N) ⊕ b * p
      → y ≡ clmul (f / 2 ^ (i - 1)) p % 2 ^ N
  times_more i b x y l e t s =
      let two : b < 2 = subst (λ (x : ℕ). x < 2) (sym e) (digit_lt (f / 2 ^ (i - 1))) in
      let q : ℕ = f / 2 ^ i in
      s ∙ ap₂ ◌⊕◌ (ap (λ (x : ℕ). x * 2 % 2 ^ N) t ∙ twice_low (clmul q p) ∙ ap (λ (x : ℕ). x % 2 ^ N) (sym (clmul_dbl_l q p)))
      (sym (mod-eq_of_lt (digit_times_lt N p h b two)) ∙ ap (λ (x : ℕ). x % 2 ^ N) (by_digit p b two))
      ∙ sym (low_sum N (clmul (q * 2) p) (clmul b p)) ∙ ap (λ (x : ℕ). x % 2 ^ N) (sym (clmul_add_l p (q * 2) b))
      ∙ ap (λ (x : ℕ). clmul x p % 2 ^ N) (sym (sum_low q b two) ∙ ap (λ (x : ℕ). q * 2 + x) e ∙ bits_more f i l)

-- ---- masks times a power of x
pub raised_sum : (a b k : ℕ) → (a ⊕ b) * 2 ^ k ≡ a * 2 ^ k ⊕ b * 2 ^ k
raised_sum a b k = sym (clmul_pow (a ⊕ b) k) ∙ clmul_add_l (2 ^ k) a b ∙ ap₂ ◌⊕◌ (clmul_pow a k) (clmul_pow b k)

-- what stays below x^(m + k)
pub raised_low : (x m k : ℕ) → x * 2 ^ k % 2 ^ (m + k) ≡ x % 2 ^ m * 2 ^ k
raised_low x m k =
    mod-pow-add (x * 2 ^ k) m k ∙ ap₂ (λ (y z : ℕ). y % 2 ^ m * 2 ^ k + z) (shl-shr x k) (mul-mod_left x (2 ^ k)) ∙ add-zero (x % 2 ^ m * 2 ^ k)

-- ---- the remainder of x p + bit x^m
pub split_mask : (x m : ℕ) → x ≡ x / 2 ^ m * 2 ^ m ⊕ x % 2 ^ m
split_mask x m = sym (split x m) ∙ block_is (x / 2 ^ m) m (x % 2 ^ m) (mod-lt x (pow_pos m))

module _ (m g : ℕ) (top : g / 2 ^ m ≡ 1) where
  abbrev low : ℕ
  low = g % 2 ^ m

  g_is : g ≡ 2 ^ m ⊕ low
  g_is = split_mask g m ∙ ap (λ (x : ℕ). x * 2 ^ m ⊕ low) top ∙ ap (λ (x : ℕ). x ⊕ low) (one-mul (2 ^ m))

  -- by the mask 1 nothing is left
  pub no_degree : (x : ℕ) → m ≡ 0 → remainder m g x ≡ 0
  no_degree x z =
      let l : remainder m g x < 2 ^ m = (divide m g top x).small in
      let q : 2 ^ m ≡ 1 = ap (λ (k : ℕ). 2 ^ k) z in
      omega arith

  pub stepped : (p bit by : ℕ) → 1 ≤ m → p < 2 ^ m → bit < 2 → by ≡ p * 2 / 2 ^ m ⊕ bit → by < 2
      → (p * 2 % 2 ^ m) ⊕ by * low ≡ remainder m g (p * 2 ⊕ bit * 2 ^ m)
  stepped p bit by pos h two e b =
      remainder_unique m g pos top (p * 2 ⊕ bit * 2 ^ m) by ((p * 2 % 2 ^ m) ⊕ by * low)
      (⊕-lt m (p * 2 % 2 ^ m) (by * low) (mod-lt (p * 2) (pow_pos m)) (digit_times_lt m low (mod-lt g (pow_pos m)) by b))
      (ap (λ (x : ℕ). x ⊕ bit * 2 ^ m) (split_mask (p * 2) m)
      ∙ sort (p * 2 / 2 ^ m * 2 ^ m) (p * 2 % 2 ^ m) (bit * 2 ^ m)
      ∙ ap (λ (x : ℕ). x ⊕ (p * 2 % 2 ^ m)) (sym (raised_sum (p * 2 / 2 ^ m) bit m) ∙ ap (λ (x : ℕ). x * 2 ^ m) (sym e))
      ∙ close by b)
    where
      sort : (x y z : ℕ) → (x ⊕ y) ⊕ z ≡ (x ⊕ z) ⊕ y
      sort x y z = simp ⊕-norm

      cancel : (x y z : ℕ) → x ⊕ z ≡ (x ⊕ y) ⊕ (z ⊕ y)
      cancel x y z = simp ⊕-norm

      close : (by : ℕ) → by < 2 → by * 2 ^ m ⊕ (p * 2 % 2 ^ m) ≡ clmul g by ⊕ ((p * 2 % 2 ^ m) ⊕ by * low)
      close =
          digit (λ by. by * 2 ^ m ⊕ (p * 2 % 2 ^ m) ≡ clmul g by ⊕ ((p * 2 % 2 ^ m) ⊕ by * low))
          (ap₂ (λ (x y : ℕ). x ⊕ y) (zero-mul (2 ^ m) ∙ sym (clmul_zero_r g))
          (sym (⊕-zero-r (p * 2 % 2 ^ m)) ∙ ap (λ (x : ℕ). (p * 2 % 2 ^ m) ⊕ x) (sym (zero-mul low))))
          (ap (λ (x : ℕ). x ⊕ (p * 2 % 2 ^ m)) (one-mul (2 ^ m)) ∙ cancel (2 ^ m) low (p * 2 % 2 ^ m)
          ∙ ap₂ (λ (x y : ℕ). x ⊕ ((p * 2 % 2 ^ m) ⊕ y)) (sym g_is ∙ sym (clmul_one_r g)) (sym (one-mul low)))

-- ---- the highest place
pub top_is : (l : List ℕ) → Words l → 1 ≤ length l → get_or l (length l - 1) 0 / 2 ^ 63 ≡ packed l / 2 ^ (places_in l - 1)
unfolding packed
top_is l h b =
    let n : ℕ = length l - 1 in
    let e : length l ≡ suc (length l - 1) = omega arith in
    let q : 64 * length l - 1 ≡ 64 * (length l - 1) + 63 = omega arith in
    sym (ap₂ (λ (k j : ℕ). joined k (λ i. get_or l i 0) / 2 ^ j) e q
    ∙ sym (shr-shr (joined (suc (length l - 1)) (λ i. get_or l i 0)) (64 * (length l - 1)) 63)
    ∙ ap (λ (x : ℕ). x / 2 ^ 63)
    (ap (λ (x : ℕ). x / 2 ^ (64 * (length l - 1))) (joined_s (length l - 1) (λ i. get_or l i 0))
    ∙ high (get_or l (length l - 1) 0) (64 * (length l - 1)) (joined_lt (length l - 1) (λ i. get_or l i 0) (λ i k. h i))))

-- ---- one bit into a register
module _ (f r r' : List ℕ) {m g p bit by : ℕ} (d : Feedback m g f) (t : TopHolds m p r) (lf : length r ≡ length f) (lr : length r' ≡ length r)
    (pos : 1 ≤ length r) (two : bit < 2) (fed : by ≡ packed r / 2 ^ (places_in r - 1) ⊕ bit) (b : by < 2)
    (is : packed r' ≡ (packed r * 2 % 2 ^ places_in f) ⊕ by * packed f) where
  k : ℕ
  k = places_in r - m

  all : places_in r ≡ m + k
  unfolding k
  all = omega (arith, t.room)

  -- what is fed back is the coefficient that comes up to x^m, and the bit
  by_is : 1 ≤ m → by ≡ p * 2 / 2 ^ m ⊕ bit
  unfolding k
  by_is h =
      let e : places_in r - 1 ≡ k + (m - 1) = omega (arith, t.room) in
      let q : m ≡ 1 + (m - 1) = omega arith in
      fed
      ∙ ap (λ (x : ℕ). x ⊕ bit)
      (ap₂ (λ (x y : ℕ). x / 2 ^ y) t.is e ∙ sym (shr-shr (p * 2 ^ k) k (m - 1)) ∙ ap (λ (x : ℕ). x / 2 ^ (m - 1)) (shl-shr p k)
      ∙ sym (ap (λ (y : ℕ). p * 2 / 2 ^ y) q ∙ sym (shr-shr (p * 2) 1 (m - 1)) ∙ ap (λ (x : ℕ). x / 2 ^ (m - 1)) (shl-shr p 1)))

  moved : packed r' ≡ ((p * 2 % 2 ^ m) ⊕ by * (g % 2 ^ m)) * 2 ^ k
  unfolding k
  moved =
      let same : places_in f ≡ m + k = ap (λ (x : ℕ). 64 * x) (sym lf) ∙ all in
      let fk : places_in f - m ≡ k = ap (λ (x : ℕ). 64 * x - m) (sym lf) in
      is
      ∙ ap₂ ◌⊕◌
      (ap₂ (λ (x y : ℕ). x * 2 % 2 ^ y) t.is same
      ∙ ap (λ (x : ℕ). x % 2 ^ (m + k)) (mul_assoc p (2 ^ k) 2 ∙ ap (λ (x : ℕ). p * x) (mul_comm (2 ^ k) 2) ∙ sym (mul_assoc p 2 (2 ^ k)))
      ∙ raised_low (p * 2) m k)
      (ap (λ (x : ℕ). by * x) (d.held.is ∙ ap (λ (x : ℕ). g % 2 ^ m * 2 ^ x) fk) ∙ sym (mul_assoc by (g % 2 ^ m) (2 ^ k)))
      ∙ sym (raised_sum (p * 2 % 2 ^ m) (by * (g % 2 ^ m)) k)

  rest : (p * 2 % 2 ^ m) ⊕ by * (g % 2 ^ m) ≡ remainder m g (p * 2 ⊕ bit * 2 ^ m)
  rest = go (ℕ_discrete m 0)
    where
      go : Dec (m ≡ 0) → (p * 2 % 2 ^ m) ⊕ by * (g % 2 ^ m) ≡ remainder m g (p * 2 ⊕ bit * 2 ^ m)
      go (yes z) =
          let q : 2 ^ m ≡ 1 = ap (λ (k : ℕ). 2 ^ k) z in
          let u : p * 2 % 2 ^ m < 2 ^ m = mod-lt (p * 2) (pow_pos m) in
          let v : g % 2 ^ m < 2 ^ m = mod-lt g (pow_pos m) in
          let x : p * 2 % 2 ^ m ≡ 0 = omega arith in
          let y : g % 2 ^ m ≡ 0 = omega arith in
          let w : by * 0 ≡ 0 = omega arith in
          ap₂ (λ (s t : ℕ). s ⊕ by * t) x y ∙ ap (λ (s : ℕ). 0 ⊕ s) w ∙ ⊕-zero-l 0 ∙ sym (no_degree m g d.top (p * 2 ⊕ bit * 2 ^ m) z)
      go (no z) = stepped m g d.top p bit by (omega arith) t.small two (by_is (omega arith)) b

  pub step_is : TopHolds m (remainder m g (p * 2 ⊕ bit * 2 ^ m)) r'
  unfolding k
  step_is = record {
    room = subst (λ (x : ℕ). m ≤ 64 * x) (sym lr) t.room;
    small = (divide m g d.top (p * 2 ⊕ bit * 2 ^ m)).small;
    is = moved ∙ ap (λ (x : ℕ). x * 2 ^ k) rest ∙ ap (λ (x : ℕ). remainder m g (p * 2 ⊕ bit * 2 ^ m) * 2 ^ (64 * x - m)) (sym lr);
  }

-- ---- as the code feeds it
abbrev pub top_of : List ℕ → ℕ
top_of l = get_or l (length l - 1) 0 / 2 ^ 63

pub top_lt : (l : List ℕ) (k : ℕ) → Words l → get_or l k 0 / 2 ^ 63 < 2
top_lt l k h = omega (arith, h k)

module _ (top bit : ℕ) (up : top < 2) (two : bit < 2) where
  abbrev fed : ℕ
  fed = bit_xor (top * 18446744073709551615) (bit * 18446744073709551615)

  by_lt : top ⊕ bit < 2
  by_lt = ⊕-lt 1 top bit up two

  fed_is : fed ≡ (top ⊕ bit) * 18446744073709551615
  fed_is = ones_sum top up bit two

  pub fed_step : (f r r' : List ℕ) → Words r → top ≡ top_of r → length r ≡ length f → length r' ≡ length r → 1 ≤ length r
      → packed r' ≡ (packed r * 2 % 2 ^ places_in f) ⊕ fed % 2 * packed f → BitTaken bit f r r'
  fed_step f r r' h e lf lr pos is = record {
    holds = λ d t. step_is f r r' d t lf lr pos two (ap (λ (x : ℕ). x ⊕ bit) (e ∙ top_is r h pos)) by_lt
        (is ∙ ap (λ (x : ℕ). (packed r * 2 % 2 ^ places_in f) ⊕ x * packed f) (ap (λ (x : ℕ). x % 2) fed_is ∙ ones_digit (top ⊕ bit) by_lt));
  }
