-- Masks by their places: place i holds the coefficient of x^i.
--
--   coefficient_z, coefficient_s      the lowest place, and the others by the half
--   coefficient_above, coefficient_zero      places past the top, and those of the mask 0
--   same_places      masks below 2^n are equal when their first n places are
--   one_of           a coefficient that is not 0 is 1; same_bit: two are equal if both are 1 in the same case
--   flag d           1 where the decided property holds, else 0: flag_lt
--   gather n d       the mask with d i in place i, for i below n: gather_at, gather_lt
--   count n e        the number of ones in the first n places: count_z, count_s
--   count_add        of a sum, at most those of both
use mathlib.Core.Path.{◌≡◌, sym, ap, ◌∙◌}
use mathlib.Core.Logic.{◌≢◌, ◌⊎◌, inl, inr, ◌↔◌}
use Prim.Native.Nat.{ℕ, zero, suc, ◌+◌, ◌*◌, ◌/◌, ◌%◌, ◌^◌, ◌≤◌, ◌<◌}
use native.Mathlib.Nat.{div-one, zero-div, div-eq_of_lt, lt_of_lt_of_le}
use native.Mathlib.Numerals.{one-add}
use native.Mathlib.Decide.{ℕ_discrete}
use native.Mathlib.Omega.{arith}
use lib.Pow.{shr-shr, pow_mono}
use Rattle.algebra.proofs.Poly.{le_or_lt}
use Rattle.field.specs.Search.{total}
use Rattle.field.proofs.Search.{total_z, total_s}
use Rattle.field.specs.Mask.{◌⊕◌, coefficient}
use Rattle.field.proofs.Xor.{digit, digit_lt, ⊕-zero-l, ⊕-zero-r, ⊕-self, bit_⊕, bit_ext}

pub coefficient_z : (a : ℕ) → coefficient 0 a ≡ a % 2
coefficient_z a = ap (λ (x : ℕ). x % 2) (div-one a)

pub coefficient_s : (i a : ℕ) → coefficient (suc i) a ≡ coefficient i (a / 2)
coefficient_s i a = ap (λ (x : ℕ). x % 2) (sym (shr-shr a 1 i ∙ ap (λ (k : ℕ). a / 2 ^ k) (one-add i)))

pub coefficient_above : {n a : ℕ} → a < 2 ^ n → (i : ℕ) → n ≤ i → coefficient i a ≡ 0
coefficient_above h i l = ap (λ (x : ℕ). x % 2) (div-eq_of_lt (lt_of_lt_of_le h (pow_mono l)))

pub coefficient_zero : (i : ℕ) → coefficient i 0 ≡ 0
coefficient_zero i = ap (λ (x : ℕ). x % 2) (zero-div (2 ^ i))

pub same_places : {n a b : ℕ} → a < 2 ^ n → b < 2 ^ n → ((i : ℕ) → i < n → coefficient i a ≡ coefficient i b) → a ≡ b
same_places {n} {a} {b} ha hb e = bit_ext (λ i. go i (le_or_lt n i))
  where
    go : (i : ℕ) → (n ≤ i) ⊎ (i < n) → coefficient i a ≡ coefficient i b
    go i (inl l) = coefficient_above ha i l ∙ sym (coefficient_above hb i l)
    go i (inr l) = e i l

pub same_bit : {P : Type 0} (i a b : ℕ) → P ↔ (coefficient i a ≡ 1) → P ↔ (coefficient i b ≡ 1)
    → coefficient i a ≡ coefficient i b
same_bit i a b p q =
    elim (ℕ_discrete (coefficient i a) 1) [
      | yes x ↦ x ∙ sym (q.0 (p.1 x))
      | no x ↦
          (let k : coefficient i b ≢ 1 = λ y. x (p.0 (q.1 y)) in
          let l : coefficient i a < 2 = digit_lt (a / 2 ^ i) in
          let m : coefficient i b < 2 = digit_lt (b / 2 ^ i) in
          omega arith)
    ]

pub one_of : (i a : ℕ) → coefficient i a ≢ 0 → coefficient i a ≡ 1
one_of i a h = let l : coefficient i a < 2 = digit_lt (a / 2 ^ i) in omega arith

-- ---- a mask from its coefficients
unfoldable pub flag : {P : Type 0} → Dec P → ℕ
flag (yes p) = 1
flag (no p) = 0

pub flag_lt : {P : Type 0} (d : Dec P) → flag d < 2
unfolding flag
flag_lt (yes p) = omega arith
flag_lt (no p) = omega arith

unfoldable pub gather : ℕ → (ℕ → ℕ) → ℕ
gather zero d = 0
gather (suc n) d = gather n (λ i. d (suc i)) * 2 + d 0

pub gather_at : (n : ℕ) (d : ℕ → ℕ) → ((i : ℕ) → d i < 2) → (i : ℕ) → i < n → coefficient i (gather n d) ≡ d i
unfolding gather
gather_at zero d h i l = absurd (omega arith)
gather_at (suc n) d h zero l = coefficient_z _ ∙ (let x : d 0 < 2 = h 0 in omega arith)
gather_at (suc n) d h (suc i) l =
    let x : d 0 < 2 = h 0 in
    let e : (gather n (λ i. d (suc i)) * 2 + d 0) / 2 ≡ gather n (λ i. d (suc i)) = omega arith in
    coefficient_s i _ ∙ ap (coefficient i) e ∙ gather_at n (λ i. d (suc i)) (λ i. h (suc i)) i (omega arith)

pub gather_lt : (n : ℕ) (d : ℕ → ℕ) → ((i : ℕ) → d i < 2) → gather n d < 2 ^ n
unfolding gather
gather_lt zero d h = omega arith
gather_lt (suc n) d h =
    let x : d 0 < 2 = h 0 in
    let y : gather n (λ i. d (suc i)) < 2 ^ n = gather_lt n (λ i. d (suc i)) (λ i. h (suc i)) in
    omega arith

-- ---- weight
unfoldable pub count : ℕ → ℕ → ℕ
count n e = total n (λ i. coefficient i e)

pub count_z : (e : ℕ) → count 0 e ≡ 0
unfolding count
count_z e = total_z (λ i. coefficient i e)

pub count_s : (n e : ℕ) → count (suc n) e ≡ count n e + coefficient n e
unfolding count
count_s n e = total_s n (λ i. coefficient i e)

pub count_add : (n a b : ℕ) → count n (a ⊕ b) ≤ count n a + count n b
count_add zero a b = rw (count_z (a ⊕ b)) (omega arith)
count_add (suc n) a b =
    let ih : count n (a ⊕ b) ≤ count n a + count n b = count_add n a b in
    let d : coefficient n (a ⊕ b) ≤ coefficient n a + coefficient n b =
    rw (bit_⊕ n a b) (at (coefficient n a) (digit_lt (a / 2 ^ n)) (coefficient n b) (digit_lt (b / 2 ^ n))) in
    simp count_s (omega arith)
  where
    at : (x : ℕ) → x < 2 → (y : ℕ) → y < 2 → x ⊕ y ≤ x + y
    at =
        digit (λ x. (y : ℕ) → y < 2 → x ⊕ y ≤ x + y) (λ y h. omega (arith, ⊕-zero-l y))
        (digit (λ y. 1 ⊕ y ≤ 1 + y) (omega (arith, ⊕-zero-r 1)) (omega (arith, ⊕-self 1)))
