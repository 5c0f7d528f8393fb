-- Rows of 8 places in one number: reading them, putting one more, and striking all of them at once.
--
--   row_first, row_next       row 0, and the rows of w / 256
--   row_kept, row_put, rows_lt       a row put above i others
--   ones_row                  the coefficients of x^t of all rows, by one shift and one mask
--   rows_struck                the strike of the code
use mathlib.Core.Path.{◌≡◌, refl, sym, ap, ap₂, ◌∙◌, subst}
use Prim.Native.Nat.{ℕ, zero, suc, ◌+◌, ◌*◌, ◌/◌, ◌%◌, ◌^◌, ◌≤◌, ◌<◌}
use native.Mathlib.Nat.{div-one, mul_assoc, mul-le-mul_right}
use native.Mathlib.Omega.{arith}
use lib.Bits.{bit_and, bit_xor, and_shr, and_mod, and_mask}
use lib.Dec.{eqb}
use lib.Pow.{pow-add, shr-shr, mod-mod-pow}
use borrow.Author.Tests.{eqb-true}
use Rattle.field.specs.Search.{up_to, every}
use Rattle.field.specs.Mask.{◌⊕◌, coefficient}
use Rattle.field.proofs.Search.{every_at}
use Rattle.field.proofs.Xor.{digit, digit_lt, ⊕-shr}
use Rattle.binary.specs.Independence.{row_at, RowsStruck}
use Rattle.binary.proofs.Digits.{digit_low}
use Rattle.binary.proofs.Feeding.{low_sum}

-- ---- one row
pub row_first : (w : ℕ) → row_at w 0 ≡ w % 2 ^ 8
unfolding row_at
row_first w = ap (λ (x : ℕ). x % 2 ^ 8) (div-one w)

pub row_next : (w i : ℕ) → row_at w (suc i) ≡ row_at (w / 2 ^ 8) i
unfolding row_at
row_next w i =
    let e : 8 * suc i ≡ 8 + 8 * i = omega arith in
    ap (λ (x : ℕ). w / 2 ^ x % 2 ^ 8) e ∙ ap (λ (x : ℕ). x % 2 ^ 8) (sym (shr-shr w 8 (8 * i)))

row_sum : (a b i : ℕ) → row_at (a ⊕ b) i ≡ row_at a i ⊕ row_at b i
unfolding row_at
row_sum a b i = ap (λ (x : ℕ). x % 2 ^ 8) (⊕-shr a b (8 * i)) ∙ low_sum 8 (a / 2 ^ (8 * i)) (b / 2 ^ (8 * i))

-- ---- a row put above i rows
next_weight : (i : ℕ) → 2 ^ (8 * suc i) ≡ 2 ^ (8 * i) * 256
next_weight i = let e : 8 * suc i ≡ 8 * i + 8 = omega arith in ap (λ (x : ℕ). 2 ^ x) e ∙ pow-add 2 (8 * i) 8

up : (a i : ℕ) → a * 2 ^ (8 * suc i) ≡ a * 2 ^ (8 * i) * 256
up a i = ap (λ (x : ℕ). a * x) (next_weight i) ∙ sym (mul_assoc a (2 ^ (8 * i)) 256)

pub row_kept : (i w a m : ℕ) → m < i → row_at (w + a * 2 ^ (8 * i)) m ≡ row_at w m
row_kept zero w a m l = absurd (omega arith)
row_kept (suc i) w a zero l =
    let e : (w + a * 2 ^ (8 * suc i)) % 256 ≡ w % 256 = omega (arith, up a i) in
    row_first _ ∙ e ∙ sym (row_first w)
row_kept (suc i) w a (suc m) l =
    let e : (w + a * 2 ^ (8 * suc i)) / 256 ≡ w / 256 + a * 2 ^ (8 * i) = omega (arith, up a i) in
    row_next _ m ∙ ap (λ (x : ℕ). row_at x m) e ∙ row_kept i (w / 2 ^ 8) a m (omega arith) ∙ sym (row_next w m)

pub row_put : (i w a : ℕ) → w < 2 ^ (8 * i) → a < 256 → row_at (w + a * 2 ^ (8 * i)) i ≡ a
row_put zero w a l h =
    let e : (w + a * 2 ^ (8 * 0)) % 256 ≡ a = omega arith in
    row_first _ ∙ e
row_put (suc i) w a l h =
    let e : (w + a * 2 ^ (8 * suc i)) / 256 ≡ w / 256 + a * 2 ^ (8 * i) = omega (arith, up a i) in
    row_next _ i ∙ ap (λ (x : ℕ). row_at x i) e ∙ row_put i (w / 2 ^ 8) a (omega (arith, next_weight i)) h

pub rows_lt : (i w a : ℕ) → w < 2 ^ (8 * i) → a < 256 → w + a * 2 ^ (8 * i) < 2 ^ (8 * suc i)
rows_lt i w a l h =
    let m : suc a * 2 ^ (8 * i) ≤ 256 * 2 ^ (8 * i) = mul-le-mul_right (2 ^ (8 * i)) h in
    omega (arith, next_weight i)

-- ---- rows of 0 or 1, times a mask
module _ (v : ℕ) (h : v < 256) where
  parts : (w : ℕ) → w * v ≡ (w % 256) * v + w / 256 * v * 256
  parts w = let e : w ≡ w % 256 + w / 256 * 256 = omega arith in ap (λ (x : ℕ). x * v) e ∙ out (w % 256) (w / 256)
    where
      out : (x y : ℕ) → (x + y * 256) * v ≡ x * v + y * v * 256
      out x y = omega arith

  small : (x : ℕ) → x < 2 → x * v < 256
  small = digit (λ x. x * v < 256) (omega arith) (omega arith)

  row_times : (m w : ℕ) → ((i : ℕ) → i < m → row_at w i < 2) → (i : ℕ) → i < m → row_at (w * v) i ≡ row_at w i * v
  row_times zero w d i l = absurd (omega arith)
  row_times (suc m) w d zero l =
      let s : (w % 256) * v < 256 = small (w % 256) (subst (λ (x : ℕ). x < 2) (row_first w) (d 0 (omega arith))) in
      let e : w * v % 256 ≡ (w % 256) * v = omega (arith, parts w) in
      row_first (w * v) ∙ e ∙ ap (λ (x : ℕ). x * v) (sym (row_first w))
  row_times (suc m) w d (suc i) l =
      let s : (w % 256) * v < 256 = small (w % 256) (subst (λ (x : ℕ). x < 2) (row_first w) (d 0 (omega arith))) in
      let e : w * v / 256 ≡ w / 256 * v = omega (arith, parts w) in
      row_next (w * v) i ∙ ap (λ (x : ℕ). row_at x i) e
      ∙ row_times m (w / 2 ^ 8) (λ j k. subst (λ (x : ℕ). x < 2) (row_next w j) (d (suc j) (omega arith))) i (omega arith)
      ∙ ap (λ (x : ℕ). x * v) (sym (row_next w i))

-- ---- a one in each row
abbrev lowest : ℕ
lowest = 0x0101010101010101

lowest_row : (i : ℕ) → i < 8 → row_at lowest i ≡ 1
unfolding every up_to row_at
lowest_row i l = eqb-true (row_at lowest i) 1 (every_at (λ i. eqb (row_at lowest i) 1) 8 refl i l)

pub ones_row : (w t i : ℕ) → t < 8 → i < 8 → row_at (bit_and (w / 2 ^ t) lowest) i ≡ coefficient t (row_at w i)
unfolding row_at
ones_row w t i ht hi =
    let y : ℕ = w / 2 ^ (8 * i) in
    let e : t + 8 * i ≡ 8 * i + t = omega arith in
    let turn : w / 2 ^ t / 2 ^ (8 * i) ≡ y / 2 ^ t =
    shr-shr w t (8 * i) ∙ ap (λ (x : ℕ). w / 2 ^ x) e ∙ sym (shr-shr w (8 * i) t) in
    ap (λ (x : ℕ). x % 2 ^ 8) (and_shr (w / 2 ^ t) lowest (8 * i)) ∙ and_mod (w / 2 ^ t / 2 ^ (8 * i)) (lowest / 2 ^ (8 * i)) 8
    ∙ ap₂ bit_and (ap (λ (x : ℕ). x % 2 ^ 8) turn) (lowest_row i hi) ∙ and_mask (y / 2 ^ t % 2 ^ 8) 1
    ∙ mod-mod-pow (y / 2 ^ t) 7 1 ∙ sym (digit_low t 8 y ht)

pub rows_struck : (w t : ℕ) → t < 8 → RowsStruck t w (bit_xor w (bit_and (w / 2 ^ t) lowest * (w % 256)) / 256)
unfolding ◌⊕◌
rows_struck w t ht = record {
  is = λ i l.
      sym (row_next (w ⊕ ones * (w % 256)) i) ∙ row_sum w (ones * (w % 256)) (suc i)
      ∙ ap (λ (x : ℕ). row_at w (suc i) ⊕ x)
      (row_times (w % 256) (omega arith) 8 ones
      (λ j k. subst (λ (x : ℕ). x < 2) (sym (ones_row w t j ht k)) (digit_lt (row_at w j / 2 ^ t))) (suc i) (omega arith)
      ∙ ap₂ ◌*◌ (ones_row w t (suc i) ht (omega arith)) (sym (row_first w)));
}
  where
    ones : ℕ
    ones = bit_and (w / 2 ^ t) lowest
