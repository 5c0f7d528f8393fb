-- Rows of masks, and whether they are linearly independent, by elimination.
--
--   row_sum rows k P           the sum of the rows i below k for which P has a one
--   row_sum_ext, row_sum_zero      it is of the rows below k alone, and 0 for P = 0
--   Free rows k               no P but 0 makes it 0
--   free_none, free_zero, free_ext      of no rows; not where row 0 is 0; it is of the rows below k alone
--   struck t v rows           the rows with v taken off those whose coefficient of x^t is 1
--   free_struck               a row 0 with coefficient 1 of x^t may go, once it is struck off the other rows where theirs is 1
use mathlib.Core.Path.{◌≡◌, refl, sym, ap, ap₂, ◌∙◌}
use mathlib.Core.Logic.{◌↔◌}
use Prim.Native.Nat.{ℕ, zero, suc, ◌+◌, ◌*◌, ◌/◌, ◌%◌, ◌^◌, ◌<◌}
use native.Mathlib.Nat.{pow-suc, zero-mul, one-mul}
use native.Mathlib.Omega.{arith}
use lib.Pow.{pow_pos}
use Rattle.field.specs.Mask.{◌⊕◌, coefficient}
use Rattle.field.proofs.Xor.{digit, digit_lt, ⊕-zero-l, ⊕-self, ⊕-comm, ⊕-swap4, ⊕-eq, ⊕-lt, sel_xor, bit_⊕}
use Rattle.field.proofs.MaskProduct.{digit_mul}
use Rattle.cyclic.proofs.Places.{coefficient_zero}

unfoldable pub row_sum : (ℕ → ℕ) → ℕ → ℕ → ℕ
row_sum rows zero P = 0
row_sum rows (suc k) P = (P % 2) * rows 0 ⊕ row_sum (λ i. rows (suc i)) k (P / 2)

abbrev pub Free : (ℕ → ℕ) → ℕ → Type 0
Free rows k = (P : ℕ) → P < 2 ^ k → row_sum rows k P ≡ 0 → P ≡ 0

pub row_sum_ext : (rows other : ℕ → ℕ) (k : ℕ) → ((i : ℕ) → i < k → rows i ≡ other i) → (P : ℕ)
    → row_sum rows k P ≡ row_sum other k P
unfolding row_sum
row_sum_ext rows other zero h P = refl
row_sum_ext rows other (suc k) h P =
    ap₂ (λ (x y : ℕ). (P % 2) * x ⊕ y) (h 0 (omega arith))
    (row_sum_ext (λ i. rows (suc i)) (λ i. other (suc i)) k (λ i l. h (suc i) (omega arith)) (P / 2))

pub row_sum_zero : (rows : ℕ → ℕ) (k : ℕ) → row_sum rows k 0 ≡ 0
unfolding row_sum
row_sum_zero rows zero = refl
row_sum_zero rows (suc k) =
    ap₂ ◌⊕◌ (zero-mul (rows 0)) (row_sum_zero (λ i. rows (suc i)) k) ∙ ⊕-zero-l 0

-- ---- digits times a mask
times_sum : (v x y : ℕ) → x < 2 → y < 2 → (x ⊕ y) * v ≡ x * v ⊕ y * v
times_sum v x y hx hy =
    digit_mul v (x ⊕ y) (⊕-lt 1 x y hx hy) ∙ sel_xor v x hx y hy
    ∙ sym (ap₂ ◌⊕◌ (digit_mul v x hx) (digit_mul v y hy))

times_digit : (t v x : ℕ) → coefficient t v ≡ 1 → x < 2 → coefficient t (x * v) ≡ x
times_digit t v x e =
    digit (λ x. coefficient t (x * v) ≡ x) (ap (coefficient t) (zero-mul v) ∙ coefficient_zero t)
    (ap (coefficient t) (one-mul v) ∙ e) x

-- ---- v struck off the rows whose coefficient of x^t is 1
module _ (t v : ℕ) where
  abbrev pub struck : (ℕ → ℕ) → ℕ → ℕ
  struck rows i = rows i ⊕ coefficient t (rows i) * v

  digit_of : (a : ℕ) → coefficient t a < 2
  digit_of a = digit_lt (a / 2 ^ t)

  row_sum_struck : (rows : ℕ → ℕ) (k P : ℕ)
      → row_sum (struck rows) k P ≡ row_sum rows k P ⊕ coefficient t (row_sum rows k P) * v
  unfolding row_sum
  row_sum_struck rows zero P =
      sym (ap (λ (x : ℕ). 0 ⊕ x * v) (coefficient_zero t) ∙ ap (λ (x : ℕ). 0 ⊕ x) (zero-mul v) ∙ ⊕-zero-l 0)
  row_sum_struck rows (suc k) P =
      ap (λ (y : ℕ). (P % 2) * struck rows 0 ⊕ y) (row_sum_struck (λ i. rows (suc i)) k (P / 2))
      ∙ digit (λ b. b * struck rows 0 ⊕ (C ⊕ coefficient t C * v) ≡ (b * rows 0 ⊕ C) ⊕ coefficient t (b * rows 0 ⊕ C) * v)
      off on (P % 2) (digit_lt P)
    where
      C : ℕ
      C = row_sum (λ i. rows (suc i)) k (P / 2)

      gone : (x : ℕ) → 0 * x ⊕ C ≡ C
      gone x = ap (λ (y : ℕ). y ⊕ C) (zero-mul x) ∙ ⊕-zero-l C

      off : 0 * struck rows 0 ⊕ (C ⊕ coefficient t C * v) ≡ (0 * rows 0 ⊕ C) ⊕ coefficient t (0 * rows 0 ⊕ C) * v
      off =
          ap (λ (y : ℕ). y ⊕ (C ⊕ coefficient t C * v)) (zero-mul (struck rows 0)) ∙ ⊕-zero-l (C ⊕ coefficient t C * v)
          ∙ sym (ap (λ (y : ℕ). y ⊕ coefficient t y * v) (gone (rows 0)))

      both : coefficient t (rows 0 ⊕ C) * v ≡ coefficient t (rows 0) * v ⊕ coefficient t C * v
      both =
          ap (λ (x : ℕ). x * v) (bit_⊕ t (rows 0) C)
          ∙ times_sum v (coefficient t (rows 0)) (coefficient t C) (digit_of (rows 0)) (digit_of C)

      on : 1 * struck rows 0 ⊕ (C ⊕ coefficient t C * v) ≡ (1 * rows 0 ⊕ C) ⊕ coefficient t (1 * rows 0 ⊕ C) * v
      on =
          ap (λ (y : ℕ). y ⊕ (C ⊕ coefficient t C * v)) (one-mul (struck rows 0))
          ∙ ⊕-swap4 (rows 0) (coefficient t (rows 0) * v) C (coefficient t C * v)
          ∙ ap (λ (y : ℕ). (rows 0 ⊕ C) ⊕ y) (sym both)
          ∙ sym (ap (λ (y : ℕ). (y ⊕ C) ⊕ coefficient t (y ⊕ C) * v) (one-mul (rows 0)))

-- ---- independence
pub free_none : (rows : ℕ → ℕ) → Free rows 0
free_none rows P l e = omega arith

pub free_ext : (rows other : ℕ → ℕ) (k : ℕ) → ((i : ℕ) → i < k → rows i ≡ other i) → Free rows k → Free other k
free_ext rows other k h f P l e = f P l (row_sum_ext rows other k h P ∙ e)

pub free_zero : (rows : ℕ → ℕ) (k : ℕ) → rows 0 ≡ 0 → ¬ Free rows (suc k)
unfolding row_sum
free_zero rows k z f =
    let p : 0 < 2 ^ k = pow_pos k in
    let e : 2 ^ suc k ≡ 2 ^ k * 2 = pow-suc 2 k in
    let lone : ℕ = 1 in
    let none : lone ≡ 0 = f 1 (omega arith)
    (ap₂ ◌⊕◌ (ap (λ (x : ℕ). 1 * x) z) (row_sum_zero (λ i. rows (suc i)) k) ∙ ⊕-zero-l 0) in
    absurd (omega arith)

pub free_struck : (t : ℕ) (rows : ℕ → ℕ) (k : ℕ) → coefficient t (rows 0) ≡ 1
    → Free rows (suc k) ↔ Free (struck t (rows 0) (λ i. rows (suc i))) k
unfolding row_sum
free_struck t rows k top = (there, back)
  where
    v : ℕ
    v = rows 0

    C : ℕ → ℕ
    C Q = row_sum (λ i. rows (suc i)) k Q

    double : 2 ^ suc k ≡ 2 ^ k * 2
    double = pow-suc 2 k

    there : Free rows (suc k) → Free (struck t (rows 0) (λ i. rows (suc i))) k
    there f Q l e =
        let b : ℕ = coefficient t (C Q) in
        let small : b < 2 = digit_of t v (C Q) in
        let P : ℕ = Q * 2 + b in
        let half : P / 2 ≡ Q = omega arith in
        let low : P % 2 ≡ b = omega arith in
        let z : P ≡ 0 = f P (omega (arith, double))
        (ap₂ (λ (x y : ℕ). x * rows 0 ⊕ C y) low half ∙ ⊕-comm (b * rows 0) (C Q)
        ∙ sym (row_sum_struck t v (λ i. rows (suc i)) k Q) ∙ e) in
        omega arith

    back : Free (struck t (rows 0) (λ i. rows (suc i))) k → Free rows (suc k)
    back f P l e =
        let same : (P % 2) * rows 0 ≡ C (P / 2) = ⊕-eq e in
        let b : coefficient t (C (P / 2)) ≡ P % 2 =
        ap (coefficient t) (sym same) ∙ times_digit t (rows 0) (P % 2) top (digit_lt P) in
        let high : P / 2 ≡ 0 = f (P / 2) (omega (arith, double))
        (row_sum_struck t v (λ i. rows (suc i)) k (P / 2)
        ∙ ap (λ (x : ℕ). C (P / 2) ⊕ x * rows 0) b ∙ ap (λ (x : ℕ). C (P / 2) ⊕ x) same ∙ ⊕-self (C (P / 2))) in
        let low : P % 2 ≡ 0 =
        sym b ∙ ap (coefficient t) (ap C high ∙ row_sum_zero (λ i. rows (suc i)) k) ∙ coefficient_zero t in
        omega arith
