-- Powers of x^n modulo a mask f of degree u, and whether they are linearly independent. No entry's contract cites this file.
--
--   value_modulo u f n k P     P(x^n) modulo f, by Horner's rule over the k coefficients of P
--   independent n u f         no P but 0, of u coefficients, has P(x^n) = 0 modulo f
--   row_at w i                 row i of the rows that a 64-bit number holds, 8 places each
--   PowersHeld u f n k w      row i is x^(n i) modulo f, for i below k
--   RowsStruck t w r          the rows of r are those of w after row 0, with row 0 taken off where the coefficient of x^t is 1
use Rattle.std.specs.Prelude.{◌≡◌, Bool, not, ℕ, zero, suc, ◌-◌, ◌*◌, ◌/◌, ◌%◌, ◌^◌, ◌<◌, eqb}
use Rattle.field.specs.Search.{up_to, every}
use Rattle.field.specs.Mask.{◌⊕◌, coefficient, remainder}

unfoldable pub value_modulo : ℕ → ℕ → ℕ → ℕ → ℕ → ℕ
value_modulo u f n zero P = 0
value_modulo u f n (suc k) P = remainder u f (value_modulo u f n k (P / 2) * 2 ^ n) ⊕ P % 2

unfoldable pub independent : ℕ → ℕ → ℕ → Bool
independent n u f = every (λ P. not (eqb (value_modulo u f n u (suc P)) 0)) (up_to (2 ^ u - 1))

unfoldable pub row_at : ℕ → ℕ → ℕ
row_at w i = w / 2 ^ (8 * i) % 2 ^ 8

pub record PowersHeld (u f n k w : ℕ) : Type 0 where
  pub is : (i : ℕ) → i < k → row_at w i ≡ remainder u f (2 ^ (n * i))

pub record RowsStruck (t w r : ℕ) : Type 0 where
  pub is : (i : ℕ) → i < 7 → row_at r i ≡ row_at w (suc i) ⊕ coefficient t (row_at w (suc i)) * row_at w 0
