-- The listing says what it is written for: different numbers are written differently, and a refusal is never taken for a code.
--
--   read l                 the number that digits say
--   read_decimal           the digits of x say x
--   refused_injective      different refusals have different lines
--   accepted_other         the lines of an accepted sheet are no refusal's
use mathlib.Core.Path.{◌≡◌, refl, sym, ap, ◌∙◌}
use mathlib.Core.List.{List, [], ◌∷◌, ◌++◌}
use Prim.Native.Nat.{ℕ, zero, suc, ◌+◌, ◌-◌, ◌*◌, ◌/◌, ◌%◌, ◌<◌}
use native.Mathlib.Decide.{dec_lt}
use native.Mathlib.Omega.{arith}
use lib.ListN.{get_or, drop}
use borrow.Author.Tests.{lt-ltb, le-ltb}
use Rattle.document.specs.Sheet.{Stated}
use Rattle.document.specs.Card.{decimal_in, decimal, code_line, refused_line, accepted_lines}

-- ---- digits read back: those of l after the number a
read_on : ℕ → List ℕ → ℕ
read_on a [] = a
read_on a (d ∷ l) = read_on (a * 10 + (d - 48)) l

read_last : (a : ℕ) (l : List ℕ) (d : ℕ) → read_on a (l ++ (d ∷ [])) ≡ read_on a l * 10 + (d - 48)
unfolding read_on
read_last a [] d = refl
read_last a (b ∷ l) d = read_last (a * 10 + (b - 48)) l d

read : List ℕ → ℕ
read l = read_on 0 l

read_digit : (x : ℕ) → read ((48 + x) ∷ []) ≡ x
unfolding read read_on
read_digit x = omega arith

read_more : (l : List ℕ) (d : ℕ) → read (l ++ (d ∷ [])) ≡ read l * 10 + (d - 48)
unfolding read
read_more l d = read_last 0 l d

read_in : (n x : ℕ) → x < n → read (decimal_in n x) ≡ x
unfolding decimal_in
read_in zero x h = absurd (omega arith)
read_in (suc n) x h = elim (dec_lt x 10) [
  | yes l ↦ rw (decimal_in, lt-ltb x 10 l) (read_digit x)
  | no l ↦
      (let ih : read (decimal_in n (x / 10)) ≡ x / 10 = read_in n (x / 10) (omega arith) in
      let e : x / 10 * 10 + (48 + x % 10 - 48) ≡ x = omega arith in
      rw (decimal_in, le-ltb x 10 (omega arith))
      (read_more (decimal_in n (x / 10)) (48 + x % 10) ∙ ap (λ (y : ℕ). y * 10 + (48 + x % 10 - 48)) ih ∙ e))
]

read_decimal : (x : ℕ) → read (decimal x) ≡ x
unfolding decimal
read_decimal x = read_in (suc x) x (omega arith)

-- ---- lines: the newline is read as a digit 0
read_refused : (r : ℕ) → read (drop 8 (refused_line r)) ≡ r * 10
unfolding refused_line
read_refused r =
    let z : read (decimal r) * 10 + (10 - 48) ≡ r * 10 = omega (arith, read_decimal r) in
    read_more (decimal r) 10 ∙ z

pub refused_injective : (q r : ℕ) → refused_line q ≡ refused_line r → q ≡ r
refused_injective q r e =
    let z : q * 10 ≡ r * 10 = sym (read_refused q) ∙ ap (λ l. read (drop 8 l)) e ∙ read_refused r in
    omega arith

-- "code" begins with 99, "refused" with 114
pub accepted_other : (x : Stated) (r : ℕ) → ¬ (accepted_lines x ≡ refused_line r)
unfolding accepted_lines code_line refused_line
accepted_other x r e = let z : ◌≡◌ {A = ℕ} 99 114 = ap (λ l. get_or l 0 0) e in omega arith
