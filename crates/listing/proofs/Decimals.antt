-- Numbers in decimal digits.
--
--   decimal_small, decimal_large      one digit; and those of x / 10 with the last one
--   decimal_length                    at most four below 10,000
use mathlib.Core.Path.{◌≡◌, sym, ap, ◌∙◌}
use mathlib.Core.List.{List, [], ◌∷◌, ◌++◌}
use Prim.Native.Nat.{ℕ, zero, suc, ◌+◌, ◌*◌, ◌/◌, ◌%◌, ◌≤◌, ◌<◌}
use native.Mathlib.Decide.{dec_lt}
use native.Mathlib.Omega.{arith}
use lib.ListN.{length, length-append}
use borrow.Author.Tests.{lt-ltb, le-ltb}
use Rattle.document.specs.Card.{decimal_in, decimal}

digit_in : (n x : ℕ) → x < 10 → decimal_in (suc n) x ≡ (48 + x) ∷ []
unfolding decimal_in
digit_in n x h = rw (decimal_in, lt-ltb x 10 h)

digits_in : (n x : ℕ) → 10 ≤ x → decimal_in (suc n) x ≡ decimal_in n (x / 10) ++ ((48 + x % 10) ∷ [])
unfolding decimal_in
digits_in n x h = rw (decimal_in, le-ltb x 10 h)

-- more turns than digits change nothing
turns : (n m x : ℕ) → x < n → x < m → decimal_in n x ≡ decimal_in m x
turns zero m x h k = absurd (omega arith)
turns (suc n) zero x h k = absurd (omega arith)
turns (suc n) (suc m) x h k = elim (dec_lt x 10) [
  | yes q ↦ digit_in n x q ∙ sym (digit_in m x q)
  | no q ↦ (let b : 10 ≤ x = omega arith in
      digits_in n x b ∙ ap (λ (l : List ℕ). l ++ ((48 + x % 10) ∷ [])) (turns n m (x / 10) (omega arith) (omega arith))
      ∙ sym (digits_in m x b))
]

pub decimal_small : (x : ℕ) → x < 10 → decimal x ≡ (48 + x) ∷ []
unfolding decimal
decimal_small x h = digit_in x x h

pub decimal_large : (x : ℕ) → 10 ≤ x → decimal x ≡ decimal (x / 10) ++ ((48 + x % 10) ∷ [])
unfolding decimal
decimal_large x h =
    digits_in x x h ∙ ap (λ (l : List ℕ). l ++ ((48 + x % 10) ∷ [])) (turns x (suc (x / 10)) (x / 10) (omega arith) (omega arith))

-- ---- how many
pub large_length : (x : ℕ) → 10 ≤ x → length (decimal x) ≡ length (decimal (x / 10)) + 1
large_length x h = ap length (decimal_large x h) ∙ length-append (decimal (x / 10)) ((48 + x % 10) ∷ [])

pub small_length : (x : ℕ) → x < 10 → length (decimal x) ≡ 1
small_length x h = ap length (decimal_small x h)

one_more : (b d : ℕ) → ((y : ℕ) → y < b → length (decimal y) ≤ d) → (x : ℕ) → x < 10 * b → length (decimal x) ≤ suc d
one_more b d h x l = elim (dec_lt x 10) [
  | yes q ↦ omega (arith, small_length x q)
  | no q ↦ omega (arith, large_length x (omega arith), h (x / 10) (omega arith))
]

pub decimal_length : (x : ℕ) → x < 10000 → length (decimal x) ≤ 4
decimal_length = one_more 1000 3 (one_more 100 2 (one_more 10 1 (λ x h. omega (arith, small_length x h))))
