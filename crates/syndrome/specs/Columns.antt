-- A word of 4 b places in b columns (the code's width), each with four neighbouring places in lanes. No entry's contract cites this
-- file.
--
--   run_sum h p m        the sum of h i over the i below m at which p has a 1
--   column w i          the four places of column i
--   Columnable, Columned      the columns of a word: what they need, and what they are
--   Summable s by col      columns of some word, and an exponent
--   LaneSums            the sums of ω^(4 i by) over the columns i that have a 1 in a lane, for each lane
--   Valued              and the value that they make together
use Rattle.std.specs.Prelude.{◌≡◌, List, ℕ, zero, suc, ◌+◌, ◌-◌, ◌*◌, ◌%◌, ◌^◌, ◌≤◌, ◌<◌, length, get_or}
use Rattle.field.specs.Mask.{◌⊕◌}
use Rattle.field.specs.Field.{ω, field_power}
use Rattle.binary.specs.Lanes.{in_lanes, lane}

unfoldable pub run_sum : (h p : ℕ → ℕ) → ℕ → ℕ
run_sum h p zero = 0
run_sum h p (suc i) = run_sum h p i ⊕ p i * h i

unfoldable pub column : List ℕ → ℕ → ℕ
column w i = in_lanes (λ j. get_or w (4 * i + j) 0)

pub record Columnable (b : ℕ) (w : List ℕ) : Type 0 where
  pub bits : (i : ℕ) → get_or w i 0 < 2
  pub long : 4 * b ≤ length w
  pub even : b % 2 ≡ 0
  pub few : b ≤ 65535

pub record Columned (b : ℕ) (w col : List ℕ) : Type 0 where
  pub bits : (i : ℕ) → get_or w i 0 < 2
  pub at : (i : ℕ) → i < b → get_or col i 0 ≡ column w i

pub record Summable (s by : ℕ) (col : List ℕ) : Type 0 where
  pub by_lt : by < 2 ^ s - 1
  -- n is at most 2^s - 1, and four times the columns are n rounded up to a multiple of 8
  pub b_le : 4 * length col ≤ 2 ^ s + 6
  pub even : length col % 2 ≡ 0
  pub word : List ℕ
  pub columned : Columned (length col) word col

pub record LaneSums (b s by : ℕ) (col : List ℕ) (r : ℕ) : Type 0 where
  pub at : (w : List ℕ) → Columned b w col → (j : ℕ) → j < 4 → lane j r ≡ run_sum (λ i. field_power s ω (4 * i * by)) (λ i. get_or w (4 * i + j) 0) b

pub record Valued (b s by : ℕ) (col : List ℕ) (r : ℕ) : Type 0 where
  pub is : (w : List ℕ) → Columned b w col → r ≡ run_sum (λ i. field_power s ω (i * by)) (λ i. get_or w i 0) (4 * b)
  pub lt : r < 2 ^ s
