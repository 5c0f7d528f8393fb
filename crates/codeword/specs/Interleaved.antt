-- Words in a block, as inner functions say it. No entry's contract cites this file.
--
--   EightApart block p m x       x is eight bits of a block, m apart, from bit p on, the first of them highest
--   Deinterleaved m i block word   every place of the word's bytes is bit j·m + i of the block, j being the place; past its last byte it is 0
use Rattle.std.specs.Prelude.{◌≡◌, List, ℕ, ◌+◌, ◌-◌, ◌*◌, ◌<◌, length}
use Rattle.field.specs.Mask.{coefficient}
use Rattle.document.specs.Layout.{word_weight, place}

pub record EightApart (block : List ℕ) (p m x : ℕ) : Type 0 where
  pub small : x < 256
  pub at : (k : ℕ) → k < 8 → coefficient (7 - k) x ≡ place word_weight block (p + k * m)

pub record Deinterleaved (m i : ℕ) (block word : List ℕ) : Type 0 where
  pub at : (j : ℕ) → j < length word * 8 → place word_weight word j ≡ place word_weight block (j * m + i)
