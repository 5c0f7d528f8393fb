-- Numbers of 16 places beside each other in one of 64.
--
--   in_lanes h      four of them, 16 places apart
--   lane j a      the number in lane j of a
use Rattle.std.specs.Prelude.{ℕ, ◌*◌, ◌/◌, ◌%◌, ◌^◌}
use Rattle.field.specs.Search.{total}

unfoldable pub in_lanes : (ℕ → ℕ) → ℕ
in_lanes h = total 4 (λ j. h j * 2 ^ (16 * j))

abbrev pub lane : ℕ → ℕ → ℕ
lane j a = a / 2 ^ (16 * j) % 2 ^ 16
