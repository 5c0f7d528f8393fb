-- The coefficients of a mask in lanes.
--
--   lanes_are         as the code puts them together
--   lanes_le          no lane holds more than 1
--   lane_mask         a number below 2^16 in each lane whose coefficient is 1
--   lane_low          such a number by itself is in the lane of the mask 1
use mathlib.Core.Path.{◌≡◌, sym, ap, ◌∙◌}
use Prim.Native.Nat.{ℕ, ◌+◌, ◌*◌, ◌/◌, ◌%◌, ◌^◌, ◌≤◌, ◌<◌}
use native.Mathlib.Nat.{one-mul}
use native.Mathlib.Omega.{arith}
use Rattle.field.specs.Search.{total}
use Rattle.field.specs.Mask.{coefficient}
use Rattle.field.proofs.Xor.{digit_lt}
use Rattle.binary.specs.Lanes.{in_lanes, lane}
use Rattle.syndrome.proofs.Lanes.{lane_times}
use Rattle.locator.specs.Terms.{lanes}

pub lanes_are : (y : ℕ) → ((y / 8 % 2 * 65536 + y / 4 % 2) * 65536 + y / 2 % 2) * 65536 + y % 2 ≡ lanes y
unfolding lanes in_lanes total
lanes_are y = omega arith

pub lanes_le : (y : ℕ) → lanes y ≤ lanes 15
unfolding lanes in_lanes total
lanes_le y = omega arith

pub lane_mask : (y p : ℕ) → p < 2 ^ 16 → (j : ℕ) → j < 4 → lane j (lanes y * p) ≡ coefficient j y * p
unfolding lanes
lane_mask y p h j l = lane_times (λ i. coefficient i y) (λ i. digit_lt (y / 2 ^ i)) p h j l

pub lane_low : (p : ℕ) → p < 2 ^ 16 → (j : ℕ) → j < 4 → lane j p ≡ coefficient j 1 * p
unfolding lanes in_lanes total
lane_low p h j l = ap (lane j) (sym (one-mul p)) ∙ lane_mask 1 p h j l
