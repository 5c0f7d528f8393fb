-- `binary::common::common` meets its contract: x and y have the common divisors of f and h, and x is within their search.
use Prim.Native.Nat.{◌^◌, ◌≤◌, ◌<◌}
use Rattle.field.specs.Mask.{size}
use Rattle.binary.proofs.CommonFactor.{SameFactors}
use Rattle.binary.proofs.common.common.Given as goal

abbrev pub invariant-loop-y : goal.invariant-loop-y
invariant-loop-y l = (2 ≤ l.x) × (l.x < 512) × (l.y < l.x) × (l.x < 2 ^ size l.f) × SameFactors l.f l.h l.x l.y

abbrev pub decreases-loop-y : goal.decreases-loop-y
decreases-loop-y l = l.y
