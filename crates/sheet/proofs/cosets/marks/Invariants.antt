-- `sheet::cosets::marks` meets its contract: the sum so far.
use mathlib.Core.Path.{◌≡◌}
use Prim.Native.Nat.{◌*◌, ◌≤◌}
use lib.ListN.{get_or}
use Rattle.field.specs.Search.{total}
use Rattle.sheet.proofs.cosets.marks.Given as goal

abbrev pub invariant-loop-z : goal.invariant-loop-z
invariant-loop-z l = (l.size ≤ 255 * l.z-index) × (l.size ≡ total l.z-index (λ k. get_or l.zeros k 0))
