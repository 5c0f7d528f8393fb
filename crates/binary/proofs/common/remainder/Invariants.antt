-- `binary::common::remainder` meets its contract: the steps left, of r, give what all steps give of a.
use mathlib.Core.Path.{◌≡◌}
use Prim.Native.Nat.{◌+◌, ◌≤◌, ◌<◌}
use Rattle.field.specs.Mask.{divide_down, remainder as remainderOf}
use Rattle.binary.specs.Factor.{degree as degree_of}
use Rattle.binary.proofs.common.remainder.Given as goal

abbrev pub invariant-loop-i : goal.invariant-loop-i
invariant-loop-i l = (l.b < 512) × (l.s + l.i ≤ 9) × (divide_down l.s l.b l.i l.r ≡ remainderOf (degree_of l.b) l.b l.a)
