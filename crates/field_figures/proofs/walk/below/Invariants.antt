-- `field_figures::walk::below` meets its contract: of the masks before m, no more are primitive than there are.
use Prim.Native.Nat.{◌+◌, ◌≤◌}
use Rattle.std.proofs.Common.{max}
use Rattle.field_figures.proofs.walk.below.Given as goal

abbrev pub invariant-loop-m : goal.invariant-loop-m
invariant-loop-m l = (l.first + l.found ≤ l.m) × (l.m ≤ max l.first l.end)
