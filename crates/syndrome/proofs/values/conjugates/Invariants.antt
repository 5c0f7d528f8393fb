-- `syndrome::values::conjugates` meets its contract: the first j members hold their values, and y is that of the next.
use mathlib.Core.Path.{◌≡◌}
use Prim.Native.Nat.{◌≤◌}
use lib.ListN.{length}
use Rattle.syndrome.specs.Value.{Conjugable}
use Rattle.syndrome.proofs.Squares.{Turning}
use Rattle.syndrome.proofs.values.conjugates.Given as goal

abbrev pub invariant-loop-j : goal.invariant-loop-j
invariant-loop-j l = Conjugable l.n l.tables.s l.r l.v l.initial.values × (length l.values ≡ length l.initial.values) × (l._j ≤ l.tables.s) × Turning l.n l.tables.s l.r l.v l._j l.x l.y l.initial.values l.values
