-- `syndrome::values::extend` meets its contract: the cosets of the first k representatives hold their values.
use mathlib.Core.Path.{◌≡◌}
use Prim.Native.Nat.{◌≤◌}
use lib.ListN.{length}
use Rattle.syndrome.specs.Value.{Extendable}
use Rattle.syndrome.proofs.Extending.{Extending}
use Rattle.syndrome.proofs.values.extend.Given as goal

abbrev pub invariant-loop-representative : goal.invariant-loop-representative
invariant-loop-representative l = Extendable l.n l.tables.s l.representatives l.initial.values × (l.representative-index ≤ length l.representatives) × (length l.values ≡ length l.initial.values) × Extending l.n l.tables.s l.representative-index l.representatives l.initial.values l.values
