-- `syndrome::agreement::value` meets its contract: the first k places of the list are in the sum.
use Prim.Native.Nat.{◌≤◌}
use lib.ListN.{length}
use Rattle.syndrome.proofs.ValueSums.{Valuing}
use Rattle.syndrome.proofs.agreement.value.Given as goal

abbrev pub invariant-loop-place : goal.invariant-loop-place
invariant-loop-place l = (l.place-index ≤ length l.places) × Valuing l.power_table.s l.by l.place-index l.acc l.places
