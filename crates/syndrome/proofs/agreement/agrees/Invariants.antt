-- `syndrome::agreement::agrees` meets its contract: the listed places have the word's value at each representative before.
use mathlib.Core.Path.{◌≡◌}
use Prim.Native.Nat.{◌-◌, ◌/◌, ◌^◌, ◌≤◌}
use lib.ListN.{length}
use Rattle.syndrome.proofs.Comparing.{Comparing}
use Rattle.syndrome.proofs.agreement.agrees.Given as goal

abbrev pub invariant-loop-representative : goal.invariant-loop-representative
invariant-loop-representative l = (l.q ≡ (2 ^ l.power_table.s - 1) / l.n) × (l.representative-index ≤ length l.representatives) × Comparing l.n l.power_table.s l.representative-index l.places l.representatives l.values
