-- `syndrome::columns::lane_sums` meets its contract: the first i columns are in the sums, i even.
use mathlib.Core.Path.{◌≡◌}
use Prim.Native.Nat.{◌+◌, ◌-◌, ◌*◌, ◌/◌, ◌%◌, ◌^◌, ◌<◌, ◌≤◌}
use lib.ListN.{length}
use Rattle.syndrome.proofs.Columning.{LaneSumming}
use Rattle.syndrome.proofs.columns.lane_sums.Given as goal

abbrev pub invariant-loop-i : goal.invariant-loop-i
invariant-loop-i l = (l.next ≡ 4 * l.by % 2 ^ l.tables.s + 4 * l.by / 2 ^ l.tables.s) × (l.next < 2 * (2 ^ l.tables.s - 1)) × (l.i ≤ length l.columns) × (l.i % 2 ≡ 0) × LaneSumming l.tables.s l.by l.i (length l.columns) l.columns l.a
