-- `sheet::cosets::mark` meets its contract: x is r 2^j, and the members met so far are marked and compared.
use mathlib.Core.Path.{◌≡◌}
use Prim.Native.Nat.{◌*◌, ◌%◌, ◌^◌, ◌≤◌, ◌<◌}
use Rattle.field.specs.Field.{OddLength}
use Rattle.sheet.proofs.Marking.{Turned}
use Rattle.sheet.proofs.cosets.mark.Given as goal

abbrev pub invariant-loop-j : goal.invariant-loop-j
invariant-loop-j l = OddLength l.n × (l.x < l.n) × (l.low ≤ l._j) × (l.x ≡ l.r * 2 ^ l._j % l.n) × Turned l.n l.r l._j l.initial.zeros l.zeros l.low
