-- `binary::packed::hand_over` meets its contract: the first i numbers are handed over.
use mathlib.Core.Path.{◌≡◌}
use lib.ListN.{length}
use Rattle.binary.proofs.Passing.{Handing}
use Rattle.binary.proofs.packed.hand_over.Given as goal

abbrev pub invariant-loop-i : goal.invariant-loop-i
invariant-loop-i l = (length l.from ≡ length l.initial.from) × (length l.to ≡ length l.initial.to) × (length l.initial.from ≡ length l.initial.to) × Handing l.i l.initial.from l.from l.to
