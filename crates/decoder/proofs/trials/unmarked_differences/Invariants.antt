-- `decoder::trials::unmarked_differences` meets its contract: byte by byte.
use Prim.Native.Nat.{◌≤◌}
use lib.ListN.{length}
use Rattle.decoder.proofs.Weighing.{Summed, unmarked_at}
use Rattle.decoder.proofs.trials.unmarked_differences.Given as goal

abbrev pub invariant-loop-j : goal.invariant-loop-j
invariant-loop-j l = Summed (unmarked_at l.word l.marks l.other) l.j l.e × (l.j ≤ length l.word)
