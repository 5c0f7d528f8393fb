-- `decoder::trials::marked_count` meets its contract: byte by byte.
use Prim.Native.Nat.{◌≤◌}
use lib.ListN.{length}
use Rattle.decoder.proofs.Weighing.{Summed, marks_at}
use Rattle.decoder.proofs.trials.marked_count.Given as goal

abbrev pub invariant-loop-byte : goal.invariant-loop-byte
invariant-loop-byte l = Summed (marks_at l.marks) l.byte-index l.r × (l.byte-index ≤ length l.marks)
