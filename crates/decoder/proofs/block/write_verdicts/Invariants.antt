-- `decoder::block::write_verdicts` meets its contract: byte by byte.
use Prim.Native.Nat.{◌≤◌}
use lib.ListN.{length}
use Rattle.decoder.proofs.Interleaved.{WrittenSome}
use Rattle.decoder.proofs.block.write_verdicts.Given as goal

abbrev pub invariant-loop-i : goal.invariant-loop-i
invariant-loop-i l = WrittenSome l.counts l.i l.verdicts × (l.i ≤ length l.counts)
