-- `decoder::repair::copy` meets its contract: byte by byte.
use Rattle.decoder.proofs.Repairing.{Copying}
use Rattle.decoder.proofs.repair.copy.Given as goal

abbrev pub invariant-loop-i : goal.invariant-loop-i
invariant-loop-i l = Copying l.i l.from l.to
