-- `decoder::trials::write_trials` meets its contract: byte by byte.
use Prim.Native.Nat.{◌≤◌}
use lib.ListN.{length}
use Rattle.decoder.proofs.Trying.{Trying}
use Rattle.decoder.proofs.trials.write_trials.Given as goal

abbrev pub invariant-loop-j : goal.invariant-loop-j
invariant-loop-j l = Trying l.word l.marks l.j l.trials × (l.j ≤ length l.word)
