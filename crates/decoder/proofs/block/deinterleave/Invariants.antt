-- `decoder::block::deinterleave` meets its contract: one word more at each turn.
use Prim.Native.Nat.{◌≤◌}
use Rattle.decoder.proofs.Interleaved.{TakenSome}
use Rattle.decoder.proofs.block.deinterleave.Given as goal

abbrev pub invariant-loop-i : goal.invariant-loop-i
invariant-loop-i l = TakenSome l.m l.size l.i l.block l.initial.words l.words × (l.i ≤ l.m)
