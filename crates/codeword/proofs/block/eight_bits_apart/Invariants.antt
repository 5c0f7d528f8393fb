-- `codeword::block::eight_bits_apart` meets its contract: one bit more at each turn.
use Prim.Native.Nat.{◌≤◌}
use Rattle.codeword.proofs.Interleaving.{Gathering}
use Rattle.codeword.proofs.block.eight_bits_apart.Given as goal

abbrev pub invariant-loop-k : goal.invariant-loop-k
invariant-loop-k l = Gathering l.block l.p l.m l.k l.eight × (l.k ≤ 8)
