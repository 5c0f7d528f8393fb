-- `codeword::block::deinterleave_word` meets its contract: eight places more at each turn.
use Rattle.codeword.proofs.Interleaving.{Deinterleaving}
use Rattle.codeword.proofs.block.deinterleave_word.Given as goal

abbrev pub invariant-loop-j : goal.invariant-loop-j
invariant-loop-j l = Deinterleaving l.m l.i l.block l.j l.word
