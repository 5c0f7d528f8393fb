-- `codeword::block::deinterleave_word` meets its contract: eight places more at each turn.
use native.Mathlib.Omega.{arith}
use mathlib.Core.Path.{refl}
use Rattle.codeword.proofs.Interleaving.{deinterleaving_start, deinterleaving_more, deinterleaving_end}
use Rattle.codeword.proofs.block.deinterleave_word.Goals as goal

pub loop-j-init : goal.loop-j-init
loop-j-init c = deinterleaving_start

pub loop-j-preserved : goal.loop-j-preserved
loop-j-preserved c = deinterleaving_more refl c.eight_bits_apart.ensures (omega arith) c.loop-j.invariant

pub returns : goal.returns
returns c = deinterleaving_end (omega arith) c.loop-j.invariant
