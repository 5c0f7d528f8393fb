-- `codeword::block::eight_bits_apart` meets its contract: one bit more at each turn.
use native.Mathlib.Omega.{arith}
use mathlib.Core.Path.{◌∙◌}
use Rattle.codeword.proofs.Interleaving.{gathering_start, gathering_more, gathering_end}
use Rattle.codeword.proofs.block.eight_bits_apart.Goals as goal

pub loop-k-init : goal.loop-k-init
loop-k-init c = (gathering_start, omega arith)

pub loop-k-preserved : goal.loop-k-preserved
loop-k-preserved c = (gathering_more (c.from.ensures ∙ c.block_bit.ensures) c.loop-k.invariant.0, omega arith)

pub returns : goal.returns
returns c = gathering_end (omega (arith, c.loop-k.invariant.1)) c.loop-k.invariant.0
