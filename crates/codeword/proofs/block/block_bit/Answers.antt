-- `codeword::block::block_bit` meets its contract: past the last byte every place is 0.
use native.Mathlib.Omega.{arith}
use Rattle.codeword.proofs.Interleaving.{bit_past}
use Rattle.codeword.proofs.block.block_bit.Goals as goal

pub returns-else-p-block : goal.returns-else-p-block
returns-else-p-block c = bit_past _ _ (omega arith)
