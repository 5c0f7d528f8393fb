-- `codeword::write::write_places` meets its contract: the places of the first j bytes stand.
use native.Mathlib.Omega.{arith}
use mathlib.Core.Path.{refl}
use Rattle.codeword.proofs.Eight.{turned_lt}
use Rattle.codeword.proofs.Words.{placing_start, placing_more, placing_end}
use Rattle.codeword.proofs.write.write_places.Goals as goal

pub loop-j-init : goal.loop-j-init
loop-j-init c = placing_start

pub overflow_cast-byte : goal.overflow_cast-byte
overflow_cast-byte c = omega (arith, c.turned_byte.ensures, turned_lt c.eight_codeword_places-eight.result)

pub loop-j-preserved : goal.loop-j-preserved
loop-j-preserved c = placing_more c.loop-j.invariant refl c.eight_codeword_places-eight.ensures c.turned_byte.ensures (omega arith)

pub returns : goal.returns
returns c = placing_end (omega arith) c.loop-j.invariant
