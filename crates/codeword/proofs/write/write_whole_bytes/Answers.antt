-- `codeword::write::write_whole_bytes` meets its contract: the first j bytes stand.
use native.Mathlib.Omega.{arith}
use mathlib.Core.Path.{refl}
use Rattle.codeword.proofs.Words.{bytes_read_start, bytes_read_more, bytes_read_end}
use Rattle.codeword.proofs.write.write_whole_bytes.Goals as goal

pub loop-j-init : goal.loop-j-init
loop-j-init c = bytes_read_start

pub loop-j-preserved : goal.loop-j-preserved
loop-j-preserved c = bytes_read_more c.loop-j.invariant refl (omega (arith, c.requires.0)) c.eight_places.ensures (omega arith)

pub returns : goal.returns
returns c = bytes_read_end (omega arith) c.loop-j.invariant
