-- `codeword::layout::bytes_for` meets its contract: rounded up.
use native.Mathlib.Omega.{arith}
use Rattle.document.specs.Layout.{bytes_for}
use Rattle.codeword.proofs.layout.bytes_for.Goals as goal

pub returns : goal.returns
unfolding bytes_for
returns c = omega (arith, c.div_ceil.ensures)
