-- `sheet::read::representative_count` meets its contract: R is byte 3.
use native.Mathlib.Omega.{arith}
use mathlib.Core.Path.{sym, ◌∙◌}
use Rattle.document.proofs.Stated.{representatives_length}
use Rattle.document.specs.Short.{short}
use Rattle.sheet.proofs.read.representative_count.Goals as goal

pub returns : goal.returns
returns c = (c.byte.ensures.0 ∙ sym (representatives_length short _), let k = c.requires in omega (arith, k.few, c.byte.ensures.0))
