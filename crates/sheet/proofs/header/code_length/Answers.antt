-- `sheet::header::code_length` meets its contract: n is byte 2.
use mathlib.Core.Path.{sym, ◌∙◌}
use Rattle.document.proofs.Stated.{length_is}
use Rattle.document.specs.Short.{short}
use Rattle.sheet.proofs.header.code_length.Goals as goal

pub returns : goal.returns
returns c = (c.byte.ensures.0 ∙ sym (length_is short _), c.byte.ensures.1)
