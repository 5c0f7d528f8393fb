-- `codeword::layout::Message::lowest_first` meets its contract: the byte as it is.
use mathlib.Core.Path.{◌∙◌}
use Rattle.codeword.proofs.Eight.{unturned_is}
use Rattle.codeword.proofs.layout.MessageLayout.lowest_first.Goals as goal

pub returns : goal.returns
returns c = c.from.ensures ∙ unturned_is c.args.byte c.ranges.byte.fits
