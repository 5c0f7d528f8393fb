-- `codeword::layout::Word::lowest_first` meets its contract: the byte turned.
use mathlib.Core.Path.{ap, ◌∙◌}
use Rattle.document.specs.Layout.{word_weight}
use Rattle.codeword.specs.Place.{lowest_first}
use Rattle.codeword.proofs.Eight.{turned_is}
use Rattle.codeword.proofs.layout.WordLayout.lowest_first.Goals as goal

pub returns : goal.returns
returns c = c.turned_byte.ensures ∙ turned_is c.from.result ∙ ap (lowest_first word_weight) c.from.ensures
