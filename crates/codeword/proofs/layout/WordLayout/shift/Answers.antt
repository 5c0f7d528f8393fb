-- `codeword::layout::Word::shift` meets its contract: the weight of a word's place.
use native.Mathlib.Omega.{arith}
use Rattle.codeword.specs.Place.{word_is}
use Rattle.codeword.proofs.layout.WordLayout.shift.Goals as goal

pub returns : goal.returns
returns c = (word_is c.args.i, omega arith)
