-- `codeword::layout::four_word_places` meets its contract: half a byte, bit by bit.
use Rattle.codeword.proofs.Places.{four_are}
use Rattle.codeword.proofs.layout.four_word_places.Goals as goal

pub returns : goal.returns
returns c = rw c.from.ensures (four_are c.args.bytes.now c.args.i c.requires.1)
