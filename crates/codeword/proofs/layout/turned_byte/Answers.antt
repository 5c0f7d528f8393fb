-- `codeword::layout::turned_byte` meets its contract: tried for every byte.
use Rattle.codeword.proofs.Eight.{turning}
use Rattle.codeword.proofs.layout.turned_byte.Goals as goal

pub returns : goal.returns
returns c = turning c.args.b c.requires
