-- `codeword::layout::Message::shift` meets its contract: the weight of a message's place.
use native.Mathlib.Omega.{arith}
use Rattle.codeword.specs.Place.{message_is}
use Rattle.codeword.proofs.layout.MessageLayout.shift.Goals as goal

pub returns : goal.returns
returns c = (message_is c.args.i, omega arith)
