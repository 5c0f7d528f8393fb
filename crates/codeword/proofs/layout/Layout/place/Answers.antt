-- `codeword::layout::Layout::place` meets its contract: the law of any layout.
use Rattle.codeword.proofs.Places.{read}
use Rattle.codeword.proofs.layout.Layout.place.Goals as goal

pub returns : goal.returns
returns g c = read g.met.Self.Layout.weights _ _ _ c.shift.ensures.0
