-- `codeword::layout::Layout::set_place` meets its contract: the law of any layout.
use Rattle.codeword.proofs.Places.{put}
use Rattle.codeword.proofs.layout.Layout.set_place.Goals as goal

pub returns : goal.returns
returns g c = put g.met.Self.Layout.weights _ _ _ c.requires.0 c.requires.1 _ c.shift-shift.ensures.0
