-- `dunefork::dunefork_shown_length` meets its contract: the length of the part.
use mathlib.Core.Path.{ap}
use lib.ListN.{length}
use Rattle.dunefork.proofs.dunefork_shown_length.Goals as goal

pub returns : goal.returns
returns c = ap length c.shown.ensures
