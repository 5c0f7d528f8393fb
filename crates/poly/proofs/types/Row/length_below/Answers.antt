-- `poly::types::Row::length_below` meets its contract: the slice is cut where there is nothing left.
use Rattle.poly.proofs.Slices.{length_cut}
use Rattle.poly.proofs.types.Row.length_below.Goals as goal

pub returns : goal.returns
returns c = length_cut c.requires.0 c.requires.1 c.length_of.ensures
