-- `binary::independence::strike_rows` meets its contract: one product takes row 0 off all the rows that are to lose it.
use Rattle.binary.proofs.RowsHeld.{rows_struck}
use Rattle.binary.proofs.independence.strike_rows.Goals as goal

pub returns : goal.returns
returns c = rows_struck _ _ c.requires
