-- `PowerTable::term` meets its contract: the table holds the power at the folded exponent.
use Rattle.field.proofs.Exponents.{looked}
use Rattle.field.proofs.tables.PowerTable.term.Goals as goal

pub returns : goal.returns
returns c = let f = c.index.ensures in looked _ _ _ c.args.self.now.powered f.0 f.1
