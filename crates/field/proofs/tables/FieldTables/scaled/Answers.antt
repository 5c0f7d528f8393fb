-- `field::tables::FieldTables::scaled` meets its contract: the exponents add up.
use Rattle.field.proofs.Products.{none_right, by_log}
use Rattle.field.proofs.tables.FieldTables.scaled.Goals as goal

pub returns-then-a-eq0 : goal.returns-then-a-eq0
returns-then-a-eq0 c = none_right _ c.args.self.now.filled c.if-a-eq0.true

pub returns : goal.returns
returns c = let p = c.requires in by_log c.args.self.now.filled p.0 p.1 c.if-a-eq0.false c.log.ensures
