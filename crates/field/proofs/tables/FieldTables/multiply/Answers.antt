-- `field::tables::FieldTables::multiply` meets its contract: the product is the power at the sum of the logarithms.
use Rattle.field.proofs.Products.{none_left, none_right, by_logs}
use Rattle.field.proofs.tables.FieldTables.multiply.Goals as goal

pub returns-then-a-eq0 : goal.returns-then-a-eq0
returns-then-a-eq0 c = none_left _ c.args.self.now.filled c.if-a-eq0.true

pub returns-then-b-eq0 : goal.returns-then-b-eq0
returns-then-b-eq0 c = none_right _ c.args.self.now.filled c.if-b-eq0.true

pub returns : goal.returns
returns c = let p = c.requires in by_logs c.args.self.now.filled p.0 p.1 c.if-a-eq0.false c.if-b-eq0.false c.log.ensures c.log-2.ensures
