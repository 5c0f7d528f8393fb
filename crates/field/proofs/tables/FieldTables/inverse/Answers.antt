-- `field::tables::FieldTables::inverse` meets its contract: 0 has no inverse; the power that completes the round is that of any other.
use Rattle.field.proofs.Shifts.{inverse_absent}
use Rattle.field.proofs.Products.{by_back}
use Rattle.field.proofs.tables.FieldTables.inverse.Goals as goal

pub returns-then-a-eq0 : goal.returns-then-a-eq0
returns-then-a-eq0 c = inverse_absent c.args.self.now.filled.degree _ c.if-a-eq0.true

pub returns-else-a-eq0 : goal.returns-else-a-eq0
returns-else-a-eq0 c = by_back c.args.self.now.filled c.requires c.if-a-eq0.false c.log.ensures c.order.ensures
