-- `generator::coset::from_value` meets its contract: a mask of degree s is its value and the field's mask, and else its value.
use Rattle.generator.proofs.CosetValue.{from_whole, from_short}
use Rattle.generator.proofs.coset.from_value.Goals as goal

pub returns-then-degree-s : goal.returns-then-degree-s
returns-then-degree-s c = from_whole c.requires _ c.if-degree-s.true c.mask.ensures

pub returns-else-degree-s : goal.returns-else-degree-s
returns-else-degree-s c = from_short c.requires _ c.if-degree-s.false
