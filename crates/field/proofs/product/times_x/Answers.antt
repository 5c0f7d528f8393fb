-- `field::product::times_x` meets its contract: f is taken off exactly where the coefficient of x^s came up.
use Rattle.field.proofs.Shifts.{times_set, times_clear}
use Rattle.field.proofs.product.times_x.Goals as goal

pub returns-then-d-s-eq1 : goal.returns-then-d-s-eq1
returns-then-d-s-eq1 c = times_set c.requires.0 _ c.requires.1 c.if-d-s-eq1.true

pub returns-else-d-s-eq1 : goal.returns-else-d-s-eq1
returns-else-d-s-eq1 c = times_clear c.requires.0 _ c.requires.1 c.if-d-s-eq1.false
