-- `binary::period::times_x` meets its contract: f is taken off exactly where the coefficient of x^u came up.
use Rattle.binary.proofs.MaskPeriod.{times_set, times_clear}
use Rattle.binary.proofs.period.times_x.Goals as goal

pub returns-then-d-u-eq1 : goal.returns-then-d-u-eq1
returns-then-d-u-eq1 c = let p = c.requires in times_set p.0 _ p.1 c.if-d-u-eq1.true

pub returns-else-d-u-eq1 : goal.returns-else-d-u-eq1
returns-else-d-u-eq1 c = let p = c.requires in times_clear p.0 _ p.1 c.if-d-u-eq1.false
