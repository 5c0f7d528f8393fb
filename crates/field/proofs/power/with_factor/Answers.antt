-- `field::power::with_factor` meets its contract: x^(e mod 2) is x or 1.
use Rattle.field.proofs.Shifts.{factor_set, factor_clear}
use mathlib.Core.Path.{◌∙◌}
use Rattle.field.proofs.power.with_factor.Goals as goal

pub returns-then-e-eq1 : goal.returns-then-e-eq1
returns-then-e-eq1 c = let p = c.requires in c.multiply.ensures ∙ factor_set p.0 _ _ _ p.2 c.if-e-eq1.true

pub returns-else-e-eq1 : goal.returns-else-e-eq1
returns-else-e-eq1 c = let p = c.requires in factor_clear p.0 _ _ _ p.1 c.if-e-eq1.false
