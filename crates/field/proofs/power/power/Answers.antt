-- `field::power::power` meets its contract: r x^e is a^k before each turn.
use native.Mathlib.Omega.{arith}
use mathlib.Core.Path.{sym, ◌∙◌}
use Rattle.field.proofs.Numbers.{one_lt, product_lt}
use Rattle.field.proofs.Shifts.{power_start, power_turn, power_end}
use Rattle.field.proofs.power.power.Goals as goal

pub loop-e-init : goal.loop-e-init
loop-e-init c = let d = c.requires.0 in record { r_element = one_lt d; x_element = c.requires.1; same = power_start d _ _ }

pub loop-e-preserved : goal.loop-e-preserved
loop-e-preserved c = let d = c.requires.0 in let r = c.with_factor-r.ensures in let x = c.multiply-x.ensures in record {
  r_element = product_lt d _ _ r;
  x_element = product_lt d _ _ x;
  same = power_turn d _ _ _ _ _ r x ∙ c.loop-e.invariant.same;
}

pub returns : goal.returns
returns c = let v = c.loop-e.invariant in sym (power_end c.requires.0 _ _ _ v.r_element (omega arith)) ∙ v.same
