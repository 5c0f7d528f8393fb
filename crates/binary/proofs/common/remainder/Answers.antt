-- `binary::common::remainder` meets its contract: the steps left, of r, give what all steps give of a.
use native.Mathlib.Omega.{arith}
use Rattle.binary.proofs.CommonFactor.{down_start, down_turn, down_end}
use Rattle.binary.proofs.common.remainder.Goals as goal

pub overflow_step-i : goal.overflow_step-i
overflow_step-i c = let p = c.requires in let v = down_start _ _ _ p.0 p.1 p.2 c.degree-s.ensures in omega (arith, v.0)

pub loop-i-init : goal.loop-i-init
loop-i-init c = let p = c.requires in let v = down_start _ _ _ p.0 p.1 p.2 c.degree-s.ensures in (p.2, omega (arith, v.0), v.1)

pub loop-i-preserved : goal.loop-i-preserved
loop-i-preserved c = let v = c.loop-i.invariant in (v.0, omega (arith, v.1), down_turn _ _ _ _ _ _ (omega arith) c.strike-r.ensures v.2)

pub returns : goal.returns
returns c = down_end _ _ _ _ _ (omega arith) c.loop-i.invariant.2
