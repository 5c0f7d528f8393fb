-- `binary::common::common` meets its contract: x and y have the common divisors of f and h, and x is within their search.
use native.Mathlib.Omega.{arith}
use Rattle.binary.proofs.CommonFactor.{remainder_bound, ratio_bounds, factors_start, factors_turn, factors_end}
use Rattle.binary.proofs.common.common.Goals as goal

pub loop-y-init : goal.loop-y-init
loop-y-init c = let b = ratio_bounds c.requires in (c.requires.two, c.requires.cap, b.0, b.1, factors_start _ _)

pub loop-y-smaller : goal.loop-y-smaller
loop-y-smaller c = remainder_bound _ (omega arith) _ c.remainder-r.ensures

pub loop-y-preserved : goal.loop-y-preserved
loop-y-preserved c = let v = c.loop-y.invariant in let r = c.remainder-r.ensures in let two = c.loop-y-test.true in
    (two, omega (arith, v.1, v.2), remainder_bound _ two _ r, omega (arith, v.2, v.3), factors_turn two r v.4)

pub returns : goal.returns
returns c = let v = c.loop-y.invariant in factors_end (omega arith) v.0 v.3 v.4
