-- `syndrome::values::conjugates` meets its contract: the first j members hold their values, and y is that of the next.
use native.Mathlib.Omega.{arith}
use lib.ListN.{length-set}
use Rattle.field.proofs.OrderOfTwo.{count_lt}
use Rattle.syndrome.proofs.Squares.{turning_more, turning_end}
use Rattle.syndrome.proofs.values.conjugates.Goals as goal

pub loop-j-preserved : goal.loop-j-preserved
loop-j-preserved c = let v = c.loop-j.invariant in (v.0, simp length-set v.1, omega arith, turning_more v.0 v.3 (omega (arith, v.0.long, v.1, v.3.x_lt)) c.twice-x.ensures (count_lt v.0.odd _ _ c.twice-x.ensures) c.multiply-y.ensures)

pub returns : goal.returns
returns c = let v = c.loop-j.invariant in turning_end v.0 (omega (arith, v.2)) v.3
