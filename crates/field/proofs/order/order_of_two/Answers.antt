-- `field::order::order_of_two` meets its contract: x is 2^s modulo n, and s is not past the order, which is below n.
use native.Mathlib.Omega.{arith}
use Rattle.field.proofs.OrderOfTwo.{order_lt, order_pos, count_start, count_on, count_more, count_lt, count_end}
use Rattle.field.proofs.order.order_of_two.Goals as goal

pub loop-x-init : goal.loop-x-init
loop-x-init c =
    record { below = omega (arith, c.requires.least); power = count_start c.requires; counted = omega arith; most = order_pos _ }

pub overflow_add-s : goal.overflow_add-s
overflow_add-s c = omega (arith, order_lt c.requires, c.requires.most, c.loop-x.invariant.most)

pub loop-x-smaller : goal.loop-x-smaller
loop-x-smaller c = let v = c.loop-x.invariant in let l = count_on c.requires _ _ v.power v.most c.loop-x-test.true in omega arith

pub loop-x-preserved : goal.loop-x-preserved
loop-x-preserved c = let n = c.requires in let v = c.loop-x.invariant in
    let l = count_on n _ _ v.power v.most c.loop-x-test.true in record {
      below = count_lt n _ _ c.twice-x.ensures;
      power = count_more n _ _ _ v.power c.twice-x.ensures;
      counted = omega arith;
      most = omega arith;
    }

pub returns : goal.returns
returns c = let v = c.loop-x.invariant in count_end c.requires _ _ v.power v.counted v.most (omega arith)
