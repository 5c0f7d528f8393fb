-- `sheet::cosets::mark` meets its contract: x is r 2^j, and the members met so far are marked and compared.
use native.Mathlib.Omega.{arith}
use Rattle.field.proofs.OrderOfTwo.{count_lt}
use Rattle.sheet.proofs.Marking.{is_below_le, turned_start, turned_more, turned_end}
use Rattle.document.proofs.Cosets.{walk_start, walk_more}
use Rattle.sheet.proofs.cosets.mark.Goals as goal

pub loop-j-init : goal.loop-j-init
loop-j-init c = let p = c.requires in (p.0, p.2, omega arith, walk_start p.2, turned_start)

pub loop-j-preserved : goal.loop-j-preserved
loop-j-preserved c = let v = c.loop-j.invariant in let y = c.twice-x.ensures in (
  v.0,
  count_lt v.0 _ _ y,
  omega (arith, c.from-low.ensures, is_below_le c.loop-j.x c.args.r),
  walk_more v.0 _ _ v.3 y,
  rw (← c.from-low.ensures) at (turned_more (omega arith) v.1 v.3 v.4),
)

pub returns : goal.returns
returns c = let v = c.loop-j.invariant in turned_end v.0 (omega (arith, c.requires.1)) v.4
