-- `sheet::cosets::wrong_representative` meets its contract: the representatives so far are right, and their cosets marked.
use native.Mathlib.Omega.{arith}
use Rattle.sheet.proofs.Listed.{walk_range, walk_order, walk_coset, walk_more, walk_end}
use Rattle.sheet.proofs.cosets.wrong_representative.Goals as goal
use Rattle.sheet.proofs.cosets.wrong_representative.Goals.{then-n-r-via-then-n-r, then-n-r-via-else-n-r+then-r-least, then-n-r-via-else-n-r+else-r-least+then-mark-ne0}

pub returns-then-n-r : goal.returns-then-n-r
returns-then-n-r c = let l = c.loop-r in elim c.then-n-r.branch [
  | then-n-r-via-then-n-r w ↦ rw w.zeros-is (walk_range l.invariant (omega arith) (omega (arith, c.from-r.ensures, w.if-n-r.true)))
  | then-n-r-via-else-n-r+then-r-least w ↦ rw w.zeros-is (walk_order l.invariant (omega arith) (omega (arith, c.from-r.ensures, w.if-r-least.true)))
  | then-n-r-via-else-n-r+else-r-least+then-mark-ne0 w ↦ rw w.zeros-is (walk_coset l.invariant (omega arith) (rw c.from-r.ensures at w.mark.ensures) w.if-mark-ne0.true)
]

pub loop-r-preserved : goal.loop-r-preserved
loop-r-preserved c = let l = c.loop-r in let e = c.from-r.ensures in
    rw e (walk_more l.invariant (omega arith) (omega (arith, e)) (omega (arith, e)) c.mark.auto.zeros (rw e at c.mark.ensures) (omega arith))

pub returns : goal.returns
returns c = let l = c.loop-r in walk_end l.invariant (omega arith) (omega arith)
