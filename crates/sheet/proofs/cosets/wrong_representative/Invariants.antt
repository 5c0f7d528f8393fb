-- `sheet::cosets::wrong_representative` meets its contract: the representatives so far are right, and their cosets marked.
use Rattle.sheet.proofs.Listed.{Walk}
use Rattle.sheet.proofs.cosets.wrong_representative.Given as goal

abbrev pub invariant-loop-r : goal.invariant-loop-r
invariant-loop-r l = Walk l.n l.s l.representatives l.r-index l.least l.zeros
