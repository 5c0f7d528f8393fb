-- `locator::terms::list_terms` meets its contract: the first k coefficients are listed.
use Rattle.locator.proofs.Walking.{Loop}
use Rattle.locator.proofs.terms.list_terms.Given as goal

abbrev pub invariant-loop-k : goal.invariant-loop-k
invariant-loop-k l =
    Loop l.s l.back l.f l.u l.end l.locator l.logs l.initial.terms l.initial.lanes l.terms l.lanes l.c l.at l.y l.k
