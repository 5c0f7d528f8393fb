-- `certificate::rules::wrong_terms` meets its contract: num is the register, at its place, and no term before is out of D.
use Rattle.certificate.proofs.Terms.{Going}
use Rattle.certificate.proofs.rules.wrong_terms.Given as goal

abbrev pub invariant-loop-term : goal.invariant-loop-term
invariant-loop-term l = Going l.n l.c l.zeros l._term l.num l.at
