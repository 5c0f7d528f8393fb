-- `judging::weigh::weigh` meets its contract: all certificates so far pass, and the best is the working one among them.
use Rattle.judging.proofs.Weighing.{Weighing}
use Rattle.judging.proofs.weigh.weigh.Given as goal

abbrev pub invariant-loop-i : goal.invariant-loop-i
invariant-loop-i l = Weighing l.most l.n l.i l.best l.certificates l.zeros
