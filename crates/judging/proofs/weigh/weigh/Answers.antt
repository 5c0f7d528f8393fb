-- `judging::weigh::weigh` meets its contract: all certificates so far pass, and the best is the working one among them.
use native.Mathlib.Omega.{arith}
use mathlib.Core.Path.{refl}
use Rattle.std.proofs.lemmas.Result.{err_from_is_err_and}
use Rattle.judging.proofs.Weighing.{weighing_start, weighing_stop, weighing_more, weighing_end}
use Rattle.judging.proofs.weigh.weigh.Goals as goal

pub loop-i-init : goal.loop-i-init
loop-i-init c = weighing_start

pub returns-in_err-d-clause-weighed : goal.returns-in_err-d-clause-weighed
returns-in_err-d-clause-weighed c = let p = err_from_is_err_and c.from_residual.result c.from_residual.ensures.1 in
    rw (p.1, p.2) (weighing_stop c.loop-i.invariant c.in_err-d.field-0.0 refl (omega arith) c.in_err-d.ensures.checked)

pub loop-i-preserved : goal.loop-i-preserved
loop-i-preserved c = weighing_more c.loop-i.invariant refl c.in_ok-d.ensures.small c.in_ok-d.ensures.checked c.better-best.ensures

pub returns-clause-weighed : goal.returns-clause-weighed
returns-clause-weighed c = weighing_end c.loop-i.invariant (omega arith) (omega arith)
