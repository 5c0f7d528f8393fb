-- `certificate::rules::wrong_terms` meets its contract: num is the register, at its place, and no term before is out of D.
use native.Mathlib.Omega.{arith}
use Rattle.certificate.proofs.Terms.{going_start, going_more, going_wrong, going_end, num_lt, f_fits}
use Rattle.certificate.proofs.rules.wrong_terms.Goals as goal

pub loop-term-init : goal.loop-term-init
loop-term-init c = going_start c.requires c.from-num.ensures c.from-at.ensures

pub returns-then-from-num : goal.returns-then-from-num
returns-then-from-num c = going_wrong c.requires c.loop-term.invariant (omega arith) (omega arith)

pub next_register-num-requires : goal.next_register-num-requires
next_register-num-requires c = (omega (arith, f_fits c.requires), num_lt c.requires c.loop-term.invariant.now)

pub loop-term-preserved : goal.loop-term-preserved
loop-term-preserved c = going_more c.requires c.loop-term.invariant (omega arith) (cc) (cc)

pub returns : goal.returns
returns c = going_end c.requires c.loop-term.invariant (omega arith)
