-- `certificate::rules::next_register` meets its contract: by the lowest coefficient.
use native.Mathlib.Omega.{arith}
use Rattle.certificate.proofs.Terms.{register_set, register_clear}
use Rattle.certificate.proofs.rules.next_register.Goals as goal

pub returns-then-num-eq1 : goal.returns-then-num-eq1
returns-then-num-eq1 c = register_set _ _ (omega arith)

pub returns-else-num-eq1 : goal.returns-else-num-eq1
returns-else-num-eq1 c = register_clear _ _ (λ e. omega arith)
