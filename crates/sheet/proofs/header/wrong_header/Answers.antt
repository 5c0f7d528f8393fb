-- `sheet::header::wrong_header` meets its contract: the tests are the definition's.
use Rattle.std.proofs.Common.{arith}
use Rattle.std.proofs.lemmas.Grind.{common_steps}
use Rattle.std.proofs.lemmas.Bool.Decides.{nat_tests}
use Rattle.document.specs.Sheet.{wrong_header}
use Rattle.sheet.proofs.header.wrong_header.Goals as goal

pub returns-then-number-reps : goal.returns-then-number-reps
unfolding wrong_header
returns-then-number-reps c = grind (arith, common_steps, nat_tests)

pub returns-else-number-reps : goal.returns-else-number-reps
unfolding wrong_header
returns-else-number-reps c = grind (arith, common_steps, nat_tests)
