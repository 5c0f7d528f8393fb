-- `sheet::header::wrong_code_length` meets its contract: the tests are the definition's.
use Rattle.std.proofs.Common.{arith}
use Rattle.std.proofs.lemmas.Grind.{common_steps}
use Rattle.std.proofs.lemmas.Bool.Decides.{nat_tests}
use Rattle.document.specs.Sheet.{wrong_code_length}
use Rattle.sheet.proofs.header.wrong_code_length.Goals as goal

pub returns-then-n-lt3 : goal.returns-then-n-lt3
unfolding wrong_code_length
returns-then-n-lt3 c = grind (arith, common_steps, nat_tests)

pub returns-else-n-lt3 : goal.returns-else-n-lt3
unfolding wrong_code_length
returns-else-n-lt3 c = grind (arith, common_steps, nat_tests)
