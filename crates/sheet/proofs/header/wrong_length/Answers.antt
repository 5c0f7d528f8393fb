-- `sheet::header::wrong_length` meets its contract: the tests are the definition's.
use Rattle.std.proofs.Common.{arith}
use Rattle.std.proofs.lemmas.Grind.{common_steps}
use Rattle.std.proofs.lemmas.Bool.Decides.{nat_tests}
use Rattle.document.specs.Sheet.{wrong_length}
use Rattle.sheet.proofs.header.wrong_length.Goals as goal

pub returns-then-len-gt74 : goal.returns-then-len-gt74
unfolding wrong_length
returns-then-len-gt74 c = grind (arith, common_steps, nat_tests)

pub returns-else-len-gt74 : goal.returns-else-len-gt74
unfolding wrong_length
returns-else-len-gt74 c = grind (arith, common_steps, nat_tests)
