-- `binary::factor::coprime` meets its contract: x and y have the common divisors of a and b.
use native.Mathlib.Omega.{arith}
use mathlib.Core.Path.{refl, ◌∙◌}
use borrow.Author.Tests.{eq-eqb}
use Rattle.binary.proofs.Coprime.{divisors_turn, divisors_one, divisors_end}
use Rattle.binary.proofs.factor.coprime.Goals as goal

pub loop-y-preserved : goal.loop-y-preserved
loop-y-preserved c = divisors_turn refl c.loop-y.invariant

pub returns-then-y-eq1 : goal.returns-then-y-eq1
returns-then-y-eq1 c = eq-eqb _ 1 c.if-y-eq1.true ∙ divisors_one c.if-y-eq1.true c.loop-y.invariant

pub returns-else-y-eq1 : goal.returns-else-y-eq1
returns-else-y-eq1 c = divisors_end (omega arith) c.loop-y.invariant
