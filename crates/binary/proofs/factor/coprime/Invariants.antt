-- `binary::factor::coprime` meets its contract: x and y have the common divisors of a and b.
use Rattle.binary.proofs.Coprime.{SameDivisors}
use Rattle.binary.proofs.factor.coprime.Given as goal

abbrev pub invariant-loop-y : goal.invariant-loop-y
invariant-loop-y l = SameDivisors l.a l.b l.x l.y

abbrev pub decreases-loop-y : goal.decreases-loop-y
decreases-loop-y l = l.y
