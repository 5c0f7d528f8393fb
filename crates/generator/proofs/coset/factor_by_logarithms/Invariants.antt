-- `generator::coset::factor_by_logarithms` meets its contract: the sum is the logarithm of the value over the members met.
use Prim.Native.Nat.{◌-◌}
use Rattle.generator.proofs.ByLogarithms.{Adding}
use Rattle.generator.proofs.coset.factor_by_logarithms.Given as goal

abbrev pub invariant-walk : goal.invariant-walk
invariant-walk l = Adding l.n l.tables.s l.r l.degree l.x l.sum

abbrev pub decreases-walk : goal.decreases-walk
decreases-walk l = l.tables.s - l.degree
