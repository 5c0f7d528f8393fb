-- `generator::coset::factor_by_products` meets its contract: the value is that over the members met, and the root is that of the next.
use Prim.Native.Nat.{◌-◌}
use Rattle.generator.proofs.ByProducts.{Multiplying}
use Rattle.generator.proofs.coset.factor_by_products.Given as goal

abbrev pub invariant-loop-x : goal.invariant-loop-x
invariant-loop-x l = Multiplying l.n l.s l.r l.degree l.x l.root l.value

abbrev pub decreases-loop-x : goal.decreases-loop-x
decreases-loop-x l = l.s - l.degree
