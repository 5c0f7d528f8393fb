-- `generator::coset::members` meets its contract: the degree counts the members met, and x is the next.
use Prim.Native.Nat.{◌-◌}
use Rattle.field.specs.Field.{order_of_two}
use Rattle.generator.proofs.CosetWalk.{Walking}
use Rattle.generator.proofs.coset.members.Given as goal

abbrev pub invariant-loop-x : goal.invariant-loop-x
invariant-loop-x l = Walking l.n l.r l.degree l.x

abbrev pub decreases-loop-x : goal.decreases-loop-x
decreases-loop-x l = order_of_two l.n - l.degree
