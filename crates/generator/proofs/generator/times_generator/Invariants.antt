-- `generator::generator::times_generator` meets its contract: the product with the generator of the representatives from i on stands.
use Rattle.generator.proofs.Assembly.{Making}
use Rattle.generator.proofs.generator.times_generator.Given as goal

abbrev pub invariant-loop-i : goal.invariant-loop-i
invariant-loop-i l = Making l.n l.i l.representatives l.initial.product l.product l.other
