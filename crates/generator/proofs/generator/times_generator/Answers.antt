-- `generator::generator::times_generator` meets its contract: the product with the generator of the representatives from i on stands.
use native.Mathlib.Omega.{arith}
use mathlib.Core.Path.{refl}
use Rattle.binary.proofs.Packing.{packed_lt}
use Rattle.generator.proofs.Assembly.{making_start, making_more}
use Rattle.generator.proofs.generator.times_generator.Goals as goal

pub loop-i-init : goal.loop-i-init
loop-i-init c = let p = c.requires in making_start (packed_lt c.args.product.now (λ i. omega (arith, c.type_inv.product i))) p.3 p.2

pub loop-i-preserved : goal.loop-i-preserved
loop-i-preserved c = let p = c.requires in
    making_more p.0 p.1 c.loop-i-test.true (omega (arith, c.loop-i.auto.i)) refl c.loop-i.invariant c.times_coset.ensures c.times_coset.auto.product c.times_coset.auto.other
