-- `generator::generator::times_coset` meets its contract: the factor of the coset is the generator of r alone.
use native.Mathlib.Omega.{arith}
use Rattle.generator.proofs.Assembly.{small_mask}
use Rattle.generator.proofs.generator.times_coset.Goals as goal

pub multiply-requires : goal.multiply-requires
multiply-requires c = let p = c.requires in (p.3, p.4, small_mask p.0 c.coset_factor-f.ensures, omega (arith, c.coset_factor-f.ensures.most, p.0.small))
