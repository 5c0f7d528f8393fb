-- `field::product::multiply` meets its contract: the product modulo the table's mask.
use mathlib.Core.Path.{◌∙◌}
use Rattle.field.proofs.Shifts.{mask_degree, product_is}
use Rattle.field.proofs.product.multiply.Goals as goal

pub times_modulo-requires : goal.times_modulo-requires
times_modulo-requires c = let p = c.requires in (mask_degree p.0 c.mask.ensures, p.1, p.2)

pub returns : goal.returns
returns c = c.times_modulo.ensures ∙ product_is _ _ _ c.mask.ensures
