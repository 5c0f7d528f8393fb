-- `field::product::mask` meets its contract: the table is the definition's, entry by entry.
use mathlib.Core.Path.{refl}
use Rattle.field.specs.Field.{masks, mask as tableMask}
use Rattle.field.proofs.product.mask.Goals as goal

pub returns : goal.returns
unfolding masks tableMask
returns c = refl
