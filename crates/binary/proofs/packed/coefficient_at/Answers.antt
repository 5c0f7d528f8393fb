-- `binary::packed::coefficient_at` meets its contract: the law of coefficients.
use mathlib.Core.Path.{sym, ◌∙◌}
use lib.Bits.{and_mask}
use Rattle.binary.proofs.Packing.{coefficient_packed}
use Rattle.binary.proofs.packed.coefficient_at.Goals as goal

pub returns : goal.returns
returns c = and_mask _ 1 ∙ sym (coefficient_packed _ (λ i. (c.type_inv.w i).fits) _)
