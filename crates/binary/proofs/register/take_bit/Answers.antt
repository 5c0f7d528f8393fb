-- `binary::register::take_bit` meets its contract: the highest place and the bit decide whether the feedback is added.
use native.Mathlib.Omega.{arith}
use mathlib.Core.Path.{refl}
use Rattle.binary.proofs.Feeding.{top_lt, fed_step}
use Rattle.binary.proofs.register.take_bit.Goals as goal

pub returns : goal.returns
returns c = let p = c.requires in let a = c.args in fed_step _ a.bit (top_lt a.register.now _ (λ i. omega (arith, c.slice_known-2-1.given i))) p.2 a.feedback.now a.register.now _ (λ i. omega (arith, c.slice_known-2-1.given i)) refl p.1 c.double_add.auto.w p.0 c.double_add.ensures
