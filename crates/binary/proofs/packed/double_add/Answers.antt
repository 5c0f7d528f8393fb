-- `binary::packed::double_add` meets its contract: the first i numbers are done, and the carry is what came up.
use native.Mathlib.Omega.{arith}
use mathlib.Core.Path.{refl}
use lib.ListN.{length-set}
use Rattle.field.proofs.Xor.{digit_lt}
use Rattle.binary.proofs.Passing.{passing_start, passing_more, passing_end, carry_lt}
use Rattle.binary.proofs.packed.double_add.Goals as goal

pub loop-i-init : goal.loop-i-init
loop-i-init c = let p = c.requires in (refl, p.0, p.1, passing_start)

pub overflow_add-w : goal.overflow_add-w
overflow_add-w c = let v = c.loop-i.invariant in omega (arith, carry_lt v.3)

pub loop-i-preserved : goal.loop-i-preserved
loop-i-preserved c = let v = c.loop-i.invariant in (simp length-set v.0, v.1, v.2, passing_more v.3 (omega arith) (c.type_inv.g _).fits v.2 refl (omega arith) refl)

pub returns : goal.returns
returns c = let v = c.loop-i.invariant in passing_end (omega arith) v.0 v.1 (digit_lt c.args.selector) v.3
