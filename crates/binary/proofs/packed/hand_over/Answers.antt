-- `binary::packed::hand_over` meets its contract: the first i numbers are handed over.
use native.Mathlib.Omega.{arith}
use mathlib.Core.Path.{refl}
use lib.ListN.{length-set}
use Rattle.binary.proofs.Passing.{handing_start, handing_more, handing_end}
use Rattle.binary.proofs.packed.hand_over.Goals as goal

pub loop-i-init : goal.loop-i-init
loop-i-init c = (refl, refl, c.requires, handing_start)

pub loop-i-preserved : goal.loop-i-preserved
loop-i-preserved c = let v = c.loop-i.invariant in (simp length-set v.0, simp length-set v.1, v.2, handing_more v.3 (omega arith) (omega arith))

pub returns : goal.returns
returns c = let v = c.loop-i.invariant in handing_end (omega arith) v.0 (omega (arith, v.1, v.2)) v.3
