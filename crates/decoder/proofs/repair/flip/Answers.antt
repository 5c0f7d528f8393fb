-- `decoder::repair::flip` meets its contract: the places of the list so far are changed.
use native.Mathlib.Omega.{arith}
use Prim.Native.Nat.{◌-◌}
use mathlib.Core.Path.{refl, ap}
use Rattle.decoder.proofs.Repairing.{bit_le, repaired_start, repaired_more}
use Rattle.decoder.proofs.repair.flip.Goals as goal

pub loop-place-init : goal.loop-place-init
loop-place-init c = (refl, omega arith, repaired_start)

pub overflow_sub-bit : goal.overflow_sub-bit
overflow_sub-bit c = omega (arith, bit_le _ _ c.place-bit.ensures)

pub loop-place-preserved : goal.loop-place-preserved
loop-place-preserved c = let v = c.loop-place.invariant in (omega (arith, v.0, c.set_place.auto.bytes), omega arith, repaired_more c.from-i.ensures (ap (λ x. 1 - x) c.place-bit.ensures) c.set_place.ensures v.2)
