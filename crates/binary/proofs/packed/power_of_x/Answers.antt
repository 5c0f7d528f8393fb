-- `binary::packed::power_of_x` meets its contract: one digit in the number that has its place.
use native.Mathlib.Omega.{arith}
use mathlib.Core.Path.{refl}
use Rattle.binary.proofs.Passing.{packed_one, packed_past}
use Rattle.binary.proofs.packed.power_of_x.Goals as goal

pub returns-then-i-w : goal.returns-then-i-w
returns-then-i-w c = packed_one c.args.w.now c.args.i c.requires c.if-i-w.true refl

pub returns-else-i-w : goal.returns-else-i-w
returns-else-i-w c = packed_past c.args.w.now c.args.i c.requires (omega (arith, c.if-i-w.false))
