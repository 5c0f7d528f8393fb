-- `binary::independence::power_modulo` meets its contract: r is x to the number that the digits of n from i on make.
use mathlib.Core.Path.{◌≡◌}
use Prim.Native.Nat.{◌/◌, ◌^◌, ◌≤◌, ◌<◌}
use Rattle.field.specs.Mask.{remainder as remainderOf}
use Rattle.binary.specs.Factor.{Modulus}
use Rattle.binary.proofs.independence.power_modulo.Given as goal

abbrev pub invariant-loop-i : goal.invariant-loop-i
invariant-loop-i l = Modulus l.f l.u × (l.r < 2 ^ l.u) × (l.r ≡ remainderOf l.u l.f (2 ^ (l.n / 2 ^ l.i))) × (l.i ≤ 15)
