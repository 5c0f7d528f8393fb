-- `binary::independence::power_rows` meets its contract: row j is x^(n j) for j below i, and a is the last of them.
use mathlib.Core.Path.{◌≡◌}
use Prim.Native.Nat.{◌^◌, ◌≤◌}
use Rattle.field.specs.Mask.{remainder as remainderOf}
use Rattle.binary.specs.Factor.{Modulus}
use Rattle.binary.proofs.IndependentPowers.{HeldUpTo}
use Rattle.binary.proofs.independence.power_rows.Given as goal

abbrev pub invariant-loop-i : goal.invariant-loop-i
invariant-loop-i l = Modulus l.f l.u × (l.y ≡ remainderOf l.u l.f (2 ^ l.n)) × HeldUpTo l.u l.f l.n l.i l.rows l.a × (l.i ≤ l.u)
