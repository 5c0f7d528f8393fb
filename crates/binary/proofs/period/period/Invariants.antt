-- `binary::period::period` meets its contract: a is x^p modulo f, and p is not past the period, which is below 2^u.
use mathlib.Core.Path.{◌≡◌}
use Prim.Native.Nat.{◌-◌, ◌^◌, ◌≤◌, ◌<◌}
use Rattle.field.specs.Mask.{remainder as remainderOf}
use Rattle.binary.specs.Factor.{Modulus, period as periodOf}
use Rattle.binary.proofs.period.period.Given as goal

abbrev pub invariant-loop-a : goal.invariant-loop-a
invariant-loop-a l = Modulus l.f l.u × (l.a < 2 ^ l.u) × (l.a ≡ remainderOf l.u l.f (2 ^ l.p)) × (0 < l.p) × (l.p ≤ periodOf l.f)

abbrev pub decreases-loop-a : goal.decreases-loop-a
decreases-loop-a l = periodOf l.f - l.p
