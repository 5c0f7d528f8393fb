-- `field::power::power` meets its contract: r x^e is a^k before each turn.
use mathlib.Core.Path.{◌≡◌}
use Prim.Native.Nat.{◌^◌, ◌<◌}
use Rattle.field.specs.Field.{field_multiply, field_power}
use Rattle.field.proofs.power.power.Given as goal

abbrev pub invariant-loop-e : goal.invariant-loop-e
invariant-loop-e l = record {
  r_element : l.r < 2 ^ l.s;
  x_element : l.x < 2 ^ l.s;
  same : field_multiply l.s l.r (field_power l.s l.x l.e) ≡ field_power l.s l.a l.k;
}

abbrev pub decreases-loop-e : goal.decreases-loop-e
decreases-loop-e l = l.e
