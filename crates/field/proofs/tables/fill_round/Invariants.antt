-- `field::tables::fill_round` meets its contract: x is ω^i, and the entries of the powers below i are set.
use mathlib.Core.Path.{◌≡◌}
use Prim.Native.Nat.{◌^◌, ◌<◌}
use Rattle.field.specs.Field.{ω, field_power}
use Rattle.field.specs.Tables.{Powers, Logs}
use Rattle.field.proofs.tables.fill_round.Given as goal

abbrev pub invariant-loop-i : goal.invariant-loop-i
invariant-loop-i l = record {
  element : l.x < 2 ^ l.s;
  power : l.x ≡ field_power l.s ω l.i;
  powers : Powers l.s l.i l.powers;
  logs : Logs l.s l.i l.initial.logs l.logs;
}
