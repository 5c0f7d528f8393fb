-- `field::tables::fill_round` meets its contract: x is ω^i, and the entries of the powers below i are set.
use native.Mathlib.Omega.{arith}
use mathlib.Core.Path.{◌∙◌}
use Rattle.field.proofs.Numbers.{one_lt, product_lt}
use Rattle.field.proofs.Filling.{powers_none, powers_more, first_power, next_power, logs_none, logs_more}
use Rattle.field.proofs.Shifts.{mask_degree, doubled_is}
use Rattle.field.proofs.tables.fill_round.Goals as goal

pub loop-i-init : goal.loop-i-init
loop-i-init c = record { element = one_lt c.requires.0.degree; power = first_power _; powers = powers_none; logs = logs_none }

pub times_x-x-requires : goal.times_x-x-requires
times_x-x-requires c = (mask_degree c.requires.0.degree (c.mask-m.ensures), c.loop-i.invariant.element)

pub loop-i-preserved : goal.loop-i-preserved
loop-i-preserved c =
    let m = c.mask-m.ensures in let v = c.loop-i.invariant in let d = c.requires.0.degree in let y = c.times_x-x.ensures ∙ doubled_is _ _ m in let k = c.requires.0.g_long in
    record {
      element = product_lt d _ _ y;
      power = next_power _ _ v.power y;
      powers = powers_more (omega arith) v.power v.powers;
      logs = rw c.from.ensures (logs_more d (omega arith) (omega arith) v.power v.logs);
    }
