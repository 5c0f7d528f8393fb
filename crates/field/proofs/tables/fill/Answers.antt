-- `field::tables::fill` meets its contract: each power past the first round is the one a round before it.
use native.Mathlib.Omega.{arith}
use Rattle.field.proofs.Filling.{powers_round, filled, fillable_kept}
use Rattle.field.proofs.tables.fill.Goals as goal

pub loop-i-preserved : goal.loop-i-preserved
loop-i-preserved c = powers_round c.requires.degree c.order-n.ensures (omega arith) (omega arith) c.loop-i.invariant

pub returns : goal.returns
returns c =
    filled (fillable_kept (omega arith) (omega arith) c.requires) c.order-n.ensures (omega arith) c.loop-i.invariant c.fill_round.ensures.1
