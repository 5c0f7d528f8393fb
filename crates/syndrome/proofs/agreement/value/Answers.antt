-- `syndrome::agreement::value` meets its contract: the first k places of the list are in the sum.
use native.Mathlib.Omega.{arith}
use Rattle.syndrome.proofs.ValueSums.{valuing_start, valuing_more}
use Rattle.syndrome.proofs.agreement.value.Goals as goal

pub loop-place-init : goal.loop-place-init
loop-place-init c = (omega arith, valuing_start)

pub loop-place-preserved : goal.loop-place-preserved
loop-place-preserved c = (omega arith, valuing_more c.args.power_table.now.powered.degree c.loop-place.invariant.1 c.term-acc.ensures)
