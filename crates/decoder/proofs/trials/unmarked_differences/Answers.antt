-- `decoder::trials::unmarked_differences` meets its contract: byte by byte.
use native.Mathlib.Omega.{arith}
use Rattle.decoder.proofs.Weighing.{summed_start, summed_more, unmarked_at, unmarked_lt, unmarked_byte, unmarked_sum}
use Rattle.decoder.proofs.trials.unmarked_differences.Goals as goal

pub loop-j-init : goal.loop-j-init
loop-j-init c = (summed_start _, omega arith)

pub loop-j-preserved : goal.loop-j-preserved
loop-j-preserved c = ((summed_more (unmarked_at c.args.word.now c.args.marks.now c.args.other.now) c.loop-j.j _ (unmarked_lt c.args.word.now c.args.marks.now c.args.other.now c.loop-j.j (omega arith) (omega (arith, c.requires.marks_long)) (omega (arith, c.requires.other_long)) (omega (arith, c.type_inv.word c.loop-j.j)) (omega (arith, c.type_inv.marks c.loop-j.j)) (omega (arith, c.type_inv.other c.loop-j.j))) (unmarked_byte c.args.word.now c.args.marks.now c.args.other.now c.loop-j.j (omega arith) (omega (arith, c.requires.marks_long)) (omega (arith, c.requires.other_long)) (omega (arith, c.type_inv.word c.loop-j.j)) (omega (arith, c.type_inv.marks c.loop-j.j)) (omega (arith, c.type_inv.other c.loop-j.j))) c.loop-j.invariant.0).1, omega arith)

pub returns : goal.returns
returns c = unmarked_sum _ _ _ c.loop-j.j (omega arith) c.loop-j.invariant.0
