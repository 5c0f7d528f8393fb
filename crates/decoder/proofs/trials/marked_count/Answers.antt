-- `decoder::trials::marked_count` meets its contract: byte by byte.
use native.Mathlib.Omega.{arith}
use Rattle.decoder.proofs.Weighing.{summed_start, summed_more, marks_at, marks_byte, marks_sum}
use Rattle.decoder.proofs.trials.marked_count.Goals as goal

pub loop-byte-init : goal.loop-byte-init
loop-byte-init c = (summed_start _, omega arith)

pub loop-byte-preserved : goal.loop-byte-preserved
loop-byte-preserved c = let i = c.loop-byte.byte-index in
    ((summed_more (marks_at c.args.marks.now) i _ (omega (arith, c.type_inv.marks i)) (marks_byte c.args.marks.now i (omega arith) (omega (arith, c.type_inv.marks i))) c.loop-byte.invariant.0).1, omega arith)

pub returns : goal.returns
returns c = marks_sum _ c.loop-byte.byte-index (omega arith) c.loop-byte.invariant.0
