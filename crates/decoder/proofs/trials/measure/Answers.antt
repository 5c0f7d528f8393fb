-- `decoder::trials::measure` meets its contract: one law for each exit.
use native.Mathlib.Omega.{arith}
use Rattle.decoder.proofs.Weighing.{marks_most, unmarked_most}
use Rattle.decoder.proofs.trials.measure.Goals as goal

pub overflow_mul-e : goal.overflow_mul-e
overflow_mul-e c = let p = c.requires in omega (arith, c.unmarked_differences-e.ensures, p.1, p.0.few, p.0.marks_long, marks_most c.args.marks.now, unmarked_most c.args.word.now c.args.marks.now c.args.decoded.now)

pub overflow_add-e : goal.overflow_add-e
overflow_add-e c = let p = c.requires in omega (arith, c.unmarked_differences-e.ensures, p.1, p.0.few, p.0.marks_long, marks_most c.args.marks.now, unmarked_most c.args.word.now c.args.marks.now c.args.decoded.now)
