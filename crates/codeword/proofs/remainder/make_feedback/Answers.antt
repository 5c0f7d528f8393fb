-- `codeword::remainder::make_feedback` meets its contract: what comes up past the last number is dropped.
use native.Mathlib.Omega.{arith}
use mathlib.Core.Path.{sym, ◌∙◌}
use Rattle.codeword.proofs.Words.{lengths_of, tables_room, feedback_made}
use Rattle.codeword.proofs.remainder.make_feedback.Goals as goal

pub times_generator-requires : goal.times_generator-requires
times_generator-requires c = let u = c.requires.0 in let f = c.requires.2 in
    (lengths_of u, u.rising, f.long ∙ sym c.power_of_x.auto.w, f.empty, tables_room 255 256 u (omega arith) (omega arith))

pub returns : goal.returns
returns c = let p = c.requires in let a = c.args in
    feedback_made a.representatives.now a.feedback.now p.0.length_stated p.1 p.2.room c.power_of_x.auto.w c.times_generator.auto.product
    c.power_of_x.ensures c.times_generator.ensures
