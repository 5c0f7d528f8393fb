-- `judging::judge::judge_code` meets its contract: each exit is the definition's, by the marks that refusal 5 leaves.
use native.Mathlib.Omega.{arith}
use mathlib.Core.Path.{sym, ◌∙◌}
use Rattle.std.proofs.lemmas.Result.{err_from_is_err_and}
use Rattle.judging.proofs.Weighing.{number_pos}
use Rattle.judging.proofs.Judging.{code_5, code_6, code_refused, code_accepted, size_is, size_le, none_left, some_left, record_is}
use Rattle.judging.proofs.Judging.{best_within}
use Rattle.judging.proofs.judge.judge_code.Goals as goal

pub returns-then-wrong_representative : goal.returns-then-wrong_representative
returns-then-wrong_representative c = code_5 _ _ (sym c.if-wrong_representative.true ∙ c.wrong_representative.ensures.is)

pub returns-then-size-n : goal.returns-then-size-n
returns-then-size-n c = let f = c.wrong_representative.ensures in let w = c.if-wrong_representative.false in
    code_6 _ _ (sym f.is ∙ w) (none_left _ _ _ (c.marks-size.ensures ∙ size_is (f.marks w)) c.if-size-n.true)

pub returns-in_err-best : goal.returns-in_err-best
returns-in_err-best c = let f = c.wrong_representative.ensures in let w = c.if-wrong_representative.false in
    let p = err_from_is_err_and c.from_residual.result c.from_residual.ensures.1 in
    rw (p.1, p.2) (code_refused _ _ (sym f.is ∙ w) (some_left _ _ _ (c.marks-size.ensures ∙ size_is (f.marks w)) c.if-size-n.false) _
    (number_pos c.in_err-best.field-0.0) (c.in_err-best.ensures.weighed.is _ (f.marks w)))

pub record_of-requires : goal.record_of-requires
record_of-requires c = let a = c.args in
    let p = c.requires.0 in
    let m = c.wrong_representative.ensures.marks c.if-wrong_representative.false in
    let b = best_within _ _ _ _ p.one (c.in_ok-best.ensures.weighed.is _ m) in
    let s = c.marks-size.ensures ∙ size_is m in (
      omega (arith, s, size_le a.n a.representatives.now),
      p.length_stated.odd.most,
      omega (arith, p.s_is, p.length_stated.most),
      omega (arith, b.0, p.few),
      b.1,
      omega (arith, c.in_ok-best.ensures.small, p.most_le),
    )

pub returns : goal.returns
returns c = let f = c.wrong_representative.ensures in let w = c.if-wrong_representative.false in let p = c.requires.0 in
    let e = c.in_ok-best.ensures.weighed.is _ (f.marks w) in
    let s = c.marks-size.ensures ∙ size_is (f.marks w) in
    code_accepted _ _ (sym f.is ∙ w) (some_left _ _ _ s c.if-size-n.false) _ _ _ e
    (c.record_of.ensures ∙ record_is _ _ _ _ p.s_is s e)
