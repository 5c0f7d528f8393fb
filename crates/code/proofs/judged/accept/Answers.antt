-- `code::judged::accept` meets its contract: judging says which.
use mathlib.Core.Path.{sym, ap, ◌∙◌}
use Rattle.std.proofs.lemmas.Result.{err_from_is_err_and}
use Rattle.document.specs.Answer.{judged_as}
use Rattle.code.proofs.Ready.{sheet_accepted, counts_of}
use Rattle.code.proofs.judged.accept.Goals as goal

pub returns-in_err-numbers-clause-refused : goal.returns-in_err-numbers-clause-refused
returns-in_err-numbers-clause-refused c =
    let p = err_from_is_err_and c.from_residual.result c.from_residual.ensures.1 in
    rw (p.1, p.2) (sym (ap judged_as c.in_err-numbers.was) ∙ c.judge_into.ensures.is)

pub representative_count-count-requires : goal.representative_count-count-requires
representative_count-count-requires c = counts_of c.judge_into.ensures (sym (ap judged_as c.in_ok-numbers.was))

pub invariant_of-result : goal.invariant_of-result
invariant_of-result c = record { accepted = sheet_accepted c.judge_into.ensures (sym (ap judged_as c.in_ok-numbers.was)) c.representative_count-count.ensures.0 }

pub returns-clause-accepted : goal.returns-clause-accepted
returns-clause-accepted c = sheet_accepted c.judge_into.ensures (sym (ap judged_as c.in_ok-numbers.was)) c.representative_count-count.ensures.0
