-- `code::encode::encode_by` meets its contract: judging and 16 say which.
use native.Mathlib.Omega.{arith}
use mathlib.Core.Path.{◌∙◌}
use Rattle.std.proofs.lemmas.Result.{err_from_is_err_and}
use Rattle.code.proofs.Accepted.{short_limits}
use Rattle.code.proofs.Ready.{ready, quiet, unsent_less}
use Rattle.code.proofs.WholeOrShort.{encode_refused, encode_wrong, encode_right}
use Rattle.code.proofs.encode.encode_by.Goals as goal

pub returns-in_err-accepted : goal.returns-in_err-accepted
returns-in_err-accepted c =
    let p = err_from_is_err_and c.from_residual.result c.from_residual.ensures.1 in
    rw (p.1, p.2) (encode_refused _ _ _ _ c.in_err-accepted.ensures.refused c.args.shortening)

pub returns-in_err-unsent : goal.returns-in_err-unsent
returns-in_err-unsent c =
    let p = err_from_is_err_and c.from_residual-in_err-unsent.result c.from_residual-in_err-unsent.ensures.1 in
    let r = ready short_limits c.in_ok-accepted.ensures.accepted in
    rw (p.1, p.2) (encode_wrong _ _ _ (quiet r) r.numbers.k_is c.args.shortening _ c.in_err-unsent.ensures.wrong)

pub encode_accepted-requires : goal.encode_accepted-requires
encode_accepted-requires c = let r = ready short_limits c.in_ok-accepted.ensures.accepted in
    (omega (arith, r.most, c.code.ensures.n), omega (arith, unsent_less r c.args.shortening _ c.in_ok-unsent.ensures.right, c.code.ensures.k))

pub returns : goal.returns
returns c = let r = ready short_limits c.in_ok-accepted.ensures.accepted in
    c.encode_accepted.ensures.is _ (c.code.ensures.n ∙ r.numbers.n_is) (c.code.ensures.representatives ∙ r.reps_is)
    ∙ encode_right _ _ _ (quiet r) r.numbers.k_is c.args.shortening _ c.in_ok-unsent.ensures.right
