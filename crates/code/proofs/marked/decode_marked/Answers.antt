-- `code::marked::decode_marked` meets its contract: judging says which.
use native.Mathlib.Omega.{arith}
use mathlib.Core.Path.{◌∙◌}
use Rattle.std.proofs.lemmas.Result.{err_from_is_err_and}
use Rattle.code.proofs.Accepted.{short_limits}
use Rattle.code.proofs.Ready.{ready, record_distance, quiet, states}
use Rattle.code.proofs.Entries.{marked_sheet, marked_accepted}
use Rattle.code.proofs.marked.decode_marked.Goals as goal

pub returns-in_err-accepted : goal.returns-in_err-accepted
returns-in_err-accepted c =
    let p = err_from_is_err_and c.from_residual.result c.from_residual.ensures.1 in
    rw (p.1, p.2) (marked_sheet _ _ _ _ _ _ _ c.in_err-accepted.ensures.refused)

pub decode_marked_accepted-requires : goal.decode_marked_accepted-requires
decode_marked_accepted-requires c = let r = ready short_limits c.in_ok-accepted.ensures.accepted in
    (c.stated_code.ensures.terms, omega (arith, r.most, c.stated_code.ensures.n))

pub returns : goal.returns
returns c = let a = c.in_ok-accepted.ensures.accepted in let r = ready short_limits a in
    let k = c.stated_code.ensures in
    c.decode_marked_accepted.ensures.is _ (states r k.n k.t k.representatives) (record_distance a) ∙ marked_accepted _ _ _ _ _ _ (quiet r)
