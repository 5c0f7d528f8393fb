-- `code::decode::decode_by` meets its contract: judging and 16 say which.
use native.Mathlib.Omega.{arith}
use mathlib.Core.Path.{ap, ◌∙◌}
use Prim.Native.Nat.{ℕ, ◌-◌}
use Rattle.std.proofs.lemmas.Result.{err_from_is_err_and}
use Rattle.code.proofs.Accepted.{short_limits}
use Rattle.code.proofs.Ready.{ready, quiet, unsent_less, states}
use Rattle.code.proofs.WholeOrShort.{decode_refused, decode_wrong, decode_right}
use Rattle.code.proofs.decode.decode_by.Goals as goal

pub returns-in_err-accepted : goal.returns-in_err-accepted
returns-in_err-accepted c =
    let p = err_from_is_err_and c.from_residual.result c.from_residual.ensures.1 in
    rw (p.1, p.2) (decode_refused _ _ _ _ c.in_err-accepted.ensures.refused c.args.shortening)

pub returns-in_err-unsent : goal.returns-in_err-unsent
returns-in_err-unsent c =
    let p = err_from_is_err_and c.from_residual-in_err-unsent.result c.from_residual-in_err-unsent.ensures.1 in
    let r = ready short_limits c.in_ok-accepted.ensures.accepted in
    rw (p.1, p.2) (decode_wrong _ _ _ (quiet r) r.numbers.k_is c.args.shortening _ c.in_err-unsent.ensures.wrong)

pub overflow_sub-code : goal.overflow_sub-code
overflow_sub-code c = let r = ready short_limits c.in_ok-accepted.ensures.accepted in
    omega (arith, unsent_less r c.args.shortening _ c.in_ok-unsent.ensures.right, r.usable.k_le, c.stated_code-code.ensures.n)

pub decode_accepted-requires : goal.decode_accepted-requires
decode_accepted-requires c = let r = ready short_limits c.in_ok-accepted.ensures.accepted in
    let l = unsent_less r c.args.shortening _ c.in_ok-unsent.ensures.right in
    (c.stated_code-code.ensures.terms, omega (arith, r.most, c.stated_code-code.ensures.n), omega (arith, l, r.usable.k_le, c.stated_code-code.ensures.n), omega arith)

pub returns : goal.returns
returns c = let r = ready short_limits c.in_ok-accepted.ensures.accepted in
    let k = c.stated_code-code.ensures in
    c.decode_accepted.ensures.is _ (states r k.n k.t k.representatives) _ (ap (λ (i : ℕ). i - c.in_ok-unsent.unsent) (k.n ∙ r.numbers.n_is))
    ∙ decode_right _ _ _ (quiet r) r.numbers.k_is r.accepted c.args.shortening _ c.in_ok-unsent.ensures.right
