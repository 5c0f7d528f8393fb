-- `code::block::decode_block` meets its contract: judging and 17 say which.
use native.Mathlib.Omega.{arith}
use mathlib.Core.Path.{sym, ◌∙◌}
use Rattle.std.proofs.lemmas.Result.{err_from_is_err_and}
use Rattle.code.proofs.Accepted.{short_limits}
use Rattle.code.proofs.Ready.{ready, quiet, depth_range, states}
use Rattle.code.proofs.Entries.{block_sheet, block_m, block_accepted}
use Rattle.code.proofs.block.decode_block.Goals as goal

pub returns-in_err-accepted : goal.returns-in_err-accepted
returns-in_err-accepted c =
    let p = err_from_is_err_and c.from_residual.result c.from_residual.ensures.1 in
    rw (p.1, p.2) (block_sheet _ _ c.args.m _ _ _ _ c.in_err-accepted.ensures.refused)

pub returns-then-wrong_depth : goal.returns-then-wrong_depth
returns-then-wrong_depth c = block_m _ _ c.args.m _ _ _ (quiet (ready short_limits c.in_ok-accepted.ensures.accepted)) (sym c.wrong_depth.ensures ∙ c.if-wrong_depth.true)

pub decode_block_accepted-requires : goal.decode_block_accepted-requires
decode_block_accepted-requires c = let r = ready short_limits c.in_ok-accepted.ensures.accepted in
    let d = depth_range c.args.m c.wrong_depth.ensures c.if-wrong_depth.false in
    (c.stated_code.ensures.terms, omega (arith, r.most, c.stated_code.ensures.n), d.0, d.1)

pub returns : goal.returns
returns c = let r = ready short_limits c.in_ok-accepted.ensures.accepted in
    let k = c.stated_code.ensures in
    c.decode_block_accepted.ensures.is _ (states r k.n k.t k.representatives) ∙ block_accepted _ _ c.args.m _ _ _ (quiet r) (sym c.wrong_depth.ensures ∙ c.if-wrong_depth.false)
