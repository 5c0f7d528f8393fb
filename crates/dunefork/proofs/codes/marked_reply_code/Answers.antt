-- `dunefork::codes::marked_reply_code` meets its contract: case by case.
use mathlib.Core.Path.{sym, ap, ◌∙◌}
use Prim.Native.Nat.{◌+◌, ◌*◌}
use native.Mathlib.Omega.{arith}
use lib.ListN.{get_or}
use Rattle.document.specs.Answer.{marked_as}
use Rattle.dunefork.specs.Codes.{marked_code}
use Rattle.dunefork.proofs.Coded.{marked_done_code, marked_refused_code}
use Rattle.dunefork.proofs.codes.marked_reply_code.Goals as goal

pub returns-in-Ok : goal.returns-in-Ok
returns-in-Ok c =
    let v = ap (λ r. 2 * get_or (marked_as r).values 0 0 + get_or (marked_as r).values 1 0) c.in-Ok.is in
    marked_done_code c.in-Ok.shown.unmarked c.in-Ok.shown.trial (omega (arith, v, c.requires)) ∙ sym (ap (λ r. marked_code (marked_as r)) c.in-Ok.is)

pub returns-in-Err : goal.returns-in-Err
returns-in-Err c = marked_refused_code c.in-Err.r c.refusal_code.ensures ∙ sym (ap (λ r. marked_code (marked_as r)) c.in-Err.is)
