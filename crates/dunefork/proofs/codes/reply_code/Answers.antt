-- `dunefork::codes::reply_code` meets its contract: case by case.
use mathlib.Core.Path.{sym, ap, ◌∙◌}
use native.Mathlib.Omega.{arith}
use lib.ListN.{get_or}
use Rattle.document.specs.Answer.{replied_as}
use Rattle.dunefork.specs.Codes.{return_code}
use Rattle.dunefork.proofs.Coded.{done_code, refused_code}
use Rattle.dunefork.proofs.codes.reply_code.Goals as goal

pub returns-in-Ok : goal.returns-in-Ok
returns-in-Ok c =
    let v = ap (λ r. get_or (replied_as r).values 0 0) c.in-Ok.is in
    done_code c.in-Ok.value (omega (arith, v, c.requires)) ∙ sym (ap (λ r. return_code (replied_as r)) c.in-Ok.is)

pub returns-in-Err : goal.returns-in-Err
returns-in-Err c = refused_code c.in-Err.r c.refusal_code.ensures ∙ sym (ap (λ r. return_code (replied_as r)) c.in-Err.is)
