-- `dunefork::dunefork_decode` meets its contract: the entry's answer as a code.
-- What the reply says proves both. `grind` finds it too where a step stands between the reply and its code: a step is held by what it does to the value.
use native.Mathlib.Omega.{arith}
use Rattle.document.specs.Short.{short}
use Rattle.document.proofs.Stated.{length_is}
use Rattle.dunefork.proofs.Coded.{value_few, coded, decode_few}
use Rattle.dunefork.proofs.dunefork_decode.Goals as goal

pub reply_code-requires : goal.reply_code-requires
reply_code-requires c =
    let few = value_few c.decode.ensures (decode_few c.args.sheet.now _ _ (omega (arith, c.type_inv.sheet 2, length_is short c.args.sheet.now))) in grind arith

pub returns : goal.returns
returns c = coded c.reply_code.type_inv c.reply_code.ensures (grind arith)
