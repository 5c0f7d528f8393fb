-- `dunefork::dunefork_decode_marked` meets its contract: the entry's answer as a code.
use native.Mathlib.Omega.{arith}
use Rattle.document.specs.Short.{short}
use Rattle.document.proofs.Stated.{length_is}
use Rattle.dunefork.proofs.Coded.{marked_value_few, marked_coded, marked_few}
use Rattle.dunefork.proofs.dunefork_decode_marked.Goals as goal

pub marked_reply_code-requires : goal.marked_reply_code-requires
marked_reply_code-requires c = marked_value_few c.decode_marked.ensures (marked_few c.args.sheet.now c.args.word.now c.args.marks.now c.args.zeros.now c.args.ones.now (omega (arith, c.type_inv.sheet 2, length_is short c.args.sheet.now)))

pub returns : goal.returns
returns c = marked_coded c.marked_reply_code.type_inv c.marked_reply_code.ensures c.decode_marked.ensures
