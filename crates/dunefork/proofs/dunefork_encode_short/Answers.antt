-- `dunefork::dunefork_encode_short` meets its contract: the entry's answer as a code.
use Rattle.dunefork.proofs.Coded.{value_few, coded, encode_short_few}
use Rattle.dunefork.proofs.dunefork_encode_short.Goals as goal

pub reply_code-requires : goal.reply_code-requires
reply_code-requires c = value_few c.encode_short.ensures (encode_short_few _ c.args.m _ _)

pub returns : goal.returns
returns c = coded c.reply_code.type_inv c.reply_code.ensures c.encode_short.ensures
