-- `dunefork::dunefork_decode_block` meets its contract: the entry's answer as a code.
use Rattle.dunefork.proofs.Coded.{value_few, coded, block_few}
use Rattle.dunefork.proofs.dunefork_decode_block.Goals as goal

pub reply_code-requires : goal.reply_code-requires
reply_code-requires c = value_few c.decode_block.ensures (block_few _ c.args.m _ _ _)

pub returns : goal.returns
returns c = coded c.reply_code.type_inv c.reply_code.ensures c.decode_block.ensures
