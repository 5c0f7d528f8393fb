-- `codeword::write::eight_codeword_places` meets its contract: places of the message, of the register, or of both.
use native.Mathlib.Omega.{arith}
use mathlib.Core.Path.{refl}
use Rattle.codeword.proofs.Words.{message_places, remainder_places, joint_places}
use Rattle.codeword.proofs.write.eight_codeword_places.Goals as goal

pub returns-then-m-i : goal.returns-then-m-i
returns-then-m-i c = message_places c.args.message.now c.if-m-i.true refl c.eight_places.ensures

pub returns-then-i-m : goal.returns-then-i-m
returns-then-i-m c = let a = c.args in remainder_places a.message.now a.register.now c.if-i-m.true refl c.eight_places-low.ensures

pub returns : goal.returns
returns c = let a = c.args in joint_places a.message.now a.register.now (omega (arith, c.if-m-i.false)) refl c.eight_places-low.ensures c.eight_places-2.ensures
