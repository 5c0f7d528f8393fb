-- `codeword::write::write_message` meets its contract: whole bytes, then the places of the last one.
use Rattle.codeword.proofs.Words.{Reading}
use Rattle.codeword.proofs.write.write_message.Given as goal

abbrev pub invariant-loop-i : goal.invariant-loop-i
invariant-loop-i l = Reading l.m l.k l.word l.i l.out
