-- `codeword::write::write_places` meets its contract: the places of the first j bytes stand.
use Rattle.codeword.proofs.Words.{Placing}
use Rattle.codeword.proofs.write.write_places.Given as goal

abbrev pub invariant-loop-j : goal.invariant-loop-j
invariant-loop-j l = Placing l.message l.m l.register l.j l.out
