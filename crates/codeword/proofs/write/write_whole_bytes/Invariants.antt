-- `codeword::write::write_whole_bytes` meets its contract: the first j bytes stand.
use Rattle.codeword.proofs.Words.{ReadingBytes}
use Rattle.codeword.proofs.write.write_whole_bytes.Given as goal

abbrev pub invariant-loop-j : goal.invariant-loop-j
invariant-loop-j l = ReadingBytes l.m l.word l.j l.out
