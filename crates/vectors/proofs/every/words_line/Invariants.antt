-- The checksum stays below its modulus.
use Rattle.std.proofs.Common.{◌<◌}
use Rattle.vectors.proofs.every.words_line.Given as goal

abbrev pub invariant-loop-word : goal.invariant-loop-word
invariant-loop-word g l = l.checksum < 4294967291
