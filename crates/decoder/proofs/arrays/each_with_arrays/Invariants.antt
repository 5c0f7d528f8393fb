-- `decoder::arrays::each_with_arrays` meets its contract: each turn decodes one word.
use Prim.Native.Nat.{◌≤◌}
use lib.ListN.{length}
use Rattle.decoder.proofs.Each.{DecodedSome}
use Rattle.decoder.proofs.arrays.each_with_arrays.Given as goal

abbrev pub invariant-loop-k : goal.invariant-loop-k
invariant-loop-k g l =
    DecodedSome l.code.n l.sent l.code.t l.code.representatives.now l.size l.k l.words l.initial.out l.initial.verdicts l.out l.verdicts × (l.k ≤ length l.initial.verdicts)
