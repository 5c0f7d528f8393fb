-- `codeword::remainder::take_places` meets its contract: the remainder of x^m times the places taken so far.
use Rattle.document.specs.Layout.{mask_of}
use Rattle.binary.specs.Packed.{Taken}
use Rattle.codeword.proofs.remainder.take_places.Given as goal

abbrev pub invariant-loop-i : goal.invariant-loop-i
invariant-loop-i g l = Taken (mask_of g.L.Layout.weight l.n l.bytes) l.i l.feedback l.register
