-- `syndrome::values::evaluate` meets its contract: the first k representatives hold their values.
use Rattle.codeword.specs.Place.{places_of}
use Rattle.syndrome.proofs.Computing.{Values}
use Rattle.syndrome.proofs.values.evaluate.Given as goal

abbrev pub invariant-loop-representative : goal.invariant-loop-representative
invariant-loop-representative l = Values l.n l.tables.s l.q (places_of l.word) l.representatives l.columns l.initial.values l.values l.clean l.representative-index
