-- `binary::independence::independent` meets its contract: what is left of the rows after each turn is free exactly where all are.
use Rattle.binary.specs.Factor.{Modulus}
use Rattle.binary.proofs.IndependentPowers.{FreeFrom}
use Rattle.binary.proofs.independence.independent.Given as goal

abbrev pub invariant-loop-turn : goal.invariant-loop-turn
invariant-loop-turn l = Modulus l.f l.u × FreeFrom l.u l.f l.n l.turn l.rows
