-- `field::tables::fill` meets its contract: each power past the first round is the one a round before it.
use Rattle.field.specs.Tables.{Powers}
use Rattle.field.proofs.tables.fill.Given as goal

abbrev pub invariant-loop-i : goal.invariant-loop-i
invariant-loop-i l = Powers l.s l.i l.powers
