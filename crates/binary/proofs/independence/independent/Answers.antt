-- `binary::independence::independent` meets its contract: what is left of the rows after each turn is free exactly where all are.
use native.Mathlib.Omega.{arith}
use Rattle.binary.proofs.MaskPeriod.{modulus_small}
use Rattle.binary.proofs.IndependentPowers.{free_start, pivot, free_more, free_fails, free_ends}
use Rattle.binary.proofs.independence.independent.Goals as goal

pub overflow_cast-f : goal.overflow_cast-f
overflow_cast-f c = omega (arith, modulus_small c.requires.0)

pub loop-turn-init : goal.loop-turn-init
loop-turn-init c = let m = c.requires.0 in (m, free_start m c.power_rows-rows.ensures)

pub returns-then-rows-eq0 : goal.returns-then-rows-eq0
returns-then-rows-eq0 c = let v = c.loop-turn.invariant in free_fails v.0 _ _ _ v.1 c.loop-turn-test.true c.if-rows-eq0.true

pub strike_rows-rows-requires : goal.strike_rows-rows-requires
strike_rows-rows-requires c = let v = c.loop-turn.invariant in (pivot v.0 _ _ c.if-rows-eq0.false (omega arith) c.degree.ensures).0

pub loop-turn-preserved : goal.loop-turn-preserved
loop-turn-preserved c = let v = c.loop-turn.invariant in
    (v.0, free_more v.0 _ _ _ _ _ v.1 c.loop-turn-test.true c.if-rows-eq0.false c.degree.ensures c.strike_rows-rows.ensures)

pub returns : goal.returns
returns c = let v = c.loop-turn.invariant in free_ends v.0 _ _ _ v.1 c.loop-turn-test.false
