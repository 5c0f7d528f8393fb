-- `binary::independence::power_rows` meets its contract: row j is x^(n j) for j below i, and a is the last of them.
use native.Mathlib.Omega.{arith}
use Rattle.binary.proofs.MaskPeriod.{modulus_degree, times_lt}
use Rattle.binary.proofs.IndependentPowers.{held_start, held_room, held_shift, held_more}
use Rattle.binary.proofs.independence.power_rows.Goals as goal

pub loop-i-init : goal.loop-i-init
loop-i-init c = let m = c.requires.0 in (m, c.power_modulo-y.ensures, held_start m _, m.lo)

pub times_modulo-a-requires : goal.times_modulo-a-requires
times_modulo-a-requires c = let v = c.loop-i.invariant in (modulus_degree v.0, times_lt v.0 _ v.2.last, times_lt v.0 _ v.1)

pub overflow_add-rows : goal.overflow_add-rows
overflow_add-rows c = let v = c.loop-i.invariant in
    let l = c.loop-i-test.true in
    let e = times_lt v.0 _ c.times_modulo-a.ensures in
    omega (arith, held_room v.0 v.2 l e, held_shift v.0 v.2 l e)

pub loop-i-preserved : goal.loop-i-preserved
loop-i-preserved c = let v = c.loop-i.invariant in
    let e = c.times_modulo-a.ensures in
    (v.0, v.1, rw (held_shift v.0 v.2 c.loop-i-test.true (times_lt v.0 _ e)) (held_more v.0 _ _ _ _ _ _ v.2 v.1 e), omega arith)
