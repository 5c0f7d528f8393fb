-- `binary::independence::power_modulo` meets its contract: r is x to the number that the digits of n from i on make.
use native.Mathlib.Omega.{arith}
use Rattle.binary.proofs.Degree.{degree_le}
use Rattle.binary.proofs.MaskPeriod.{modulus_two, modulus_degree, times_lt}
use Rattle.binary.proofs.IndependentPowers.{power_start, power_even, power_odd}
use Rattle.binary.proofs.independence.power_modulo.Goals as goal

pub times_x-r-requires : goal.times_x-r-requires
times_x-r-requires c = let p = c.requires in (modulus_degree p.0, omega (arith, modulus_two p.0))

pub loop-i-init : goal.loop-i-init
loop-i-init c = let p = c.requires in
    let d = c.degree-i.ensures in
    let e = c.times_x-r.ensures in
    (p.0, times_lt p.0 _ e, power_start p.0 _ _ _ p.1 d e, omega (arith, d, degree_le _ 15 p.1 p.2))

pub times_modulo-r-requires : goal.times_modulo-r-requires
times_modulo-r-requires c = let v = c.loop-i.invariant in (modulus_degree v.0, v.1, v.1)

pub times_x-r-requires-then-n-i-eq1 : goal.times_x-r-requires-then-n-i-eq1
times_x-r-requires-then-n-i-eq1 c = let v = c.loop-i.invariant in (modulus_degree v.0, times_lt v.0 _ c.times_modulo-r.ensures)

pub loop-i-preserved-then-n-i-eq1 : goal.loop-i-preserved-then-n-i-eq1
loop-i-preserved-then-n-i-eq1 c = let v = c.loop-i.invariant in
    let e = power_odd v.0 _ _ _ _ _ (omega arith) v.2 c.times_modulo-r.ensures c.times_x-r-then-n-i-eq1.ensures c.if-n-i-eq1.true in
    (v.0, times_lt v.0 _ e, e, omega (arith, v.3))

pub loop-i-preserved : goal.loop-i-preserved
loop-i-preserved c = let v = c.loop-i.invariant in
    let e = power_even v.0 _ _ _ _ (omega arith) v.2 c.times_modulo-r.ensures c.if-n-i-eq1.false in
    (v.0, times_lt v.0 _ e, e, omega (arith, v.3))
