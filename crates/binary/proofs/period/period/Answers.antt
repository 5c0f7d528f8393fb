-- `binary::period::period` meets its contract: a is x^p modulo f, and p is not past the period, which is below 2^u.
use borrow.Author.Rules.{rules}
use native.Mathlib.Omega.{arith}
use Rattle.binary.proofs.MaskPeriod.{modulus_two, modulus_cap, period_pos, period_lt, times_lt, count_more, count_on, count_end}
use Rattle.binary.proofs.period.period.Goals as goal

pub times_x-a-requires : goal.times_x-a-requires
times_x-a-requires c = (c.requires, omega (arith, modulus_two c.requires))

pub loop-a-init : goal.loop-a-init
loop-a-init c = let m = c.requires in (m, times_lt m _ c.times_x-a.ensures, c.times_x-a.ensures, omega arith, period_pos _)

pub overflow_add-p : goal.overflow_add-p
overflow_add-p c = let v = c.loop-a.invariant in omega (arith, period_lt v.0, modulus_cap v.0, v.4)

pub loop-a-smaller : goal.loop-a-smaller
loop-a-smaller c = let v = c.loop-a.invariant in let l = count_on v.0 _ _ v.2 v.4 c.loop-a-test.true in omega arith

pub loop-a-preserved : goal.loop-a-preserved
loop-a-preserved c = let v = c.loop-a.invariant in let l = count_on v.0 _ _ v.2 v.4 c.loop-a-test.true in
    let e = c.times_x-a-in-loop-a.ensures in
    (v.0, times_lt v.0 _ e, count_more v.0 _ _ _ v.2 e, omega arith, omega arith)

pub returns : goal.returns
returns c = let v = c.loop-a.invariant in count_end v.0 _ _ v.2 v.3 v.4 (search rules)
