-- `poly::euclid::euclid` meets its contract: the rows stay rows on x^l and S, and the first one is longer than stop.
use Rattle.std.proofs.Common.{rules}
use native.Mathlib.Omega.{arith}
use mathlib.Core.Path.{refl, ◌∙◌}
use Rattle.poly.proofs.Slices.{length_cut}
use Rattle.poly.proofs.State.{State, state_start, state_turn, cofactors_fit, reducible, solved, solved_as}
use Rattle.poly.proofs.euclid.euclid.Goals.{After-reduce}
use Rattle.poly.proofs.euclid.euclid.Goals as goal

pub loop-lower-init : goal.loop-lower-init
loop-lower-init c = let p = c.requires in
    let r = length_cut (omega (arith, p.b_long)) p.b_short c.length_of-lower_len.ensures in
    (state_start c.args.tables.now.filled.degree p r.0 r.1, omega (arith, p.stop_most), refl, refl, refl, refl)

pub returns-then-lower-stop : goal.returns-then-lower-stop
returns-then-lower-stop c = let i = c.loop-lower.invariant in solved_as (search rules) (solved i.0 (omega (arith, c.if-lower-stop.true)) i.1)

pub overflow_add-upper-in-loop-lower : goal.overflow_add-upper-in-loop-lower
overflow_add-upper-in-loop-lower c = let z = c.loop-lower.invariant.0 in omega (arith, cofactors_fit z, z.a_long)

pub reduce-requires : goal.reduce-requires
reduce-requires c = let e = c.divisor.ensures in
    rw (e.remainder, e.len, e.cofactor, e.cofactor_len) (reducible c.loop-lower.invariant.0 (omega (arith, c.if-lower-stop.false)))

-- the rows after the upper one is reduced
turned : (c : After-reduce) → State c.args.tables.now.s c.args.l c.args.lower.now c.loop-lower.lower.remainder.now c.reduce.new.dividend.remainder.now c.reduce.new.dividend.cofactor.now c.loop-lower.lower.cofactor.now c.loop-lower.lower.len c.reduce.new.dividend.len c.reduce.new.dividend.cofactor_len c.loop-lower.lower.cofactor_len
turned c = let t = c.reduce.ensures in
    let e = c.divisor.ensures in
    state_turn c.loop-lower.invariant.0 (rw (← e.len) t.shorter) t.kept.remainder_long t.kept.cofactor_long t.kept.cofactor_len
    (rw (← e.remainder, ← e.len, ← e.cofactor) t.reduced)

pub returns-then-upper-stop : goal.returns-then-upper-stop
returns-then-upper-stop c = let z = turned (goal.at.returns-then-upper-stop c).After-reduce in solved_as (search rules) (solved z (omega (arith, c.if-upper-stop.true)) (omega (arith, c.if-lower-stop.false)))

pub overflow_add-lower : goal.overflow_add-lower
overflow_add-lower c = let z = turned (goal.at.overflow_add-lower c).After-reduce in omega (arith, cofactors_fit z, z.a_long, c.well_formed)

pub reduce-requires-in-loop-lower : goal.reduce-requires-in-loop-lower
reduce-requires-in-loop-lower c = let e = c.divisor-in-loop-lower.ensures in
    rw (e.remainder, e.len, e.cofactor, e.cofactor_len)
    (reducible (turned (goal.at.reduce-requires-in-loop-lower c).After-reduce) (omega (arith, c.if-upper-stop.false)))

pub loop-lower-preserved : goal.loop-lower-preserved
loop-lower-preserved c = let i = c.loop-lower.invariant in
    let t = c.reduce.ensures in
    let u = c.reduce-in-loop-lower.ensures in
    let e = c.divisor-in-loop-lower.ensures in (
      state_turn (turned (goal.at.loop-lower-preserved c).After-reduce) (rw (← e.len) u.shorter) u.kept.remainder_long u.kept.cofactor_long
          u.kept.cofactor_len (rw (← e.remainder, ← e.len, ← e.cofactor) u.reduced),
      omega (arith, c.if-upper-stop.false),
      t.kept.same_remainder ∙ i.2,
      t.kept.same_cofactor ∙ i.3,
      u.kept.same_remainder ∙ i.4,
      u.kept.same_cofactor ∙ i.5,
    )
