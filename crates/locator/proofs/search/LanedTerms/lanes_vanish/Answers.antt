-- `locator::search::LanedTerms::lanes_vanish` meets its contract: the first m terms are in the two sums.
use native.Mathlib.Omega.{arith}
use mathlib.Core.Path.{◌∙◌}
use borrow.Author.Tests.{ne_eqb}
use Rattle.locator.proofs.TermSums.{both_start, both_more, weight_fits, hit_not, hit_low}
use Rattle.locator.proofs.Reading.{exponent_at, step_at, low_at, high_at, term_at, lanes_long}
use Rattle.locator.proofs.search.LanedTerms.lanes_vanish.Goals as goal

pub loop-m-init : goal.loop-m-init
loop-m-init c = (omega arith, both_start c.from-a.ensures)

pub term-requires : goal.term-requires
term-requires c = let p = c.args.self.now.list.listed in
    let h = c.loop-m-test.true in
    (omega (arith, exponent_at c.args.self.now.list.terms.now c.loop-m.m, p.logs _ h), omega (arith, step_at c.args.self.now.list.terms.now c.loop-m.m, p.steps _ h), c.requires)

pub bounds-self-m : goal.bounds-self-m
bounds-self-m c = omega (arith, lanes_long c.args.self.now.lanes.now c.args.self.now.laned)

pub overflow_mul-a : goal.overflow_mul-a
overflow_mul-a c =
    let b = c.args.self.now.laned.lo_le _ c.loop-m-test.true in
    record { fits = weight_fits _ _ c.args.self.now.list.power_table.powered.degree c.from-y.ensures c.term.ensures (omega (arith, low_at c.args.self.now.lanes.now c.loop-m.m)) }

pub overflow_mul-b : goal.overflow_mul-b
overflow_mul-b c =
    let b = c.args.self.now.laned.hi_le _ c.loop-m-test.true in
    record { fits = weight_fits _ _ c.args.self.now.list.power_table.powered.degree c.from-y.ensures c.term.ensures (omega (arith, high_at c.args.self.now.lanes.now c.loop-m.m)) }

pub loop-m-preserved : goal.loop-m-preserved
loop-m-preserved c = let m = c.loop-m.m in
    let ts = c.args.self.now.list.terms.now in
    let ws = c.args.self.now.lanes.now in
    (omega arith, both_more _ _ (low_at ws m) (high_at ws m) c.from-y.ensures (c.term.ensures ∙ term_at _ ts m c.args.i) c.loop-m.invariant.1)

pub returns-then-b-eq0 : goal.returns-then-b-eq0
returns-then-b-eq0 c = let v = c.loop-m.invariant in hit_low (omega (arith, v.0, c.loop-m-test.false)) v.1 c.if-b-eq0.true

pub returns-else-b-eq0 : goal.returns-else-b-eq0
returns-else-b-eq0 c = let v = c.loop-m.invariant in ne_eqb _ 0 c.if-b-eq0.false ∙ hit_not (omega (arith, v.0, c.loop-m-test.false)) v.1 c.if-b-eq0.false
