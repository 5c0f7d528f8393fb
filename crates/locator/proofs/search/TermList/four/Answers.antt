-- `locator::search::TermList::four` meets its contract: the first m terms are in all four sums.
use native.Mathlib.Omega.{arith}
use Rattle.locator.proofs.Reading.{exponent_at, step_at}
use Rattle.locator.proofs.Neighbours.{neighbours_start, neighbours_more, neighbours_end}
use Rattle.locator.proofs.search.TermList.four.Goals as goal

pub loop-term-init : goal.loop-term-init
loop-term-init c = (omega arith, neighbours_start)

pub index-y-requires : goal.index-y-requires
index-y-requires c = let p = c.args.self.now.listed in
    let h = c.loop-term-test.true in (
      c.args.self.now.power_table.powered.degree,
      omega (arith, exponent_at c.args.self.now.terms.now c.loop-term.term-index, p.logs _ h),
      omega (arith, step_at c.args.self.now.terms.now c.loop-term.term-index, p.steps _ h),
      c.requires,
    )

pub bounds-powers-y-in-loop-term : goal.bounds-powers-y-in-loop-term
bounds-powers-y-in-loop-term c = let f = c.args.self.now.power_table.powered in omega (arith, step_at c.args.self.now.terms.now c.loop-term.term-index, c.args.self.now.listed.steps _ c.loop-term-test.true, c.index-y.ensures.1, f.e_long)

pub bounds-powers-y-in-loop-term-2 : goal.bounds-powers-y-in-loop-term-2
bounds-powers-y-in-loop-term-2 c = let f = c.args.self.now.power_table.powered in omega (arith, step_at c.args.self.now.terms.now c.loop-term.term-index, c.args.self.now.listed.steps _ c.loop-term-test.true, c.index-y.ensures.1, f.e_long)

pub bounds-powers-y-in-loop-term-3 : goal.bounds-powers-y-in-loop-term-3
bounds-powers-y-in-loop-term-3 c = let f = c.args.self.now.power_table.powered in omega (arith, step_at c.args.self.now.terms.now c.loop-term.term-index, c.args.self.now.listed.steps _ c.loop-term-test.true, c.index-y.ensures.1, f.e_long)

pub loop-term-preserved : goal.loop-term-preserved
loop-term-preserved c = let h = c.loop-term-test.true in (
  omega arith,
  neighbours_more c.args.self.now.power_table.powered (exponent_at c.args.self.now.terms.now c.loop-term.term-index) (step_at c.args.self.now.terms.now c.loop-term.term-index) (omega (arith, step_at c.args.self.now.terms.now c.loop-term.term-index, c.args.self.now.listed.steps _ h)) c.index-y.ensures c.loop-term.invariant.1,
)

pub returns : goal.returns
returns c = let v = c.loop-term.invariant in neighbours_end _ (omega (arith, v.0, c.loop-term-test.false)) v.1
