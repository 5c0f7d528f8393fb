-- `locator::terms::list_terms` meets its contract: the first k coefficients are listed.
use native.Mathlib.Omega.{arith}
use mathlib.Core.Path.{refl}
use Rattle.field.proofs.Primitive.{Degree-bounds}
use Rattle.binary.proofs.MaskPeriod.{modulus_two, times_lt}
use Rattle.locator.proofs.Walking.{counted, loop_start, loop_more, loop_end}
use Rattle.locator.proofs.terms.list_terms.Goals as goal

pub order-end-requires : goal.order-end-requires
order-end-requires c = c.requires.degree

pub times_x-y-requires : goal.times_x-y-requires
times_x-y-requires c = let p = c.requires in (p.modulus, omega (arith, modulus_two p.modulus))

pub loop-k-init : goal.loop-k-init
loop-k-init c = loop_start c.requires c.order-end.ensures c.times_x-y.ensures

pub bounds-logs-x : goal.bounds-logs-x
bounds-logs-x c = omega (arith, c.requires.locator.small.at c.loop-k.k, c.requires.g_long)

pub bounds-terms-c : goal.bounds-terms-c
bounds-terms-c c = let v = c.loop-k.invariant in omega (arith, v.walking.fewer, c.requires.locator.terms_long, v.terms_kept)

pub bounds-lanes-c : goal.bounds-lanes-c
bounds-lanes-c c = let v = c.loop-k.invariant in omega (arith, v.walking.fewer, c.requires.locator.lanes_long, v.words_kept)

pub overflow_cast-terms-in-loop-k : goal.overflow_cast-terms-in-loop-k
overflow_cast-terms-in-loop-k c = omega (arith, c.loop-k.invariant.walking.at_lt, (Degree-bounds c.requires.degree).1)

pub overflow_add-c : goal.overflow_add-c
overflow_add-c c = let v = c.loop-k.invariant in omega (arith, v.walking.fewer, (counted _ c.from-c.ensures).2)

pub step-at-requires : goal.step-at-requires
step-at-requires c = let v = c.loop-k.invariant in
    (omega (arith, v.end_is, v.walking.at_lt), omega (arith, v.end_is, v.given.back_lt), omega (arith, v.end_is, (Degree-bounds c.requires.degree).1))

pub times_x-y-requires-in-loop-k : goal.times_x-y-requires-in-loop-k
times_x-y-requires-in-loop-k c = let v = c.loop-k.invariant in (v.given.modulus, times_lt v.given.modulus _ v.walking.y_is)

pub loop-k-preserved : goal.loop-k-preserved
loop-k-preserved c =
    loop_more _ _ c.loop-k-test.true c.from-c.ensures refl refl c.four_lanes.ensures c.four_lanes-in-loop-k.ensures
    c.step-at.ensures c.times_x-y-in-loop-k.ensures c.loop-k.invariant

pub shape_of-terms : goal.shape_of-terms
shape_of-terms c = c.loop-k.invariant.terms_kept

pub shape_of-lanes : goal.shape_of-lanes
shape_of-lanes c = c.loop-k.invariant.words_kept

pub returns : goal.returns
returns c = loop_end c.loop-k-test.false c.loop-k.invariant
