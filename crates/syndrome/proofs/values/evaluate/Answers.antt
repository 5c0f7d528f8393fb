-- `syndrome::values::evaluate` meets its contract: the first k representatives hold their values.
use native.Mathlib.Omega.{arith}
use mathlib.Core.Path.{refl, sym, ◌∙◌}
use lib.Seq.{length-take-le}
use Rattle.codeword.proofs.Places.{places_length}
use Rattle.syndrome.proofs.Computing.{cut_fits, cut_is, columnable, values_start, values_summable, values_by, values_in, values_more, values_end}
use Rattle.syndrome.proofs.values.evaluate.Goals as goal

pub overflow_mul-width : goal.overflow_mul-width
overflow_mul-width c = let p = c.requires in omega (arith, p.setting.odd.most, p.w_most, places_length c.args.word.now)

pub slice_bounds-columns-end : goal.slice_bounds-columns-end
slice_bounds-columns-end c = cut_fits c.args.word.now c.requires

pub slice_bounds-columns-end-2 : goal.slice_bounds-columns-end-2
slice_bounds-columns-end-2 c = sym (length-take-le _ c.args.columns.now (cut_fits c.args.word.now c.requires))

pub fill_columns-requires : goal.fill_columns-requires
fill_columns-requires c = let p = c.requires in columnable p (cut_is c.args.word.now p)

pub order-requires : goal.order-requires
order-requires c = c.requires.setting.degree

pub nonzero_div-q : goal.nonzero_div-q
nonzero_div-q c = omega (arith, c.requires.setting.odd.least)

pub loop-representative-init : goal.loop-representative-init
loop-representative-init c = values_start c.requires (c.fill_columns.auto.columns ∙ cut_is c.args.word.now c.requires) c.fill_columns.ensures c.order.ensures

pub overflow_mul-r : goal.overflow_mul-r
overflow_mul-r c = omega (arith, values_by c.loop-representative-test.true c.loop-representative.invariant)

pub overflow_cast-r-in-loop-representative : goal.overflow_cast-r-in-loop-representative
overflow_cast-r-in-loop-representative c = omega (arith, values_by c.loop-representative-test.true c.loop-representative.invariant)

pub value_by_columns-v-requires : goal.value_by_columns-v-requires
value_by_columns-v-requires c = values_summable c.loop-representative-test.true c.loop-representative.invariant

pub offset_bounds-values-r : goal.offset_bounds-values-r
offset_bounds-values-r c = omega (arith, (values_in c.loop-representative-test.true c.loop-representative.invariant).0)

pub bounds-values-r : goal.bounds-values-r
bounds-values-r c = (values_in c.loop-representative-test.true c.loop-representative.invariant).1

pub loop-representative-preserved : goal.loop-representative-preserved
loop-representative-preserved c = values_more c.loop-representative-test.true c.loop-representative.invariant c.value_by_columns-v.ensures refl

pub returns : goal.returns
returns c = values_end c.loop-representative-test.false c.loop-representative.invariant
