-- `generator::coset::factor_by_logarithms` meets its contract: the sum is the logarithm of the value over the members met.
use native.Mathlib.Omega.{arith}
use Rattle.field.proofs.Primitive.{Degree-bounds}
use Rattle.generator.proofs.CosetWalk.{walking_lt}
use Rattle.generator.proofs.ByLogarithms.{coset_own, adding_start, place_lt, element_lt, more_lt, adding_zero, adding_more, adding_end}
use Rattle.generator.proofs.coset.factor_by_logarithms.Goals as goal

pub walk-init : goal.walk-init
walk-init c = adding_start c.requires.0

pub bounds-tables-x : goal.bounds-tables-x
bounds-tables-x c = let o = c.args.tables.now.filled in omega (arith, place_lt c.requires.0 c.requires.1 o c.walk.invariant, o.e_long)

pub logarithm-requires : goal.logarithm-requires
logarithm-requires c = element_lt c.requires.0 c.requires.1 c.args.tables.now.filled c.walk.invariant (omega arith)

pub members-requires : goal.members-requires
members-requires c = coset_own c.requires.0

pub returns-in_default : goal.returns-in_default
returns-in_default c =
    adding_zero c.requires.0 c.requires.1 c.args.tables.now.filled c.walk.invariant c.in_default.ensures.zero c.members.ensures c.from_value.ensures

pub step-sum-requires : goal.step-sum-requires
step-sum-requires c = let o = c.args.tables.now.filled in let e = c.order-end.ensures in
    (omega (arith, e, c.walk.invariant.sum_lt), omega (arith, e, c.in-Some.ensures.power.0), omega (arith, e, (Degree-bounds o.degree).1))

pub overflow_add-degree : goal.overflow_add-degree
overflow_add-degree c = omega (arith, walking_lt c.requires.0 c.walk.invariant.walking, c.requires.0.small)

pub bounds-tables-sum : goal.bounds-tables-sum
bounds-tables-sum c = let o = c.args.tables.now.filled in
    omega (arith, more_lt c.requires.0 c.requires.1 o c.walk.invariant c.in-Some.ensures.power c.order-end.ensures c.step-sum.ensures, o.e_long)

pub returns-then-x-r : goal.returns-then-x-r
returns-then-x-r c = let p = c.requires in let o = c.args.tables.now.filled in
    let q = c.in-Some.ensures.power in
    let l = more_lt p.0 p.1 o c.walk.invariant q c.order-end.ensures c.step-sum.ensures in
    adding_end p.0 p.1 o c.walk.invariant q c.order-end.ensures c.step-sum.ensures c.twice-x.ensures c.if-x-r.true (o.powers.at _ l) c.from_value-then-x-r.ensures

pub walk-smaller : goal.walk-smaller
walk-smaller c = omega (arith, walking_lt c.requires.0 c.walk.invariant.walking)

pub walk-preserved : goal.walk-preserved
walk-preserved c = let p = c.requires in
    adding_more p.0 p.1 c.args.tables.now.filled c.walk.invariant c.in-Some.ensures.power c.order-end.ensures c.step-sum.ensures c.twice-x.ensures c.if-x-r.false
