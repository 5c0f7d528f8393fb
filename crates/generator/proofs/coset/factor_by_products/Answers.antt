-- `generator::coset::factor_by_products` meets its contract: the value is that over the members met, and the root is that of the next.
use native.Mathlib.Omega.{arith}
use Rattle.field.proofs.Primitive.{Degree-bounds}
use Rattle.generator.proofs.CosetWalk.{degree_of, walking_lt}
use Rattle.generator.proofs.ByProducts.{multiplying_start, multiplying_root, multiplying_element, multiplying_value}
use Rattle.generator.proofs.ByProducts.{multiplying_more, multiplying_end}
use Rattle.generator.proofs.coset.factor_by_products.Goals as goal

pub power-root-requires : goal.power-root-requires
power-root-requires c = let d = degree_of c.requires.0 in (d, omega (arith, (Degree-bounds d).0))

pub loop-x-init : goal.loop-x-init
loop-x-init c = multiplying_start c.requires.0 c.requires.1 c.power-root.ensures

pub multiply-value-requires : goal.multiply-value-requires
multiply-value-requires c = let w = c.requires.0 in let v = c.loop-x.invariant in (degree_of w, multiplying_element w v, multiplying_value w v)

pub overflow_add-degree : goal.overflow_add-degree
overflow_add-degree c = let w = c.requires.0 in let v = c.loop-x.invariant in omega (arith, walking_lt w v.walking, w.small)

pub multiply-root-requires : goal.multiply-root-requires
multiply-root-requires c = let w = c.requires.0 in let v = c.loop-x.invariant in let h = multiplying_root w v in (degree_of w, h, h)

pub loop-x-smaller : goal.loop-x-smaller
loop-x-smaller c = let w = c.requires.0 in let v = c.loop-x.invariant in omega (arith, walking_lt w v.walking)

pub loop-x-preserved : goal.loop-x-preserved
loop-x-preserved c = let w = c.requires.0 in let v = c.loop-x.invariant in
    multiplying_more w v c.twice-x.ensures c.multiply-value.ensures c.if-x-r.false c.multiply-root.ensures

pub from_value-requires : goal.from_value-requires
from_value-requires c = degree_of c.requires.0

pub returns-then-x-r : goal.returns-then-x-r
returns-then-x-r c = let w = c.requires.0 in let v = c.loop-x.invariant in
    multiplying_end w v c.twice-x.ensures c.multiply-value.ensures c.if-x-r.true c.from_value.ensures
