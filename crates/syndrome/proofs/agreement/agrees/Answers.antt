-- `syndrome::agreement::agrees` meets its contract: the listed places have the word's value at each representative before.
use native.Mathlib.Omega.{arith}
use mathlib.Core.Path.{refl}
use Rattle.field.proofs.Primitive.{Degree-bounds}
use Rattle.syndrome.proofs.Setting.{by_lt}
use Rattle.syndrome.proofs.Comparing.{valuable, value_of_places, comparing_more, comparing_end, comparing_wrong}
use Rattle.syndrome.proofs.agreement.agrees.Goals as goal

pub overflow_cast-r-in-loop-representative : goal.overflow_cast-r-in-loop-representative
overflow_cast-r-in-loop-representative c = let l = c.loop-representative in
    omega (arith, by_lt c.requires.setting l.invariant.0 {k = l.representative-index} (omega arith) refl, (Degree-bounds c.requires.setting.degree).1)

pub value-requires : goal.value-requires
value-requires c = let l = c.loop-representative in valuable c.requires l.invariant.0 {k = l.representative-index} (omega arith) refl

pub returns-then-value-values : goal.returns-then-value-values
returns-then-value-values c = let l = c.loop-representative in
    comparing_wrong {k = l.representative-index} c.requires (omega arith) refl c.if-value-values.true (value_of_places c.requires l.invariant.0 _ c.value.ensures.0)

pub loop-representative-preserved : goal.loop-representative-preserved
loop-representative-preserved c = let v = c.loop-representative.invariant in
    (v.0, omega arith, comparing_more v.2 refl c.if-value-values.false (value_of_places c.requires v.0 _ c.value.ensures.0))

pub returns : goal.returns
returns c = let v = c.loop-representative.invariant in comparing_end c.requires (omega arith) v.2
