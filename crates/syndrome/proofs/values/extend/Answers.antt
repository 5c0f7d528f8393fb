-- `syndrome::values::extend` meets its contract: the cosets of the first k representatives hold their values.
use native.Mathlib.Omega.{arith}
use mathlib.Core.Path.{refl}
use Rattle.syndrome.proofs.Extending.{extending_start, extending_more, extending_end, conjugable}
use Rattle.syndrome.proofs.values.extend.Goals as goal

pub loop-representative-init : goal.loop-representative-init
loop-representative-init c = (c.requires, omega arith, refl, extending_start)

pub offset_bounds-values-r : goal.offset_bounds-values-r
offset_bounds-values-r c = let v = c.loop-representative.invariant in omega (arith, v.0.setting.below c.loop-representative.representative-index (omega arith), v.0.setting.odd.most)

pub bounds-values-r : goal.bounds-values-r
bounds-values-r c = let v = c.loop-representative.invariant in omega (arith, v.0.setting.below c.loop-representative.representative-index (omega arith), v.0.long)

pub conjugates-requires : goal.conjugates-requires
conjugates-requires c = let v = c.loop-representative.invariant in conjugable v.0 v.3 (omega arith) refl refl v.2

pub loop-representative-preserved : goal.loop-representative-preserved
loop-representative-preserved c = let v = c.loop-representative.invariant in (v.0, omega arith, omega (arith, v.2, c.conjugates.auto.values), extending_more v.3 (omega arith) refl refl c.conjugates.ensures)

pub returns : goal.returns
returns c = let v = c.loop-representative.invariant in extending_end v.0 (omega arith) v.3
