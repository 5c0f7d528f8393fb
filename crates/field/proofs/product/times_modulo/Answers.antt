-- `field::product::times_modulo` meets its contract: before each turn r is the product by the coefficients of a from i on.
use native.Mathlib.Omega.{arith}
use Rattle.field.proofs.Shifts.{times_lt, product_start, product_set, product_clear}
use Rattle.field.proofs.product.times_modulo.Goals as goal

pub loop-i-init : goal.loop-i-init
loop-i-init c = let p = c.requires in product_start p.0 _ _ p.1

pub times_x-r-requires : goal.times_x-r-requires
times_x-r-requires c = (c.requires.0, times_lt c.requires.0 _ c.loop-i.invariant)

pub loop-i-preserved-then-a-i-eq1 : goal.loop-i-preserved-then-a-i-eq1
loop-i-preserved-then-a-i-eq1 c = let p = c.requires in
    product_set p.0 _ _ _ _ _ p.2 (omega arith) c.loop-i.invariant c.times_x-r.ensures c.if-a-i-eq1.true

pub loop-i-preserved : goal.loop-i-preserved
loop-i-preserved c = let p = c.requires in
    product_clear p.0 _ _ _ _ _ p.2 (omega arith) c.loop-i.invariant c.times_x-r.ensures c.if-a-i-eq1.false
