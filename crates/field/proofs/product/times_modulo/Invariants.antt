-- `field::product::times_modulo` meets its contract: before each turn r is the product by the coefficients of a from i on.
use mathlib.Core.Path.{◌≡◌}
use Prim.Native.Nat.{◌/◌, ◌^◌}
use Rattle.field.specs.Mask.{clmul, remainder}
use Rattle.field.proofs.product.times_modulo.Given as goal

abbrev pub invariant-loop-i : goal.invariant-loop-i
invariant-loop-i l = l.r ≡ remainder l.s l.f (clmul (l.a / 2 ^ l.i) l.b)
