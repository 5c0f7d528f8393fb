-- `binary::packed::multiply` meets its contract: the product with the coefficients of f from i on stands.
use native.Mathlib.Omega.{arith}
use mathlib.Core.Path.{refl, ap, ◌∙◌}
use Prim.Native.Nat.{ℕ, ◌-◌, ◌*◌, ◌/◌, ◌%◌, ◌^◌}
use lib.Bits.{and_mask}
use Rattle.field.specs.Mask.{◌⊕◌}
use Rattle.binary.specs.Packed.{packed, places_in}
use Rattle.binary.proofs.Packing.{packed_lt}
use Rattle.binary.proofs.Feeding.{bit_lt, ones_digit, times_start, times_more}
use Rattle.binary.proofs.packed.multiply.Goals as goal

pub loop-i-init : goal.loop-i-init
loop-i-init c = let p = c.requires in let l = packed_lt c.args.g.now (λ i. (c.type_inv.g i).fits) in (refl, p.0, p.3, l, times_start _ _ _ l _ _ p.2 p.1)

pub loop-i-preserved : goal.loop-i-preserved
loop-i-preserved c = let v = c.loop-i.invariant in let a = c.args in let w = c.loop-i.product in (omega (arith, v.0, c.double_add.auto.w), v.1, v.2, v.3, times_more _ _ _ v.3 _ _ _ _ (omega arith) (and_mask _ 1) v.4 (c.double_add.ensures ∙ ap (λ (x : ℕ). (packed w * 2 % 2 ^ places_in a.g.now) ⊕ x * packed a.g.now) (ones_digit _ (bit_lt (a.f / 2 ^ (c.loop-i.i - 1))))))
