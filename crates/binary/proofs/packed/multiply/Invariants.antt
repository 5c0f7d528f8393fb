-- `binary::packed::multiply` meets its contract: the product with the coefficients of f from i on stands.
use mathlib.Core.Path.{◌≡◌}
use Prim.Native.Nat.{◌/◌, ◌%◌, ◌^◌, ◌≤◌, ◌<◌}
use lib.ListN.{length}
use Rattle.field.specs.Mask.{clmul}
use Rattle.binary.specs.Packed.{packed, places_in}
use Rattle.binary.proofs.packed.multiply.Given as goal

abbrev pub invariant-loop-i : goal.invariant-loop-i
invariant-loop-i l = (length l.product ≡ length l.initial.product) × (length l.initial.product ≡ length l.g) × (l.d ≤ 64) × (packed l.g < 2 ^ places_in l.g) × (packed l.product ≡ clmul (l.f / 2 ^ l.i) (packed l.g) % 2 ^ places_in l.g)
