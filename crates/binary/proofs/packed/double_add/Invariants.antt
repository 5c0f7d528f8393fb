-- `binary::packed::double_add` meets its contract: the first i numbers are done, and the carry is what came up.
use mathlib.Core.Path.{◌≡◌}
use Prim.Native.Nat.{◌*◌, ◌%◌}
use lib.ListN.{length}
use Rattle.binary.proofs.Passing.{Passing}
use Rattle.binary.proofs.packed.double_add.Given as goal

abbrev pub invariant-loop-i : goal.invariant-loop-i
invariant-loop-i l = (length l.w ≡ length l.initial.w) × (length l.initial.w ≡ length l.g) × (l.selector ≡ l.selector % 2 * 18446744073709551615) × Passing l.i (l.selector % 2) l.carry l.g l.initial.w l.w
