-- `sheet::cosets::marks` meets its contract: the sum so far.
use native.Mathlib.Omega.{arith}
use mathlib.Core.Path.{◌≡◌, sym}
use Prim.Native.Nat.{ℕ}
use lib.ListN.{get_or, take}
use lib.Seq.{get_or-take, length-take-le}
use Rattle.field.proofs.Search.{total_z, total_more}
use Rattle.sheet.proofs.cosets.marks.Goals as goal

pub loop-z-init : goal.loop-z-init
loop-z-init c = (omega arith, sym (total_z _))

pub loop-z-preserved : goal.loop-z-preserved
loop-z-preserved c = let v = c.loop-z.invariant in
    let e : get_or (take c.args.n c.args.zeros.now) c.loop-z.z-index 0 ≡ get_or c.args.zeros.now c.loop-z.z-index 0 = get_or-take c.args.n c.args.zeros.now c.loop-z.z-index 0 (omega (arith, length-take-le c.args.n c.args.zeros.now)) in
    (omega (arith, (c.type_inv.zeros c.loop-z.z-index).fits), rw (← e, ← c.from-size.ensures) at (total_more _ (λ (k : ℕ). get_or c.args.zeros.now k 0) v.1))
