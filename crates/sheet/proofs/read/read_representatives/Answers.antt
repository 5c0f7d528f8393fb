-- `sheet::read::read_representatives` meets its contract: the first i bytes from byte 10 on are copied.
use native.Mathlib.Omega.{arith}
use mathlib.Core.Path.{◌∙◌}
use Prim.Native.Nat.{◌≤◌}
use lib.ListN.{length}
use lib.Seq.{length-take-le}
use Rattle.document.specs.Short.{short}
use Rattle.document.proofs.Stated.{representatives_length}
use Rattle.sheet.proofs.Reading.{representatives_start, representatives_end}
use Rattle.sheet.proofs.read.read_representatives.Goals as goal

pub slice_bounds-r-items-end : goal.slice_bounds-r-items-end
slice_bounds-r-items-end c = omega (arith, representatives_length short c.args.sheet.now)

pub slice_bounds-r-items-end-2 : goal.slice_bounds-r-items-end-2
slice_bounds-r-items-end-2 c = let h : c.byte-count.result ≤ length c.args.representatives.now = omega (arith, representatives_length short c.args.sheet.now) in
    omega (arith, length-take-le _ _ h)

pub loop-i-init : goal.loop-i-init
loop-i-init c = (length-take-le _ _ (omega (arith, representatives_length short c.args.sheet.now)), representatives_start)

pub returns : goal.returns
returns c = let v = c.loop-i.invariant in representatives_end _ (v.0 ∙ c.byte-count.ensures.0) (omega (arith, c.byte-count.ensures.0)) v.1
