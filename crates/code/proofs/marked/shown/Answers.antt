-- `code::marked::shown` meets its contract: the first bytes, or all.
use native.Mathlib.Omega.{arith}
use mathlib.Core.Path.{ap}
use lib.ListN.{length}
use Rattle.std.specs.Prelude.{◌≡◌, min}
use Rattle.std.specs.Int.{div_ceil}
use Rattle.code.proofs.Parted.{part_zeros, part_ones}
use Rattle.code.proofs.marked.shown.Goals as goal
use Rattle.code.proofs.marked.shown.Goals.{then-is_first, else-is_first}

pub returns : goal.returns
returns c =
    let a = c.args in
    let e : c.min.result ≡ min (div_ceil a.n 8) (length c.if-is_first.buffer.now) = omega arith in
    elim c.if-is_first.branch [
      | then-is_first w ↦ part_zeros a.trial a.n a.zeros.now a.ones.now e w.if-is_first.true (ap (λ r. r.now) w.buffer-is)
      | else-is_first w ↦ part_ones a.trial a.n a.zeros.now a.ones.now e w.if-is_first.false (ap (λ r. r.now) w.buffer-is)
    ]
