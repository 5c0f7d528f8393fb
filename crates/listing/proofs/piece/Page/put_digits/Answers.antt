-- `listing::piece::Page::put_digits` meets its contract: the first j coefficients are written.
use native.Mathlib.Omega.{arith}
use mathlib.Core.Path.{ap}
use mathlib.Core.List.{[], ◌∷◌}
use Prim.Native.Nat.{ℕ, ◌+◌}
use Rattle.listing.specs.Text.{digit_in}
use Rattle.listing.proofs.Writing.{adds_is}
use Rattle.listing.proofs.Pieces.{rows_start, rows_more, rows_end}
use Rattle.listing.proofs.piece.Page.put_digits.Goals as goal

pub loop-j-init : goal.loop-j-init
loop-j-init c = (omega arith, rows_start (digit_in c.args.generator.now) (omega (arith, c.requires.0)))

pub loop-j-preserved : goal.loop-j-preserved
loop-j-preserved c = let l = c.loop-j in let w = c.put.ensures in (
  omega (arith, l.invariant.0, w.wrote.end_is),
  rows_more (digit_in c.args.generator.now) l.j l.invariant.1 (adds_is (ap (λ (x : ℕ). (48 + x) ∷ []) c.coefficient_at.ensures) w),
)

pub returns : goal.returns
returns c = let v = c.loop-j.invariant in (rows_end (digit_in c.args.generator.now) {i = c.loop-j.j} (omega arith) v.1, omega (arith, v.0))
