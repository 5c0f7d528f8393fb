-- `listing::piece::Page::code_lines` meets its contract: one line after the other.
use native.Mathlib.Omega.{arith}
use Rattle.listing.proofs.Writing.{then}
use Rattle.listing.proofs.piece.Page.code_lines.Goals as goal

pub returns : goal.returns
returns c = let w = c.code_line.ensures in
    let x = c.zeros_line.ensures in
    let y = c.generator_line.ensures in
    (then (then w.0 x.0) y.0, omega (arith, w.1, x.1, y.1, c.requires.1.most))
