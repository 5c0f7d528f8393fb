-- `listing::piece::Page::zeros_line` meets its contract: one piece after the other.
use native.Mathlib.Omega.{arith}
use Rattle.listing.proofs.Writing.{then}
use Rattle.listing.proofs.piece.Page.zeros_line.Goals as goal

pub returns : goal.returns
returns c = let w = c.put_text.ensures in
    let x = c.put_members.ensures in
    let z = c.put.ensures in
    (then (then w x.0) z, omega (arith, w.wrote.end_is, x.1, z.wrote.end_is))
