-- `listing::piece::Page::code_line` meets its contract: one piece after the other.
use native.Mathlib.Omega.{arith}
use Rattle.listing.proofs.Writing.{then}
use Rattle.listing.proofs.piece.Page.code_line.Goals as goal

pub returns : goal.returns
returns c = let w = c.put_field.ensures in
    let x = c.put_spaced.ensures in
    let y = c.put_spaced-2.ensures in
    let z = c.put.ensures in
    (then (then (then w.0 x.0) y.0) z, omega (arith, w.1, x.1, y.1, z.wrote.end_is))
