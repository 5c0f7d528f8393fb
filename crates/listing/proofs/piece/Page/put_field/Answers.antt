-- `listing::piece::Page::put_field` meets its contract: one piece after the other.
use native.Mathlib.Omega.{arith}
use Rattle.listing.proofs.Writing.{then}
use Rattle.listing.proofs.piece.Page.put_field.Goals as goal

pub returns : goal.returns
returns c = let w = c.put_text.ensures in let d = c.put_spaced.ensures in
    (then w d.0, omega (arith, w.wrote.end_is, d.1))
