-- `listing::piece::Page::radius_line` meets its contract: one piece after the other.
use native.Mathlib.Omega.{arith}
use Rattle.document.specs.Card.{spaced, from_word}
use Rattle.listing.proofs.Writing.{then, join}
use Rattle.listing.proofs.piece.Page.radius_line.Goals as goal

pub returns : goal.returns
returns c = let w = c.put_field.ensures in
    let x = c.put_field-2.ensures in
    let z = c.put.ensures in
    (then (join w.0 from_word (spaced c.args.working) x.0) z, omega (arith, w.1, x.1, z.wrote.end_is))
