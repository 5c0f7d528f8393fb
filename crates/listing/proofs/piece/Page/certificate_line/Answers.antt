-- `listing::piece::Page::certificate_line` meets its contract: one piece after the other.
use native.Mathlib.Omega.{arith}
use Rattle.document.specs.Card.{spaced, terms_word, distance_word}
use Rattle.listing.proofs.Writing.{then, join}
use Rattle.listing.proofs.piece.Page.certificate_line.Goals as goal

pub returns : goal.returns
returns c = let a = c.args in
    let w = c.put_field.ensures in
    let x = c.put_field-2.ensures in
    let y = c.put_field-3.ensures in
    let z = c.put.ensures in (
      then (join (join w.0 terms_word (spaced a.terms) x.0) distance_word (spaced a.d) y.0) z,
      omega (arith, w.1, x.1, y.1, z.wrote.end_is),
    )
