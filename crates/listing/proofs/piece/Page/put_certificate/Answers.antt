-- `listing::piece::Page::put_certificate` meets its contract: its numbers have at most four digits.
use mathlib.Core.Path.{ap₂}
use Rattle.document.specs.Card.{certificate_text}
use Rattle.listing.proofs.Writing.{adds_is}
use Rattle.listing.proofs.piece.Page.put_certificate.Goals as goal

pub returns : goal.returns
returns c = let w = c.certificate_line.ensures in
    (adds_is (ap₂ (certificate_text c.args.i) c.from.ensures c.distance_of.ensures.0) w.0, w.1)
