-- `listing::piece::Page::certificate_lines` meets its contract: the lines of the certificates below i are written.
use native.Mathlib.Omega.{arith}
use Rattle.listing.specs.Accepted.{row_in}
use Rattle.listing.proofs.Pieces.{rows_start, rows_more, rows_end}
use Rattle.listing.proofs.piece.Page.certificate_lines.Goals as goal

pub loop-i-init : goal.loop-i-init
loop-i-init c = (omega arith, rows_start (row_in c.args.certificates.now) (omega (arith, c.requires.0)))

pub loop-i-preserved : goal.loop-i-preserved
loop-i-preserved c = let l = c.loop-i in let w = c.put_certificate.ensures in
    (omega (arith, l.invariant.0, w.1), rows_more (row_in c.args.certificates.now) l.i l.invariant.1 w.0)

pub returns : goal.returns
returns c = let v = c.loop-i.invariant in
    (rows_end (row_in c.args.certificates.now) {i = c.loop-i.i} (omega arith) v.1, omega (arith, v.0))
