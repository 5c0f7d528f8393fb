-- `listing::piece::Page::certificate_lines` meets its contract: the lines of the certificates below i are written.
use Prim.Native.Nat.{◌+◌, ◌*◌, ◌≤◌}
use Rattle.listing.specs.Wrote.{Adds}
use Rattle.listing.specs.Text.{rows}
use Rattle.listing.specs.Accepted.{row_in}
use Rattle.listing.proofs.piece.Page.certificate_lines.Given as goal

abbrev pub invariant-loop-i : goal.invariant-loop-i
invariant-loop-i l = (l.self.end ≤ l.initial.self.end + 35 * l.i) × Adds (rows (row_in l.certificates) l.i) l.initial.self l.self
