-- `listing::piece::Page::put_members` meets its contract: the marked places below i are written.
use Prim.Native.Nat.{◌+◌, ◌*◌, ◌≤◌}
use Rattle.listing.specs.Wrote.{Adds}
use Rattle.listing.specs.Text.{rows, member_in}
use Rattle.listing.proofs.piece.Page.put_members.Given as goal

abbrev pub invariant-loop-i : goal.invariant-loop-i
invariant-loop-i l = (l.self.end ≤ l.initial.self.end + 5 * l.i) × Adds (rows (member_in l.zeros) l.i) l.initial.self l.self
