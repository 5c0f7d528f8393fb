-- `listing::piece::Page::put_member` meets its contract: nothing, or the place.
use native.Mathlib.Omega.{arith}
use Rattle.listing.proofs.Pieces.{member_none, member_marked}
use Rattle.listing.proofs.piece.Page.put_member.Goals as goal

pub returns-then-mark-ne0 : goal.returns-then-mark-ne0
returns-then-mark-ne0 c = let w = c.put_spaced.ensures in (member_marked c.args.mark c.args.i c.if-mark-ne0.true w.0, w.1)

pub returns-else-mark-ne0 : goal.returns-else-mark-ne0
returns-else-mark-ne0 c = (member_none c.args.mark c.args.i c.if-mark-ne0.false (omega (arith, c.requires.0)), omega arith)
