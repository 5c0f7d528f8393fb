-- `listing::piece::Page::put_digits` meets its contract: the first j coefficients are written.
use Prim.Native.Nat.{◌+◌, ◌≤◌}
use Rattle.listing.specs.Wrote.{Adds}
use Rattle.listing.specs.Text.{rows, digit_in}
use Rattle.listing.proofs.piece.Page.put_digits.Given as goal

abbrev pub invariant-loop-j : goal.invariant-loop-j
invariant-loop-j l = (l.self.end ≤ l.initial.self.end + l.j) × Adds (rows (digit_in l.generator) l.j) l.initial.self l.self
