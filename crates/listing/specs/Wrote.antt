-- What writing a piece of text leaves. No entry's contract cites this file.
--
--   Wrote piece at out out' end      out' is out with the piece from `at` on, which stops before `end`
--   Adds piece p p'                  the same of a page, which stays that of one slice
use Rattle.std.specs.Prelude.{◌≡◌, List, ◌++◌, ℕ, ◌+◌, ◌≤◌, length, take, drop}
use Rattle.listing.specs.declared.piece.Page.{Page}

pub record Wrote (piece : List ℕ) (at : ℕ) (out out' : List ℕ) (end : ℕ) : Type 0 where
  pub end_is : end ≡ at + length piece
  pub within : end ≤ length out
  pub is : out' ≡ take at out ++ piece ++ drop (at + length piece) out

pub record Adds (piece : List ℕ) (p p' : Page) : Type 0 where
  pub same : p'.out.ghost_name ≡ p.out.ghost_name
  pub long : length p'.out.now ≡ length p.out.now
  pub wrote : Wrote piece p.end p.out.now p'.out.now p'.end
