-- Polynomials over two elements in lists of 0 and 1. No entry's contract cites this file.
--
--   Holds a p              the list p holds the coefficients of the mask a, low first, and 0 past them
use Rattle.std.specs.Prelude.{◌≡◌, List, ℕ, get_or}
use Rattle.field.specs.Mask.{coefficient}

pub record Holds (a : ℕ) (p : List ℕ) : Type 0 where
  pub at : (i : ℕ) → get_or p i 0 ≡ coefficient i a
