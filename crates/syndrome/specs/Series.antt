-- The syndromes of a word from its values.
--
--   SyndromesOf n c val out out'     out' holds them, and past the L-th what out held
-- Syndrome j is aj times the word's value at α^(b + j·z), where aj is term j of h/f.
use Rattle.std.specs.Prelude.{◌≡◌, List, ℕ, ◌+◌, ◌*◌, ◌%◌, ◌≤◌, ◌<◌, get_or}
use Rattle.binary.specs.Factor.{terms}
use Rattle.document.specs.Sheet.{Certificate}

pub record SyndromesOf (n : ℕ) (c : Certificate) (val out out' : List ℕ) : Type 0 where
  pub at : (j : ℕ) → j < c.L → get_or out' j 0 ≡ get_or (terms c.f c.h c.L) j 0 * get_or val ((c.b + j * c.z) % n) 0
  pub rest : (j : ℕ) → c.L ≤ j → get_or out' j 0 ≡ get_or out j 0
