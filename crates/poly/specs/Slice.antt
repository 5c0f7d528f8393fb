-- A polynomial over the field in a slice: entry k is the coefficient of x^k.
--
--   Small s l     every entry is an element of the field of degree s
--   Short n l     from entry n on there is nothing
--   series d l    the same as a power series over that field
use Rattle.std.specs.Prelude.{◌≡◌, List, ℕ, ◌^◌, ◌≤◌, ◌<◌, get_or}
use Rattle.field.specs.Field.{Degree}
use Rattle.field.proofs.Elements.{F, el}

pub record Small (s : ℕ) (l : List ℕ) : Type 0 where
  pub at : (i : ℕ) → get_or l i 0 < 2 ^ s

pub record Short (n : ℕ) (l : List ℕ) : Type 0 where
  pub at : (i : ℕ) → n ≤ i → get_or l i 0 ≡ 0

unfoldable pub series : {s : ℕ} → Degree s → List ℕ → ℕ → F s
series d l k = el d (get_or l k 0)
