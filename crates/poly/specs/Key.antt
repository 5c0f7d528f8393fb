-- The key equation Λ S = Ω modulo x^l in slices: what Euclid's algorithm asks for, and the solution that it leaves.
--
--   Solvable s l stop a b v w         b holds the series S below l; a, v and w hold 0, and all four are long enough
--   Key d l stop S t n                t is the cofactor of a remainder of at most stop coefficients, and has n of its own
--   Solved s l stop S t n             the slice t holds that cofactor in its first n places, in every field of degree s
--   Outcome s l stop S r v w         r says whether it is in v or in w, and n
use Rattle.std.specs.Prelude.{◌≡◌, List, ℕ, ◌≤◌, ◌<◌, length}
use Rattle.algebra.proofs.Rows.{Done}
use Rattle.field.specs.Field.{Degree}
use Rattle.field.proofs.Elements.{GF}
use Rattle.poly.specs.declared.types.Locator.{Locator}
use Rattle.poly.specs.declared.types.Locator.TheVariants.{Lower, Upper}
use Rattle.poly.specs.Slice.{Small, Short, series}

pub record Solvable (s l stop : ℕ) (a b v w : List ℕ) : Type 0 where
  pub b_small : Small s b
  pub b_short : Short l b
  pub a_zero : Short 0 a
  pub v_zero : Short 0 v
  pub w_zero : Short 0 w
  pub stop_most : stop ≤ l
  pub a_long : l < length a
  pub b_long : l < length b
  pub v_long : l < length v
  pub w_long : l < length w

pub record Key {s : ℕ} (d : Degree s) (l stop : ℕ) (S t : List ℕ) (n : ℕ) : Type 0 where
  pub done : Done (GF d) l stop (series d S)
  pub is : done.t ≡ series d t
  pub size : done.e < n

pub record Solved (s l stop : ℕ) (S t : List ℕ) (n : ℕ) : Type 0 where
  pub small : Small s t
  pub short : Short n t
  pub pos : 0 < n
  pub long : n ≤ length t
  pub key : (d : Degree s) → Key d l stop S t n

abbrev pub Outcome : ℕ → ℕ → ℕ → List ℕ → Locator → List ℕ → List ℕ → Type 0
Outcome s l stop S (Lower n) v w = Solved s l stop S v n
Outcome s l stop S (Upper n) v w = Solved s l stop S w n
