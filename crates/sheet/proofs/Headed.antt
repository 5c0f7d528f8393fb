-- What refusals 1 and 3 leave, for any kind of sheet.
--
--   long_enough     a sheet that does not draw 1 has a whole header
--   degree_1, degree_pass      the two exits of refusal 3
use mathlib.Core.Path.{◌≡◌}
use mathlib.Core.Bool.{true, false}
use mathlib.Core.List.{List}
use Prim.Native.Nat.{ℕ, ◌≤◌, ◌<◌}
use native.Mathlib.Decide.{dec_lt}
use native.Mathlib.Omega.{arith}
use lib.ListN.{length}
use borrow.Author.Tests.{lt-ltb, le-ltb}
use Rattle.field.specs.Field.{order_of_two}
use Rattle.field.proofs.Search.{true_ne_false}
use Rattle.document.specs.Sheet.{Kind, wrong_length}
use Rattle.document.specs.Judge.{wrong_degree}

pub long_enough : (kind : Kind) (s : List ℕ) → wrong_length kind s ≡ false → kind.shortest ≤ length s
unfolding wrong_length
long_enough kind s e = elim (dec_lt (length s) kind.shortest) [
  | yes h ↦ absurd (true_ne_false (simp (lt-ltb _ _ h)) e)
  | no h ↦ omega (arith, h)
]

pub degree_1 : (n : ℕ) → 12 < order_of_two n → true ≡ wrong_degree n
unfolding wrong_degree
degree_1 n h = simp (lt-ltb _ _ h)

pub degree_pass : (n : ℕ) → order_of_two n ≤ 12 → false ≡ wrong_degree n
unfolding wrong_degree
degree_pass n h = simp (le-ltb _ _ h)
