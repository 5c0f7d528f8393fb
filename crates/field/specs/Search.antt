-- Search through numbers, and their sums.
--
--   least test n     the least number below n that passes the test; n if none does
--   up_to n           the numbers below n, rising
--   keep test l      those of l that pass the test, in their order
--   total n term     the sum of term i over i below n
--   bit b            1 where b is true, else 0
--   some test l      whether one of l passes the test; every test l: whether all do
use Rattle.std.specs.Prelude.{Bool, true, false, ◌&&◌, ◌||◌, List, [], ◌∷◌, ◌++◌, ℕ, zero, suc, ◌+◌}

-- of the n numbers from i on
unfoldable pub least_from : (ℕ → Bool) → ℕ → ℕ → ℕ
least_from test zero i = i
least_from test (suc n) i = elim (test i) [ true ↦ i | false ↦ least_from test n (suc i) ]

unfoldable pub least : (ℕ → Bool) → ℕ → ℕ
least test n = least_from test n 0

unfoldable pub up_to : ℕ → List ℕ
up_to zero = []
up_to (suc n) = up_to n ++ (n ∷ [])

unfoldable pub keep : (ℕ → Bool) → List ℕ → List ℕ
keep test [] = []
keep test (x ∷ l) = elim (test x) [ true ↦ x ∷ keep test l | false ↦ keep test l ]

unfoldable pub some : (ℕ → Bool) → List ℕ → Bool
some test [] = false
some test (x ∷ l) = test x || some test l

unfoldable pub every : (ℕ → Bool) → List ℕ → Bool
every test [] = true
every test (x ∷ l) = test x && every test l

unfoldable pub total : ℕ → (ℕ → ℕ) → ℕ
total zero term = 0
total (suc n) term = total n term + term n

abbrev pub bit : Bool → ℕ
bit true = 1
bit false = 0
