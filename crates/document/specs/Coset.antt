-- Cosets and the defining set (documents 001, 002, 003).
--
--   in_coset n r i              i is in the coset of r
--   smallest n r               r is the smallest of its coset
--   in_set n reps i             i is in D, the defining set of the representatives
--   defining_set n reps         D, rising
--   dimension n reps           k
use Rattle.std.specs.Prelude.{Bool, List, ℕ, ◌-◌, ◌*◌, ◌%◌, ◌^◌, eqb, leb, length}
use Rattle.field.specs.Search.{up_to, keep, some, every}

-- "The coset of r is the set of r·2^j mod n." The powers of 2 come round in fewer than n steps.
unfoldable pub in_coset : ℕ → ℕ → ℕ → Bool
in_coset n r i = some (λ j. eqb (r * 2 ^ j % n) i) (up_to n)

unfoldable pub smallest : ℕ → ℕ → Bool
smallest n r = every (λ j. leb r (r * 2 ^ j % n)) (up_to n)

-- "D, the defining set, is the union of the cosets of the sheet's representatives"
unfoldable pub in_set : ℕ → List ℕ → ℕ → Bool
in_set n reps i = some (λ r. in_coset n r i) reps

unfoldable pub defining_set : ℕ → List ℕ → List ℕ
defining_set n reps = keep (in_set n reps) (up_to n)

-- "and k = n - (size of D)"
unfoldable pub dimension : ℕ → List ℕ → ℕ
dimension n reps = n - length (defining_set n reps)
