-- The certificate (document 001, with step z): its rules, its distance, the working one.
--
--   steps, ratio, extent      the parts of rule 1
--   rule1 .. rule4            the four rules
--   distance, radius          d and t of a certificate
--   beats c e                 c is to be preferred to e
--   working count at          which of the certificates at 0, at 1, .. below count is at work
use Rattle.std.specs.Prelude.{Bool, not, ◌&&◌, ◌||◌, List, ℕ, ◌+◌, ◌-◌, ◌*◌, ◌/◌, ◌%◌, eqb, leb, ltb, get_or}
use Rattle.field.specs.Search.{least, up_to, every}
use Rattle.field.specs.Mask.{coefficient}
use Rattle.field.specs.Field.{order_of_two}
use Rattle.binary.specs.Factor.{coprime, degree, common, terms}
use Rattle.document.specs.Sheet.{Certificate}
use Rattle.document.specs.Coset.{in_set}
use Rattle.document.specs.Apart.{factors_apart}

-- "1. b is below n; z is 1 to n - 1 and coprime to n;
unfoldable pub steps : ℕ → Certificate → Bool
steps n c = ltb c.b n && leb 1 c.z && leb c.z (n - 1) && coprime c.z n

-- u is 1 to 8 and f has constant term 1; h isn't 0 and v < u;
unfoldable pub ratio : Certificate → Bool
ratio c =
    leb 1 (degree c.f) && leb (degree c.f) 8 && eqb (coefficient 0 c.f) 1 && not (eqb c.h 0)
    && ltb (degree c.h) (degree c.f)

-- L is 1 to 1,023; its zero byte on the sheet is 0" The largest L is that of the kind of sheet.
unfoldable pub extent : ℕ → Certificate → Bool
extent most c = leb 1 c.L && leb c.L most && eqb c.zero_field 0

unfoldable pub rule1 : ℕ → ℕ → Certificate → Bool
rule1 most n c = steps n c && ratio c && extent most c

-- "2. h and f have no common factor"
unfoldable pub rule2 : Certificate → Bool
rule2 c = not (common c.f c.h)

-- 3, as 2026-03 has it: "f(α^i·x) and f(α^j·x) .. have no common factor for different i and j below n"
unfoldable pub rule3 : ℕ → Certificate → Bool
rule3 n c = factors_apart (order_of_two n) n c.f

-- "4. for each j below L, aj is 0 or (b + j·z) mod n is in D."
unfoldable pub rule4 : ℕ → List ℕ → Certificate → Bool
rule4 n reps c =
    let a : List ℕ = terms c.f c.h c.L in
    every (λ j. eqb (get_or a j 0) 0 || in_set n reps ((c.b + j * c.z) % n)) (up_to c.L)

-- "Its distance is d = (L - v)/u + 1, rounded up." Where L is not above v that is 1.
unfoldable pub distance : Certificate → ℕ
distance c = (c.L - degree c.h + (degree c.f - 1)) / degree c.f + 1

-- "t = (d - 1)/2 rounded down"
unfoldable pub radius : Certificate → ℕ
radius c = (distance c - 1) / 2

-- 2026-04: "the largest d, then the fewest terms": a larger d, or the same d in fewer terms
unfoldable pub beats : Certificate → Certificate → Bool
beats c e = ltb (distance e) (distance c) || (eqb (distance c) (distance e) && ltb c.L e.L)

-- "The working certificate becomes the one with the largest d, then the fewest terms, then the earliest": the least index that no other beats
unfoldable pub working : ℕ → (ℕ → Certificate) → ℕ
working count at = least (λ i. every (λ j. not (beats (at j) (at i))) (up_to count)) count
