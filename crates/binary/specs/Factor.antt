-- Factors of numbers and of masks, the period of a mask, and power series of masks.
--
--   coprime a b               no number above 1 divides both
--   degree f                  the degree of a mask
--   divides d a               the mask d divides the mask a
--   common f h                some mask of degree 1 or more divides both
--   period f                  the smallest p above 0 for which f divides x^p + 1
--   Modulus f u               f has degree u, 1 to 8, and constant term 1
--   terms f h L               the first L terms of the power series h/f
--   Ratio f h                 h/f is such a series: f of degree 1 to 8 with constant term 1, h not 0 and of smaller degree
use Rattle.std.specs.Prelude.{◌≡◌, Bool, not, ◌&&◌, List, [], ◌∷◌, ◌++◌, ℕ, zero, suc, ◌+◌, ◌-◌, ◌*◌, ◌%◌, ◌^◌, ◌≤◌, ◌<◌, eqb, get_or}
use Rattle.field.specs.Search.{least, up_to, some, every, total}
use Rattle.field.specs.Mask.{◌⊕◌, coefficient, size, remainder}

-- the numbers from 2 on; none above a + b divides both, but where both are 0
unfoldable pub coprime : ℕ → ℕ → Bool
coprime a b = every (λ d. not (eqb (a % (d + 2)) 0 && eqb (b % (d + 2)) 0)) (up_to (a + b + 1))

unfoldable pub degree : ℕ → ℕ
degree f = size f - 1

unfoldable pub divides : ℕ → ℕ → Bool
divides d a = eqb (remainder (degree d) d a) 0

-- the masks from 2 on, which is x, of f's degree at most
unfoldable pub common : ℕ → ℕ → Bool
common f h = some (λ d. divides (d + 2) f && divides (d + 2) h) (up_to (2 ^ size f - 2))

-- A mask of degree u above 0 with constant term 1 has a period below 2^u.
unfoldable pub period : ℕ → ℕ
period f = suc (least (λ j. divides f (2 ^ suc j ⊕ 1)) (2 ^ degree f))

-- "The sequence a0, a1, .. is the power series h/f over two elements": term j makes coefficient j of f·a that of h.
unfoldable pub terms : ℕ → ℕ → ℕ → List ℕ
terms f h zero = []
terms f h (suc j) =
    let a : List ℕ = terms f h j in
    a ++ ((coefficient j h + total j (λ i. coefficient (j - i) f * get_or a i 0)) % 2 ∷ [])

pub record Ratio (f h : ℕ) : Type 0 where
  pub two : 2 ≤ f
  pub cap : f < 512
  pub odd : f % 2 ≡ 1
  pub pos : 0 < h
  pub proper : h < 2 ^ degree f

pub record Modulus (f u : ℕ) : Type 0 where
  pub is : u ≡ degree f
  pub lo : 1 ≤ u
  pub hi : u ≤ 8
  pub odd : f % 2 ≡ 1
