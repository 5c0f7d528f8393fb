-- The factor of a coset, the product of x - α^i over it. No entry's contract cites this file.
--
--   CosetOf n s r           r is below the odd length n, whose s is at most 12
--   OneRound s e g          e holds the powers of ω of one round, and g their logarithms
--   CosetWalked n s r m     r, 2 r, 4 r, .. modulo n is back at r after m steps, and not before
--   FromValue s v m f k     f is the mask of degree m, up to s, whose value at ω is v, and k is m
--   Factored n s r f m      f is the factor of the coset of r, and m its degree, the number of members
use Rattle.std.specs.Prelude.{◌≡◌, ◌≢◌, List, [], ◌∷◌, ℕ, ◌-◌, ◌*◌, ◌/◌, ◌%◌, ◌^◌, ◌≤◌, ◌<◌, length, get_or}
use Rattle.field.specs.Mask.{remainder}
use Rattle.field.specs.Field.{mask, Degree, OddLength, ω, field_power, order_of_two}
use Rattle.field.specs.Tables.{Powers}
use Rattle.document.specs.Coset.{defining_set}
use Rattle.document.specs.Generator.{generator}

pub record CosetOf (n s r : ℕ) : Type 0 where
  pub odd : OddLength n
  pub s_is : s ≡ order_of_two n
  pub small : s ≤ 12
  pub r_lt : r < n

pub record CosetWalked (n s r m : ℕ) : Type 0 where
  pub pos : 1 ≤ m
  pub most : m ≤ s
  pub back : r * 2 ^ m % n ≡ r
  pub first : (j : ℕ) → 0 < j → j < m → r * 2 ^ j % n ≢ r

pub record OneRound (s : ℕ) (e g : List ℕ) : Type 0 where
  pub degree : Degree s
  pub e_long : 2 ^ s - 1 ≤ length e
  pub g_long : 2 ^ s ≤ length g
  pub powers : Powers s (2 ^ s - 1) e
  pub logs : (k : ℕ) → k < 2 ^ s - 1 → get_or g (field_power s ω k) 0 ≡ k

-- ω is x, so the value at ω of a mask is its remainder by the field's mask
pub record FromValue (s v m f k : ℕ) : Type 0 where
  pub mask_is : {a : ℕ} → m ≤ s → a / 2 ^ m ≡ 1 → v ≡ remainder s (mask s) a → f ≡ a
  pub degree_is : k ≡ m

pub record Factored (n s r f m : ℕ) : Type 0 where
  pub mask_is : f ≡ generator n (r ∷ [])
  pub degree_is : m ≡ length (defining_set n (r ∷ []))
  pub most : m ≤ s
