-- Sums over the places of a word at which it has a 1. No entry's contract cites this file.
--
--   sum_over h list c        the sum of h over the first c places of a list
--   sum_below n a h          the sum of h over the places below n at which the mask a has a 1
--   Listed n a list c       the first c places of a list are those below n of the mask a
--   Valuable s by list      a list of places, and an exponent
use Rattle.std.specs.Prelude.{◌≡◌, List, ℕ, zero, suc, ◌-◌, ◌*◌, ◌^◌, ◌≤◌, ◌<◌, length, get_or}
use Rattle.field.specs.Mask.{◌⊕◌, coefficient}

unfoldable pub sum_over : (ℕ → ℕ) → List ℕ → ℕ → ℕ
sum_over h list zero = 0
sum_over h list (suc k) = sum_over h list k ⊕ h (get_or list k 0)

unfoldable pub sum_below : ℕ → ℕ → (ℕ → ℕ) → ℕ
sum_below zero a h = 0
sum_below (suc i) a h = sum_below i a h ⊕ coefficient i a * h i

-- each that is listed is a place of the mask, and whatever is summed over the list is summed over those places
pub record Listed (n a : ℕ) (list : List ℕ) (c : ℕ) : Type 0 where
  pub le : c ≤ n
  pub below : (k : ℕ) → k < c → get_or list k 0 < n
  pub marked : (k : ℕ) → k < c → coefficient (get_or list k 0) a ≡ 1
  pub is : (h : ℕ → ℕ) → sum_over h list c ≡ sum_below n a h

pub record Valuable (s by : ℕ) (list : List ℕ) : Type 0 where
  pub by_lt : by < 2 ^ s - 1
  pub below : (k : ℕ) → k < length list → get_or list k 0 < 2 ^ s - 1
