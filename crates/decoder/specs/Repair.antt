-- A word with listed places changed. No entry's contract cites this file.
--
--   PlacesOf a bytes                   the places of the bytes are those of the mask a
--   Repairable word list m out       m listed places, all of the word, and bytes for the result
--   Repaired word list m out         the word's mask with the first m places of the list changed, each as often as it is listed
--   Reached list m end r             r says whether one of the first m places of the list is not below the end
use Rattle.std.specs.Prelude.{◌≡◌, Bool, true, false, List, ℕ, ◌*◌, ◌^◌, ◌≤◌, ◌<◌, length, get_or}
use Rattle.field.specs.Mask.{◌⊕◌, coefficient}
use Rattle.document.specs.Layout.{word_weight, place}
use Rattle.syndrome.specs.Sums.{sum_over}

pub record PlacesOf (a : ℕ) (bytes : List ℕ) : Type 0 where
  pub at : (i : ℕ) → i < length bytes * 8 → place word_weight bytes i ≡ coefficient i a

pub record Repairable (word list : List ℕ) (m : ℕ) (out : List ℕ) : Type 0 where
  pub long : length out ≡ length word
  pub listed : m ≤ length list
  pub below : (k : ℕ) → k < m → get_or list k 0 < length word * 8

pub record Repaired (word list : List ℕ) (m : ℕ) (out : List ℕ) : Type 0 where
  pub at : (a : ℕ) → PlacesOf a word → PlacesOf (a ⊕ sum_over (λ j. 2 ^ j) list m) out

pub record Reached (list : List ℕ) (m end : ℕ) (r : Bool) : Type 0 where
  pub yes : r ≡ true → (k : ℕ) × (k < m) × (end ≤ get_or list k 0)
  pub no : r ≡ false → (k : ℕ) → k < m → get_or list k 0 < end
