-- Polynomials over two elements packed in slices, 64 places to a number, and the register of a division. No entry's contract cites
-- this file.
--
--   joined n f           the mask that n numbers of 64 places hold: number i has weight 2^(64 i)
--   packed l             the mask that a slice holds
--   places_in l           how many places it has
--   TopHolds m p r       the top m places of r hold p, and those below them 0: a register of m places
--   Feedback m g f       f holds g, of degree m, without its own x^m, in the same places
--   BitTaken bit f r r'  one bit into a register
--   Taken a i f r        the register that the encoder keeps
use Rattle.std.specs.Prelude.{◌≡◌, List, ℕ, ◌-◌, ◌*◌, ◌/◌, ◌%◌, ◌^◌, ◌≤◌, ◌<◌, length, get_or}
use Rattle.field.specs.Search.{total}
use Rattle.field.specs.Mask.{◌⊕◌, remainder}

unfoldable pub joined : ℕ → (ℕ → ℕ) → ℕ
joined n f = total n (λ i. f i * 2 ^ (64 * i))

unfoldable pub packed : List ℕ → ℕ
packed l = joined (length l) (λ i. get_or l i 0)

abbrev pub places_in : List ℕ → ℕ
places_in l = 64 * length l

pub record TopHolds (m p : ℕ) (r : List ℕ) : Type 0 where
  pub room : m ≤ places_in r
  pub small : p < 2 ^ m
  pub is : packed r ≡ p * 2 ^ (places_in r - m)

pub record Feedback (m g : ℕ) (f : List ℕ) : Type 0 where
  pub top : g / 2 ^ m ≡ 1
  pub held : TopHolds m (g % 2 ^ m) f

-- one bit more: x p and the bit as x^m
pub record BitTaken (bit : ℕ) (f r r' : List ℕ) : Type 0 where
  pub holds : {m g p : ℕ} → Feedback m g f → TopHolds m p r → TopHolds m (remainder m g (p * 2 ⊕ bit * 2 ^ m)) r'

-- "after each bit, that of x^(n-k) times the bits taken so far, the last of them as x^0, by the generator" (2026-02). Of a all bits
-- but the i lowest are taken, and m is n - k.
pub record Taken (a i : ℕ) (f r : List ℕ) : Type 0 where
  pub holds : {m g : ℕ} → Feedback m g f → TopHolds m (remainder m g (a / 2 ^ i * 2 ^ m)) r
