-- What a word's values pass on. No entry's contract cites this file.
--
--   value_of n s c i         the value of c at α^i
--   HeldAt n s c reps val   val holds the values of c at the representatives
--   Evaluable n s reps      representatives, and the degree
--   Computable, Computed    the values at the representatives: what they need, and leave
--   ValuesTested            whether a word is a codeword, by these values
--   Conjugable, Conjugated  values along a coset: what it needs, and leaves
--   Extendable, Extended    the same for all of D
--   Comparable, Compared    whether a word is a codeword with listed places changed, by their values at the representatives
use Rattle.std.specs.Prelude.{◌≡◌, Bool, true, List, ℕ, ◌+◌, ◌-◌, ◌*◌, ◌/◌, ◌%◌, ◌^◌, ◌≤◌, ◌<◌, length, get_or}
use Rattle.field.specs.Mask.{◌⊕◌}
use Rattle.field.specs.Field.{Degree, OddLength, order_of_two, α, field_power}
use Rattle.document.specs.Coset.{in_set, dimension}
use Rattle.document.specs.Generator.{value_at, generator, is_codeword}
use Rattle.binary.specs.Bits.{Holds}
use Rattle.syndrome.specs.Sums.{Listed}

-- the value at α^i of the mask c
abbrev pub value_of : ℕ → ℕ → ℕ → ℕ → ℕ
value_of n s c i = value_at s (field_power s (α s n) i) c

-- val holds the values of c at the representatives
abbrev pub HeldAt : (n s c : ℕ) (reps val : List ℕ) → Type 0
HeldAt n s c reps val = (k : ℕ) → k < length reps → get_or val (get_or reps k 0) 0 ≡ value_of n s c (get_or reps k 0)

pub record Evaluable (n s : ℕ) (reps : List ℕ) : Type 0 where
  pub odd : OddLength n
  pub s_is : s ≡ order_of_two n
  pub below : (k : ℕ) → k < length reps → get_or reps k 0 < n
  pub degree : Degree s

-- ---- the representatives
-- a word of whole bytes, no more than n places take, in columns of four places
pub record Computable (n s : ℕ) (w reps col val : List ℕ) : Type 0 where
  pub setting : Evaluable n s reps
  pub bits : (i : ℕ) → get_or w i 0 < 2
  pub w_whole : length w % 8 ≡ 0
  pub w_most : length w ≤ (n + 7) / 8 * 8
  pub col_long : (n + 7) / 8 * 2 ≤ length col
  pub val_long : n ≤ length val

pub record Computed (n s : ℕ) (w reps val : List ℕ) : Type 0 where
  pub at : (c : ℕ) → Holds c w → c < 2 ^ n → HeldAt n s c reps val

pub record ValuesTested (n : ℕ) (w reps : List ℕ) (r : Bool) : Type 0 where
  pub is : (c : ℕ) → Holds c w → c < 2 ^ n → r ≡ is_codeword (n - dimension n reps) (generator n reps) c

-- ---- a coset
pub record Conjugable (n s r v : ℕ) (val : List ℕ) : Type 0 where
  pub odd : OddLength n
  pub s_is : s ≡ order_of_two n
  pub r_lt : r < n
  pub v_lt : v < 2 ^ s
  pub degree : Degree s
  pub long : n ≤ length val

-- along the coset of r the values of the mask whose value at α^r is v; and those that were there stay
pub record Conjugated (n s r v : ℕ) (val val' : List ℕ) : Type 0 where
  pub all : (c : ℕ) → v ≡ value_of n s c r → (j : ℕ) → get_or val' (r * 2 ^ j % n) 0 ≡ value_of n s c (r * 2 ^ j % n)
  pub kept : (c : ℕ) → v ≡ value_of n s c r → (i : ℕ) → get_or val i 0 ≡ value_of n s c i → get_or val' i 0 ≡ value_of n s c i

-- ---- all of D
-- val holds the values of some word at the representatives
pub record Extendable (n s : ℕ) (reps val : List ℕ) : Type 0 where
  pub setting : Evaluable n s reps
  pub long : n ≤ length val
  pub word : ℕ
  pub held : HeldAt n s word reps val

pub record Extended (n s : ℕ) (reps val val' : List ℕ) : Type 0 where
  pub at : (c : ℕ) → HeldAt n s c reps val → (i : ℕ) → in_set n reps i ≡ true → get_or val' i 0 ≡ value_of n s c i

-- ---- places changed
pub record Comparable (n s : ℕ) (list reps val : List ℕ) : Type 0 where
  pub setting : Evaluable n s reps
  pub few : length list ≤ n
  pub places : (k : ℕ) → k < length list → get_or list k 0 < n
  pub val_long : n ≤ length val

pub record Compared (n s : ℕ) (list reps val : List ℕ) (r : Bool) : Type 0 where
  pub is : (c a : ℕ) → Listed n a list (length list) → c < 2 ^ n → a < 2 ^ n → HeldAt n s c reps val
      → r ≡ is_codeword (n - dimension n reps) (generator n reps) (c ⊕ a)
