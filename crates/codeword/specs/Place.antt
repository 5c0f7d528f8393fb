-- Places of bytes. No entry's contract cites this file.
--
--   Weights w              w gives the eight places of each byte its eight weights, each to one; word_weights, message_weights: both layouts do
--   Put weight i bit old new      new is old with the bit at place i
--   lowest_first weight b     the byte b with its places in order, the first of them lowest
--   turned b               the byte b with its places the other way round
--   whole_mask weight bytes     the mask of all places of the bytes, spare ones too
--   places_of word          all places of a word's bytes, spare ones too
--   four_places weight bytes i     places i to i + 3, in lanes
use Rattle.std.specs.Prelude.{◌≡◌, ◌≢◌, List, map, ℕ, ◌+◌, ◌-◌, ◌*◌, ◌/◌, ◌%◌, ◌^◌, ◌<◌, length, get_or}
use mathlib.Core.Path.{refl}
use native.Mathlib.Omega.{arith}
use Rattle.field.specs.Search.{up_to, total}
use Rattle.field.specs.Mask.{coefficient}
use Rattle.document.specs.Layout.{word_weight, message_weight, place, mask_of}
use Rattle.binary.specs.Lanes.{in_lanes}

-- ---- laws of a layout
-- place i is digit `shift (i mod 8)` of its byte, and digit e that of the place `back e` in the byte
pub record Weights (w : ℕ → ℕ) : Type 0 where
  pub shift : ℕ → ℕ
  pub back : ℕ → ℕ
  pub is : (i : ℕ) → w i ≡ 2 ^ shift (i % 8)
  pub shift_lt : (r : ℕ) → r < 8 → shift r < 8
  pub back_lt : (e : ℕ) → e < 8 → back e < 8
  pub shift_back : (e : ℕ) → e < 8 → shift (back e) ≡ e
  pub back_shift : (r : ℕ) → r < 8 → back (shift r) ≡ r

pub word_is : (i : ℕ) → word_weight i ≡ 2 ^ (7 - i % 8)
unfolding word_weight
word_is i = refl

pub message_is : (i : ℕ) → message_weight i ≡ 2 ^ (i % 8)
unfolding message_weight
message_is i = refl

-- the highest digit first
abbrev pub word_weights : Weights word_weight
word_weights = record {
  shift = λ r. 7 - r;
  back = λ e. 7 - e;
  is = word_is;
  shift_lt = λ r h. omega arith;
  back_lt = λ e h. omega arith;
  shift_back = λ e h. omega arith;
  back_shift = λ r h. omega arith;
}

-- the lowest digit first
abbrev pub message_weights : Weights message_weight
message_weights = record {
  shift = λ r. r;
  back = λ e. e;
  is = message_is;
  shift_lt = λ r h. h;
  back_lt = λ e h. h;
  shift_back = λ e h. refl;
  back_shift = λ r h. refl;
}

-- ---- what is read and written
pub record Put (weight : ℕ → ℕ) (i bit : ℕ) (old new : List ℕ) : Type 0 where
  pub long : length new ≡ length old
  pub here : place weight new i ≡ bit
  pub other : (j : ℕ) → j ≢ i → place weight new j ≡ place weight old j
  pub outside : (k : ℕ) → k ≢ i / 8 → get_or new k 0 ≡ get_or old k 0

-- the eight places of a byte in order, the first of them lowest
unfoldable pub lowest_first : (ℕ → ℕ) → ℕ → ℕ
lowest_first weight b = total 8 (λ i. b / weight i % 2 * 2 ^ i)

-- the eight places of a byte the other way round: from a message's order to a word's, and back
unfoldable pub turned : ℕ → ℕ
turned b = total 8 (λ i. coefficient i b * 2 ^ (7 - i))

abbrev pub whole_mask : (ℕ → ℕ) → List ℕ → ℕ
whole_mask weight bytes = mask_of weight (length bytes * 8) bytes

unfoldable pub places_of : List ℕ → List ℕ
places_of word = map (place word_weight word) (up_to (length word * 8))

unfoldable pub four_places : (ℕ → ℕ) → List ℕ → ℕ → ℕ
four_places weight bytes i = in_lanes (λ j. place weight bytes (i + j))
