-- What decoding with marked places passes on, and says. No entry's contract cites this file.
--
--   TrialsWritten word marks trials      both trial words, byte by byte
--   marks_in marks, unmarked_in word marks other      r and e over all places of the bytes
--   Weighable word marks other    bytes of one length
--   Passed d verdict word marks decoded      a decoded trial word is the answer
--   measured_as, Measured          whether it is, and e
--   Showable word marks decoded zeros ones   both decoded trial words, and buffers for them
--   tried_zeros, tried_ones         the two decoded trial words
--   OnesShown, TrialsShown        what is answered and written by that: of the ones, where the zeros are not the answer, and of both
--   Markable n word marks zeros ones     all lengths are right, and no spare bit is 1
--   MarkedDecoded n t d reps word marks zeros ones reply     answer and bytes of the entry on an accepted sheet
use Rattle.std.specs.Prelude.{◌≡◌, ◌≢◌, false, Option, Some, None, List, [], ◌∷◌, ℕ, ◌+◌, ◌-◌, ◌*◌, ◌≤◌, ◌<◌, length, get_or, take}
use Rattle.std.specs.Int.Bits.{bit_and, bit_or}
use Rattle.document.specs.Answer.{Answer, returned, refused}
use Rattle.document.specs.Layout.{word_weight, bytes_for, spare}
use Rattle.document.specs.Sheet.{Stated}
use Rattle.document.specs.Marked.{marked_count, unmarked_differences, distance_of, marked_entry}
use Rattle.codeword.specs.Place.{whole_mask}
use Rattle.decoder.specs.Decode.{States, part}

pub record TrialsWritten (word marks trials : List ℕ) : Type 0 where
  pub long : length trials ≡ 2 * length word
  pub zeros : (j : ℕ) → j < length word → get_or trials j 0 ≡ bit_and (get_or word j 0) (255 - get_or marks j 0)
  pub ones : (j : ℕ) → j < length word → get_or trials (length word + j) 0 ≡ bit_or (get_or word j 0) (get_or marks j 0)

-- ---- r and e of bytes
unfoldable pub marks_in : List ℕ → ℕ
marks_in marks = marked_count (length marks * 8) (whole_mask word_weight marks)

unfoldable pub unmarked_in : List ℕ → List ℕ → List ℕ → ℕ
unmarked_in word marks other =
    unmarked_differences (length word * 8) (whole_mask word_weight marks) (whole_mask word_weight word) (whole_mask word_weight other)

pub record Weighable (word marks other : List ℕ) : Type 0 where
  pub marks_long : length marks ≡ length word
  pub other_long : length other ≡ length word
  pub few : length word ≤ 65535

-- ---- one trial
pub record Passed (d : ℕ) (verdict : Option ℕ) (word marks decoded : List ℕ) : Type 0 where
  pub near : verdict ≢ None
  pub within : 2 * unmarked_in word marks decoded + marks_in marks < d

-- "returns e"; refusal 15, "no such codeword exists", unless the other trial word is the answer
abbrev pub measured_as : Option ℕ → Answer
measured_as (Some e) = returned (e ∷ [])
measured_as None = refused 15

pub record Measured (d : ℕ) (verdict : Option ℕ) (word marks decoded : List ℕ) (answer : Answer) : Type 0 where
  pub found : (e : ℕ) → answer ≡ returned (e ∷ []) → Passed d verdict word marks decoded × (e ≡ unmarked_in word marks decoded)
  pub none : answer ≡ refused 15 → ¬ Passed d verdict word marks decoded

-- ---- both
pub record Showable (word marks decoded zeros ones : List ℕ) : Type 0 where
  pub marks_long : length marks ≡ length word
  pub decoded_long : length decoded ≡ 2 * length word
  pub zeros_long : length zeros ≡ length word
  pub ones_long : length ones ≡ length word
  pub few : length word ≤ 65535

module _ (word marks decoded zeros ones : List ℕ) where
  abbrev pub tried_zeros : List ℕ
  tried_zeros = take (length word) decoded

  abbrev pub tried_ones : List ℕ
  tried_ones = part (length word) (length word) decoded

  pub record OnesShown (d : ℕ) (verdict : Option ℕ) (reply : Answer × (List ℕ × List ℕ)) : Type 0 where
    pub shown : Passed d verdict word marks tried_ones
        → reply ≡ (returned (unmarked_in word marks tried_ones ∷ 1 ∷ []), (tried_zeros, tried_ones))
    pub none : ¬ Passed d verdict word marks tried_ones → reply ≡ (refused 15, (zeros, ones))

  pub record TrialsShown (d : ℕ) (zeros_verdict ones_verdict : Option ℕ) (reply : Answer × (List ℕ × List ℕ)) : Type 0 where
    pub first : Passed d zeros_verdict word marks tried_zeros
        → reply ≡ (returned (unmarked_in word marks tried_zeros ∷ 0 ∷ []), (tried_zeros, tried_ones))
    pub second : ¬ Passed d zeros_verdict word marks tried_zeros → OnesShown d ones_verdict reply

-- ---- the whole
pub record Markable (n : ℕ) (word marks zeros ones : List ℕ) : Type 0 where
  pub word_long : length word ≡ bytes_for n
  pub marks_long : length marks ≡ bytes_for n
  pub zeros_long : length zeros ≡ bytes_for n
  pub ones_long : length ones ≡ bytes_for n
  pub clear : spare word_weight n word ≡ false
  pub marks_clear : spare word_weight n marks ≡ false

pub record MarkedDecoded (n t d : ℕ) (reps word marks zeros ones : List ℕ) (reply : Answer × (List ℕ × List ℕ)) : Type 0 where
  pub is : (x : Stated) → States x n t reps → d ≡ distance_of x → reply ≡ marked_entry [] x word marks zeros ones
