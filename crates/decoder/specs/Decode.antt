-- What decoding says, of whatever was stated. No entry's contract cites this file.
--
--   States x n t reps        x is what an accepted sheet states, of length n and with these representatives; t is its radius
--   Decoded n sent t reps word out out' answer      answer and bytes of the entry on such a sheet, which has no refusal of its own, for a
--                            word of which so many places are sent: n of them, or n - m where the code is shortened
--   Receivable n sent word out    a word of so many places without spare bits, and bytes for the result
--   verdict_as v              a verdict as an answer: the number of changed places, or None for 13
--   part at size l           so many of a list from a place on
--   Lined n sent size count words out      so many such words one after the other, and bytes for the results
--   DecodedEach n sent t reps size words out out' verdicts      each of them decoded into its own bytes
use Rattle.std.specs.Prelude.{◌≡◌, false, Option, Some, None, List, [], ◌∷◌, ℕ, ◌-◌, ◌*◌, ◌≤◌, ◌<◌, length, get_or, take, drop}
use Rattle.document.specs.Answer.{Answer, returned, refused}
use Rattle.document.specs.Layout.{word_weight, bytes_for, spare}
use Rattle.document.specs.Sheet.{Stated}
use Rattle.document.specs.Entry.{radius_of}
use Rattle.document.specs.Shortened.{decode_shortened_entry}
use Rattle.certificate.proofs.Sheets.{Accepted}

pub record States (x : Stated) (n t : ℕ) (reps : List ℕ) : Type 0 where
  pub accepted : Accepted x
  pub n_is : n ≡ x.n
  pub t_is : t ≡ radius_of x
  pub reps_is : reps ≡ x.representatives

pub record Decoded (n sent t : ℕ) (reps word out out' : List ℕ) (answer : Answer) : Type 0 where
  pub is : (x : Stated) → States x n t reps → (m : ℕ) → sent ≡ x.n - m → (answer, out') ≡ decode_shortened_entry [] m x word out

-- ---- several words
pub record Receivable (n sent : ℕ) (word out : List ℕ) : Type 0 where
  pub at_most : sent ≤ n
  pub word_long : length word ≡ bytes_for sent
  pub out_long : length out ≡ bytes_for sent
  pub clear : spare word_weight sent word ≡ false

abbrev pub verdict_as : Option ℕ → Answer
verdict_as (Some m) = returned (m ∷ [])
verdict_as None = refused 13

abbrev pub part : ℕ → ℕ → List ℕ → List ℕ
part at size l = take size (drop at l)

pub record Lined (n sent size count : ℕ) (words out : List ℕ) : Type 0 where
  pub at_most : sent ≤ n
  pub size_is : size ≡ bytes_for sent
  pub words_long : length words ≡ count * size
  pub out_long : length out ≡ count * size
  pub clear : (k : ℕ) → k < count → spare word_weight sent (part (k * size) size words) ≡ false

pub record DecodedEach (n sent t : ℕ) (reps : List ℕ) (size : ℕ) (words out out' : List ℕ) (verdicts : List (Option ℕ)) : Type 0 where
  pub each : (k : ℕ) → k < length verdicts
      → Decoded n sent t reps (part (k * size) size words) (part (k * size) size out) (part (k * size) size out') (verdict_as (get_or verdicts k None))
