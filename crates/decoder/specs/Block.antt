-- What decoding a block passes on, and says. No entry's contract cites this file.
--
--   WordsDeinterleaved m size block words      the block's m words, one after the other
--   VerdictsWritten counts verdicts      verdicts as bytes: a count stays, and None becomes 255
--   BlockReceivable n m block out verdicts   all lengths are right, and no spare bit is 1
--   BlockDecoded n t reps m block out verdicts reply      answer and bytes of the entry on an accepted sheet
use Rattle.std.specs.Prelude.{◌≡◌, false, Option, None, unwrap_or, List, [], ℕ, ◌*◌, ◌≤◌, ◌<◌, length, get_or}
use Rattle.document.specs.Answer.{Answer}
use Rattle.document.specs.Layout.{word_weight, bytes_for, spare}
use Rattle.document.specs.Sheet.{Stated}
use Rattle.document.specs.Block.{block_entry}
use Rattle.codeword.specs.Interleaved.{Deinterleaved}
use Rattle.decoder.specs.Decode.{States, part}

pub record WordsDeinterleaved (m size : ℕ) (block words : List ℕ) : Type 0 where
  pub each : (i : ℕ) → i < m → Deinterleaved m i block (part (i * size) size words)

pub record VerdictsWritten (counts : List (Option ℕ)) (verdicts : List ℕ) : Type 0 where
  pub at : (i : ℕ) → i < length counts → get_or verdicts i 0 ≡ unwrap_or (get_or counts i None) 255

pub record BlockReceivable (n m : ℕ) (block out verdicts : List ℕ) : Type 0 where
  pub depth : m ≤ 16
  pub block_long : length block ≡ bytes_for (n * m)
  pub out_long : length out ≡ m * bytes_for n
  pub verdicts_long : length verdicts ≡ m
  pub clear : spare word_weight (n * m) block ≡ false

pub record BlockDecoded (n t : ℕ) (reps : List ℕ) (m : ℕ) (block out verdicts : List ℕ) (reply : Answer × (List ℕ × List ℕ)) : Type 0 where
  pub is : (x : Stated) → States x n t reps → reply ≡ block_entry [] m x block out verdicts
