-- What the entries on words pass to their parts. No entry's contract cites this file.
--
--   Coded n s reps          a code of length n with these representatives
--   Usable n k s reps       one that has messages, with its k
--   Fresh n f r             slices for a code of length n that hold 0
--   FeedbackMade n reps f r      f holds the generator as a register's feedback, and r holds 0
--   RemainderTested n sent reps word r      r says whether a word of so many places, with zeros above, is no codeword
--   Encodable sent bits message out     lengths of a message without spare bits and of its codeword
--   EightOf message m r i x       x is eight places from i on of the word that has the message above what the register r holds
--   PlacesWritten message m r out      the bytes of that word
--   CodewordWritten n sent bits reps message out      so many places of the codeword of a message of so many bits, with zeros above
--   Readable, MessageRead   the same for reading out; BytesRead m word out: bytes of it, all of whose places are taken
use Rattle.std.specs.Prelude.{◌≡◌, Bool, false, not, List, ℕ, ◌+◌, ◌-◌, ◌*◌, ◌/◌, ◌%◌, ◌^◌, ◌≤◌, ◌<◌, length}
use Rattle.field.specs.Field.{order_of_two}
use Rattle.field.specs.Mask.{coefficient}
use Rattle.document.specs.Layout.{word_weight, message_weight, bytes_for, place, mask_of, bytes_of, spare}
use Rattle.document.specs.Coset.{dimension}
use Rattle.document.specs.Generator.{generator, is_codeword, encode_mask, message_of}
use Rattle.document.proofs.Theory.{Length}
use Rattle.binary.specs.Packed.{packed, places_in, TopHolds, Feedback}
use Rattle.generator.specs.Building.{Rising}
use Rattle.codeword.specs.Place.{whole_mask}

pub record Coded (n s : ℕ) (reps : List ℕ) : Type 0 where
  pub length_stated : Length n
  pub s_is : s ≡ order_of_two n
  pub rising : Rising n reps

pub record Usable (n k s : ℕ) (reps : List ℕ) : Type 0 where
  pub coded : Coded n s reps
  pub k_is : k ≡ dimension n reps
  pub k_pos : 1 ≤ k
  pub k_le : k ≤ n

pub record Fresh (n : ℕ) (f r : List ℕ) : Type 0 where
  pub none : packed f ≡ 0
  pub empty : packed r ≡ 0
  pub room : n ≤ places_in f
  pub some : 1 ≤ length f
  pub fits : places_in f ≤ 65535
  pub long : length r ≡ length f

pub record FeedbackMade (n : ℕ) (reps f r : List ℕ) : Type 0 where
  pub feedback : Feedback (n - dimension n reps) (generator n reps) f
  pub empty : packed r ≡ 0

pub record RemainderTested (n sent : ℕ) (reps word : List ℕ) (r : Bool) : Type 0 where
  pub is : r ≡ not (is_codeword (n - dimension n reps) (generator n reps) (mask_of word_weight sent word))

pub record Encodable (sent bits : ℕ) (message out : List ℕ) : Type 0 where
  pub message_long : length message ≡ bytes_for bits
  pub no_spare : spare message_weight bits message ≡ false
  pub out_long : length out ≡ bytes_for sent

pub record EightOf (message : List ℕ) (m : ℕ) (r : List ℕ) (i x : ℕ) : Type 0 where
  pub small : x < 256
  pub is : {p : ℕ} → TopHolds m p r → x ≡ (whole_mask message_weight message * 2 ^ m + p) / 2 ^ i % 256

pub record PlacesWritten (message : List ℕ) (m : ℕ) (r out : List ℕ) : Type 0 where
  pub at : {p : ℕ} → TopHolds m p r → (i : ℕ) → i < length out * 8
      → place word_weight out i ≡ coefficient i (whole_mask message_weight message * 2 ^ m + p)

pub record CodewordWritten (n sent bits : ℕ) (reps message out : List ℕ) : Type 0 where
  pub is : out ≡ bytes_of word_weight sent (encode_mask (n - dimension n reps) (generator n reps) (mask_of message_weight bits message))

pub record Readable (m k : ℕ) (word out : List ℕ) : Type 0 where
  pub word_long : length word ≡ bytes_for (m + k)
  pub out_long : length out ≡ bytes_for k
  pub k_pos : 1 ≤ k
  pub most : m + k ≤ 65535

pub record BytesRead (m : ℕ) (word out : List ℕ) : Type 0 where
  pub at : (j : ℕ) → j < length out * 8 → place message_weight out j ≡ place word_weight word (m + j)

pub record MessageRead (m k : ℕ) (word out : List ℕ) : Type 0 where
  pub is : out ≡ bytes_of message_weight k (message_of m (mask_of word_weight (m + k) word))
