-- "Refused, by number": document 01's table, with document 02's refusals, as statements, and the order in which each entry tries them.
--
--   WrongSheetLength .. NoMessage      the conditions 1 to 6 of a sheet
--   WrongBufferLength, SpareBit, NoneNear, NoneWithMarks      11, 12, 13 and 15
--   WrongShortening, NoneNearShortened      16, and 13 of a shortened code
--   WrongDepth                     17
--   NoneNearSaid, NoCodewordSaid, NoneWithMarksSaid      what 13, 14 and 15 say
--   NoneNearShortenedSaid, NoShortenedCodewordSaid       what 13 and 14 say of a shortened code
--   certificate_turns               7 to 10, of one certificate
--   sheet_turns sheet               1 to 10
--   encode_turns, read_turns, decode_turns, marked_turns, card_turns      all that an entry tries
--   encode_shortened_turns, read_shortened_turns, decode_shortened_turns      the same of shortened codes
--   block_turns                     the same of a block of words
--   last_refusal; Answered turns reply before      what an entry answers by them, and what it leaves in the lent buffers
-- No contract of an entry cites this file.
use Rattle.std.specs.Prelude.{◌≡◌, ◌≢◌, ◌↔◌, ◌⊎◌, ℕ, ◌+◌, ◌-◌, ◌*◌, ◌/◌, ◌%◌, ◌^◌, ◌≤◌, ◌<◌, length, get_or}
use mathlib.Core.List.{List, [], ◌∷◌, ◌++◌, flat_map}
use Rattle.std.specs.Int.{◌∣◌}
use Rattle.document.specs.Answer.{Answer}
use Rattle.document.specs.Layout.{word_weight, message_weight, place}
use Rattle.document.specs.Sheet.{Certificate, Stated}
use Rattle.document.specs.Judge.{dimension_of}
use Rattle.document.specs.Generator.{differences}
use Rattle.document.specs.Entry.{CodewordOf, radius_of, word_of, changed}
use Rattle.document.specs.Marked.{WithinMarks}
use Rattle.document.specs.Shortened.{sent_word_of, ShortenedCodeword}
use Rattle.document.specs.Short.{byte_at, stated}
use Rattle.code.specs.Turns.{Turns, FirstThatHolds, NoneHolds}
use Rattle.code.specs.Published.{IsAccepted, InDefiningSet, Rule1, Rule2, Rule3, Rule4}

-- 1: "under 10 or over 74 bytes, or bytes 0-1 differ from the true length"
abbrev pub WrongSheetLength : List ℕ → Type 0
WrongSheetLength sheet = (length sheet < 10) ⊎ ((74 < length sheet) ⊎ (byte_at sheet 0 + 256 * byte_at sheet 1 ≢ length sheet))

-- 2: "n even, below 3 or above 127"
abbrev pub WrongCodeLength : ℕ → Type 0
WrongCodeLength n = (n % 2 ≡ 0) ⊎ ((n < 3) ⊎ (127 < n))

-- 3: "s above 12", s being "the smallest number above 0 with n dividing 2^s - 1": no number up to 12 is such. An odd n, and 2 comes before,
-- has one.
abbrev pub WrongDegree : ℕ → Type 0
WrongDegree n = (s : ℕ) → 0 < s → s ≤ 12 → ¬ (n ∣ 2 ^ s - 1)

-- 4: "a count, offset, byte 7 or the length formula is wrong". R is "0 to 32", the offset of the representatives "always 10", C "1 to 4",
-- the offset of the certificates "always 10 + R". "The length is 10 + R + 8·C."
abbrev pub WrongHeader : List ℕ → Type 0
WrongHeader sheet =
    let R : ℕ = byte_at sheet 3 in
    let C : ℕ = byte_at sheet 6 in
    (32 < R)
    ⊎ ((byte_at sheet 4 + 256 * byte_at sheet 5 ≢ 10)
    ⊎ ((C < 1)
    ⊎ ((4 < C)
    ⊎ ((byte_at sheet 7 ≢ 0)
    ⊎ ((byte_at sheet 8 + 256 * byte_at sheet 9 ≢ 10 + R)
    ⊎ (length sheet ≢ 10 + R + 8 * C))))))

-- 5: "a representative isn't below n, smallest in its coset, or above the one before"
abbrev pub WrongRepresentative : ℕ → List ℕ → Type 0
WrongRepresentative n reps =
    (i : ℕ) × (i < length reps)
    × ((n ≤ get_or reps i 0)
    ⊎ (((j : ℕ) × (get_or reps i 0 * 2 ^ j % n < get_or reps i 0))
    ⊎ ((1 ≤ i) × (get_or reps i 0 ≤ get_or reps (i - 1) 0))))

-- 6: "k is 0", k being n less the size of D: every number below n is in D
abbrev pub NoMessage : ℕ → List ℕ → Type 0
NoMessage n reps = (i : ℕ) → i < n → InDefiningSet n reps i

-- 7 to 10: a rule fails
abbrev pub certificate_turns : ℕ → List ℕ → Certificate → Turns
certificate_turns n reps c = (7, ¬ Rule1 n c) ∷ (8, ¬ Rule2 c) ∷ (9, ¬ Rule3 n c) ∷ (10, ¬ Rule4 n reps c) ∷ []

-- 12: "a spare bit of an input is 1"
abbrev pub SpareBit : (ℕ → ℕ) → ℕ → List ℕ → Type 0
SpareBit weight n bytes = (i : ℕ) × (n ≤ i) × (i < (n + 7) / 8 * 8) × (place weight bytes i ≡ 1)

-- 13: "no codeword within t places"
abbrev pub NoneNear : Stated → List ℕ → Type 0
NoneNear x word = (c : ℕ) → CodewordOf x c → radius_of x < changed x word c

-- 15 (2026-05): "no such codeword exists", one "that differs from the received word in e unmarked places with 2·e + r at most d - 1"
abbrev pub NoneWithMarks : Stated → List ℕ → List ℕ → Type 0
NoneWithMarks x word marks = (c : ℕ) → CodewordOf x c → ¬ WithinMarks x word marks c

-- "The sheet's conditions are tried in the order 1 to 6, then for each certificate in turn 7 to 10. Then come 11 (input, then output), 12,
-- and last 13 or 14."
abbrev pub head_turns : List ℕ → Turns
head_turns sheet =
    let x : Stated = stated sheet in
    (1, WrongSheetLength sheet)
    ∷ (2, WrongCodeLength x.n)
    ∷ (3, WrongDegree x.n)
    ∷ (4, WrongHeader sheet)
    ∷ (5, WrongRepresentative x.n x.representatives)
    ∷ (6, NoMessage x.n x.representatives)
    ∷ []

abbrev pub sheet_turns : List ℕ → Turns
sheet_turns sheet =
    let x : Stated = stated sheet in
    head_turns sheet ++ flat_map (certificate_turns x.n x.representatives) x.certificates

-- 11: "a message, word or output buffer hasn't its exact length"
abbrev pub WrongBufferLength : ℕ → List ℕ → Type 0
WrongBufferLength places buffer = length buffer ≢ (places + 7) / 8

-- what each entry tries of its own, after the sheet's
abbrev pub encode_own : Stated → List ℕ → List ℕ → Turns
encode_own x message out =
    (11, WrongBufferLength (dimension_of x) message)
    ∷ (11, WrongBufferLength x.n out)
    ∷ (12, SpareBit message_weight (dimension_of x) message)
    ∷ []

-- 14: "reading out: the word is no codeword"
abbrev pub read_own : Stated → List ℕ → List ℕ → Turns
read_own x word out =
    (11, WrongBufferLength x.n word)
    ∷ (11, WrongBufferLength (dimension_of x) out)
    ∷ (12, SpareBit word_weight x.n word)
    ∷ (14, ¬ CodewordOf x (word_of x word))
    ∷ []

abbrev pub decode_own : Stated → List ℕ → List ℕ → Turns
decode_own x word out =
    (11, WrongBufferLength x.n word)
    ∷ (11, WrongBufferLength x.n out)
    ∷ (12, SpareBit word_weight x.n word)
    ∷ (13, NoneNear x word)
    ∷ []

-- 2026-05: "Under 11 come the received word, the marks and the trial buffers; under 12 the received word and the marks; refusal 15, last
-- and in 13's place"
abbrev pub marked_own : Stated → List ℕ → List ℕ → List ℕ → List ℕ → Turns
marked_own x word marks zeros ones =
    (11, WrongBufferLength x.n word)
    ∷ (11, WrongBufferLength x.n marks)
    ∷ (11, WrongBufferLength x.n zeros)
    ∷ (11, WrongBufferLength x.n ones)
    ∷ (12, SpareBit word_weight x.n word)
    ∷ (12, SpareBit word_weight x.n marks)
    ∷ (15, NoneWithMarks x word marks)
    ∷ []

-- 16 (2026-06): "an m of 0 or not below k"
abbrev pub WrongShortening : ℕ → Stated → Type 0
WrongShortening m x = (m ≡ 0) ⊎ (dimension_of x ≤ m)

-- 13 of a shortened code: "the only shortened codeword within t, and 13 exactly if there is none"
abbrev pub NoneNearShortened : ℕ → Stated → List ℕ → Type 0
NoneNearShortened m x word = (c : ℕ) → ShortenedCodeword m x c → radius_of x < differences x.n (sent_word_of m x word) c

-- "messages have k - m bits and words n - m"
abbrev pub encode_shortened_own : ℕ → Stated → List ℕ → List ℕ → Turns
encode_shortened_own m x message out =
    (11, WrongBufferLength (dimension_of x - m) message)
    ∷ (11, WrongBufferLength (x.n - m) out)
    ∷ (12, SpareBit message_weight (dimension_of x - m) message)
    ∷ []

abbrev pub read_shortened_own : ℕ → Stated → List ℕ → List ℕ → Turns
read_shortened_own m x word out =
    (11, WrongBufferLength (x.n - m) word)
    ∷ (11, WrongBufferLength (dimension_of x - m) out)
    ∷ (12, SpareBit word_weight (x.n - m) word)
    ∷ (14, ¬ ShortenedCodeword m x (sent_word_of m x word))
    ∷ []

abbrev pub decode_shortened_own : ℕ → Stated → List ℕ → List ℕ → Turns
decode_shortened_own m x word out =
    (11, WrongBufferLength (x.n - m) word)
    ∷ (11, WrongBufferLength (x.n - m) out)
    ∷ (12, SpareBit word_weight (x.n - m) word)
    ∷ (13, NoneNearShortened m x word)
    ∷ []

-- 17 (2026-07): "an m outside 2 to 16"
abbrev pub WrongDepth : ℕ → Type 0
WrongDepth m = (m < 2) ⊎ (16 < m)

-- "A block carries m words", of n places each. "The output is m words long, one after the other in word layout, and the verdicts m bytes." ..
-- "Buffer lengths and spare bits are 11 and 12"
abbrev pub block_own : ℕ → Stated → List ℕ → List ℕ → List ℕ → Turns
block_own m x block out verdicts =
    (11, WrongBufferLength (x.n * m) block)
    ∷ (11, length out ≢ m * ((x.n + 7) / 8))
    ∷ (11, length verdicts ≢ m)
    ∷ (12, SpareBit word_weight (x.n * m) block)
    ∷ []

abbrev pub encode_turns : List ℕ → List ℕ → List ℕ → Turns
encode_turns sheet message out = sheet_turns sheet ++ encode_own (stated sheet) message out

abbrev pub read_turns : List ℕ → List ℕ → List ℕ → Turns
read_turns sheet word out = sheet_turns sheet ++ read_own (stated sheet) word out

abbrev pub decode_turns : List ℕ → List ℕ → List ℕ → Turns
decode_turns sheet word out = sheet_turns sheet ++ decode_own (stated sheet) word out

abbrev pub marked_turns : List ℕ → List ℕ → List ℕ → List ℕ → List ℕ → Turns
marked_turns sheet word marks zeros ones = sheet_turns sheet ++ marked_own (stated sheet) word marks zeros ones

-- "Refusal 16, after the sheet's and before 11"
abbrev pub shortened_turns : List ℕ → ℕ → Turns
shortened_turns sheet m = sheet_turns sheet ++ (16, WrongShortening m (stated sheet)) ∷ []

abbrev pub encode_shortened_turns : List ℕ → ℕ → List ℕ → List ℕ → Turns
encode_shortened_turns sheet m message out = shortened_turns sheet m ++ encode_shortened_own m (stated sheet) message out

abbrev pub read_shortened_turns : List ℕ → ℕ → List ℕ → List ℕ → Turns
read_shortened_turns sheet m word out = shortened_turns sheet m ++ read_shortened_own m (stated sheet) word out

abbrev pub decode_shortened_turns : List ℕ → ℕ → List ℕ → List ℕ → Turns
decode_shortened_turns sheet m word out = shortened_turns sheet m ++ decode_shortened_own m (stated sheet) word out

-- "refusal 17, after the sheet's and before 11"
abbrev pub interleaved_turns : List ℕ → ℕ → Turns
interleaved_turns sheet m = sheet_turns sheet ++ (17, WrongDepth m) ∷ []

abbrev pub block_turns : List ℕ → ℕ → List ℕ → List ℕ → List ℕ → Turns
block_turns sheet m block out verdicts = interleaved_turns sheet m ++ block_own m (stated sheet) block out verdicts

-- what 13 says, 14 and 15, whatever was handed over
pub record NoneNearSaid (sheet word out : List ℕ) : Type 0 where
  pub accepted : IsAccepted sheet
  pub word_long : length word ≡ ((stated sheet).n + 7) / 8
  pub out_long : length out ≡ ((stated sheet).n + 7) / 8
  pub no_spare : ¬ SpareBit word_weight (stated sheet).n word
  pub none : NoneNear (stated sheet) word

pub record NoCodewordSaid (sheet word out : List ℕ) : Type 0 where
  pub accepted : IsAccepted sheet
  pub word_long : length word ≡ ((stated sheet).n + 7) / 8
  pub out_long : length out ≡ (dimension_of (stated sheet) + 7) / 8
  pub no_spare : ¬ SpareBit word_weight (stated sheet).n word
  pub none : ¬ CodewordOf (stated sheet) (word_of (stated sheet) word)

pub record NoneWithMarksSaid (sheet word marks zeros ones : List ℕ) : Type 0 where
  pub accepted : IsAccepted sheet
  pub word_long : length word ≡ ((stated sheet).n + 7) / 8
  pub marks_long : length marks ≡ ((stated sheet).n + 7) / 8
  pub zeros_long : length zeros ≡ ((stated sheet).n + 7) / 8
  pub ones_long : length ones ≡ ((stated sheet).n + 7) / 8
  pub no_spare : ¬ SpareBit word_weight (stated sheet).n word
  pub no_spare_mark : ¬ SpareBit word_weight (stated sheet).n marks
  pub none : NoneWithMarks (stated sheet) word marks

pub record NoneNearShortenedSaid (sheet : List ℕ) (m : ℕ) (word out : List ℕ) : Type 0 where
  pub accepted : IsAccepted sheet
  pub right : ¬ WrongShortening m (stated sheet)
  pub word_long : length word ≡ ((stated sheet).n - m + 7) / 8
  pub out_long : length out ≡ ((stated sheet).n - m + 7) / 8
  pub no_spare : ¬ SpareBit word_weight ((stated sheet).n - m) word
  pub none : NoneNearShortened m (stated sheet) word

pub record NoShortenedCodewordSaid (sheet : List ℕ) (m : ℕ) (word out : List ℕ) : Type 0 where
  pub accepted : IsAccepted sheet
  pub right : ¬ WrongShortening m (stated sheet)
  pub word_long : length word ≡ ((stated sheet).n - m + 7) / 8
  pub out_long : length out ≡ (dimension_of (stated sheet) - m + 7) / 8
  pub no_spare : ¬ SpareBit word_weight ((stated sheet).n - m) word
  pub none : ¬ ShortenedCodeword m (stated sheet) (sent_word_of m (stated sheet) word)

-- card's buffer has 1,024 bytes; a refused sheet has a listing too
abbrev pub card_turns : List ℕ → Turns
card_turns out = (11, length out ≢ 1024) ∷ []

-- the last number: "Demand 1's fourteen refusals grow by those numbered in these requests."
abbrev pub last_refusal : ℕ
last_refusal = 17

-- "A refusal returns its number alone and changes no lent byte. Each has one condition and is returned only then." B: the bytes of one
-- lent buffer, or of two
pub record Answered {B : Type 0} (turns : Turns) (reply : Answer × B) (before : B) : Type 0 where
  -- the number is 0, or 1 to 17
  pub range : reply.0.number ≤ last_refusal
  -- 0 exactly when no condition holds
  pub done : (reply.0.number ≡ 0) ↔ NoneHolds turns
  -- r exactly when condition r holds and no earlier one does
  pub refused : (r : ℕ) → 0 < r → (reply.0.number ≡ r) ↔ FirstThatHolds turns r
  -- and then there are no values, and the lent buffers are as they were
  pub alone : 0 < reply.0.number → (reply.0.values ≡ []) × (reply.1 ≡ before)
