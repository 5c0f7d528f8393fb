-- The operations on messages and words, for a sheet of any kind: from the conditions of its refusals, what it states, and all that is
-- handed over, to the answer and what the lent buffer holds afterwards.
--
--   generator_of, radius_of, CodewordOf      the generator, t and the codewords of what is stated
--   wrong_size            11: a buffer hasn't its exact length
--   encoded_word, word_of  the codeword of a message, and a word in bytes, as masks; changed: in how many places a word differs from a mask
--   nearest_message, decoded_word      the codeword within t places of a word, by its message
--   encode_conditions, read_conditions, decode_conditions      11 to 14, in document 01's order, after the sheet's own
--   encode_entry conditions x message out, read_entry conditions x word out, decode_entry conditions x word out      answer, and bytes
-- The sheet is judged first. "Then come 11 (input, then output), 12, and last 13 or 14."
use Rattle.std.specs.Prelude.{Bool, not, List, [], ◌∷◌, ◌++◌, ℕ, ◌-◌, ◌^◌, eqb, length}
use Rattle.document.specs.Answer.{Answer, Conditions, first_of, settle}
use Rattle.document.specs.Layout.{word_weight, message_weight, bytes_for, mask_of, bytes_of, spare}
use Rattle.document.specs.Sheet.{Stated}
use Rattle.document.specs.Generator.{generator, is_codeword, Codeword, encode_mask, message_of, differences, nearest}
use Rattle.document.specs.Certificate.{radius}
use Rattle.document.specs.Judge.{dimension_of, working_certificate}

unfoldable pub generator_of : Stated → ℕ
generator_of x = generator x.n x.representatives

unfoldable pub radius_of : Stated → ℕ
radius_of x = radius (working_certificate x)

abbrev pub CodewordOf : Stated → ℕ → Type 0
CodewordOf x c = Codeword x.n x.representatives c

-- 11: "a message, word or output buffer hasn't its exact length"
abbrev pub wrong_size : ℕ → List ℕ → Bool
wrong_size places buffer = not (eqb (length buffer) (bytes_for places))

-- ---- encoding: 12 is "a spare bit of an input is 1". What is returned document 01 does not say: 0, as no place changed.
unfoldable pub encode_conditions : Stated → List ℕ → List ℕ → Conditions
encode_conditions x message out =
    (11, wrong_size (dimension_of x) message)
    ∷ (11, wrong_size x.n out)
    ∷ (12, spare message_weight (dimension_of x) message)
    ∷ []

unfoldable pub encoded_word : Stated → List ℕ → ℕ
encoded_word x message =
    let k : ℕ = dimension_of x in
    encode_mask (x.n - k) (generator_of x) (mask_of message_weight k message)

unfoldable pub encode_entry : Conditions → Stated → List ℕ → List ℕ → Answer × List ℕ
encode_entry conditions x message out =
    settle (first_of (conditions ++ encode_conditions x message out)) (0 ∷ [])
    (bytes_of word_weight x.n (encoded_word x message)) out

-- ---- reading out: 14 is "the word is no codeword"
abbrev pub word_of : Stated → List ℕ → ℕ
word_of x word = mask_of word_weight x.n word

-- in how many places a word differs from the mask c
abbrev pub changed : Stated → List ℕ → ℕ → ℕ
changed x word c = differences x.n (word_of x word) c

unfoldable pub read_conditions : Stated → List ℕ → List ℕ → Conditions
read_conditions x word out =
    (11, wrong_size x.n word)
    ∷ (11, wrong_size (dimension_of x) out)
    ∷ (12, spare word_weight x.n word)
    ∷ (14, not (is_codeword (x.n - dimension_of x) (generator_of x) (word_of x word)))
    ∷ []

unfoldable pub read_entry : Conditions → Stated → List ℕ → List ℕ → Answer × List ℕ
read_entry conditions x word out =
    let k : ℕ = dimension_of x in
    settle (first_of (conditions ++ read_conditions x word out)) (0 ∷ [])
    (bytes_of message_weight k (message_of (x.n - k) (word_of x word))) out

-- ---- decoding: the message of the codeword that differs from the received word in at most t places, if there is one
unfoldable pub nearest_message : Stated → List ℕ → ℕ
nearest_message x word =
    let k : ℕ = dimension_of x in
    nearest k (x.n - k) (generator_of x) x.n (radius_of x) (word_of x word)

unfoldable pub decoded_word : Stated → List ℕ → ℕ
decoded_word x word = encode_mask (x.n - dimension_of x) (generator_of x) (nearest_message x word)

-- 13: "no codeword within t places"
unfoldable pub decode_conditions : Stated → List ℕ → List ℕ → Conditions
decode_conditions x word out =
    (11, wrong_size x.n word)
    ∷ (11, wrong_size x.n out)
    ∷ (12, spare word_weight x.n word)
    ∷ (13, eqb (nearest_message x word) (2 ^ dimension_of x))
    ∷ []

-- "Decoding returns the number of changed places, those in which the received and the written word differ, and writes the
-- whole corrected word."
unfoldable pub decode_entry : Conditions → Stated → List ℕ → List ℕ → Answer × List ℕ
decode_entry conditions x word out =
    settle (first_of (conditions ++ decode_conditions x word out))
    (changed x word (decoded_word x word) ∷ [])
    (bytes_of word_weight x.n (decoded_word x word)) out
