-- Shortened codes: 2026-06, for a sheet of any kind. m is handed over: "the top m message bits are 0 and the top m places aren't sent".
--
--   wrong_shortening, shortening_conditions      16
--   sent_places m x, sent_bits m x      how many places a word has, and a message
--   sent_word_of, sent_message_of         a word and a message in bytes, as masks of n and of k places
--   top_zero, ShortenedCodeword        that the top m places are 0, and codewords of which that is so
--   encoded_shortened                  the codeword of a message
--   shortened_message, decoded_shortened      the shortened codeword within t places of a word, by its message
--   encode_shortened_conditions, read_shortened_conditions, decode_shortened_conditions      11 to 14, after the sheet's own and 16
--   encode_shortened_entry, read_shortened_entry, decode_shortened_entry      answer, and bytes
-- "Refusal 16, after the sheet's and before 11": what comes before 11 is handed to an entry as its conditions.
use Rattle.std.specs.Prelude.{Bool, not, ◌&&◌, ◌||◌, List, [], ◌∷◌, ◌++◌, ℕ, ◌-◌, ◌^◌, ◌<◌, eqb, leb, ltb}
use Rattle.field.specs.Search.{least}
use Rattle.document.specs.Answer.{Answer, Conditions, first_of, settle}
use Rattle.document.specs.Layout.{word_weight, message_weight, mask_of, bytes_of, spare}
use Rattle.document.specs.Sheet.{Stated}
use Rattle.document.specs.Generator.{is_codeword, encode_mask, message_of, differences}
use Rattle.document.specs.Judge.{dimension_of}
use Rattle.document.specs.Entry.{generator_of, radius_of, CodewordOf, wrong_size}

-- 16: "an m of 0 or not below k"
abbrev pub wrong_shortening : ℕ → Stated → Bool
wrong_shortening m x = eqb m 0 || leb (dimension_of x) m

abbrev pub shortening_conditions : ℕ → Stated → Conditions
shortening_conditions m x = (16, wrong_shortening m x) ∷ []

-- "so messages have k - m bits and words n - m"
abbrev pub sent_places : ℕ → Stated → ℕ
sent_places m x = x.n - m

abbrev pub sent_bits : ℕ → Stated → ℕ
sent_bits m x = dimension_of x - m

-- as a mask of n places: those that aren't sent are 0
abbrev pub sent_word_of : ℕ → Stated → List ℕ → ℕ
sent_word_of m x word = mask_of word_weight (sent_places m x) word

-- as a mask of k places: "the top m message bits are 0"
abbrev pub sent_message_of : ℕ → Stated → List ℕ → ℕ
sent_message_of m x message = mask_of message_weight (sent_bits m x) message

-- a shortened codeword is a codeword whose top m places are 0: it has no coefficient of x^(n-m) or above
unfoldable pub top_zero : ℕ → Stated → ℕ → Bool
top_zero m x c = ltb c (2 ^ sent_places m x)

pub record ShortenedCodeword (m : ℕ) (x : Stated) (c : ℕ) : Type 0 where
  pub in_code : CodewordOf x c
  pub top_is_zero : c < 2 ^ sent_places m x

-- ---- encoding: that of the message with m zero bits above
unfoldable pub encode_shortened_conditions : ℕ → Stated → List ℕ → List ℕ → Conditions
encode_shortened_conditions m x message out =
    (11, wrong_size (sent_bits m x) message)
    ∷ (11, wrong_size (sent_places m x) out)
    ∷ (12, spare message_weight (sent_bits m x) message)
    ∷ []

unfoldable pub encoded_shortened : ℕ → Stated → List ℕ → ℕ
encoded_shortened m x message = encode_mask (x.n - dimension_of x) (generator_of x) (sent_message_of m x message)

unfoldable pub encode_shortened_entry : Conditions → ℕ → Stated → List ℕ → List ℕ → Answer × List ℕ
encode_shortened_entry conditions m x message out =
    settle (first_of (conditions ++ encode_shortened_conditions m x message out)) (0 ∷ [])
    (bytes_of word_weight (sent_places m x) (encoded_shortened m x message)) out

-- ---- reading out: 14 where the word is no shortened codeword. Its top m places are 0, so that is where it is no codeword.
unfoldable pub read_shortened_conditions : ℕ → Stated → List ℕ → List ℕ → Conditions
read_shortened_conditions m x word out =
    (11, wrong_size (sent_places m x) word)
    ∷ (11, wrong_size (sent_bits m x) out)
    ∷ (12, spare word_weight (sent_places m x) word)
    ∷ (14, not (is_codeword (x.n - dimension_of x) (generator_of x) (sent_word_of m x word)))
    ∷ []

unfoldable pub read_shortened_entry : Conditions → ℕ → Stated → List ℕ → List ℕ → Answer × List ℕ
read_shortened_entry conditions m x word out =
    settle (first_of (conditions ++ read_shortened_conditions m x word out)) (0 ∷ [])
    (bytes_of message_weight (sent_bits m x) (message_of (x.n - dimension_of x) (sent_word_of m x word))) out

-- ---- decoding: "the only shortened codeword within t, and 13 exactly if there is none, also where an unshortened codeword was near". All
-- 2^k messages are gone through: this says what is right, and never runs. That there is only one is a theorem.
unfoldable pub shortened_message : ℕ → Stated → List ℕ → ℕ
shortened_message m x word =
    least
    (λ message. let c : ℕ = encode_mask (x.n - dimension_of x) (generator_of x) message in
    top_zero m x c && leb (differences x.n (sent_word_of m x word) c) (radius_of x)) (2 ^ dimension_of x)

unfoldable pub decoded_shortened : ℕ → Stated → List ℕ → ℕ
decoded_shortened m x word = encode_mask (x.n - dimension_of x) (generator_of x) (shortened_message m x word)

unfoldable pub decode_shortened_conditions : ℕ → Stated → List ℕ → List ℕ → Conditions
decode_shortened_conditions m x word out =
    (11, wrong_size (sent_places m x) word)
    ∷ (11, wrong_size (sent_places m x) out)
    ∷ (12, spare word_weight (sent_places m x) word)
    ∷ (13, eqb (shortened_message m x word) (2 ^ dimension_of x))
    ∷ []

-- the number of changed places, and the whole corrected word
unfoldable pub decode_shortened_entry : Conditions → ℕ → Stated → List ℕ → List ℕ → Answer × List ℕ
decode_shortened_entry conditions m x word out =
    settle (first_of (conditions ++ decode_shortened_conditions m x word out))
    (differences x.n (sent_word_of m x word) (decoded_shortened m x word) ∷ [])
    (bytes_of word_weight (sent_places m x) (decoded_shortened m x word)) out
