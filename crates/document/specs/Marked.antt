-- Decoding with marked places: 2026-05, "Bits the modem isn't sure of". Words and marks are masks of n places, or bytes in word layout.
--
--   is_marked marks i      whether place i is marked; marked_count n marks: r
--   unmarked_differences n marks a b      e: in how many unmarked places two words differ
--   marked_ones, marked_zeros      how many marked places hold a 1, and a 0
--   trial_place, trial_mask n marks bit a      the word a with all marked bits set
--   distance_of x          d; marks_count, unmarked_changed: r and e of bytes; WithinMarks: 2·e + r at most d - 1
--   marked_message x word marks, marked_word x word marks      the codeword that is the answer, by its message
--   trial_word x bit word marks, tried x bit word marks      a trial word, and what its buffer holds after an answer
--   trial_shown x word marks      which trial is handed back
--   marked_conditions, marked_entry      11, 12 and 15 in their order; answer, and the bytes of both trial buffers
--   shown_of trial n zeros ones   the bytes that the second call hands back
use Rattle.std.specs.Prelude.{Bool, true, false, List, [], ◌∷◌, ◌++◌, ℕ, ◌+◌, ◌-◌, ◌*◌, ◌^◌, ◌≤◌, eqb, leb, take}
use Rattle.field.specs.Search.{least, total}
use Rattle.field.specs.Mask.{◌⊕◌, coefficient}
use Rattle.document.specs.Answer.{Answer, Conditions, first_of, settle_in}
use Rattle.document.specs.Layout.{word_weight, bytes_for, bytes_of, spare}
use Rattle.document.specs.Sheet.{Stated}
use Rattle.document.specs.Generator.{encode_mask}
use Rattle.document.specs.Certificate.{distance}
use Rattle.document.specs.Judge.{dimension_of, working_certificate}
use Rattle.document.specs.Entry.{generator_of, wrong_size, word_of, decode_entry}

-- ---- on masks. "a second buffer in word layout, 1 meaning marked"
abbrev pub is_marked : ℕ → ℕ → Bool
is_marked marks i = eqb (coefficient i marks) 1

-- "r is the number marked."
unfoldable pub marked_count : ℕ → ℕ → ℕ
marked_count n marks = total n (λ i. coefficient i marks)

-- "differs from the received word in e unmarked places"
unfoldable pub unmarked_differences : ℕ → ℕ → ℕ → ℕ → ℕ
unmarked_differences n marks a b = total n (λ i. elim (is_marked marks i) [ true ↦ 0 | false ↦ coefficient i (a ⊕ b) ])

-- of the marked places, how many hold a 1 in the word c, and how many a 0: what the theorem on the trial words counts
unfoldable pub marked_ones : ℕ → ℕ → ℕ → ℕ
marked_ones n marks c = total n (λ i. elim (is_marked marks i) [ true ↦ coefficient i c | false ↦ 0 ])

unfoldable pub marked_zeros : ℕ → ℕ → ℕ → ℕ
marked_zeros n marks c = total n (λ i. elim (is_marked marks i) [ true ↦ 1 - coefficient i c | false ↦ 0 ])

-- "Set all marked bits to 0, then to 1"
unfoldable pub trial_place : ℕ → ℕ → ℕ → ℕ → ℕ
trial_place marks bit a i = elim (is_marked marks i) [ true ↦ bit | false ↦ coefficient i a ]

unfoldable pub trial_mask : ℕ → ℕ → ℕ → ℕ → ℕ
trial_mask n marks bit a = total n (λ i. trial_place marks bit a i * 2 ^ i)

-- ---- of what a sheet states. "With d the sheet's distance"
abbrev pub distance_of : Stated → ℕ
distance_of x = distance (working_certificate x)

abbrev pub marks_count : Stated → List ℕ → ℕ
marks_count x marks = marked_count x.n (word_of x marks)

abbrev pub unmarked_changed : Stated → List ℕ → List ℕ → ℕ → ℕ
unmarked_changed x word marks c = unmarked_differences x.n (word_of x marks) (word_of x word) c

-- "in e unmarked places with 2·e + r at most d - 1"
abbrev pub WithinMarks : Stated → List ℕ → List ℕ → ℕ → Type 0
WithinMarks x word marks c = 2 * unmarked_changed x word marks c + marks_count x marks ≤ distance_of x - 1

-- All 2^k messages are gone through: this says what is right, and never runs. That it is "the only codeword" is a theorem.
unfoldable pub marked_message : Stated → List ℕ → List ℕ → ℕ
marked_message x word marks =
    least
    (λ message. leb
    (2 * unmarked_changed x word marks (encode_mask (x.n - dimension_of x) (generator_of x) message) + marks_count x marks)
    (distance_of x - 1)) (2 ^ dimension_of x)

unfoldable pub marked_word : Stated → List ℕ → List ℕ → ℕ
marked_word x word marks = encode_mask (x.n - dimension_of x) (generator_of x) (marked_message x word marks)

-- ---- the trial words, "0 the zeros, 1 the ones"
unfoldable pub trial_word : Stated → ℕ → List ℕ → List ℕ → List ℕ
trial_word x bit word marks = bytes_of word_weight x.n (trial_mask x.n (word_of x marks) bit (word_of x word))

-- "After an answer each holds its decoded trial word, or the undecoded trial word if its decoding gave 13": what decoding a trial word
-- leaves in a buffer that holds this trial word
unfoldable pub tried : Stated → ℕ → List ℕ → List ℕ → List ℕ
tried x bit word marks = (decode_entry [] x (trial_word x bit word marks) (trial_word x bit word marks)).1

-- "if both hold the answer, the one of the zeros is handed back"
unfoldable pub trial_shown : Stated → List ℕ → List ℕ → ℕ
trial_shown x word marks = elim (eqb (word_of x (tried x 0 word marks)) (marked_word x word marks)) [ true ↦ 0 | false ↦ 1 ]

-- ---- the entry. "Under 11 come the received word, the marks and the trial buffers; under 12 the received word and the marks; refusal 15,
-- last and in 13's place, means that no such codeword exists."
unfoldable pub marked_conditions : Stated → List ℕ → List ℕ → List ℕ → List ℕ → Conditions
marked_conditions x word marks zeros ones =
    (11, wrong_size x.n word)
    ∷ (11, wrong_size x.n marks)
    ∷ (11, wrong_size x.n zeros)
    ∷ (11, wrong_size x.n ones)
    ∷ (12, spare word_weight x.n word)
    ∷ (12, spare word_weight x.n marks)
    ∷ (15, eqb (marked_message x word marks) (2 ^ dimension_of x))
    ∷ []

-- "One call tells e and which trial"
unfoldable pub marked_entry : Conditions → Stated → List ℕ → List ℕ → List ℕ → List ℕ → Answer × (List ℕ × List ℕ)
marked_entry conditions x word marks zeros ones =
    settle_in (first_of (conditions ++ marked_conditions x word marks zeros ones))
    (unmarked_changed x word marks (marked_word x word marks) ∷ trial_shown x word marks ∷ [])
    (tried x 0 word marks, tried x 1 word marks) (zeros, ones)

-- ---- the second call: "handed that number (any other counts as 1), n and both buffers but no sheet, hands back that buffer's first n/8
-- bytes, rounded up, or all of a shorter one"
unfoldable pub shown_of : ℕ → ℕ → List ℕ → List ℕ → List ℕ
shown_of trial n zeros ones = take (bytes_for n) (elim (eqb trial 0) [ true ↦ zeros | false ↦ ones ])
