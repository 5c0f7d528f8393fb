-- The listing that `linkcard` writes, byte by byte (ASCII).
--
--   decimal n           a number in decimal digits
--   code_word .. refused_word      the words
--   code_line .. radius_line, refused_line      the lines; code_text, certificate_text, radius_text: by the numbers in them
--   listing_of conditions x       the text, by the conditions of a sheet's refusals and what it states
--   card_entry room conditions x out      the listing's length, and what a lent buffer of `room` bytes is afterwards
use mathlib.Core.List.{List, [], ◌∷◌, ◌++◌, map, flat_map}
use Rattle.std.specs.Prelude.{ℕ, zero, suc, ◌+◌, ◌/◌, ◌%◌, eqb, ltb, true, false, not, length, drop}
use Rattle.field.specs.Search.{up_to}
use Rattle.field.specs.Field.{order_of_two}
use Rattle.document.specs.Answer.{Answer, Conditions, first_of, settle}
use Rattle.document.specs.Sheet.{Stated, certificate_at}
use Rattle.document.specs.Coset.{defining_set}
use Rattle.document.specs.Generator.{generator_poly}
use Rattle.document.specs.Certificate.{distance, radius}
use Rattle.document.specs.Judge.{dimension_of, working_of, working_certificate}

-- a number below 10^n
unfoldable pub decimal_in : ℕ → ℕ → List ℕ
decimal_in zero x = []
decimal_in (suc n) x = elim (ltb x 10) [ true ↦ (48 + x) ∷ [] | false ↦ decimal_in n (x / 10) ++ ((48 + x % 10) ∷ []) ]

unfoldable pub decimal : ℕ → List ℕ
decimal x = decimal_in (suc x) x

-- one space, and a number
abbrev pub spaced : ℕ → List ℕ
spaced x = 32 ∷ decimal x

abbrev pub newline : List ℕ
newline = 10 ∷ []

-- ---- the words
abbrev pub code_word : List ℕ
code_word = 99 ∷ 111 ∷ 100 ∷ 101 ∷ []  -- code

abbrev pub zeros_word : List ℕ
zeros_word = 122 ∷ 101 ∷ 114 ∷ 111 ∷ 115 ∷ []  -- zeros

abbrev pub generator_word : List ℕ
generator_word = 103 ∷ 101 ∷ 110 ∷ 101 ∷ 114 ∷ 97 ∷ 116 ∷ 111 ∷ 114 ∷ 32 ∷ []  -- generator, and a space

abbrev pub cert_word : List ℕ
cert_word = 99 ∷ 101 ∷ 114 ∷ 116 ∷ []  -- cert

abbrev pub terms_word : List ℕ
terms_word = 32 ∷ 116 ∷ 101 ∷ 114 ∷ 109 ∷ 115 ∷ []  -- a space, and terms

abbrev pub distance_word : List ℕ
distance_word = 32 ∷ 100 ∷ 105 ∷ 115 ∷ 116 ∷ 97 ∷ 110 ∷ 99 ∷ 101 ∷ []  -- a space, and distance

abbrev pub radius_word : List ℕ
radius_word = 114 ∷ 97 ∷ 100 ∷ 105 ∷ 117 ∷ 115 ∷ []  -- radius

abbrev pub from_word : List ℕ
from_word = 32 ∷ 102 ∷ 114 ∷ 111 ∷ 109 ∷ 32 ∷ 99 ∷ 101 ∷ 114 ∷ 116 ∷ []  -- a space, and from cert

abbrev pub refused_word : List ℕ
refused_word = 114 ∷ 101 ∷ 102 ∷ 117 ∷ 115 ∷ 101 ∷ 100 ∷ []  -- refused

-- ---- the lines
-- "n, k, s"
abbrev pub code_text : ℕ → ℕ → ℕ → List ℕ
code_text n k s = code_word ++ spaced n ++ spaced k ++ spaced s ++ newline

unfoldable pub code_line : Stated → List ℕ
code_line x = code_text x.n (dimension_of x) (order_of_two x.n)

-- "D rising (nothing after `zeros` if it is empty)"
unfoldable pub zeros_line : Stated → List ℕ
zeros_line x = zeros_word ++ flat_map spaced (defining_set x.n x.representatives) ++ newline

-- "the generator from x^0 up"
unfoldable pub generator_line : Stated → List ℕ
generator_line x = generator_word ++ map (λ c. 48 + c) (generator_poly x.n x.representatives) ++ newline

-- "one line for each certificate with its index, L and d"
abbrev pub certificate_text : ℕ → ℕ → ℕ → List ℕ
certificate_text c terms d = cert_word ++ spaced c ++ terms_word ++ spaced terms ++ distance_word ++ spaced d ++ newline

unfoldable pub certificate_line : Stated → ℕ → List ℕ
certificate_line x i = certificate_text i (certificate_at x i).L (distance (certificate_at x i))

-- "t and the working index"
abbrev pub radius_text : ℕ → ℕ → List ℕ
radius_text t index = radius_word ++ spaced t ++ from_word ++ spaced index ++ newline

unfoldable pub radius_line : Stated → List ℕ
radius_line x = radius_text (radius (working_certificate x)) (working_of x)

-- "A refused sheet gives only one line: `refused`, one space and its number."
unfoldable pub refused_line : ℕ → List ℕ
refused_line r = refused_word ++ spaced r ++ newline

unfoldable pub accepted_lines : Stated → List ℕ
accepted_lines x =
    code_line x ++ zeros_line x ++ generator_line x
    ++ flat_map (certificate_line x) (up_to (length x.certificates)) ++ radius_line x

unfoldable pub listing_for : ℕ → Stated → List ℕ
listing_for zero x = accepted_lines x
listing_for (suc r) x = refused_line (suc r)

unfoldable pub listing_of : Conditions → Stated → List ℕ
listing_of conditions x = listing_for (first_of conditions) x

-- The lent buffer has `room` bytes. 11: an "output buffer hasn't its exact length"
unfoldable pub card_conditions : ℕ → List ℕ → Conditions
card_conditions room out = (11, not (eqb (length out) room)) ∷ []

-- The listing's length; and in the buffer the listing, and what stood after its end.
unfoldable pub card_entry : ℕ → Conditions → Stated → List ℕ → Answer × List ℕ
card_entry room conditions x out =
    let text : List ℕ = listing_of conditions x in
    settle (first_of (card_conditions room out)) (length text ∷ []) (text ++ drop (length text) out) out
