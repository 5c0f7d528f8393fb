-- What the writers pass to each other. No entry's contract cites this file.
--
--   zeros_text, generator_text         the lines by the slices that they are made of
--   rows piece n                     the pieces 0 to n - 1
--   member, member_in z i             place i after a space, where it is marked
--   digit_in g i                      coefficient i of what g holds as a digit
--   code_texts, Ranges                the first three lines, and what their numbers and slices are to satisfy
use Rattle.std.specs.Prelude.{List, [], ◌∷◌, ◌++◌, ℕ, zero, suc, ◌+◌, ◌-◌, ◌≤◌, ◌<◌, length, get_or}
use Rattle.field.specs.Mask.{coefficient}
use Rattle.binary.specs.Packed.{packed, places_in}
use Rattle.document.specs.Card.{spaced, newline, zeros_word, generator_word, code_text}

unfoldable pub rows : (ℕ → List ℕ) → ℕ → List ℕ
rows piece zero = []
rows piece (suc n) = rows piece n ++ piece n

-- ---- "zeros", the marked places
abbrev pub member : ℕ → ℕ → List ℕ
member zero i = []
member (suc mark) i = spaced i

abbrev pub member_in : List ℕ → ℕ → List ℕ
member_in z i = member (get_or z i 0) i

abbrev pub zeros_text : List ℕ → ℕ → List ℕ
zeros_text z n = zeros_word ++ rows (member_in z) n ++ newline

-- ---- the digits of the generator
abbrev pub digit_in : List ℕ → ℕ → List ℕ
digit_in g i = (48 + coefficient i (packed g)) ∷ []

-- of degree m
abbrev pub generator_text : List ℕ → ℕ → List ℕ
generator_text g m = generator_word ++ rows (digit_in g) (m + 1) ++ newline

-- ---- code, zeros and generator
abbrev pub code_texts : ℕ → ℕ → ℕ → List ℕ → List ℕ → List ℕ
code_texts n k s zeros g = code_text n k s ++ zeros_text zeros n ++ generator_text g (n - k)

pub record Ranges (n k s : ℕ) (zeros g : List ℕ) : Type 0 where
  pub most : n < 10000
  pub dimension : k ≤ n
  pub degree : s < 10000
  pub marked : n ≤ length zeros
  pub held : n < places_in g
