-- Answers by the paper's numbers, and what each value of the types of the answers means in them.
--
--   Answer                 a number, and values: 0 and what is returned, or a refusal's number and nothing
--   returned, refused      the two kinds of answer; Conditions: conditions with the numbers of their refusals, in order
--   first_of conditions     the number of the first condition that holds; 0 if none does
--   settle_in, settle       what an entry answers, and what it leaves in the lent buffers: whichever they are, and a single one
--   number_of               a refusal's number
--   record_as, judged_as, replied_as, marked_as      what the answers of the entries mean
use Rattle.std.specs.Prelude.{Bool, true, false, List, [], ◌∷◌, ℕ, zero, suc, Result, Ok, Err}
use Rattle.document.specs.declared.types.Refusal.{Refusal}
use Rattle.document.specs.declared.types.Refusal.TheVariants.{SheetLength, CodeLength, FieldDegree, Header, Representative}
use Rattle.document.specs.declared.types.Refusal.TheVariants.{NoMessage}
use Rattle.document.specs.declared.types.Refusal.TheVariants.{Range, CommonFactor, Period, Term, BufferLength, SpareBit}
use Rattle.document.specs.declared.types.Refusal.TheVariants.{NoneNear, NoCodeword, NoneWithMarks, Shortening, InterleavingDepth}
use Rattle.document.specs.declared.types.Record.{Record}
use Rattle.document.specs.declared.types.Shown.{Shown}

pub record Answer : Type 0 where
  pub number : ℕ
  pub values : List ℕ

abbrev pub returned : List ℕ → Answer
returned values = record { number = 0; values = values }

-- "A refusal returns its number alone"
abbrev pub refused : ℕ → Answer
refused r = record { number = r; values = [] }

-- A condition beside the number of its refusal. "Each has one condition and is returned only then."
abbrev pub Conditions : Type 0
Conditions = List (ℕ × Bool)

unfoldable pub first_of : Conditions → ℕ
first_of [] = 0
first_of (c ∷ rest) = elim c.1 [ true ↦ c.0 | false ↦ first_of rest ]

-- "A refusal returns its number alone and changes no lent byte." B: the bytes of one lent buffer, or of two
unfoldable pub settle_in : {B : Type 0} → ℕ → List ℕ → B → B → Answer × B
settle_in zero values written old = (returned values, written)
settle_in (suc r) values written old = (refused (suc r), old)

abbrev pub settle : ℕ → List ℕ → List ℕ → List ℕ → Answer × List ℕ
settle r values written old = settle_in r values written old

-- ---- the types of the answers
abbrev pub number_of : Refusal → ℕ
number_of SheetLength = 1
number_of CodeLength = 2
number_of FieldDegree = 3
number_of Header = 4
number_of Representative = 5
number_of NoMessage = 6
number_of Range = 7
number_of CommonFactor = 8
number_of Period = 9
number_of Term = 10
number_of BufferLength = 11
number_of SpareBit = 12
number_of NoneNear = 13
number_of NoCodeword = 14
number_of NoneWithMarks = 15
number_of Shortening = 16
number_of InterleavingDepth = 17

abbrev pub record_as : Record → List ℕ
record_as r = r.n ∷ r.k ∷ r.s ∷ r.working ∷ r.d ∷ r.t ∷ r.terms ∷ []

-- the record, from judging
abbrev pub judged_as : Result Record Refusal → Answer
judged_as (Ok r) = returned (record_as r)
judged_as (Err r) = refused (number_of r)

-- a number, from the other entries: of changed places for decoding a word, the listing's length for a card, else 0
abbrev pub replied_as : Result ℕ Refusal → Answer
replied_as (Ok x) = returned (x ∷ [])
replied_as (Err r) = refused (number_of r)

-- 2026-05: "One call tells e and which trial"
abbrev pub marked_as : Result Shown Refusal → Answer
marked_as (Ok shown) = returned (shown.unmarked ∷ shown.trial ∷ [])
marked_as (Err r) = refused (number_of r)
