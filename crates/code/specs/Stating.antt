-- What the entries pass on of a sheet that was read. No entry's contract cites this file.
--
--   HeaderPassed kind sheet n s      a sheet of this kind that draws none of refusals 1 to 4, with its n and s
--   StatedJudged, JudgedInto     what judging says of refusals 5 to 10, and of all; the representatives are copied
--   SheetAccepted kind sheet r reps      a sheet that draws none of refusals 1 to 10, with its record and its representatives
--   UnsentPlaces shortening k unsent     how many places are not sent, of a whole code or of one shortened by m; WrongUnsent: refusal 16
--   encode_for, read_for, decode_for     the entries on a whole code, or on one shortened by m
--   Stating n reps entry got     what an entry says of every sheet that states n and these representatives
use Rattle.std.specs.Prelude.{◌≡◌, ◌||◌, true, false, List, ℕ, Option, Some, None, ◌≤◌, eqb, leb}
use Rattle.field.specs.Field.{order_of_two}
use Rattle.document.specs.declared.types.Record.{Record}
use Rattle.document.specs.declared.types.Refusal.{Refusal}
use Rattle.document.specs.declared.types.Refusal.TheVariants.{Shortening}
use Rattle.document.specs.Answer.{Answer, first_of, record_as}
use Rattle.document.specs.Sheet.{Stated, Kind, stated_by}
use Rattle.document.specs.Judge.{judge_conditions, judge_entry, record_of}
use Rattle.document.specs.Short.{encode_of, read_of, decode_of, encode_shortened_of, read_shortened_of, decode_shortened_of}
use Rattle.document.proofs.Theory.{Length}
use Rattle.document.proofs.Stated.{Counted}
use Rattle.sheet.specs.Stage.{RepresentativesRead}
use Rattle.judging.specs.Weigh.{judge_stated}

pub record HeaderPassed (kind : Kind) (sheet : List ℕ) (n s : ℕ) : Type 0 where
  pub counted : Counted kind sheet
  pub length_stated : Length n
  pub most : n ≤ kind.most_places
  pub n_is : n ≡ (stated_by kind sheet).n
  pub s_is : s ≡ order_of_two n

pub record StatedJudged (kind : Kind) (sheet w : List ℕ) (answer : Answer) : Type 0 where
  pub is : answer ≡ judge_stated kind.most_terms (stated_by kind sheet)
  pub read : RepresentativesRead (stated_by kind sheet) w

pub record JudgedInto (kind : Kind) (sheet w : List ℕ) (answer : Answer) : Type 0 where
  pub is : answer ≡ judge_entry (judge_conditions kind sheet) (stated_by kind sheet)
  pub read : first_of (judge_conditions kind sheet) ≡ 0 → RepresentativesRead (stated_by kind sheet) w

pub record SheetAccepted (kind : Kind) (sheet : List ℕ) (r : Record) (reps : List ℕ) : Type 0 where
  pub zero : first_of (judge_conditions kind sheet) ≡ 0
  pub record_is : record_as r ≡ record_of (stated_by kind sheet)
  pub reps_is : reps ≡ (stated_by kind sheet).representatives

-- ---- a whole code, or one shortened by m
abbrev pub UnsentPlaces : Option ℕ → ℕ → ℕ → Type 0
UnsentPlaces None k unsent = unsent ≡ 0
UnsentPlaces (Some m) k unsent = (unsent ≡ m) × (eqb m 0 || leb k m ≡ false)

abbrev pub WrongUnsent : Option ℕ → ℕ → Refusal → Type 0
WrongUnsent None k r = ⊥
WrongUnsent (Some m) k r = (r ≡ Shortening) × (eqb m 0 || leb k m ≡ true)

abbrev pub encode_for : Option ℕ → List ℕ → List ℕ → List ℕ → Answer × List ℕ
encode_for None sheet message out = encode_of sheet message out
encode_for (Some m) sheet message out = encode_shortened_of sheet m message out

abbrev pub read_for : Option ℕ → List ℕ → List ℕ → List ℕ → Answer × List ℕ
read_for None sheet word out = read_of sheet word out
read_for (Some m) sheet word out = read_shortened_of sheet m word out

abbrev pub decode_for : Option ℕ → List ℕ → List ℕ → List ℕ → Answer × List ℕ
decode_for None sheet word out = decode_of sheet word out
decode_for (Some m) sheet word out = decode_shortened_of sheet m word out

pub record Stating (n : ℕ) (reps : List ℕ) (entry : Stated → Answer × List ℕ) (got : Answer × List ℕ) : Type 0 where
  pub is : (x : Stated) → n ≡ x.n → reps ≡ x.representatives → got ≡ entry x
