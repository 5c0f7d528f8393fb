-- What the inner functions of judging pass to each other. No entry's contract cites this file.
--
--   stated_as n reps w            what is stated, as the code holds it
--   chosen, better, best_of      the best certificate so far
--   weighed_as                   what the weighing of all answers
--   weigh_of, Weighable, WeighedBy      what the weighing of all certificates is to say, needs, and says
--   recorded                     the record by the code's numbers
--   stated_conditions, judge_stated, Judgeable      refusals 5 to 10, and what they need
use Rattle.std.specs.Prelude.{◌≡◌, Bool, true, false, ◌&&◌, ◌||◌, ℕ, ◌-◌, ◌/◌, ◌≤◌, eqb, ltb, length, Result, Ok, Err}
use mathlib.Core.List.{List, [], ◌∷◌, flat_map}
use Rattle.field.specs.Field.{order_of_two}
use Rattle.judging.specs.declared.types.Best.{Best}
use Rattle.document.specs.declared.types.Refusal.{Refusal}
use Rattle.sheet.specs.declared.types.Certificate.{Certificate as CodeCertificate}
use Rattle.document.specs.Answer.{Answer, returned, refused, number_of, Conditions, first_of, settle}
use Rattle.document.specs.Sheet.{Stated}
use Rattle.document.specs.Certificate.{distance}
use Rattle.document.specs.Judge.{wrong_representative, no_message, certificate_conditions, working_of, working_certificate, judge_entry}
use Rattle.document.proofs.Theory.{Length}
use Rattle.sheet.specs.Stage.{Marks, certificates_as}
use Rattle.certificate.specs.Rules.{Checkable}

abbrev pub stated_as : ℕ → List ℕ → List CodeCertificate → Stated
stated_as n reps w = record { n = n; representatives = reps; certificates = certificates_as w }

-- ---- all certificates
abbrev pub chosen : Bool → Best → Best → Best
chosen true a b = a
chosen false a b = b

-- a certificate of distance e and so many terms is better than the best so far
abbrev pub better : Best → ℕ → ℕ → Bool
better best e terms = ltb best.d e || (eqb e best.d && ltb terms best.terms)

-- the best so far and certificate i
abbrev pub best_of : Best → ℕ → ℕ → ℕ → Best
best_of best i e terms = chosen (better best e terms) (record { index = i; d = e; terms = terms }) best

abbrev pub weighed_as : Result Best Refusal → Answer
weighed_as (Ok b) = returned (b.index ∷ b.d ∷ b.terms ∷ [])
weighed_as (Err r) = refused (number_of r)

unfoldable pub weigh_of : ℕ → Stated → Answer
weigh_of most x =
    (settle (first_of (flat_map (certificate_conditions most x.n x.representatives) x.certificates))
    (working_of x ∷ distance (working_certificate x) ∷ (working_certificate x).L ∷ []) [] []).0

pub record Weighable (most n : ℕ) (w : List CodeCertificate) (z : List ℕ) : Type 0 where
  pub most_le : most ≤ 65527
  pub checkable : Checkable n z
  pub one : 1 ≤ length w
  pub few : length w ≤ 65535

pub record WeighedBy (most n : ℕ) (w : List CodeCertificate) (z : List ℕ) (answer : Answer) : Type 0 where
  pub is : (reps : List ℕ) → Marks n reps z → answer ≡ weigh_of most (stated_as n reps w)

-- ---- the whole
abbrev pub recorded : ℕ → ℕ → ℕ → Best → List ℕ
recorded n s size best = n ∷ (n - size) ∷ s ∷ best.index ∷ best.d ∷ ((best.d - 1) / 2) ∷ best.terms ∷ []

unfoldable pub stated_conditions : ℕ → Stated → Conditions
stated_conditions most x =
    (5, wrong_representative x.n x.representatives)
    ∷ (6, no_message x.n x.representatives)
    ∷ flat_map (certificate_conditions most x.n x.representatives) x.certificates

unfoldable pub judge_stated : ℕ → Stated → Answer
judge_stated most x = judge_entry (stated_conditions most x) x

pub record Judgeable (most n s : ℕ) (w : List CodeCertificate) : Type 0 where
  pub length_stated : Length n
  pub s_is : s ≡ order_of_two n
  pub most_le : most ≤ 65527
  pub one : 1 ≤ length w
  pub few : length w ≤ 65535
