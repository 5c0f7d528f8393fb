-- A sheet judged with another test in rule 3's place: for the theorems that compare rule 3 with what it was and with what is computed. No
-- entry's definition cites this file; that with rule 3 itself it is judge_conditions is conditions_are of proofs/Tested.antt.
--
--   CertificateTest           a test of a certificate, by n
--   four_with test most n reps c      the conditions 7 to 10 of a certificate
--   conditions_with test kind sheet      the conditions of a sheet
use Rattle.std.specs.Prelude.{Bool, not, ℕ}
use mathlib.Core.List.{List, [], ◌∷◌, ◌++◌, flat_map}
use Rattle.document.specs.Answer.{Conditions}
use Rattle.document.specs.Sheet.{Certificate, Stated, Kind, stated_by}
use Rattle.document.specs.Certificate.{rule1, rule2, rule4}
use Rattle.document.specs.Judge.{sheet_conditions}

abbrev pub CertificateTest : Type 0
CertificateTest = ℕ → Certificate → Bool

unfoldable pub four_with : CertificateTest → ℕ → ℕ → List ℕ → Certificate → Conditions
four_with test most n reps c = (7, not (rule1 most n c)) ∷ (8, not (rule2 c)) ∷ (9, not (test n c)) ∷ (10, not (rule4 n reps c)) ∷ []

unfoldable pub conditions_with : CertificateTest → Kind → List ℕ → Conditions
conditions_with test kind sheet =
    let x : Stated = stated_by kind sheet in
    sheet_conditions kind sheet ++ flat_map (four_with test kind.most_terms x.n x.representatives) x.certificates
