-- What the check of a certificate passes on. No entry's contract cites this file.
--
--   Walkable, Ruled    what the walk over the terms needs, and says
--   check_of, Checkable, CheckedBy      what the check of one certificate is to say, needs, and says
use Rattle.std.specs.Prelude.{◌≡◌, Bool, not, List, [], ◌∷◌, ℕ, suc, ◌%◌, ◌^◌, ◌≤◌, ◌<◌, length}
use Rattle.binary.specs.Factor.{degree}
use Rattle.sheet.specs.declared.types.Certificate.{Certificate as CodeCertificate}
use Rattle.document.specs.Answer.{Answer, first_of, settle}
use Rattle.document.specs.Sheet.{Certificate}
use Rattle.document.specs.Certificate.{rule4, distance}
use Rattle.document.specs.Judge.{certificate_conditions}
use Rattle.document.proofs.Theory.{Length}
use Rattle.sheet.specs.Stage.{Marks}

-- what the walk over the terms needs: start and step below n, f of degree at most 8, h of smaller degree
pub record Walkable (n : ℕ) (c : CodeCertificate) (z : List ℕ) : Type 0 where
  pub most : n ≤ 65535
  pub start : c.b < n
  pub step : c.z < n
  pub odd : c.f % 2 ≡ 1
  pub f_lt : c.f < 2 ^ suc (degree c.f)
  pub h_lt : c.h < 2 ^ degree c.f
  pub small : degree c.f ≤ 8
  pub few : c.terms ≤ 65535
  pub long : n ≤ length z

-- rule 4 over the set that z marks
pub record Ruled (n : ℕ) (c : Certificate) (z : List ℕ) (wrong : Bool) : Type 0 where
  pub is : (reps : List ℕ) → Marks n reps z → wrong ≡ not (rule4 n reps c)

-- what the check of a certificate says, and needs
unfoldable pub check_of : ℕ → ℕ → List ℕ → Certificate → Answer
check_of most n reps c = (settle (first_of (certificate_conditions most n reps c)) (distance c ∷ []) [] []).0

pub record Checkable (n : ℕ) (z : List ℕ) : Type 0 where
  pub length_stated : Length n
  pub long : n ≤ length z

pub record CheckedBy (most n : ℕ) (c : Certificate) (z : List ℕ) (answer : Answer) : Type 0 where
  pub is : (reps : List ℕ) → Marks n reps z → answer ≡ check_of most n reps c
