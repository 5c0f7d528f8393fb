-- What document 01 said before a request changed it. The theorems that compare the two cite it, and nothing else does.
--
--   PeriodCoprime n c      rule 3 before 2026-03, as a statement; period_coprime: as the definition computed it
--   judge_before sheet      judging by it
--   WorkingBefore x w      the working certificate before 2026-04, as a statement; working_before: as the definition searched for it
--   alone x i              what is stated, with certificate i as the only one
--   decode_with choice sheet word out      decoding with the certificate at work that is so chosen
use Rattle.std.specs.Prelude.{Bool, List, [], ◌∷◌, ℕ, ◌+◌, ◌^◌, ◌≤◌, ◌<◌, leb, length}
use Rattle.field.specs.Search.{least, up_to, every}
use Rattle.binary.specs.Factor.{coprime, period}
use Rattle.document.specs.Answer.{Answer}
use Rattle.document.specs.Sheet.{Certificate, Stated, certificate_at}
use Rattle.document.specs.Certificate.{radius}
use Rattle.document.specs.Judge.{judge_entry}
use Rattle.document.specs.Entry.{decode_entry}
use Rattle.document.specs.Short.{short, stated, refusals_of}
use Rattle.document.specs.OtherTest.{conditions_with}
use Rattle.code.specs.Published.{Coprime, Divides}

-- ---- before 2026-03
-- "3. the period of f, the smallest p above 0 for which f divides x^p + 1, is coprime to n"
pub record PeriodCoprime (n : ℕ) (c : Certificate) : Type 0 where
  pub p : ℕ
  pub above : 0 < p
  pub divides : Divides c.f (2 ^ p + 1)
  pub smallest : (q : ℕ) → 0 < q → Divides c.f (2 ^ q + 1) → p ≤ q
  pub coprime : Coprime p n

abbrev pub period_coprime : ℕ → Certificate → Bool
period_coprime n c = coprime (period c.f) n

-- all conditions as they are, with it in rule 3's place (document/specs/OtherTest.antt); the record is that of the certificate which works now
abbrev pub judge_before : List ℕ → Answer
judge_before sheet = judge_entry (conditions_with period_coprime short sheet) (stated sheet)

-- ---- before 2026-04. The choice stays here because "every received word decodes as before" speaks of it.
-- "The working certificate is the first one with the largest t"
pub record WorkingBefore (x : Stated) (w : ℕ) : Type 0 where
  pub below : w < length x.certificates
  pub largest : (i : ℕ) → i < length x.certificates → radius (certificate_at x i) ≤ radius (certificate_at x w)
  pub first : (i : ℕ) → i < w → radius (certificate_at x i) < radius (certificate_at x w)

abbrev pub working_before : Stated → ℕ
working_before x =
    let count : ℕ = length x.certificates in
    least (λ i. every (λ j. leb (radius (certificate_at x j)) (radius (certificate_at x i))) (up_to count)) count

-- where there is one certificate there is no choice
abbrev pub alone : Stated → ℕ → Stated
alone x i = record { n = x.n; representatives = x.representatives; certificates = certificate_at x i ∷ [] }

-- the sheet is judged as it is, and decoding goes by the chosen certificate alone
abbrev pub decode_with : (Stated → ℕ) → List ℕ → List ℕ → List ℕ → Answer × List ℕ
decode_with choice sheet word out = decode_entry (refusals_of sheet) (alone (stated sheet) (choice (stated sheet))) word out
