-- What the parts of a sheet pass to each other. No entry's contract cites this file.
--
--   Marks n reps z     z holds 1 at each member of D, else 0
--   Marked n r z z' low      z' is z with the coset of r marked; low is 0 exactly where r is its smallest
--   SetMarked n reps z wrong      whether refusal 5 is drawn; where it is not, z marks D
--   certificate_as      a certificate of the code as one of the definitions
--   blank_certificate   the certificate whose numbers are all 0
--   certificate_in w i  certificate i of those in w
--   certificates_as w   all of them, as those of the definitions
--   RepresentativesRead x w      w begins with the representatives that x states
--   CertificatesRead x w count   w begins with its certificates, `count` of them
use Rattle.std.specs.Prelude.{◌≡◌, Bool, true, false, List, map, ℕ, ◌≤◌, ◌<◌, length, get_or, take}
use Rattle.field.specs.Search.{bit}
use Rattle.sheet.specs.declared.types.Certificate.{Certificate as CodeCertificate}
use Rattle.document.specs.Sheet.{Certificate, Stated}
use Rattle.document.specs.Coset.{in_coset, smallest, in_set}
use Rattle.document.specs.Judge.{wrong_representative}

-- ---- D
pub record Marks (n : ℕ) (reps z : List ℕ) : Type 0 where
  pub long : n ≤ length z
  pub at : (i : ℕ) → i < n → get_or z i 0 ≡ bit (in_set n reps i)

pub record Marked (n r : ℕ) (z z' : List ℕ) (low : ℕ) : Type 0 where
  pub inside : (i : ℕ) → i < n → in_coset n r i ≡ true → get_or z' i 0 ≡ 1
  pub outside : (i : ℕ) → i < n → in_coset n r i ≡ false → get_or z' i 0 ≡ get_or z i 0
  pub is_smallest : low ≡ 0 → smallest n r ≡ true
  pub not_smallest : (low ≡ 0 → ⊥) → smallest n r ≡ false

pub record SetMarked (n : ℕ) (reps z : List ℕ) (wrong : Bool) : Type 0 where
  pub is : wrong ≡ wrong_representative n reps
  pub marks : wrong ≡ false → Marks n reps z

-- ---- what is stated, as the code holds it
abbrev pub certificate_as : CodeCertificate → Certificate
certificate_as c = record { b = c.b; z = c.z; f = c.f; h = c.h; zero_field = c.zero; L = c.terms }

abbrev pub blank_certificate : CodeCertificate
blank_certificate = record { b = 0; z = 0; f = 0; h = 0; zero = 0; terms = 0 }

abbrev pub certificate_in : List CodeCertificate → ℕ → Certificate
certificate_in w i = certificate_as (get_or w i blank_certificate)

abbrev pub certificates_as : List CodeCertificate → List Certificate
certificates_as w = map certificate_as w

pub record RepresentativesRead (x : Stated) (w : List ℕ) : Type 0 where
  pub fits : length x.representatives ≤ length w
  pub is : take (length x.representatives) w ≡ x.representatives

pub record CertificatesRead (x : Stated) (w : List CodeCertificate) (count : ℕ) : Type 0 where
  pub few : count ≤ 4
  pub one : 1 ≤ count
  pub fits : count ≤ length w
  pub is : certificates_as (take count w) ≡ x.certificates
