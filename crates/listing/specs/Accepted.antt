-- What the writers of an accepted sheet's lines are told. No entry's contract cites this file.
--
--   Rated c, CertificatesRated w      certificates with a distance, and numbers of at most four digits
--   certificate_row c i, row_in w i, certificate_rows w      the line of a certificate with its index, of certificate i, and of all
--   Listable     the numbers of a listing
--   Lists x ..   they are those of what x states; PageListed: whose lines are written
use Rattle.std.specs.Prelude.{◌≡◌, List, ℕ, ◌+◌, ◌≤◌, ◌<◌, length}
use Rattle.field.specs.Field.{order_of_two}
use Rattle.document.specs.Sheet.{Certificate, Stated}
use Rattle.document.specs.Generator.{generator}
use Rattle.document.specs.Certificate.{distance, radius}
use Rattle.document.specs.Judge.{dimension_of, working_of, working_certificate}
use Rattle.document.specs.Card.{certificate_text, accepted_lines}
use Rattle.document.proofs.Theory.{Length}
use Rattle.sheet.specs.declared.types.Certificate.{Certificate as CodeCertificate}
use Rattle.sheet.specs.Stage.{Marks, certificate_in, certificates_as}
use Rattle.binary.specs.Factor.{degree}
use Rattle.binary.specs.Packed.{packed}
use Rattle.listing.specs.Wrote.{Wrote}
use Rattle.listing.specs.Text.{Ranges, rows}

pub record Rated (c : Certificate) : Type 0 where
  pub low : 1 ≤ degree c.f
  pub high : degree c.f ≤ 8
  pub few : c.L + 8 < 10000

pub record CertificatesRated (w : List CodeCertificate) : Type 0 where
  pub few : length w ≤ 1000
  pub at : (i : ℕ) → i < length w → Rated (certificate_in w i)

abbrev pub certificate_row : Certificate → ℕ → List ℕ
certificate_row c i = certificate_text i c.L (distance c)

abbrev pub row_in : List CodeCertificate → ℕ → List ℕ
row_in w i = certificate_row (certificate_in w i) i

abbrev pub certificate_rows : List CodeCertificate → List ℕ
certificate_rows w = rows (row_in w) (length w)

pub record Listable (n k s working t : ℕ) (w : List CodeCertificate) (zeros g : List ℕ) : Type 0 where
  pub ranges : Ranges n k s zeros g
  pub certificates : CertificatesRated w
  pub radius_short : t < 10000
  pub working_short : working < 10000

pub record Lists (x : Stated) (n k s working t : ℕ) (w : List CodeCertificate) (zeros g : List ℕ) : Type 0 where
  pub length_stated : Length n
  pub n_is : n ≡ x.n
  pub k_is : k ≡ dimension_of x
  pub s_is : s ≡ order_of_two n
  pub working_is : working ≡ working_of x
  pub t_is : t ≡ radius (working_certificate x)
  pub certificates_are : certificates_as w ≡ x.certificates
  pub marks : Marks n x.representatives zeros
  pub holds : packed g ≡ generator n x.representatives

pub record PageListed (n k s working t : ℕ) (w : List CodeCertificate) (zeros g out out' : List ℕ) (r : ℕ) : Type 0 where
  pub is : (x : Stated) → Lists x n k s working t w zeros g → Wrote (accepted_lines x) 0 out out' r
