-- What the code reads from a sheet, and where it stands in slices: for any kind, but for the bytes of one certificate.
--
--   RepresentativesTo, representatives_start, representatives_end      the loop over the representatives
--   certificate_read           a certificate read is the one that is stated
--   Within, within, read_is    of document 01's kind: the bytes of a certificate, and its six numbers
--   held_certificate           certificate i of what is stated, where its certificates are held in a slice
--   CertificatesTo, certificates_end      the loop over the certificates
use mathlib.Core.Path.{◌≡◌, sym, ap, ◌∙◌}
use mathlib.Core.List.{List, ◌++◌}
use Prim.Native.Nat.{ℕ, ◌+◌, ◌*◌, ◌≤◌, ◌<◌}
use native.Mathlib.Omega.{arith}
use lib.ListN.{length, get_or, take, length-append, get_or-map, length-map}
use lib.Seq.{take-append_seam, ext_get_or}
use Rattle.document.specs.Sheet.{Certificate, Stated, certificate_at, Kind, stated_by}
use Rattle.document.specs.Short.{byte_at, number_at, certificate_from, short, stated}
use Rattle.document.proofs.Stated.{Counted}
use Rattle.document.proofs.Stated.{representatives_length, representative_is, certificates_length, certificate_is}
use Rattle.sheet.specs.declared.types.Certificate.{Certificate as CodeCertificate}
use Rattle.sheet.specs.Stage.{certificate_as, blank_certificate, certificate_in, certificates_as, RepresentativesRead, CertificatesRead}

-- ---- representatives
pub record RepresentativesTo (kind : Kind) (sheet : List ℕ) (i : ℕ) (w : List ℕ) : Type 0 where
  pub at : (k : ℕ) → k < i → get_or w k 0 ≡ kind.representative sheet k

pub representatives_start : {kind : Kind} {sheet w : List ℕ} → RepresentativesTo kind sheet 0 w
representatives_start = record { at = λ k h. absurd (omega arith) }

pub representatives_end : {kind : Kind} {sheet w : List ℕ} (rest : List ℕ) {i : ℕ} → length w ≡ (kind.header sheet).R
    → (kind.header sheet).R ≤ i → RepresentativesTo kind sheet i w → RepresentativesRead (stated_by kind sheet) (w ++ rest)
representatives_end {kind} {sheet} {w} rest {i} long over b =
    let x = stated_by kind sheet in
    let l = representatives_length kind sheet in
    let same : length w ≡ length x.representatives = long ∙ sym l in
    record {
      fits = omega (arith, same, length-append w rest);
      is =
          ap (λ (n : ℕ). take n (w ++ rest)) (sym same) ∙ take-append_seam w rest
          ∙ ext_get_or 0 w x.representatives same
          (λ k q. b.at k (omega (arith, long)) ∙ sym (representative_is kind sheet k (omega (arith, long))));
    }

-- ---- one certificate
pub certificate_read : (kind : Kind) (sheet : List ℕ) {i : ℕ} {c : Certificate} → i < length (stated_by kind sheet).certificates
    → c ≡ kind.certificate sheet i → c ≡ certificate_at (stated_by kind sheet) i
certificate_read kind sheet {i} h e = e ∙ sym (certificate_is kind sheet i (omega (arith, certificates_length kind sheet)))

pub record Within (sheet : List ℕ) (i : ℕ) : Type 0 where
  pub fits : 10 + byte_at sheet 3 + 8 * i + 8 ≤ length sheet
  pub few : byte_at sheet 3 ≤ 32
  pub four : i < 4

pub within : {sheet : List ℕ} {i : ℕ} → Counted short sheet → i < length (stated sheet).certificates → Within sheet i
within {sheet} k h =
    let l = certificates_length short sheet in
    record { fits = omega (arith, k.long, l); few = k.few; four = omega (arith, k.four, l) }

-- six numbers, by the number of representatives as the code holds it
pub read_is : (sheet : List ℕ) (i : ℕ) {r b z f h e l : ℕ} → r ≡ byte_at sheet 3 → b ≡ byte_at sheet (10 + r + 8 * i)
    → z ≡ byte_at sheet (10 + r + 8 * i + 1) → f ≡ number_at sheet (10 + r + 8 * i + 2) → h ≡ byte_at sheet (10 + r + 8 * i + 4)
    → e ≡ byte_at sheet (10 + r + 8 * i + 5) → l ≡ number_at sheet (10 + r + 8 * i + 6)
    → record { b = b; z = z; f = f; h = h; zero_field = e; L = l } ≡ certificate_from sheet (10 + byte_at sheet 3 + 8 * i)
read_is sheet i {r} q₀ q₁ q₂ q₃ q₄ q₅ q₆ =
    (λ k. record { b = q₁ k; z = q₂ k; f = q₃ k; h = q₄ k; zero_field = q₅ k; L = q₆ k })
    ∙ ap (λ (x : ℕ). certificate_from sheet (10 + x + 8 * i)) q₀

-- ---- certificates held in a slice
pub held_certificate : (x : Stated) (w : List CodeCertificate) (i : ℕ) → x.certificates ≡ certificates_as w → certificate_at x i ≡ certificate_in w i
unfolding certificate_at
held_certificate x w i e = ap (λ l. get_or l i (certificate_as blank_certificate)) e ∙ get_or-map certificate_as w i blank_certificate

-- ---- the loop over the certificates
pub record CertificatesTo (x : Stated) (i : ℕ) (w : List CodeCertificate) : Type 0 where
  pub at : (k : ℕ) → k < i → certificate_in w k ≡ certificate_at x k

pub certificates_end : {kind : Kind} {sheet : List ℕ} {w : List CodeCertificate} (rest : List CodeCertificate) {count i : ℕ} → Counted kind sheet
    → count ≡ (kind.header sheet).C → length w ≡ count → count ≤ i → CertificatesTo (stated_by kind sheet) i w
    → CertificatesRead (stated_by kind sheet) (w ++ rest) count
unfolding certificate_at
certificates_end {kind} {sheet} {w} rest {count} k e long over p =
    let l = certificates_length kind sheet in
    let m : length (certificates_as w) ≡ count = length-map w certificate_as ∙ long in
    let all : certificates_as w ≡ (stated_by kind sheet).certificates =
    ext_get_or _ (certificates_as w) (stated_by kind sheet).certificates (m ∙ e ∙ sym l)
    (λ j h. get_or-map certificate_as w j blank_certificate ∙ p.at j (omega arith)) in
    record {
      few = omega (arith, k.four);
      one = omega (arith, k.one);
      fits = omega (arith, length-append w rest);
      is = ap certificates_as (ap (λ x. take x (w ++ rest)) (sym long) ∙ take-append_seam w rest) ∙ all;
    }
