-- The listing of an accepted sheet of any kind, from its parts.
--
--   right, marked, none_marked      D marked again
--   listable, lists      the numbers of a page, and that they are the sheet's
use mathlib.Core.Path.{◌≡◌, sym, ap, ap₂, ◌∙◌, subst}
use mathlib.Core.Bool.{Bool, false, not, ◌||◌, ◌&&◌}
use mathlib.Core.List.{List, []}
use Prim.Native.Nat.{ℕ, ◌+◌, ◌-◌, ◌≤◌, ◌<◌}
use native.Mathlib.Decide.{ℕ_discrete}
use native.Mathlib.Omega.{arith}
use lib.Dec.{leb, ltb}
use lib.ListN.{length, get_or, take, length-map, replicate, length-replicate, get_or-replicate}
use lib.Seq.{length-take-le}
use borrow.Author.Tests.{lt-ltb, le-leb, lt-leb}
use Rattle.field.specs.Search.{some}
use Rattle.field.proofs.Search.{some_false}
use Rattle.binary.specs.Factor.{degree}
use Rattle.binary.specs.Packed.{packed, places_in}
use Rattle.document.specs.Sheet.{Certificate, Stated, certificate_at, Kind, stated_by}
use Rattle.document.specs.Coset.{smallest, in_set}
use Rattle.document.specs.Generator.{generator}
use Rattle.document.specs.Certificate.{distance, radius}
use Rattle.document.specs.Judge.{wrong_representative, working_of, working_certificate}
use Rattle.document.proofs.Acceptance.{quiet_rules}
use Rattle.sheet.specs.declared.types.Certificate.{Certificate as CodeCertificate}
use Rattle.sheet.specs.Stage.{Marks, SetMarked, certificate_in, certificate_as, CertificatesRead}
use Rattle.sheet.proofs.Reading.{held_certificate}
use Rattle.certificate.proofs.Ranges.{L-within}
use Rattle.certificate.proofs.Checks.{quotient_le}
use Rattle.certificate.proofs.Sheets as Sheets
use Rattle.codeword.specs.Codewords.{Coded}
use Rattle.listing.specs.Accepted.{Rated, Listable, Lists}
use Rattle.code.proofs.Ready.{Ready, quiet, within}

-- ---- D marked again, and the page
pub right : {n s : ℕ} {reps : List ℕ} → Coded n s reps → wrong_representative n reps ≡ false
unfolding wrong_representative
right {n} {s} {reps} u = some_false _ (length reps) (λ i h. one i h (ℕ_discrete i 0))
  where
    one : (i : ℕ) → i < length reps → Dec (i ≡ 0)
        → not (ltb (get_or reps i 0) n) || not (smallest n (get_or reps i 0)) || (leb 1 i && not (ltb (get_or reps (i - 1) 0) (get_or reps i 0))) ≡ false
    one i h d =
        ap₂ (λ a b. not a || not b || (leb 1 i && not (ltb (get_or reps (i - 1) 0) (get_or reps i 0))))
        (lt-ltb (get_or reps i 0) n (u.rising.below i h)) (u.rising.least i h) ∙ last d
      where
        last : Dec (i ≡ 0) → leb 1 i && not (ltb (get_or reps (i - 1) 0) (get_or reps i 0)) ≡ false
        last (yes e) = ap (λ b. b && not (ltb (get_or reps (i - 1) 0) (get_or reps i 0))) (lt-leb 1 i (omega arith))
        last (no e) =
            ap₂ (λ a b. a && not b) (le-leb 1 i (omega arith))
            (lt-ltb (get_or reps (i - 1) 0) (get_or reps i 0) (u.rising.rising (i - 1) i (omega arith) h))

pub marked : {n s : ℕ} {reps z : List ℕ} {wrong : Bool} → Coded n s reps → SetMarked n reps z wrong → Marks n reps z
marked u f = f.marks (f.is ∙ right u)

pub none_marked : {n : ℕ} (m : ℕ) → n ≤ m → Marks n [] (replicate m 0)
unfolding in_set some
none_marked m l = record {
  long = omega (arith, length-replicate {A = ℕ} m 0);
  at = λ i q. get_or-replicate {A = ℕ} m i 0 0 (omega arith);
}

-- ---- the numbers of a page
module _ {kind : Kind} {sheet : List ℕ} {n k s working t : ℕ} {reps : List ℕ} (r : Ready kind sheet n k s working t reps)
    {certificates : List CodeCertificate} {count : ℕ} (y : CertificatesRead (stated_by kind sheet) certificates count) where
  abbrev x : Stated
  x = stated_by kind sheet

  abbrev w : List CodeCertificate
  w = take count certificates

  held : length (take count certificates) ≡ count
  held = length-take-le count certificates y.fits

  count_is : length (take count certificates) ≡ length (stated_by kind sheet).certificates
  count_is = sym (length-map w certificate_as) ∙ ap length y.is

  certificate_is : (i : ℕ) → certificate_in (take count certificates) i ≡ certificate_at (stated_by kind sheet) i
  certificate_is i = sym (held_certificate x w i (sym y.is))

  L-few : (i : ℕ) → i < length (stated_by kind sheet).certificates → (certificate_at (stated_by kind sheet) i).L ≤ kind.most_terms
  L-few i l = L-within kind.most_terms x.n (certificate_at x i) (ap not (quiet_rules kind sheet (quiet r) i l).range)

  rated : (i : ℕ) → i < length (take count certificates) → Rated (certificate_in (take count certificates) i)
  rated i h =
      let e = certificate_is i in
      let l : i < length x.certificates = omega (arith, count_is) in
      let c = (r.accepted.sound i l).range in
      let f : (certificate_in w i).f ≡ (certificate_at x i).f = ap (λ (k : Certificate). k.f) e in
      let L : (certificate_in w i).L ≡ (certificate_at x i).L = ap (λ (k : Certificate). k.L) e in
      record {
        low = subst (λ (m : ℕ). 1 ≤ degree m) (sym f) c.u_low;
        high = subst (λ (m : ℕ). degree m ≤ 8) (sym f) c.u_high;
        few = omega (arith, L, L-few i l, r.small.terms);
      }

  radius_le : radius (working_certificate (stated_by kind sheet)) < 10000
  unfolding radius distance working_certificate
  radius_le =
      let l : working_of x < length x.certificates = Sheets.working_lt r.accepted in
      let c = (r.accepted.sound (working_of x) l).range in
      let q = quotient_le ((certificate_at x (working_of x)).L - degree (certificate_at x (working_of x)).h
      + (degree (certificate_at x (working_of x)).f - 1)) (degree (certificate_at x (working_of x)).f) kind.most_terms
      (omega (arith, L-few (working_of x) l, c.u_high)) in
      omega (arith, q, r.small.terms)

  pub listable : {zeros g : List ℕ} → n ≤ 127 → Marks n reps zeros → n < places_in g → Listable n k s working t (take count certificates) zeros g
  listable most z h = record {
    ranges = record {
      most = omega (arith, most);
      dimension = r.usable.k_le;
      degree = omega (arith, r.usable.coded.s_is, r.usable.coded.length_stated.most);
      marked = z.long;
      held = h;
    };
    certificates = record { few = omega (arith, held, y.few); at = rated };
    radius_short = omega (arith, r.numbers.t_is, radius_le);
    working_short = omega (arith, within r, count_is, held, y.few);
  }

  pub lists : {zeros g : List ℕ} → Marks n reps zeros → packed g ≡ generator n reps
      → Lists (stated_by kind sheet) n k s working t (take count certificates) zeros g
  lists {zeros} z b = record {
    length_stated = r.usable.coded.length_stated;
    n_is = r.numbers.n_is;
    k_is = r.numbers.k_is;
    s_is = r.usable.coded.s_is;
    working_is = r.numbers.working_is;
    t_is = r.numbers.t_is;
    certificates_are = y.is;
    marks = subst (λ (l : List ℕ). Marks n l zeros) r.reps_is z;
    holds = b ∙ ap (generator n) r.reps_is;
  }
