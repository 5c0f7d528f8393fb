-- The entries on an accepted sheet of any kind, from its parts.
--
--   number_le          a refusal's number is at most 17
--   record_distance    d of the record is the sheet's distance
--   depth_range        an m that is not outside 2 to 16
--   first_is           a refusal's number is that of the first condition that holds
--   sheet_accepted, counts_of      what judging grants of a sheet that draws no refusal
--   Ready, ready       what an accepted sheet grants the entries: its numbers, and its representatives
--   quiet, unsent_less, within, terms_few, given, states      what encoding, reading out and decoding need
use mathlib.Core.Path.{◌≡◌, refl, sym, ap, ◌∙◌, subst}
use mathlib.Core.Bool.{Bool, true, false, not, ◌||◌}
use mathlib.Core.List.{List}
use Prim.Native.Nat.{ℕ, ◌≤◌, ◌<◌}
use native.Mathlib.Omega.{arith}
use lib.Dec.{eqb, leb, ltb}
use lib.ListN.{length, get_or, take}
use borrow.Author.Tests.{leb-false, ltb-false}
use Rattle.field.proofs.Search.{true_ne_false}
use Rattle.std.specs.Prelude.{Option, Some, None}
use Rattle.document.specs.declared.types.Record.{Record}
use Rattle.document.specs.declared.types.Refusal.{Refusal}
use Rattle.document.specs.declared.types.Refusal.TheVariants.{SheetLength, CodeLength, FieldDegree, Header, Representative}
use Rattle.document.specs.declared.types.Refusal.TheVariants.{NoMessage, Range, CommonFactor, Period, Term, BufferLength, SpareBit}
use Rattle.document.specs.declared.types.Refusal.TheVariants.{NoneNear, NoCodeword, NoneWithMarks, Shortening, InterleavingDepth}
use Rattle.document.specs.Answer.{Answer, returned, refused, number_of, first_of, record_as}
use Rattle.document.specs.Sheet.{Certificate, Stated, certificate_at, Kind, stated_by}
use Rattle.document.specs.Certificate.{radius}
use Rattle.document.specs.Judge.{judge_conditions, working_certificate, record_of}
use Rattle.document.specs.Entry.{radius_of}
use Rattle.document.specs.Marked.{distance_of}
use Rattle.document.specs.Block.{wrong_depth}
use Rattle.document.proofs.Chain.{Quiet}
use Rattle.document.proofs.Stated.{Counted, counted, odd_to}
use Rattle.document.proofs.Acceptance.{judge_by, judge_number, quiet_of, quiet_rules}
use Rattle.sheet.specs.declared.types.Certificate.{Certificate as CodeCertificate}
use Rattle.sheet.specs.Stage.{certificate_as}
use Rattle.certificate.proofs.Ranges.{L-within}
use Rattle.certificate.proofs.RulesHeld.{Sound}
use Rattle.certificate.proofs.Sheets as Sheets
use Rattle.codeword.specs.Codewords.{Usable}
use Rattle.decoder.specs.Correct.{Given}
use Rattle.decoder.specs.Decode.{States}
use Rattle.code.specs.Stating.{JudgedInto, SheetAccepted, UnsentPlaces}
use Rattle.code.proofs.Accepted.{Limits, Recorded, judged_record, recorded, conditions, usable, usable_by, part_is}

pub number_le : (q : Refusal) → number_of q ≤ 17
number_le SheetLength = omega arith
number_le CodeLength = omega arith
number_le FieldDegree = omega arith
number_le Header = omega arith
number_le Representative = omega arith
number_le NoMessage = omega arith
number_le Range = omega arith
number_le CommonFactor = omega arith
number_le Period = omega arith
number_le Term = omega arith
number_le BufferLength = omega arith
number_le SpareBit = omega arith
number_le NoneNear = omega arith
number_le NoCodeword = omega arith
number_le NoneWithMarks = omega arith
number_le Shortening = omega arith
number_le InterleavingDepth = omega arith

pub first_is : (kind : Kind) (sheet : List ℕ) {r : ℕ} → refused r ≡ judge_by kind sheet → first_of (judge_conditions kind sheet) ≡ r
first_is kind sheet e = sym (judge_number kind sheet) ∙ sym (ap (λ (a : Answer). a.number) e)

-- d of the record is the sheet's distance
pub record_distance : {kind : Kind} {sheet reps : List ℕ} {r : Record} → SheetAccepted kind sheet r reps → r.d ≡ distance_of (stated_by kind sheet)
unfolding record_of
record_distance a = ap (λ v. get_or v 4 0) a.record_is

or_none : (a b : Bool) → a || b ≡ false → b ≡ false
or_none true b e = absurd (true_ne_false refl e)
or_none false b e = e

or_first : (a b : Bool) → a || b ≡ false → a ≡ false
or_first true b e = absurd (true_ne_false refl e)
or_first false b e = refl

-- an m that is not outside 2 to 16
pub depth_range : (m : ℕ) {wrong : Bool} → wrong ≡ wrong_depth m → wrong ≡ false → (2 ≤ m) × (m ≤ 16)
depth_range m e q =
    let none : wrong_depth m ≡ false = sym e ∙ q in
    (ltb-false m 2 (or_first (ltb m 2) (ltb 16 m) none), ltb-false 16 m (or_none (ltb m 2) (ltb 16 m) none))

-- ---- an accepted sheet
pub sheet_accepted : {kind : Kind} {sheet w : List ℕ} {answer : Answer} {r : Record} {count : ℕ} → JudgedInto kind sheet w answer
    → returned (record_as r) ≡ answer → count ≡ length (stated_by kind sheet).representatives → SheetAccepted kind sheet r (take count w)
sheet_accepted {kind} {sheet} j e q =
    let v = judged_record kind sheet (e ∙ j.is) in record { zero = v.0; record_is = v.1; reps_is = part_is (j.read v.0) q }

pub counts_of : {kind : Kind} {sheet w : List ℕ} {answer : Answer} {r : Record} → JudgedInto kind sheet w answer → returned (record_as r) ≡ answer
    → Counted kind sheet
counts_of {kind} {sheet} j e = counted kind sheet (conditions kind sheet (judged_record kind sheet (e ∙ j.is)).0).2

pub record Ready (kind : Kind) (sheet : List ℕ) (n k s working t : ℕ) (reps : List ℕ) : Type 0 where
  pub small : Limits kind
  pub zero : first_of (judge_conditions kind sheet) ≡ 0
  pub counts : Counted kind sheet
  pub accepted : Sheets.Accepted (stated_by kind sheet)
  pub numbers : Recorded (stated_by kind sheet) n k s working t
  pub usable : Usable n k s reps
  pub reps_is : reps ≡ (stated_by kind sheet).representatives
  pub most : n ≤ kind.most_places

pub ready : {kind : Kind} {sheet reps : List ℕ} {r : Record} → Limits kind → SheetAccepted kind sheet r reps
    → Ready kind sheet r.n r.k r.s r.working r.t reps
ready {kind} {sheet} small a =
    let v = recorded (stated_by kind sheet) a.record_is in
    let c = conditions kind sheet a.zero in
    record {
      small = small;
      zero = a.zero;
      counts = counted kind sheet c.2;
      accepted = Sheets.accepted kind small.places sheet a.zero;
      numbers = v;
      usable = usable_by v a.reps_is (usable kind sheet small.places a.zero);
      reps_is = a.reps_is;
      most = omega (arith, v.n_is, (odd_to kind (stated_by kind sheet).n c.0).most);
    }

module _ {kind : Kind} {sheet : List ℕ} {n k s working t : ℕ} {reps : List ℕ} (r : Ready kind sheet n k s working t reps) where
  abbrev x : Stated
  x = stated_by kind sheet

  pub quiet : Quiet (judge_conditions kind sheet)
  quiet = quiet_of kind sheet r.zero

  -- how many places are not sent: fewer than k
  pub unsent_less : (o : Option ℕ) (u : ℕ) → UnsentPlaces o k u → u < k
  unsent_less None u e = omega (arith, e, r.usable.k_pos)
  unsent_less (Some m) u e = let l = leb-false k m (or_none (eqb m 0) (leb k m) e.1) in omega (arith, e.0, l)

  -- ---- decoding: c is the working certificate
  pub within : working < length (stated_by kind sheet).certificates
  within = omega (arith, r.numbers.working_is, Sheets.working_lt r.accepted)

  module _ {c : CodeCertificate} (e : certificate_as c ≡ certificate_at (stated_by kind sheet) working) where
    working_is : working_certificate x ≡ certificate_as c
    unfolding working_certificate
    working_is = sym (e ∙ ap (certificate_at x) r.numbers.working_is)

    pub terms_few : c.terms ≤ kind.most_terms
    terms_few =
        let l : c.terms ≡ (certificate_at x working).L = ap (λ (k : Certificate). k.L) e in
        omega (arith, l, L-within kind.most_terms x.n (certificate_at x working) (ap not (quiet_rules kind sheet quiet working within).range))

    pub given : Given n s t c reps
    given = record {
      length_stated = r.usable.coded.length_stated;
      s_is = r.usable.coded.s_is;
      few = omega (arith, terms_few, r.small.terms);
      below = r.usable.coded.rising.below;
      sound = subst (λ (l : List ℕ). Sound n l (certificate_as c)) (sym r.reps_is)
          (subst (λ (k : Certificate). Sound n x.representatives k) working_is
          (subst (λ (m : ℕ). Sound m x.representatives (working_certificate x)) (sym r.numbers.n_is) (Sheets.working_sound r.accepted)));
      t_is = r.numbers.t_is ∙ ap radius working_is;
    }

  pub states : {m l : ℕ} {list : List ℕ} → m ≡ n → l ≡ t → list ≡ reps → States (stated_by kind sheet) m l list
  unfolding radius_of
  states a b d = record { accepted = r.accepted; n_is = a ∙ r.numbers.n_is; t_is = b ∙ r.numbers.t_is; reps_is = d ∙ r.reps_is }
