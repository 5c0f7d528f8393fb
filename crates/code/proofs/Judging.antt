-- A sheet of any kind, judged in stages.
--
--   judgeable          what refusals 5 to 10 ask of what was read
--   stated_is, code_judged      what was read is what the sheet states, so refusals 5 to 10 of it are the sheet's
--   into_1 .. into_4, odd, header_passed, into_pass      refusals 1 to 4, and what they leave
use mathlib.Core.Path.{◌≡◌, sym, ap, ◌∙◌, subst}
use mathlib.Core.Bool.{true, false}
use mathlib.Core.List.{List}
use Prim.Native.Nat.{ℕ, ◌≤◌, ◌<◌}
use native.Mathlib.Omega.{arith}
use lib.ListN.{length, take}
use lib.Seq.{length-take-le}
use Rattle.field.specs.Field.{OddLength, order_of_two}
use Rattle.document.specs.Answer.{Answer, refused}
use Rattle.document.specs.Sheet.{Stated, Kind, stated_by, wrong_length, wrong_code_length, wrong_header}
use Rattle.document.specs.Judge.{wrong_degree}
use Rattle.document.proofs.Stated.{counted, odd_to, odd_length}
use Rattle.document.proofs.Acceptance.{judge_by, judge_number}
use Rattle.sheet.specs.declared.types.Certificate.{Certificate as CodeCertificate}
use Rattle.sheet.specs.Stage.{certificates_as, RepresentativesRead, CertificatesRead}
use Rattle.sheet.proofs.Headed.{degree_1, degree_pass}
use Rattle.judging.specs.Weigh.{stated_as, judge_stated, Judgeable}
use Rattle.judging.proofs.Judging.{judge_1, judge_2, judge_3, judge_4, judge_pass}
use Rattle.code.specs.Stating.{HeaderPassed, StatedJudged, JudgedInto}
use Rattle.code.proofs.Accepted.{Limits, part_is}

-- ---- what was read
stated_is : (x : Stated) {n : ℕ} {reps : List ℕ} (w : List CodeCertificate) → n ≡ x.n → reps ≡ x.representatives
    → certificates_as w ≡ x.certificates → stated_as n reps w ≡ x
stated_is x w a b c = λ i. record { n = a i; representatives = b i; certificates = c i }

pub judgeable : {kind : Kind} {sheet : List ℕ} {w : List CodeCertificate} {n s count : ℕ} → Limits kind → HeaderPassed kind sheet n s
    → CertificatesRead (stated_by kind sheet) w count → Judgeable kind.most_terms n s (take count w)
judgeable {w = w} {count = count} small r y = let l = length-take-le count w y.fits in record {
  length_stated = r.length_stated;
  s_is = r.s_is;
  most_le = omega (arith, small.terms);
  one = omega (arith, l, y.one);
  few = omega (arith, l, y.few);
}

pub code_judged : {kind : Kind} {sheet w : List ℕ} {certificates : List CodeCertificate} {n s m count : ℕ} {answer : Answer} → HeaderPassed kind sheet n s
    → RepresentativesRead (stated_by kind sheet) w → m ≡ length (stated_by kind sheet).representatives
    → CertificatesRead (stated_by kind sheet) certificates count
    → answer ≡ judge_stated kind.most_terms (stated_as n (take m w) (take count certificates)) → StatedJudged kind sheet w answer
code_judged {kind} {sheet} {certificates = certificates} {count = count} r p e y q = record {
  is = q ∙ ap (judge_stated kind.most_terms) (stated_is (stated_by kind sheet) (take count certificates) r.n_is (part_is p e) y.is);
  read = p;
}

-- ---- the refusals of the sheet
into : (kind : Kind) {sheet w : List ℕ} {r : ℕ} → 0 < r → refused r ≡ judge_by kind sheet → JudgedInto kind sheet w (refused r)
into kind {sheet} h e = record {
  is = e;
  read = λ z. absurd (omega (arith, h, z, judge_number kind sheet, ap (λ (a : Answer). a.number) e));
}

pub into_1 : {kind : Kind} {sheet w : List ℕ} → true ≡ wrong_length kind sheet → JudgedInto kind sheet w (refused 1)
into_1 {kind} {sheet} p = into kind (omega arith) (judge_1 kind sheet p)

module _ {kind : Kind} (small : Limits kind) (sheet w : List ℕ) {n : ℕ} (a : wrong_length kind sheet ≡ false)
    (en : n ≡ (stated_by kind sheet).n) where
  pub into_2 : true ≡ wrong_code_length kind n → JudgedInto kind sheet w (refused 2)
  into_2 p = into kind (omega arith) (judge_2 kind sheet a (p ∙ ap (wrong_code_length kind) en))

  module _ (b : wrong_code_length kind n ≡ false) where
    length_right : wrong_code_length kind (stated_by kind sheet).n ≡ false
    length_right = ap (wrong_code_length kind) (sym en) ∙ b

    pub odd : OddLength n
    odd = odd_length small.places (odd_to kind n b)

    module _ {s : ℕ} (es : s ≡ order_of_two n) where
      pub into_3 : 12 < s → JudgedInto kind sheet w (refused 3)
      into_3 h =
          into kind (omega arith)
          (judge_3 kind sheet a length_right (degree_1 n (subst (λ (m : ℕ). 12 < m) es h) ∙ ap wrong_degree en))

      module _ (c : s ≤ 12) where
        degree_right : wrong_degree (stated_by kind sheet).n ≡ false
        degree_right = ap wrong_degree (sym en) ∙ sym (degree_pass n (subst (λ (m : ℕ). m ≤ 12) es c))

        pub into_4 : true ≡ wrong_header kind sheet → JudgedInto kind sheet w (refused 4)
        into_4 p = into kind (omega arith) (judge_4 kind sheet a length_right degree_right p)

        module _ (d : wrong_header kind sheet ≡ false) where
          pub header_passed : HeaderPassed kind sheet n s
          header_passed = record {
            counted = counted kind sheet d;
            length_stated = record { odd = odd; most = omega (arith, es, c) };
            most = (odd_to kind n b).most;
            n_is = en;
            s_is = es;
          }

          pub into_pass : {answer : Answer} → StatedJudged kind sheet w answer → JudgedInto kind sheet w answer
          into_pass j = record { is = j.is ∙ judge_pass kind sheet a length_right degree_right d; read = λ z. j.read }
