-- Rule 3 by what can be computed, and sheets judged by another test in its place.
--
--   apart_is             `factors_apart` is `independent`: 2^u - 1 masks in place of a search through polynomials over the field
--   apart_coprime        and it is true where the period of f is coprime to n, as rule 3 was before 2026-03
--   modulus_of           the f of a certificate that meets rule 1
--   conditions_are       the conditions with rule 3 in its own place are a sheet's
--   same_first           two tests that agree where rule 1 holds draw the same refusal
--   but_nine_first       one that is true wherever another is draws what that draws, but where that is 9
--   tested_rule, tested_of      the conditions by `independent`; tested_first: they draw what the definition's do
--   Call, TrialCall, Replies, replies_by, documented, replies_tested      so all entries answer the same: the tables of Cases.antt are computed by it
use mathlib.Core.Path.{◌≡◌, refl, sym, ap, ap₂, ◌∙◌, fun_ext}
use mathlib.Core.Logic.{◌≢◌, ◌↔◌}
use mathlib.Core.Bool.{Bool, true, false, not}
use mathlib.Core.List.{List, [], ◌∷◌, ◌++◌, flat_map, append-nil}
use Prim.Native.Nat.{ℕ, ◌%◌, ◌≤◌}
use native.Mathlib.Nat.{div-one}
use native.Mathlib.Omega.{arith}
use lib.ListN.{length, drop}
use borrow.Author.Tests.{ltb-false}
use Rattle.field.specs.Field.{order_of_two}
use Rattle.field.proofs.OrderOfTwo.{order_divides}
use Rattle.binary.specs.Factor.{coprime, degree, period, Modulus}
use Rattle.binary.specs.Independence.{independent}
use Rattle.binary.proofs.Meaning.{no_factor, period_divisor}
use Rattle.binary.proofs.IndependentPowers.{denominator, independent_is}
use Rattle.cyclic.proofs.Apart.{apart}
use Rattle.cyclic.proofs.Independent.{apart_binary}
use Rattle.document.specs.Answer.{Answer, Conditions, first_of, settle_in, settle}
use Rattle.document.specs.Sheet.{Certificate, Stated, Kind, stated_by, wrong_code_length}
use Rattle.document.specs.Apart.{factors_apart}
use Rattle.document.specs.Certificate.{rule1, rule3, rule4}
use Rattle.document.specs.Judge.{wrong_degree, sheet_conditions, certificate_conditions, judge_conditions, judge_entry}
use Rattle.document.specs.OtherTest.{CertificateTest, four_with, conditions_with}
use Rattle.document.specs.Entry.{encode_conditions, encode_entry, read_conditions, read_entry, decode_conditions, decode_entry}
use Rattle.document.specs.Card.{listing_for, listing_of, card_conditions, card_entry}
use Rattle.document.specs.Marked.{marked_conditions, marked_entry}
use Rattle.document.specs.Short.{short, stated, refusals_of, judge_of, encode_of, read_of, decode_of, decode_marked_of, listing, card_of}
use Rattle.document.proofs.Theory.{Length, degree as degree_of}
use Rattle.document.proofs.Stated.{odd_to, odd_length, not-false}
use Rattle.document.proofs.Meaning.{rule1_iff}
use Rattle.document.proofs.ApartIs.{bare_code, apart_defined}

same_bool : (a b : Bool) → (a ≡ true) ↔ (b ≡ true) → a ≡ b
same_bool true b w = sym (w.0 refl)
same_bool false true w = w.1 refl
same_bool false false w = refl

-- ---- rule 3
module _ {n : ℕ} (l : Length n) {f u : ℕ} (m : Modulus f u) where
  pub apart_is : factors_apart (order_of_two n) n f ≡ independent n u f
  apart_is =
      let a = apart_defined (degree_of l) n (order_divides l.odd) f (denominator m) in
      let b = apart_binary (bare_code (degree_of l) n (order_divides l.odd)) (denominator m) in
      let c = independent_is n (denominator m) in
      same_bool (factors_apart (order_of_two n) n f) (independent n u f) (λ e. c.1 (b.0 (a.0 e)), λ e. a.1 (b.1 (c.0 e)))

pub apart_coprime : {n : ℕ} → Length n → {f u : ℕ} → Modulus f u → coprime (period f) n ≡ true → factors_apart (order_of_two n) n f ≡ true
apart_coprime {n} l {f} m e =
    (apart_defined (degree_of l) n (order_divides l.odd) f (denominator m)).1
    (apart (bare_code (degree_of l) n (order_divides l.odd)) f (period f) (period_divisor m)
    (no_factor (period f) n (omega (arith, l.odd.least)) e))

pub modulus_of : (most n : ℕ) (c : Certificate) → rule1 most n c ≡ true → Modulus c.f (degree c.f)
modulus_of most n c e =
    let w = (rule1_iff most n c).0 e in
    record { is = refl; lo = w.4; hi = w.5; odd = sym (ap (λ (x : ℕ). x % 2) (div-one c.f)) ∙ w.6 }

-- ---- another test in its place
pub conditions_are : (kind : Kind) (sheet : List ℕ) → conditions_with rule3 kind sheet ≡ judge_conditions kind sheet
unfolding conditions_with judge_conditions four_with certificate_conditions
conditions_are kind sheet = refl

-- what comes after a condition counts only where it does not hold
first_cong : (r : ℕ) (b : Bool) (k l : Conditions) → (b ≡ false → first_of k ≡ first_of l) → first_of ((r, b) ∷ k) ≡ first_of ((r, b) ∷ l)
unfolding first_of
first_cong r true k l h = refl
first_cong r false k l h = h refl

-- so too where the first that holds is none with the number 9, and 9 is drawn less often
but_cong : (r : ℕ) (b : Bool) (k l : Conditions) → (b ≡ false → first_of k ≢ 9 → first_of l ≡ first_of k) → first_of ((r, b) ∷ k) ≢ 9
    → first_of ((r, b) ∷ l) ≡ first_of ((r, b) ∷ k)
unfolding first_of
but_cong r true k l h ne = refl
but_cong r false k l h ne = h refl ne

but_nine : (b c : Bool) (k l : Conditions) → (b ≡ false → c ≡ false) → (first_of k ≢ 9 → first_of l ≡ first_of k) → first_of ((9, b) ∷ k) ≢ 9
    → first_of ((9, c) ∷ l) ≡ first_of ((9, b) ∷ k)
unfolding first_of
but_nine true c k l f h ne = absurd (ne refl)
but_nine false c k l f h ne = ap (λ (x : Bool). first_of ((9, x) ∷ l)) (f refl) ∙ h ne

length_passed : (kind : Kind) (sheet : List ℕ) → kind.most_places ≤ 65535 → wrong_code_length kind (stated_by kind sheet).n ≡ false
    → wrong_degree (stated_by kind sheet).n ≡ false → Length (stated_by kind sheet).n
unfolding wrong_degree
length_passed kind sheet small e₂ e₃ = record {
  odd = odd_length small (odd_to kind (stated_by kind sheet).n e₂);
  most = ltb-false 12 (order_of_two (stated_by kind sheet).n) e₃;
}

module _ (test other : CertificateTest) (most n : ℕ) (reps : List ℕ) where
  fours_same : ((c : Certificate) → rule1 most n c ≡ true → test n c ≡ other n c) → (own : Conditions) (l : List Certificate)
      → first_of (flat_map (four_with test most n reps) l ++ own) ≡ first_of (flat_map (four_with other most n reps) l ++ own)
  unfolding flat_map four_with
  fours_same agree own [] = refl
  fours_same agree own (c ∷ l) =
      first_cong 7 _ _ _
      (λ e₇. first_cong 8 _ _ _
      (λ e₈. ap (λ b. first_of ((9, not b) ∷ (10, not (rule4 n reps c)) ∷ (flat_map (four_with test most n reps) l ++ own)))
      (agree c (not-false _ e₇))
      ∙ first_cong 9 _ _ _ (λ e₉. first_cong 10 _ _ _ (λ e₁₀. fours_same agree own l))))

  fours_but : ((c : Certificate) → rule1 most n c ≡ true → test n c ≡ true → other n c ≡ true) → (l : List Certificate)
      → first_of (flat_map (four_with test most n reps) l) ≢ 9
      → first_of (flat_map (four_with other most n reps) l) ≡ first_of (flat_map (four_with test most n reps) l)
  unfolding flat_map four_with
  fours_but wider [] ne = refl
  fours_but wider (c ∷ l) ne =
      but_cong 7 _ _ _
      (λ e₇. but_cong 8 _ _ _
      (λ e₈. but_nine _ _ _ _ (λ e₉. ap not (wider c (not-false _ e₇) (not-false _ e₉)))
      (but_cong 10 _ _ _ (λ e₁₀. fours_but wider l)))) ne

module _ (test other : CertificateTest) (kind : Kind) (room : kind.most_places ≤ 65535) (sheet : List ℕ) where
  abbrev x : Stated
  x = stated_by kind sheet

  pub same_first : (Length x.n → (c : Certificate) → rule1 kind.most_terms x.n c ≡ true → test x.n c ≡ other x.n c)
      → (own : Conditions) → first_of (conditions_with test kind sheet ++ own) ≡ first_of (conditions_with other kind sheet ++ own)
  unfolding conditions_with sheet_conditions
  same_first agree own =
      first_cong 1 _ _ _
      (λ e₁. first_cong 2 _ _ _
      (λ e₂. first_cong 3 _ _ _
      (λ e₃. first_cong 4 _ _ _
      (λ e₄. first_cong 5 _ _ _
      (λ e₅. first_cong 6 _ _ _
      (λ e₆. fours_same test other kind.most_terms x.n x.representatives (agree (length_passed kind sheet room e₂ e₃)) own
      x.certificates))))))

  pub but_nine_first : (Length x.n → (c : Certificate) → rule1 kind.most_terms x.n c ≡ true → test x.n c ≡ true → other x.n c ≡ true)
      → first_of (conditions_with test kind sheet) ≢ 9 → first_of (conditions_with other kind sheet) ≡ first_of (conditions_with test kind sheet)
  unfolding conditions_with sheet_conditions
  but_nine_first wider =
      but_cong 1 _ _ _
      (λ e₁. but_cong 2 _ _ _
      (λ e₂. but_cong 3 _ _ _
      (λ e₃. but_cong 4 _ _ _
      (λ e₄. but_cong 5 _ _ _
      (λ e₅. but_cong 6 _ _ _
      (λ e₆. fours_but test other kind.most_terms x.n x.representatives (wider (length_passed kind sheet room e₂ e₃))
      x.certificates))))))

-- ---- the test that can be computed
abbrev pub tested_rule : CertificateTest
tested_rule n c = independent n (degree c.f) c.f

abbrev pub tested_of : List ℕ → Conditions
tested_of sheet = conditions_with tested_rule short sheet

pub tested_first : (sheet : List ℕ) (own : Conditions) → first_of (refusals_of sheet ++ own) ≡ first_of (tested_of sheet ++ own)
unfolding rule3
tested_first sheet own =
    ap (λ l. first_of (l ++ own)) (sym (conditions_are short sheet))
    ∙ same_first rule3 tested_rule short (omega arith) sheet (λ l c e. apart_is l (modulus_of 1023 (stated sheet).n c e)) own

-- ---- the entries, by the conditions of a sheet
abbrev pub Call : Type 0
Call = List ℕ → List ℕ → List ℕ → Answer × List ℕ

abbrev pub TrialCall : Type 0
TrialCall = List ℕ → List ℕ → List ℕ → List ℕ → List ℕ → Answer × (List ℕ × List ℕ)

pub record Replies : Type 0 where
  pub judge : List ℕ → Answer
  pub encode : Call
  pub read : Call
  pub decode : Call
  pub decode_marked : TrialCall
  pub text : List ℕ → List ℕ
  pub card : List ℕ → List ℕ → Answer × List ℕ

abbrev pub replies_by : (List ℕ → Conditions) → Replies
replies_by R = record {
  judge = λ sheet. judge_entry (R sheet) (stated sheet);
  encode = λ sheet message out. encode_entry (R sheet) (stated sheet) message out;
  read = λ sheet word out. read_entry (R sheet) (stated sheet) word out;
  decode = λ sheet word out. decode_entry (R sheet) (stated sheet) word out;
  decode_marked = λ sheet word marks zeros ones. marked_entry (R sheet) (stated sheet) word marks zeros ones;
  text = λ sheet. listing_of (R sheet) (stated sheet);
  card = λ sheet out. card_entry 1024 (R sheet) (stated sheet) out;
}

settle_same : {B : Type 0} {r q : ℕ} (v : List ℕ) (w old : B) → r ≡ q → settle_in r v w old ≡ settle_in q v w old
settle_same v w old e = ap (λ (k : ℕ). settle_in k v w old) e

tested_sheet : (sheet : List ℕ) → first_of (refusals_of sheet) ≡ first_of (tested_of sheet)
tested_sheet sheet = ap first_of (sym (append-nil (refusals_of sheet))) ∙ tested_first sheet [] ∙ ap first_of (append-nil (tested_of sheet))

-- the entries as they are defined
abbrev pub documented : Replies
documented = record {
  judge = judge_of;
  encode = encode_of;
  read = read_of;
  decode = decode_of;
  decode_marked = decode_marked_of;
  text = listing;
  card = card_of;
}

-- an entry sees no more of a sheet's conditions than which is the first that holds, of them and its own
pub replies_tested : documented ≡ replies_by tested_of
unfolding judge_entry encode_entry read_entry decode_entry marked_entry listing_of card_entry
replies_tested =
    ap₂ (λ j e. made j e R.read R.decode R.decode_marked R.text R.card)
    (fun_ext (λ sheet. ap (λ a. a.0) (settle_same _ _ _ (tested_sheet sheet))))
    (fun_ext (λ sheet. fun_ext (λ message. fun_ext (λ out. settle_same _ _ _ (tested_first sheet (encode_conditions (stated sheet) message out))))))
    ∙ ap₂ (λ r d. made T.judge T.encode r d R.decode_marked R.text R.card)
    (fun_ext (λ sheet. fun_ext (λ word. fun_ext (λ out. settle_same _ _ _ (tested_first sheet (read_conditions (stated sheet) word out))))))
    (fun_ext (λ sheet. fun_ext (λ word. fun_ext (λ out. settle_same _ _ _ (tested_first sheet (decode_conditions (stated sheet) word out))))))
    ∙ ap (λ m. made T.judge T.encode T.read T.decode m R.text R.card)
    (fun_ext (λ sheet. fun_ext (λ word. fun_ext (λ marks. fun_ext (λ zeros. fun_ext (λ ones.
    settle_same _ _ _ (tested_first sheet (marked_conditions (stated sheet) word marks zeros ones))))))))
    ∙ ap₂ (λ t c. made T.judge T.encode T.read T.decode T.decode_marked t c) (fun_ext text_same)
    (fun_ext (λ sheet. fun_ext (λ out. ap
    (λ (l : List ℕ). settle (first_of (card_conditions 1024 out)) (length l ∷ []) (l ++ drop (length l) out) out) (text_same sheet))))
  where
    R : Replies
    R = documented

    T : Replies
    T = replies_by tested_of

    made : (List ℕ → Answer) → Call → Call → Call → TrialCall → (List ℕ → List ℕ) → (List ℕ → List ℕ → Answer × List ℕ) → Replies
    made j e r d m t c = record { judge = j; encode = e; read = r; decode = d; decode_marked = m; text = t; card = c }

    text_same : (sheet : List ℕ) → listing_of (refusals_of sheet) (stated sheet) ≡ listing_of (tested_of sheet) (stated sheet)
    text_same sheet = ap (λ (r : ℕ). listing_for r (stated sheet)) (tested_sheet sheet)
