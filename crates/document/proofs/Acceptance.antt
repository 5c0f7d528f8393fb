-- What is accepted, and what a refusal says of the conditions.
--
-- For any kind of sheet.
--
--   judge_number, judge_le      the number of a sheet's answer is that of its first condition, at most 10
--   quiet_first, quiet_of      no condition of a quiet list holds, and back
--   accepted_iff         a sheet is accepted exactly when no condition 1 to 10 holds
--   Drawn, refused_first      a refusal is the number of a condition that holds, and none before it does
--   Rules, accepted_rules     that is, none of 1 to 6 does, and every certificate meets rules 1 to 4
--   accepted_record      and then judging returns the record, with the working certificate's distance
--   certificate_iff      a certificate draws none of 7 to 10 exactly when it meets rules 1 to 4
use mathlib.Core.Path.{◌≡◌, refl, sym, ap, ◌∙◌, subst}
use mathlib.Core.Logic.{◌↔◌, ◌⊎◌, inl, inr}
use mathlib.Core.Bool.{Bool, true, false, not}
use mathlib.Core.List.{List, [], ◌∷◌, ◌++◌, flat_map}
use Prim.Native.Nat.{ℕ, zero, suc, ◌≤◌, ◌<◌}
use native.Mathlib.Decide.{ℕ_discrete}
use native.Mathlib.Omega.{arith}
use lib.ListN.{length}
use Rattle.field.specs.Search.{up_to}
use Rattle.document.specs.Answer.{Answer, returned, Conditions, first_of, settle_in, settle}
use Rattle.document.specs.Sheet.{Certificate, Stated, certificate_at, Kind, stated_by}
use Rattle.document.specs.Certificate.{rule1, rule2, rule3, rule4}
use Rattle.document.specs.Judge.{sheet_conditions, certificate_conditions, judge_conditions, record_of, judge_entry}
use Rattle.document.proofs.Stated.{not-false}
use Rattle.document.proofs.Chain.{Quiet, silent, passing, quiet_append, each, flat, flat_all, flat_suc, four_quiet}
use Rattle.document.proofs.Sane.{settle_number, passed}

-- every condition has a number from 1 to 10
data Numbered : Conditions → Type 0 where
  none : Numbered []
  more : {c : ℕ × Bool} {l : Conditions} → 0 < c.0 → c.0 ≤ 10 → Numbered l → Numbered (c ∷ l)

number : (r : ℕ) (b : Bool) {l : Conditions} → 0 < r → r ≤ 10 → Numbered l → Numbered ((r, b) ∷ l)
number r b h k p = more {c = (r, b)} h k p

numbered_append : {a b : Conditions} → Numbered a → Numbered b → Numbered (a ++ b)
numbered_append none q = q
numbered_append (more h k p) q = more h k (numbered_append p q)

six : (kind : Kind) (sheet : List ℕ) → Numbered (sheet_conditions kind sheet)
unfolding sheet_conditions
six kind sheet =
    number 1 _ (omega arith) (omega arith)
    (number 2 _ (omega arith) (omega arith)
    (number 3 _ (omega arith) (omega arith)
    (number 4 _ (omega arith) (omega arith) (number 5 _ (omega arith) (omega arith) (number 6 _ (omega arith) (omega arith) none)))))

four : (most n : ℕ) (reps : List ℕ) (c : Certificate) → Numbered (certificate_conditions most n reps c)
unfolding certificate_conditions
four most n reps c =
    number 7 _ (omega arith) (omega arith)
    (number 8 _ (omega arith) (omega arith) (number 9 _ (omega arith) (omega arith) (number 10 _ (omega arith) (omega arith) none)))

fours : (most n : ℕ) (reps : List ℕ) (l : List Certificate) → Numbered (flat_map (certificate_conditions most n reps) l)
unfolding flat_map
fours most n reps [] = none
fours most n reps (c ∷ l) = numbered_append (four most n reps c) (fours most n reps l)

all_numbered : (kind : Kind) (sheet : List ℕ) → Numbered (judge_conditions kind sheet)
unfolding judge_conditions
all_numbered kind sheet =
    let x : Stated = stated_by kind sheet in
    numbered_append (six kind sheet) (fours kind.most_terms x.n x.representatives x.certificates)

-- a list of conditions taken apart at the first that holds
pub record Drawn (l : Conditions) (r : ℕ) : Type 0 where
  pub before : Conditions
  pub after : Conditions
  pub parts : l ≡ before ++ ((r, true) ∷ after)
  pub quiet : Quiet before

first_is : (l : Conditions) → Numbered l → (Quiet l × (first_of l ≡ 0)) ⊎ ((0 < first_of l) × Drawn l (first_of l))
unfolding first_of
first_is [] none = inl (silent, refl)
first_is ((r, true) ∷ l) (more h k p) = inr (h, record { before = []; after = l; parts = refl; quiet = silent })
first_is ((r, false) ∷ l) (more h k p) =
    elim (first_is l p) [
      | inl q ↦ inl (passing refl q.0, q.1)
      | inr q ↦ inr (
        q.0,
        record {
          before = (r, false) ∷ q.1.before;
          after = q.1.after;
          parts = ap (λ x. (r, false) ∷ x) q.1.parts;
          quiet = passing refl q.1.quiet;
        },
      )
    ]

first_le : (l : Conditions) → Numbered l → first_of l ≤ 10
unfolding first_of
first_le [] none = omega arith
first_le ((r, true) ∷ l) (more h k p) = k
first_le ((r, false) ∷ l) (more h k p) = first_le l p

pub judge_le : (kind : Kind) (sheet : List ℕ) → first_of (judge_conditions kind sheet) ≤ 10
judge_le kind sheet = first_le (judge_conditions kind sheet) (all_numbered kind sheet)

-- what judging answers
abbrev pub judge_by : Kind → List ℕ → Answer
judge_by kind sheet = judge_entry (judge_conditions kind sheet) (stated_by kind sheet)

pub judge_number : (kind : Kind) (sheet : List ℕ) → (judge_by kind sheet).number ≡ first_of (judge_conditions kind sheet)
unfolding judge_entry
judge_number kind sheet = settle_number (first_of (judge_conditions kind sheet)) (record_of (stated_by kind sheet)) [] []

pub quiet_first : {l : Conditions} → Quiet l → first_of l ≡ 0
unfolding first_of
quiet_first silent = refl
quiet_first (passing {c = c} {l = l} e q) = rw (first_of, e, quiet_first q)

pub accepted_iff : (kind : Kind) (sheet : List ℕ) → ((judge_by kind sheet).number ≡ 0) ↔ Quiet (judge_conditions kind sheet)
accepted_iff kind sheet = (
  λ e. elim (first_is (judge_conditions kind sheet) (all_numbered kind sheet)) [
    | inl q ↦ q.0
    | inr q ↦ absurd (omega (arith, q.0, judge_number kind sheet, e))
  ],
  λ q. judge_number kind sheet ∙ quiet_first q,
)

pub quiet_of : (kind : Kind) (sheet : List ℕ) → first_of (judge_conditions kind sheet) ≡ 0 → Quiet (judge_conditions kind sheet)
quiet_of kind sheet e = (accepted_iff kind sheet).0 (judge_number kind sheet ∙ e)

pub refused_first : (kind : Kind) (sheet : List ℕ) → 0 < (judge_by kind sheet).number
    → Drawn (judge_conditions kind sheet) (judge_by kind sheet).number
refused_first kind sheet h =
    elim (first_is (judge_conditions kind sheet) (all_numbered kind sheet)) [
      | inl q ↦ absurd (omega (arith, q.1, judge_number kind sheet, h))
      | inr q ↦ subst (Drawn (judge_conditions kind sheet)) (sym (judge_number kind sheet)) q.1
    ]

-- ---- one certificate: L is at most `most`
pub record Rules (most n : ℕ) (reps : List ℕ) (c : Certificate) : Type 0 where
  pub range : rule1 most n c ≡ true
  pub factor : rule2 c ≡ true
  pub apart : rule3 n c ≡ true
  pub terms : rule4 n reps c ≡ true

pub certificate_iff : (most n : ℕ) (reps : List ℕ) (c : Certificate)
    → (first_of (certificate_conditions most n reps c) ≡ 0) ↔ Rules most n reps c
unfolding certificate_conditions
certificate_iff most n reps c = (
  λ e.
      let p₁ = passed 6 _ _ e in
      let p₂ = passed 7 _ _ p₁.1 in
      let p₃ = passed 8 _ _ p₂.1 in
      let p₄ = passed 9 _ _ p₃.1 in
      record {
        range = not-false _ p₁.0;
        factor = not-false _ p₂.0;
        apart = not-false _ p₃.0;
        terms = not-false _ p₄.0;
      },
  λ q. quiet_first (passing (ap not q.range)
      (passing (ap not q.factor) (passing (ap not q.apart) (passing (ap not q.terms) silent)))),
)

-- ---- the sheet and its certificates
pub quiet_parts : (a : Conditions) {b : Conditions} → Quiet (a ++ b) → Quiet a × Quiet b
quiet_parts [] q = (silent, q)
quiet_parts (c ∷ a) (passing e q) = let r = quiet_parts a q in (passing e r.0, r.1)

module _ (most : ℕ) (x : Stated) where
  flat_at : (n : ℕ) → Quiet (flat most x n) → (i : ℕ) → i < n → Quiet (each most x i)
  flat_at zero q i h = absurd (omega arith)
  flat_at (suc n) q i h =
      let r = quiet_parts (flat most x n) (subst Quiet (flat_suc most x n) q) in
      elim (ℕ_discrete i n) [
        | yes e ↦ subst (λ (k : ℕ). Quiet (each most x k)) (sym e) r.1
        | no e ↦ flat_at n r.0 i (omega arith)
      ]

  flat_of : (n : ℕ) → ((i : ℕ) → i < n → Quiet (each most x i)) → Quiet (flat most x n)
  unfolding up_to flat_map
  flat_of zero h = silent
  flat_of (suc n) h =
      subst Quiet (sym (flat_suc most x n)) (quiet_append (flat_of n (λ i l. h i (omega arith))) (h n (omega arith)))

  certificate_quiet : (i : ℕ) → Quiet (each most x i) ↔ Rules most x.n x.representatives (certificate_at x i)
  certificate_quiet i =
      let w = certificate_iff most x.n x.representatives (certificate_at x i) in
      (λ q. w.0 (quiet_first q), λ r. four_quiet most x i (w.1 r))

module _ (kind : Kind) (sheet : List ℕ) where
  abbrev x : Stated
  x = stated_by kind sheet

  pub quiet_rules : Quiet (judge_conditions kind sheet) → (i : ℕ) → i < length x.certificates
      → Rules kind.most_terms x.n x.representatives (certificate_at x i)
  unfolding judge_conditions
  quiet_rules q i h =
      (certificate_quiet kind.most_terms x i).0
      (flat_at kind.most_terms x (length x.certificates)
      (subst Quiet (flat_all kind.most_terms x) (quiet_parts (sheet_conditions kind sheet) q).1) i h)

  pub accepted_rules : ((judge_by kind sheet).number ≡ 0)
      ↔ (Quiet (sheet_conditions kind sheet)
      × ((i : ℕ) → i < length x.certificates → Rules kind.most_terms x.n x.representatives (certificate_at x i)))
  unfolding judge_conditions
  accepted_rules =
      let w = accepted_iff kind sheet in (
        λ e. ((quiet_parts (sheet_conditions kind sheet) (w.0 e)).0, quiet_rules (w.0 e)),
        λ p. w.1
            (quiet_append p.0
            (subst Quiet (sym (flat_all kind.most_terms x))
            (flat_of kind.most_terms x (length x.certificates) (λ i h. (certificate_quiet kind.most_terms x i).1 (p.1 i h))))),
      )

  -- d, t and the number of terms in it are those of the working certificate
  pub accepted_record : (judge_by kind sheet).number ≡ 0 → judge_by kind sheet ≡ returned (record_of x)
  unfolding judge_entry settle_in
  accepted_record e = ap (λ (r : ℕ). (settle r (record_of x) [] []).0) (sym (judge_number kind sheet) ∙ e)
