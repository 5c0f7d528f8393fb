-- The whole judgement: the exits 1 to 4 of a sheet of any kind, the exits 5 and 6, and the certificates' answer as the sheet's.
--
--   judge_1 .. judge_4, judge_pass      a sheet by the conditions 1 to 4, and where none holds by what it states
--   code_5, code_6, code_refused, code_accepted      what is stated, by one law for each exit
--   best_is, best_within      the working certificate's numbers, from the certificates' answer
--   size_is, size_le             as many marks as members of D
--   none_left, some_left         whether k is 0, by the size of D
--   no_marks                     an array of zeros marks nothing
--   record_is                    the record by the code's numbers
use mathlib.Core.Path.{◌≡◌, refl, sym, ap, ap₂, ◌∙◌}
use mathlib.Core.Logic.{◌≢◌}
use mathlib.Core.Bool.{Bool, true, false}
use mathlib.Core.List.{List, [], ◌∷◌, flat_map}
use Prim.Native.Nat.{ℕ, zero, suc, ◌+◌, ◌-◌, ◌/◌, ◌≤◌, ◌<◌}
use native.Mathlib.Omega.{arith}
use lib.ListN.{length, get_or, replicate, length-append, length-replicate, get_or-replicate}
use borrow.Author.Tests.{eq-eqb, ne_eqb}
use Rattle.field.specs.Search.{up_to, keep, some, total, bit}
use Rattle.field.specs.Field.{order_of_two}
use Rattle.field.proofs.Search.{keep_suc, length_up_to, length_keep, total_z, total_s, total_ext}
use Rattle.judging.specs.declared.types.Best.{Best}
use Rattle.document.specs.Answer.{returned, refused, Conditions, first_of, settle_in, settle}
use Rattle.document.specs.Sheet.{Stated, Kind, stated_by, wrong_length, wrong_code_length, wrong_header}
use Rattle.document.specs.Coset.{in_set, defining_set, dimension}
use Rattle.document.specs.Certificate.{distance, radius}
use Rattle.document.specs.Judge.{wrong_degree, wrong_representative, no_message, sheet_conditions, certificate_conditions, judge_conditions}
use Rattle.document.specs.Judge.{dimension_of, working_of, working_certificate, record_of, judge_entry}
use Rattle.document.proofs.Sane.{settle_number, distance_pos}
use Rattle.document.proofs.Working.{working_within}
use Rattle.document.proofs.Chain.{first_true, first_false}
use Rattle.document.proofs.Acceptance.{judge_by}
use Rattle.sheet.specs.declared.types.Certificate.{Certificate as CodeCertificate}
use Rattle.sheet.specs.Stage.{Marks}
use Rattle.judging.specs.Weigh.{stated_as, weigh_of, recorded, stated_conditions, judge_stated}
use Rattle.judging.proofs.Weighing.{settle_refused, stated_count}

settle_none : (v : List ℕ) → (settle 0 v [] []).0 ≡ returned v
unfolding settle_in
settle_none v = refl

-- ---- judging, by the number of the first condition that holds
by_first : (conditions : Conditions) (x : Stated) {r : ℕ} → 0 < r → first_of conditions ≡ r → refused r ≡ judge_entry conditions x
unfolding judge_entry
by_first conditions x {r} h e =
    sym (settle_refused r (record_of x) [] [] h) ∙ ap (λ (y : ℕ). (settle y (record_of x) [] []).0) (sym e)

same_first : (a b : Conditions) (x : Stated) → first_of a ≡ first_of b → judge_entry a x ≡ judge_entry b x
unfolding judge_entry
same_first a b x e = ap (λ (y : ℕ). (settle y (record_of x) [] []).0) e

-- ---- a sheet of any kind, by the conditions 1 to 4
module _ (kind : Kind) (sheet : List ℕ) where
  abbrev x : Stated
  x = stated_by kind sheet

  pub judge_1 : true ≡ wrong_length kind sheet → refused 1 ≡ judge_by kind sheet
  unfolding judge_conditions sheet_conditions
  judge_1 p = by_first (judge_conditions kind sheet) x (omega arith) (first_true (1, wrong_length kind sheet) _ (sym p))

  module _ (a : wrong_length kind sheet ≡ false) where
    pub judge_2 : true ≡ wrong_code_length kind x.n → refused 2 ≡ judge_by kind sheet
    unfolding judge_conditions sheet_conditions
    judge_2 p =
        by_first (judge_conditions kind sheet) x (omega arith)
        (first_false (1, wrong_length kind sheet) _ a ∙ first_true (2, wrong_code_length kind x.n) _ (sym p))

    module _ (b : wrong_code_length kind x.n ≡ false) where
      pub judge_3 : true ≡ wrong_degree x.n → refused 3 ≡ judge_by kind sheet
      unfolding judge_conditions sheet_conditions
      judge_3 p =
          by_first (judge_conditions kind sheet) x (omega arith)
          (first_false (1, wrong_length kind sheet) _ a ∙ first_false (2, wrong_code_length kind x.n) _ b
          ∙ first_true (3, wrong_degree x.n) _ (sym p))

      module _ (c : wrong_degree x.n ≡ false) where
        pub judge_4 : true ≡ wrong_header kind sheet → refused 4 ≡ judge_by kind sheet
        unfolding judge_conditions sheet_conditions
        judge_4 p =
            by_first (judge_conditions kind sheet) x (omega arith)
            (first_false (1, wrong_length kind sheet) _ a ∙ first_false (2, wrong_code_length kind x.n) _ b
            ∙ first_false (3, wrong_degree x.n) _ c ∙ first_true (4, wrong_header kind sheet) _ (sym p))

        pub judge_pass : wrong_header kind sheet ≡ false → judge_stated kind.most_terms x ≡ judge_by kind sheet
        unfolding judge_conditions sheet_conditions stated_conditions judge_stated
        judge_pass d =
            same_first (stated_conditions kind.most_terms x) (judge_conditions kind sheet) x
            (sym (first_false (1, wrong_length kind sheet) _ a ∙ first_false (2, wrong_code_length kind x.n) _ b
            ∙ first_false (3, wrong_degree x.n) _ c ∙ first_false (4, wrong_header kind sheet) _ d))

-- ---- what is stated, by the conditions 5 to 10
module _ (most : ℕ) (x : Stated) where
  abbrev rest : Conditions
  rest = flat_map (certificate_conditions most x.n x.representatives) x.certificates

  abbrev weighed : List ℕ
  weighed = working_of x ∷ distance (working_certificate x) ∷ (working_certificate x).L ∷ []

  pub code_5 : true ≡ wrong_representative x.n x.representatives → refused 5 ≡ judge_stated most x
  unfolding stated_conditions judge_stated
  code_5 p =
      by_first (stated_conditions most x) x (omega arith) (first_true (5, wrong_representative x.n x.representatives) _ (sym p))

  first_is : (r : ℕ) (v : List ℕ) → (settle (first_of rest) v [] []).0.number ≡ r → first_of rest ≡ r
  first_is r v e = sym (settle_number (first_of rest) v [] []) ∙ e

  module _ (a : wrong_representative x.n x.representatives ≡ false) where
    pub code_6 : true ≡ no_message x.n x.representatives → refused 6 ≡ judge_stated most x
    unfolding stated_conditions judge_stated
    code_6 p =
        by_first (stated_conditions most x) x (omega arith)
        (first_false (5, wrong_representative x.n x.representatives) _ a
        ∙ first_true (6, no_message x.n x.representatives) _ (sym p))

    module _ (b : no_message x.n x.representatives ≡ false) where
      before : first_of (stated_conditions most x) ≡ first_of rest
      unfolding stated_conditions
      before =
          first_false (5, wrong_representative x.n x.representatives) _ a
          ∙ first_false (6, no_message x.n x.representatives) _ b

      pub code_refused : (r : ℕ) → 0 < r → refused r ≡ weigh_of most x → refused r ≡ judge_stated most x
      unfolding judge_stated weigh_of
      code_refused r h e =
          by_first (stated_conditions most x) x h (before ∙ first_is r weighed (ap (λ a. a.number) (sym e)))

      pub code_accepted : {v : List ℕ} (i d l : ℕ) → returned (i ∷ d ∷ l ∷ []) ≡ weigh_of most x → v ≡ record_of x → returned v ≡ judge_stated most x
      unfolding judge_stated weigh_of judge_entry
      code_accepted i d l e q =
          ap returned q ∙ sym (settle_none (record_of x))
          ∙ ap (λ (y : ℕ). (settle y (record_of x) [] []).0) (sym (before ∙ first_is 0 weighed (ap (λ a. a.number) (sym e))))

  -- the working certificate's numbers, from the certificates' answer
  pub best_is : (i d l : ℕ) → returned (i ∷ d ∷ l ∷ []) ≡ weigh_of most x
      → (i ≡ working_of x) × (d ≡ distance (working_certificate x)) × (l ≡ (working_certificate x).L)
  unfolding weigh_of
  best_is i d l e =
      let f : first_of rest ≡ 0 = first_is 0 weighed (ap (λ a. a.number) (sym e)) in
      let v : i ∷ d ∷ l ∷ [] ≡ weighed =
      ap (λ a. a.values) (e ∙ ap (λ (y : ℕ). (settle y weighed [] []).0) f ∙ settle_none weighed) in
      (cc, cc, cc)

-- ---- the size of D
keep_total : (test : ℕ → Bool) (n : ℕ) → length (keep test (up_to n)) ≡ total n (λ i. bit (test i))
unfolding keep up_to
keep_total test zero = sym (total_z (λ i. bit (test i)))
keep_total test (suc n) =
    ap length (keep_suc test n) ∙ length-append (keep test (up_to n)) (keep test (n ∷ []))
    ∙ ap₂ ◌+◌ (keep_total test n) (one (test n)) ∙ sym (total_s n (λ i. bit (test i)))
  where
    one : (b : Bool) → length {A = ℕ} (elim b as (λ _. List ℕ) [ true ↦ n ∷ [] | false ↦ [] ]) ≡ bit b
    one true = refl
    one false = refl

pub size_is : {n : ℕ} {reps z : List ℕ} → Marks n reps z → total n (λ i. get_or z i 0) ≡ length (defining_set n reps)
unfolding defining_set
size_is {n} {reps} {z} m =
    total_ext n (λ i. get_or z i 0) (λ i. bit (in_set n reps i)) m.at ∙ sym (keep_total (in_set n reps) n)

pub size_le : (n : ℕ) (reps : List ℕ) → length (defining_set n reps) ≤ n
unfolding defining_set
size_le n reps = omega (arith, length_keep (in_set n reps) (up_to n), length_up_to n)

pub none_left : (n : ℕ) (reps : List ℕ) (size : ℕ) → size ≡ length (defining_set n reps) → size ≡ n → true ≡ no_message n reps
unfolding no_message dimension
none_left n reps size b c = sym (eq-eqb (n - length (defining_set n reps)) 0 (omega arith))

pub some_left : (n : ℕ) (reps : List ℕ) (size : ℕ) → size ≡ length (defining_set n reps) → size ≢ n → no_message n reps ≡ false
unfolding no_message dimension
some_left n reps size b c =
    let l : length (defining_set n reps) ≤ n = size_le n reps in
    ne_eqb (n - length (defining_set n reps)) 0 (λ e. c (omega arith))

pub no_marks : (n m : ℕ) → n ≤ m → Marks n [] (replicate m 0)
unfolding in_set some
no_marks n m h = record {
  long = omega (arith, length-replicate {A = ℕ} m 0);
  at = λ i l. get_or-replicate {A = ℕ} m i 0 0 (omega arith);
}

-- ---- the record
pub record_is : (most n : ℕ) (reps : List ℕ) (w : List CodeCertificate) {s size : ℕ} {best : Best}
    → s ≡ order_of_two n → size ≡ length (defining_set n reps)
    → returned (best.index ∷ best.d ∷ best.terms ∷ []) ≡ weigh_of most (stated_as n reps w)
    → recorded n s size best ≡ record_of (stated_as n reps w)
unfolding record_of dimension_of dimension radius
record_is most n reps w {s} {size} {best} a b f =
    let q = best_is most (stated_as n reps w) best.index best.d best.terms f in
    λ i. n ∷ (n - b i) ∷ a i ∷ q.0 i ∷ q.1 i ∷ ((q.1 i - 1) / 2) ∷ q.2 i ∷ []

-- the best certificate's index and distance, within what the code asks
pub best_within : (most n : ℕ) (reps : List ℕ) (w : List CodeCertificate) {best : Best} → 1 ≤ length w
    → returned (best.index ∷ best.d ∷ best.terms ∷ []) ≡ weigh_of most (stated_as n reps w) → (best.index < length w) × (1 ≤ best.d)
best_within most n reps w {best} one f =
    let x : Stated = stated_as n reps w in
    let q = best_is most x best.index best.d best.terms f in
    let c = stated_count n reps w in
    (omega (arith, q.0, working_within x (omega (arith, c)), c), omega (arith, q.1, distance_pos (working_certificate x)))
