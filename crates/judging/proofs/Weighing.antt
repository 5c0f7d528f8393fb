-- The loop over the certificates: all checked so far pass, and the best is the working one among them.
--
--   WeighedUpTo, Weighing         after i certificates: of what is stated, and as the code holds it
--   stated_count, stated_certificate      how many certificates are stated, and which
--   weighing_start, weighing_stop, weighing_more, weighing_end      the loop
--   number_pos, settle_refused    a refusal's number is not 0
use mathlib.Core.Path.{◌≡◌, refl, sym, ap, ap₂, ◌∙◌, subst}
use mathlib.Core.Bool.{Bool, true, false, not, ◌&&◌, ◌||◌}
use mathlib.Core.List.{List, [], ◌∷◌, flat_map, append-nil}
use Prim.Native.Nat.{ℕ, zero, suc, pred, ◌+◌, ◌-◌, ◌≤◌, ◌<◌}
use native.Mathlib.Decide.{ℕ_discrete}
use native.Mathlib.Numerals.{add-one}
use native.Mathlib.Omega.{arith}
use borrow.Author.Tests.{lt-ltb}
use lib.Dec.{eqb, ltb}
use lib.ListN.{length, length-map}
use Rattle.field.specs.Search.{up_to}
use Rattle.field.proofs.Search.{true_ne_false}
use Rattle.document.specs.declared.types.Refusal.{Refusal}
use Rattle.document.specs.declared.types.Refusal.TheVariants.{SheetLength, CodeLength, FieldDegree, Header, Representative}
use Rattle.document.specs.declared.types.Refusal.TheVariants.{NoMessage}
use Rattle.document.specs.declared.types.Refusal.TheVariants.{Range, CommonFactor, Period, Term, BufferLength, SpareBit}
use Rattle.document.specs.declared.types.Refusal.TheVariants.{NoneNear, NoCodeword, NoneWithMarks, Shortening, InterleavingDepth}
use Rattle.judging.specs.declared.types.Best.{Best}
use Rattle.document.specs.Answer.{Answer, returned, refused, number_of, Conditions, first_of, settle_in, settle}
use Rattle.document.specs.Sheet.{Certificate, Stated, certificate_at}
use Rattle.document.specs.Certificate.{distance, beats, working}
use Rattle.document.specs.Judge.{working_of, working_certificate}
use Rattle.sheet.specs.declared.types.Certificate.{Certificate as CodeCertificate}
use Rattle.sheet.specs.Stage.{Marks, certificate_as, certificate_in}
use Rattle.sheet.proofs.Reading.{held_certificate}
use Rattle.certificate.specs.Rules.{check_of, CheckedBy}
use Rattle.judging.specs.Weigh.{stated_as, WeighedBy, weigh_of, chosen, better, best_of}
use Rattle.document.proofs.Sane.{settle_number, distance_pos}
use Rattle.document.proofs.Chain.{Quiet, silent, first_quiet, quiet_append, each, flat, flat_all, flat_suc, four_quiet, flat_stop}
use Rattle.document.proofs.Working.{First, first_one, first_new, first_same, unbeaten, ranked, working_is}

pub number_pos : (r : Refusal) → 0 < number_of r
number_pos SheetLength = omega arith
number_pos CodeLength = omega arith
number_pos FieldDegree = omega arith
number_pos Header = omega arith
number_pos Representative = omega arith
number_pos NoMessage = omega arith
number_pos Range = omega arith
number_pos CommonFactor = omega arith
number_pos Period = omega arith
number_pos Term = omega arith
number_pos BufferLength = omega arith
number_pos SpareBit = omega arith
number_pos NoneNear = omega arith
number_pos NoCodeword = omega arith
number_pos NoneWithMarks = omega arith
number_pos Shortening = omega arith
number_pos InterleavingDepth = omega arith

pub settle_refused : (r : ℕ) (v w o : List ℕ) → 0 < r → (settle r v w o).0 ≡ refused r
unfolding settle_in
settle_refused zero v w o h = absurd (omega arith)
settle_refused (suc r) v w o h = refl

settle_zero : (v w o : List ℕ) → (settle 0 v w o).0 ≡ returned v
unfolding settle_in
settle_zero v w o = refl

-- ---- what is stated, as the code holds it
pub stated_count : (n : ℕ) (reps : List ℕ) (w : List CodeCertificate) → length (stated_as n reps w).certificates ≡ length w
stated_count n reps w = length-map w certificate_as

pub stated_certificate : (n : ℕ) (reps : List ℕ) (w : List CodeCertificate) (i : ℕ) → certificate_at (stated_as n reps w) i ≡ certificate_in w i
stated_certificate n reps w i = held_certificate (stated_as n reps w) w i refl

-- ---- the first i certificates of what is stated
pub record WeighedUpTo (most : ℕ) (x : Stated) (i : ℕ) (best : Best) : Type 0 where
  pub quiet : Quiet (flat most x i)
  pub none : i ≡ 0 → best.d ≡ 0
  pub some : 0 < i
      → First (unbeaten (certificate_at x)) i best.index × (best.d ≡ distance (certificate_at x best.index)) × (best.terms ≡ (certificate_at x best.index).L)

flat_none : (most : ℕ) (x : Stated) → flat most x 0 ≡ []
unfolding flat_map up_to
flat_none most x = refl

module _ (most : ℕ) (x : Stated) where
  start : WeighedUpTo most x 0 (record { index = 0; d = 0; terms = 0 })
  start = record {
    quiet = subst Quiet (sym (flat_none most x)) silent;
    none = λ e. refl;
    some = λ h. absurd (omega arith);
  }

  quiet_first : {l : Conditions} → Quiet l → first_of l ≡ 0
  unfolding first_of
  quiet_first {l} q = ap first_of (sym (append-nil l)) ∙ first_quiet [] q

  abbrev checked : ℕ → Answer
  checked i = check_of most x.n x.representatives (certificate_at x i)

  module _ {i : ℕ} {best : Best} (g : WeighedUpTo most x i best) where
    stop : (r : Refusal) → i < length x.certificates → refused (number_of r) ≡ checked i → refused (number_of r) ≡ weigh_of most x
    unfolding check_of weigh_of
    stop r h e =
        let p : 0 < number_of r = number_pos r in
        let f : first_of (each most x i) ≡ suc (pred (number_of r)) =
        sym (settle_number (first_of (each most x i)) (distance (certificate_at x i) ∷ []) [] [])
        ∙ ap (λ a. a.number) (sym e) ∙ (let q : number_of r ≡ suc (pred (number_of r)) = omega arith in q) in
        let k : suc i + (length x.certificates - suc i) ≡ length x.certificates = omega arith in
        let s : first_of (flat most x (length x.certificates)) ≡ number_of r =
        ap (λ (y : ℕ). first_of (flat most x y)) (sym k)
        ∙ flat_stop most x i (pred (number_of r)) (length x.certificates - suc i) g.quiet f
        ∙ (let q : suc (pred (number_of r)) ≡ number_of r = omega arith in q) in
        sym
        (ap (λ (y : ℕ). (settle y (working_of x ∷ distance (working_certificate x) ∷ (working_certificate x).L ∷ []) [] []).0) (ap first_of (flat_all most x) ∙ s)
        ∙ settle_refused (number_of r) (working_of x ∷ distance (working_certificate x) ∷ (working_certificate x).L ∷ []) [] [] p)

    more : {e terms : ℕ} → terms ≡ (certificate_at x i).L → returned (e ∷ []) ≡ checked i → WeighedUpTo most x (i + 1) (best_of best i e terms)
    unfolding check_of beats
    more {e} {terms} l q = record {
      quiet =
          subst (λ (y : ℕ). Quiet (flat most x y)) (sym (add-one i))
          (subst Quiet (sym (flat_suc most x i)) (quiet_append g.quiet (four_quiet most x i zero_first)));
      none = λ h. absurd (omega arith);
      some = λ h. pick (ℕ_discrete i 0) (better best e terms) refl;
    }
      where
        zero_first : first_of (each most x i) ≡ 0
        zero_first =
            sym (settle_number (first_of (each most x i)) (distance (certificate_at x i) ∷ []) [] []) ∙ ap (λ a. a.number) (sym q)

        e_is : e ≡ distance (certificate_at x i)
        e_is =
            let v : e ∷ [] ≡ distance (certificate_at x i) ∷ [] =
            ap (λ a. a.values) (q ∙ ap (λ (y : ℕ). (settle y (distance (certificate_at x i) ∷ []) [] []).0) zero_first
            ∙ settle_zero (distance (certificate_at x i) ∷ []) [] []) in
            cc

        e_pos : 1 ≤ e
        e_pos = omega (arith, e_is, distance_pos (certificate_at x i))

        new : Best
        new = record { index = i; d = e; terms = terms }

        Goal : Best → Type 0
        Goal b = First (unbeaten (certificate_at x)) (i + 1) b.index × (b.d ≡ distance (certificate_at x b.index)) × (b.terms ≡ (certificate_at x b.index).L)

        -- where there is a best so far, the code's test is the definition's
        better_is : 0 < i → better best e terms ≡ beats (certificate_at x i) (certificate_at x best.index)
        better_is h =
            let s = g.some h in
            λ k. ltb (s.1 k) (e_is k) || (eqb (e_is k) (s.1 k) && ltb (l k) (s.2 k))

        pick : Dec (i ≡ 0) → (b : Bool) → better best e terms ≡ b → Goal (chosen b new best)
        pick (yes z) true p = (subst (λ (y : ℕ). First (unbeaten (certificate_at x)) (y + 1) y) (sym z) (first_one (ranked (certificate_at x))), e_is, l)
        pick (yes z) false p =
            let d : best.d ≡ 0 = g.none z in
            absurd (true_ne_false (ap (λ b. b || (eqb e best.d && ltb terms best.terms)) (lt-ltb best.d e (omega (arith, e_pos)))) p)
        pick (no z) true p =
            let h : 0 < i = omega arith in
            (first_new (ranked (certificate_at x)) (g.some h).0 (ap not (sym (better_is h) ∙ p)), e_is, l)
        pick (no z) false p =
            let h : 0 < i = omega arith in
            let s = g.some h in
            (first_same (ranked (certificate_at x)) s.0 (ap not (sym (better_is h) ∙ p)), s.1, s.2)

    end : i ≡ length x.certificates → 0 < i → returned (best.index ∷ best.d ∷ best.terms ∷ []) ≡ weigh_of most x
    unfolding weigh_of working_certificate working_of
    end c p =
        let s = g.some p in
        let w : working (length x.certificates) (certificate_at x) ≡ best.index =
        working_is (certificate_at x) (subst (λ (y : ℕ). First (unbeaten (certificate_at x)) y best.index) c s.0) in
        let f : first_of (flat most x (length x.certificates)) ≡ 0 =
        ap (λ (y : ℕ). first_of (flat most x y)) (sym c) ∙ quiet_first g.quiet in
        sym
        (ap₂ (λ (y v : ℕ). (settle y (v ∷ distance (certificate_at x v) ∷ (certificate_at x v).L ∷ []) [] []).0) (ap first_of (flat_all most x) ∙ f) w
        ∙ settle_zero (best.index ∷ distance (certificate_at x best.index) ∷ (certificate_at x best.index).L ∷ []) [] []
        ∙ ap₂ (λ (y z : ℕ). returned (best.index ∷ y ∷ z ∷ [])) (sym s.1) (sym s.2))

-- ---- the loop, over whatever representatives are marked
pub record Weighing (most n i : ℕ) (best : Best) (w : List CodeCertificate) (z : List ℕ) : Type 0 where
  pub small : best.d ≤ most + 8
  pub weighed : (reps : List ℕ) → Marks n reps z → WeighedUpTo most (stated_as n reps w) i best

pub weighing_start : {most n : ℕ} {w : List CodeCertificate} {z : List ℕ} → Weighing most n 0 (record { index = 0; d = 0; terms = 0 }) w z
weighing_start {most} {n} {w} = record { small = omega arith; weighed = λ reps m. start most (stated_as n reps w) }

module _ {most n i : ℕ} {best : Best} {w : List CodeCertificate} {z : List ℕ} (g : Weighing most n i best w z) where
  -- certificate i, as the code holds it
  by_check : {c : CodeCertificate} {answer : Answer} → certificate_as c ≡ certificate_in w i → CheckedBy most n (certificate_as c) z answer
      → (reps : List ℕ) → Marks n reps z → answer ≡ checked most (stated_as n reps w) i
  by_check e k reps m = k.is reps m ∙ ap (check_of most n reps) (e ∙ sym (stated_certificate n reps w i))

  pub weighing_stop : (r : Refusal) {c : CodeCertificate} → certificate_as c ≡ certificate_in w i → i < length w
      → CheckedBy most n (certificate_as c) z (refused (number_of r)) → WeighedBy most n w z (refused (number_of r))
  weighing_stop r e h k = record {
    is = λ reps m. stop most (stated_as n reps w) (g.weighed reps m) r (omega (arith, stated_count n reps w)) (by_check e k reps m);
  }

  pub weighing_more : {e : ℕ} {new : Best} {c : CodeCertificate} → certificate_as c ≡ certificate_in w i → e ≤ most + 8
      → CheckedBy most n (certificate_as c) z (returned (e ∷ [])) → new ≡ best_of best i e c.terms → Weighing most n (i + 1) new w z
  weighing_more {e} {new} {c} q top k New-is = subst (λ b. Weighing most n (i + 1) b w z) (sym New-is) (record {
    small = bounded (better best e c.terms);
    weighed = λ reps m. more most (stated_as n reps w) (g.weighed reps m)
        (ap (λ (c : Certificate). c.L) (q ∙ sym (stated_certificate n reps w i))) (by_check q k reps m);
  })
    where
      bounded : (b : Bool) → (chosen b (record { index = i; d = e; terms = c.terms }) best).d ≤ most + 8
      bounded true = top
      bounded false = g.small

  pub weighing_end : i ≡ length w → 1 ≤ length w → WeighedBy most n w z (returned (best.index ∷ best.d ∷ best.terms ∷ []))
  weighing_end a one = record {
    is = λ reps m. end most (stated_as n reps w) (g.weighed reps m) (omega (arith, stated_count n reps w)) (omega arith);
  }
