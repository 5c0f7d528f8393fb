-- Decoding with marked places answers what its definition says, for what an accepted sheet states.
--
--   trial_form, trial_mask_lem      a trial word in bytes
--   trial_writes, trial_hits      a codeword within t places of a trial word is what its buffer holds
--   tried_bytes        whatever it holds is a word of n places
--   marked_done, marked_refused      the answer where there is one, and where there is none
--   shown_zeros, shown_ones, shown_none      the same by the verdicts and the test of each trial
--   marked_word_lem, marked_marks, marked_zeros, marked_ones, marked_spare, marked_marks_spare      11 and 12
use mathlib.Core.Path.{◌≡◌, refl, sym, ap, ap₂, ◌∙◌, subst}
use mathlib.Core.Logic.{◌≢◌, ◌⊎◌, inl, inr}
use mathlib.Core.Bool.{Bool, true, false}
use mathlib.Core.List.{List, [], ◌∷◌}
use Rattle.std.specs.Prelude.{Option, Some, None}
use Prim.Native.Nat.{ℕ, suc, ◌^◌, ◌≤◌, ◌<◌}
use native.Mathlib.Omega.{arith}
use lib.Dec.{eqb}
use lib.ListN.{length}
use borrow.Author.Tests.{eq-eqb, ne_eqb}
use Rattle.document.specs.Answer.{Answer, returned, refused, Conditions, first_of}
use Rattle.document.specs.Layout.{word_weight, bytes_for, bytes_of, spare}
use Rattle.document.specs.Sheet.{Stated}
use Rattle.document.specs.Generator.{differences}
use Rattle.document.specs.Judge.{dimension_of, working_certificate}
use Rattle.document.specs.Entry.{CodewordOf, wrong_size, radius_of, word_of, changed, decode_entry}
use Rattle.document.specs.Marked.{trial_mask, distance_of, marks_count, unmarked_changed, WithinMarks, marked_message, marked_word, trial_word, tried}
use Rattle.document.specs.Marked.{trial_shown, marked_conditions, marked_entry}
use Rattle.document.proofs.Sane.{distance_pos}
use Rattle.document.proofs.Chain.{silent, first_true, first_false}
use Rattle.document.proofs.Settled.{entry_refused, entry_done, first_nil, size_wrong, size_right}
use Rattle.document.proofs.Marking.{trial_lt}
use Rattle.certificate.proofs.Sheets.{Accepted}
use Rattle.certificate.proofs.Distance.{differences_self}
use Rattle.certificate.proofs.Decoding.{RightForm, stated_found, stated_either}
use Rattle.certificate.proofs.Marks.{marked_found, marked_none, half_or_half, zeros_near, ones_near}
use Rattle.codeword.proofs.Places.{word_weights, mask_of_bytes, bytes_length}
use Rattle.decoder.specs.Decode.{verdict_as}
use Rattle.decoder.specs.Marked.{marks_in, unmarked_in, Passed, Markable, MarkedDecoded}
use Rattle.decoder.proofs.Weighing.{marks_are, unmarked_are}
use Rattle.decoder.proofs.Trying.{bytes_clear, trial_clear}

zero_lt : 0 < 2
zero_lt = omega arith

one_lt : 1 < 2
one_lt = omega arith

-- a verdict that is a count is no refusal
counted : (v : Option ℕ) → v ≢ None → (verdict_as v).number ≡ 0
counted (Some m) h = refl
counted None h = absurd (h refl)

-- ---- a trial word
module _ (x : Stated) (v : ℕ) (h : v < 2) (word marks : List ℕ) where
  abbrev trial : List ℕ
  trial = trial_word x v word marks

  trial_long : length trial ≡ bytes_for x.n
  unfolding trial_word
  trial_long = bytes_length word_weight x.n (trial_mask x.n (word_of x marks) v (word_of x word))

  pub trial_form : (out : List ℕ) → length out ≡ bytes_for x.n → RightForm x trial out
  unfolding trial_word
  trial_form out l = record { word_long = trial_long; out_long = l; clear = trial_clear x.n v h word marks }

  pub trial_mask_lem : word_of x trial ≡ trial_mask x.n (word_of x marks) v (word_of x word)
  unfolding trial_word
  trial_mask_lem =
      mask_of_bytes word_weights x.n (trial_mask x.n (word_of x marks) v (word_of x word))
      (trial_lt x.n (word_of x marks) v h (word_of x word))

  trial_changed : (c : ℕ) → changed x trial c ≡ differences x.n (trial_mask x.n (word_of x marks) v (word_of x word)) c
  trial_changed c = ap (λ (m : ℕ). differences x.n m c) trial_mask_lem

  module _ (a : Accepted x) where
    -- a codeword within t places of it is what decoding it leaves
    pub trial_writes : {c : ℕ} → CodewordOf x c
        → differences x.n (trial_mask x.n (word_of x marks) v (word_of x word)) c ≤ radius_of x
        → tried x v word marks ≡ bytes_of word_weight x.n c
    unfolding tried
    trial_writes {c} w l =
        sym (ap (λ (y : Answer × List ℕ). y.1)
        (stated_found a silent trial trial (trial_form trial trial_long) w (subst (λ (m : ℕ). m ≤ radius_of x) (sym (trial_changed c)) l)))

    pub trial_hits : {c : ℕ} → CodewordOf x c
        → differences x.n (trial_mask x.n (word_of x marks) v (word_of x word)) c ≤ radius_of x → word_of x (tried x v word marks) ≡ c
    trial_hits {c} w l = ap (word_of x) (trial_writes w l) ∙ mask_of_bytes word_weights x.n c w.small

    -- whatever it leaves is a word of n places
    pub tried_bytes : (c : ℕ) × (c < 2 ^ x.n) × (tried x v word marks ≡ bytes_of word_weight x.n c)
    unfolding tried trial_word
    tried_bytes =
        elim (stated_either a silent trial trial (trial_form trial trial_long)) [
          | inl f ↦ (f.0, f.1.small, ap (λ (y : Answer × List ℕ). y.1) f.3)
          | inr f ↦ (
            trial_mask x.n (word_of x marks) v (word_of x word),
            trial_lt x.n (word_of x marks) v h (word_of x word),
            ap (λ (y : Answer × List ℕ). y.1) f.1,
          )
        ]

-- ---- a trial decoded: its verdict, and its bytes
module _ {x : Stated} (a : Accepted x) {word marks zeros ones : List ℕ} (m : Markable x.n word marks zeros ones) where
  abbrev n : ℕ
  n = x.n

  abbrev d : ℕ
  d = distance_of x

  module _ (v : ℕ) (h : v < 2) (verdict : Option ℕ) {bytes : List ℕ}
      (e : (verdict_as verdict, bytes) ≡ decode_entry [] x (trial_word x v word marks) (trial_word x v word marks)) where
    abbrev T : List ℕ
    T = trial_word x v word marks

    is_tried : bytes ≡ tried x v word marks
    unfolding tried
    is_tried = ap (λ (y : Answer × List ℕ). y.1) e

    -- as it came out
    record Outcome : Type 0 where
      pub long : length bytes ≡ bytes_for n
      pub clear : spare word_weight n bytes ≡ false
      pub near : verdict ≢ None → CodewordOf x (word_of x bytes)
      pub far : verdict ≡ None → ¬ CodewordOf x (word_of x bytes)

    outcome : Outcome
    outcome = go (stated_either a silent T T (trial_form x v h word marks T (trial_long x v h word marks)))
      where
        go : ((c : ℕ) × CodewordOf x c × (changed x T c ≤ radius_of x)
            × (decode_entry [] x T T ≡ (returned (changed x T c ∷ []), bytes_of word_weight n c)))
            ⊎ (((c : ℕ) → CodewordOf x c → radius_of x < changed x T c) × (decode_entry [] x T T ≡ (refused 13, T))) → Outcome
        go (inl f) =
            let q : bytes ≡ bytes_of word_weight n f.0 = ap (λ (y : Answer × List ℕ). y.1) (e ∙ f.3) in
            record {
              long = ap length q ∙ bytes_length word_weight n f.0;
              clear = ap (spare word_weight n) q ∙ bytes_clear n f.0 f.1.small;
              near = λ _.
                  subst (CodewordOf x) (sym (ap (word_of x) q ∙ mask_of_bytes word_weights n f.0 f.1.small)) f.1;
              far = λ k. absurd
                  (omega (
                    arith,
                    ap (λ (y : Answer × List ℕ). y.0.number)
                        (ap (λ (z : Option ℕ). (verdict_as z, bytes)) (sym k) ∙ e ∙ f.3),
                  ));
            }
        go (inr f) =
            let q : bytes ≡ T = ap (λ (y : Answer × List ℕ). y.1) (e ∙ f.1) in
            record {
              long = ap length q ∙ trial_long x v h word marks;
              clear = ap (spare word_weight n) q ∙ (trial_form x v h word marks T (trial_long x v h word marks)).clear;
              near = λ k. absurd
                  (omega (arith, counted verdict k, ap (λ (y : Answer × List ℕ). y.0.number) (e ∙ f.1)));
              far = λ _ w. omega (
                arith,
                f.0 (word_of x bytes) w,
                ap (λ (l : List ℕ). differences n (word_of x T) (word_of x l)) q ∙ differences_self n (word_of x T),
              );
            }

    measured : unmarked_in word marks bytes ≡ unmarked_changed x word marks (word_of x bytes)
    measured =
        unmarked_are n word marks bytes m.word_long m.clear m.marks_long m.marks_clear outcome.long outcome.clear

    marked : marks_in marks ≡ marks_count x marks
    marked = marks_are n marks m.marks_long m.marks_clear

    -- it is the answer
    passed : Passed d verdict word marks bytes → CodewordOf x (word_of x bytes) × WithinMarks x word marks (word_of x bytes)
    passed p = (outcome.near p.near, omega (arith, p.within, measured, marked))

    -- or the answer is another word
    missed : ¬ Passed d verdict word marks bytes → {c : ℕ} → CodewordOf x c → WithinMarks x word marks c → word_of x bytes ≢ c
    missed p {c} w l q =
        p (record {
          near = λ k. outcome.far k (subst (CodewordOf x) (sym q) w);
          within = omega (arith, ap (unmarked_changed x word marks) q, measured, marked, distance_pos (working_certificate x), l);
        })

  -- ---- 11 and 12 are not drawn
  before : first_of (marked_conditions x word marks zeros ones) ≡ first_of ((15, eqb (marked_message x word marks) (2 ^ dimension_of x)) ∷ [])
  unfolding marked_conditions
  before =
      first_false (11, wrong_size n word) _ (size_right n word m.word_long)
      ∙ first_false (11, wrong_size n marks) _ (size_right n marks m.marks_long)
      ∙ first_false (11, wrong_size n zeros) _ (size_right n zeros m.zeros_long)
      ∙ first_false (11, wrong_size n ones) _ (size_right n ones m.ones_long)
      ∙ first_false (12, spare word_weight n word) _ m.clear
      ∙ first_false (12, spare word_weight n marks) _ m.marks_clear

  abbrev values : List ℕ
  values = unmarked_changed x word marks (marked_word x word marks) ∷ trial_shown x word marks ∷ []

  pub marked_done : {c : ℕ} → CodewordOf x c → WithinMarks x word marks c → {first second : List ℕ} → first ≡ tried x 0 word marks → second ≡ tried x 1 word marks
      → {e trial : ℕ} → e ≡ unmarked_changed x word marks c → trial ≡ trial_shown x word marks
      → (returned (e ∷ trial ∷ []), (first, second)) ≡ marked_entry [] x word marks zeros ones
  unfolding marked_entry
  marked_done {c} w l {first} {second} p q r s =
      let f = marked_found a word marks w l in
      ap₂ (λ (i j : ℕ). (returned (i ∷ j ∷ []), (first, second))) (r ∙ ap (unmarked_changed x word marks) (sym f.1)) s
      ∙ entry_done (marked_conditions x word marks zeros ones) values (tried x 0 word marks, tried x 1 word marks) (zeros, ones)
      (before
      ∙ first_false (15, eqb (marked_message x word marks) (2 ^ dimension_of x)) []
      (ne_eqb (marked_message x word marks) (2 ^ dimension_of x) (λ i. omega (arith, f.0, i)))
      ∙ first_nil)
      (ap₂ (λ (y z : List ℕ). (y, z)) p q)

  pub marked_refused : ((c : ℕ) → CodewordOf x c → ¬ WithinMarks x word marks c) → (refused 15, (zeros, ones)) ≡ marked_entry [] x word marks zeros ones
  unfolding marked_entry
  marked_refused f =
      entry_refused (marked_conditions x word marks zeros ones) values (tried x 0 word marks, tried x 1 word marks) (zeros, ones) 14
      (before
      ∙ first_true (15, eqb (marked_message x word marks) (2 ^ dimension_of x)) []
      (eq-eqb (marked_message x word marks) (2 ^ dimension_of x) ((marked_none a word marks).1 f)))

  shows : (b : Bool) {k : ℕ} → eqb (word_of x (tried x 0 word marks)) (marked_word x word marks) ≡ b
      → k ≡ (elim b as (λ _. ℕ) [ true ↦ 0 | false ↦ 1 ]) → k ≡ trial_shown x word marks
  unfolding trial_shown
  shows b q e = e ∙ ap (λ t. elim t as (λ _. ℕ) [ true ↦ 0 | false ↦ 1 ]) (sym q)

  -- ---- both trials
  module _ (first_verdict second_verdict : Option ℕ) {first second : List ℕ}
      (e₀ : (verdict_as first_verdict, first) ≡ decode_entry [] x (trial_word x 0 word marks) (trial_word x 0 word marks))
      (e₁ : (verdict_as second_verdict, second) ≡ decode_entry [] x (trial_word x 1 word marks) (trial_word x 1 word marks)) where
    pub shown_zeros : Passed d first_verdict word marks first
        → (returned (unmarked_in word marks first ∷ 0 ∷ []), (first, second)) ≡ marked_entry [] x word marks zeros ones
    shown_zeros p =
        let c = passed 0 zero_lt first_verdict e₀ p in
        let f = marked_found a word marks c.0 c.1 in
        marked_done c.0 c.1 (is_tried 0 zero_lt first_verdict e₀) (is_tried 1 one_lt second_verdict e₁) (measured 0 zero_lt first_verdict e₀)
        (shows true
        (eq-eqb (word_of x (tried x 0 word marks)) (marked_word x word marks) (ap (word_of x) (sym (is_tried 0 zero_lt first_verdict e₀)) ∙ sym f.1)) refl)

    pub shown_ones : ¬ Passed d first_verdict word marks first → Passed d second_verdict word marks second
        → (returned (unmarked_in word marks second ∷ 1 ∷ []), (first, second)) ≡ marked_entry [] x word marks zeros ones
    shown_ones q p =
        let c = passed 1 one_lt second_verdict e₁ p in
        let f = marked_found a word marks c.0 c.1 in
        marked_done c.0 c.1 (is_tried 0 zero_lt first_verdict e₀) (is_tried 1 one_lt second_verdict e₁) (measured 1 one_lt second_verdict e₁)
        (shows false
        (ne_eqb (word_of x (tried x 0 word marks)) (marked_word x word marks)
        (λ i. missed 0 zero_lt first_verdict e₀ q c.0 c.1 (ap (word_of x) (is_tried 0 zero_lt first_verdict e₀) ∙ i ∙ f.1))) refl)

    pub shown_none : ¬ Passed d first_verdict word marks first → ¬ Passed d second_verdict word marks second
        → (refused 15, (zeros, ones)) ≡ marked_entry [] x word marks zeros ones
    shown_none p q =
        marked_refused (λ c w l. elim (half_or_half x marks c) [
          | inl i ↦
              missed 0 zero_lt first_verdict e₀ p w l
              (ap (word_of x) (is_tried 0 zero_lt first_verdict e₀) ∙ trial_hits x 0 zero_lt word marks a w (zeros_near a word marks c l i))
          | inr i ↦
              missed 1 one_lt second_verdict e₁ q w l
              (ap (word_of x) (is_tried 1 one_lt second_verdict e₁) ∙ trial_hits x 1 one_lt word marks a w (ones_near a word marks c l i))
        ])

-- ---- 11 and 12, for what an accepted sheet states
module _ (x : Stated) (word marks zeros ones : List ℕ) where
  abbrev conditions : Conditions
  conditions = marked_conditions x word marks zeros ones

  refusal : (r : ℕ) → first_of conditions ≡ suc r → (refused (suc r), (zeros, ones)) ≡ marked_entry [] x word marks zeros ones
  unfolding marked_entry
  refusal r e =
      entry_refused conditions (unmarked_changed x word marks (marked_word x word marks) ∷ trial_shown x word marks ∷ [])
      (tried x 0 word marks, tried x 1 word marks) (zeros, ones) r e

  word_wrong : length word ≢ bytes_for x.n → first_of conditions ≡ 11
  unfolding marked_conditions
  word_wrong h = first_true (11, wrong_size x.n word) _ (size_wrong x.n word h)

  module _ (a : length word ≡ bytes_for x.n) where
    marks_wrong : length marks ≢ bytes_for x.n → first_of conditions ≡ 11
    unfolding marked_conditions
    marks_wrong h =
        first_false (11, wrong_size x.n word) _ (size_right x.n word a)
        ∙ first_true (11, wrong_size x.n marks) _ (size_wrong x.n marks h)

    module _ (b : length marks ≡ bytes_for x.n) where
      zeros_wrong : length zeros ≢ bytes_for x.n → first_of conditions ≡ 11
      unfolding marked_conditions
      zeros_wrong h =
          first_false (11, wrong_size x.n word) _ (size_right x.n word a)
          ∙ first_false (11, wrong_size x.n marks) _ (size_right x.n marks b)
          ∙ first_true (11, wrong_size x.n zeros) _ (size_wrong x.n zeros h)

      module _ (c : length zeros ≡ bytes_for x.n) where
        ones_wrong : length ones ≢ bytes_for x.n → first_of conditions ≡ 11
        unfolding marked_conditions
        ones_wrong h =
            first_false (11, wrong_size x.n word) _ (size_right x.n word a)
            ∙ first_false (11, wrong_size x.n marks) _ (size_right x.n marks b)
            ∙ first_false (11, wrong_size x.n zeros) _ (size_right x.n zeros c)
            ∙ first_true (11, wrong_size x.n ones) _ (size_wrong x.n ones h)

        module _ (d : length ones ≡ bytes_for x.n) where
          word_spare : spare word_weight x.n word ≡ true → first_of conditions ≡ 12
          unfolding marked_conditions
          word_spare h =
              first_false (11, wrong_size x.n word) _ (size_right x.n word a)
              ∙ first_false (11, wrong_size x.n marks) _ (size_right x.n marks b)
              ∙ first_false (11, wrong_size x.n zeros) _ (size_right x.n zeros c)
              ∙ first_false (11, wrong_size x.n ones) _ (size_right x.n ones d)
              ∙ first_true (12, spare word_weight x.n word) _ h

          marks_spare : spare word_weight x.n word ≡ false → spare word_weight x.n marks ≡ true → first_of conditions ≡ 12
          unfolding marked_conditions
          marks_spare g h =
              first_false (11, wrong_size x.n word) _ (size_right x.n word a)
              ∙ first_false (11, wrong_size x.n marks) _ (size_right x.n marks b)
              ∙ first_false (11, wrong_size x.n zeros) _ (size_right x.n zeros c)
              ∙ first_false (11, wrong_size x.n ones) _ (size_right x.n ones d)
              ∙ first_false (12, spare word_weight x.n word) _ g
              ∙ first_true (12, spare word_weight x.n marks) _ h

-- ---- of whatever was stated
module _ {n t d : ℕ} {reps : List ℕ} (word marks zeros ones : List ℕ) where
  by : (r : ℕ) → ((x : Stated) → n ≡ x.n → first_of (marked_conditions x word marks zeros ones) ≡ suc r)
      → MarkedDecoded n t d reps word marks zeros ones (refused (suc r), (zeros, ones))
  by r f = record { is = λ x u _. refusal x word marks zeros ones r (f x u.n_is) }

  pub marked_word_lem : length word ≢ bytes_for n → MarkedDecoded n t d reps word marks zeros ones (refused 11, (zeros, ones))
  marked_word_lem h = by 10 (λ x e. word_wrong x word marks zeros ones (rw e at h))

  module _ (a : length word ≡ bytes_for n) where
    pub marked_marks : length marks ≢ bytes_for n → MarkedDecoded n t d reps word marks zeros ones (refused 11, (zeros, ones))
    marked_marks h = by 10 (λ x e. marks_wrong x word marks zeros ones (rw e at a) (rw e at h))

    module _ (b : length marks ≡ bytes_for n) where
      pub marked_zeros : length zeros ≢ bytes_for n → MarkedDecoded n t d reps word marks zeros ones (refused 11, (zeros, ones))
      marked_zeros h = by 10 (λ x e. zeros_wrong x word marks zeros ones (rw e at a) (rw e at b) (rw e at h))

      module _ (c : length zeros ≡ bytes_for n) where
        pub marked_ones : length ones ≢ bytes_for n → MarkedDecoded n t d reps word marks zeros ones (refused 11, (zeros, ones))
        marked_ones h = by 10 (λ x e. ones_wrong x word marks zeros ones (rw e at a) (rw e at b) (rw e at c) (rw e at h))

        module _ (o : length ones ≡ bytes_for n) where
          pub marked_spare : spare word_weight n word ≡ true → MarkedDecoded n t d reps word marks zeros ones (refused 12, (zeros, ones))
          marked_spare h =
              by 11 (λ x e. word_spare x word marks zeros ones (rw e at a) (rw e at b) (rw e at c) (rw e at o) (rw e at h))

          pub marked_marks_spare : spare word_weight n word ≡ false → spare word_weight n marks ≡ true
              → MarkedDecoded n t d reps word marks zeros ones (refused 12, (zeros, ones))
          marked_marks_spare g h =
              by 11 (λ x e. marks_spare x word marks zeros ones (rw e at a) (rw e at b) (rw e at c) (rw e at o) (rw e at g) (rw e at h))
