-- 2026-05, bits the modem isn't sure of, in the words of specs/Published.antt: what Request05 of Demands.antt is put together from.
--
--   marks_counted, unmarked_counted      r and e, place by place
--   trial_places         a trial word, place by place
--   bound_same           2·e at most d - 1 is e at most t
--   only_said            at most one codeword has 2·e + r at most d - 1
--   exists_said, fifteen_said, shown_said, held_said      what is answered, and what both buffers hold
--   zeros_decoded, ones_decoded, one_decodes      a trial word decodes to the answer
--   unmarked_said, unmarked_none      with no mark
--   shown_zero, shown_other, shown_short      the second call
use mathlib.Core.Path.{◌≡◌, refl, sym, ap, ap₂, ◌∙◌, subst}
use mathlib.Core.Logic.{◌≢◌, ◌↔◌, ◌⊎◌, inl, inr}
use mathlib.Core.Bool.{Bool, true, false}
use mathlib.Core.List.{List, [], ◌∷◌}
use Prim.Native.Nat.{ℕ, ◌+◌, ◌-◌, ◌*◌, ◌/◌, ◌%◌, ◌^◌, ◌≤◌, ◌<◌}
use native.Mathlib.Nat.{zero-mul, one-mul}
use native.Mathlib.Decide.{ℕ_discrete, dec_lt}
use native.Mathlib.Omega.{arith}
use lib.Dec.{eqb}
use lib.ListN.{length, get_or, take}
use lib.Seq.{take_all}
use borrow.Author.Tests.{eq-eqb, ne_eqb}
use Rattle.field.specs.Search.{total}
use Rattle.field.specs.Mask.{◌⊕◌, coefficient}
use Rattle.field.proofs.Search.{total_ext}
use Rattle.field.proofs.Xor.{digit, digit_lt}
use Rattle.document.specs.Answer.{Answer, returned, refused}
use Rattle.document.specs.Layout.{word_weight, bytes_for, place, bytes_of}
use Rattle.document.specs.Sheet.{Stated}
use Rattle.document.specs.Generator.{differences}
use Rattle.document.specs.Certificate.{radius}
use Rattle.document.specs.Judge.{dimension_of}
use Rattle.document.specs.Entry.{CodewordOf, radius_of, word_of, changed}
use Rattle.document.specs.Marked.{is_marked, marked_count, unmarked_differences, marked_ones, marked_zeros, trial_mask, distance_of, marks_count}
use Rattle.document.specs.Marked.{unmarked_changed, WithinMarks, marked_message, marked_word, trial_word, tried, trial_shown, marked_entry, shown_of}
use Rattle.document.specs.Short.{short, stated, refusals_of, decode_of, decode_marked_of}
use Rattle.document.proofs.Meaning.{differ_at}
use Rattle.document.proofs.Acceptance.{judge_number, quiet_of}
use Rattle.document.proofs.Marking.{no_difference, no_trial}
use Rattle.codeword.proofs.Places.{word_weights, mask_lt, mask_coefficient, bytes_length, bytes_place, bytes_lt, for_le}
use Rattle.certificate.proofs.Sheets as Sheets
use Rattle.certificate.proofs.Decoding as Decoding
use Rattle.certificate.proofs.Marks.{marked_only, marked_le, marked_found, marked_some, marked_none, half_or_half, zeros_near, ones_near}
use Rattle.decoder.specs.Marked.{Markable}
use Rattle.decoder.proofs.Trying.{trial_marked, trial_unmarked}
use Rattle.decoder.proofs.Shown.{trial_form, trial_mask_lem, trial_writes, trial_hits, tried_bytes, marked_done, marked_refused}
use Rattle.code.specs.Published.{IsAccepted, Word, Bytes, MarkedCall, WordShown}
use Rattle.code.specs.Table.{NoneWithMarks}
use Rattle.code.proofs.RoundTrip as RoundTrip
use Rattle.code.proofs.Entries.{decode_accepted, marked_accepted}
use Rattle.code.proofs.Worded.{places_there, places_back, found_said, radius_said, none_said}

-- ---- place by place
pub marks_counted : (x : Stated) (marks : List ℕ) → marks_count x marks ≡ total x.n (λ i. place word_weight marks i)
unfolding marked_count
marks_counted x marks =
    total_ext x.n (λ i. coefficient i (word_of x marks)) (place word_weight marks) (mask_coefficient word_weight x.n marks)

kept_or_not : (y z : ℕ) → y < 2 → (elim (eqb y 1) as (λ _. ℕ) [ true ↦ 0 | false ↦ z ]) ≡ (1 - y) * z
kept_or_not y z h =
    digit (λ y. (elim (eqb y 1) as (λ _. ℕ) [ true ↦ 0 | false ↦ z ]) ≡ (1 - y) * z) (sym (one-mul z)) (sym (zero-mul z)) y h

pub unmarked_counted : (x : Stated) (word marks : List ℕ) (c : ℕ) → unmarked_changed x word marks c
    ≡ total x.n (λ i. (1 - place word_weight marks i) * ((place word_weight word i + coefficient i c) % 2))
unfolding unmarked_differences
unmarked_counted x word marks c =
    total_ext x.n (λ i. elim (is_marked (word_of x marks) i) as (λ _. ℕ) [ true ↦ 0 | false ↦ coefficient i (word_of x word ⊕ c) ])
    (λ i. (1 - place word_weight marks i) * ((place word_weight word i + coefficient i c) % 2))
    (λ i h. kept_or_not (coefficient i (word_of x marks)) (coefficient i (word_of x word ⊕ c)) (digit_lt (word_of x marks / 2 ^ i))
    ∙ ap₂ (λ (y z : ℕ). (1 - y) * z) (mask_coefficient word_weight x.n marks i h)
    (differ_at (word_of x word) c i ∙ ap (λ (y : ℕ). (y + coefficient i c) % 2) (mask_coefficient word_weight x.n word i h)))

pub trial_places : (x : Stated) (v : ℕ) → v < 2 → (word marks : List ℕ)
    → Word x (trial_word x v word marks) × Bytes (trial_word x v word marks)
    × ((i : ℕ) → i < x.n → (place word_weight marks i ≡ 1 → place word_weight (trial_word x v word marks) i ≡ v)
    × (place word_weight marks i ≡ 0 → place word_weight (trial_word x v word marks) i ≡ place word_weight word i))
unfolding trial_word
trial_places x v h word marks = (
  places_back (let f = trial_form x v h word marks (trial_word x v word marks) long in record { long = f.word_long; clear = f.clear }),
  bytes_lt word_weights x.n (trial_mask x.n (word_of x marks) v (word_of x word)),
  λ i l. (
    λ e. at i l ∙ trial_marked x.n v h word marks i l (mask_coefficient word_weight x.n marks i l ∙ e),
    λ e. at i l ∙ trial_unmarked x.n v h word marks i l (mask_coefficient word_weight x.n marks i l ∙ e)
        ∙ mask_coefficient word_weight x.n word i l,
  ),
)
  where
    long : length (bytes_of word_weight x.n (trial_mask x.n (word_of x marks) v (word_of x word))) ≡ bytes_for x.n
    long = bytes_length word_weight x.n (trial_mask x.n (word_of x marks) v (word_of x word))

    at : (i : ℕ) → i < x.n
        → place word_weight (bytes_of word_weight x.n (trial_mask x.n (word_of x marks) v (word_of x word))) i
        ≡ coefficient i (trial_mask x.n (word_of x marks) v (word_of x word))
    at i l = bytes_place word_weights x.n (trial_mask x.n (word_of x marks) v (word_of x word)) i (omega (arith, for_le x.n))

pub bound_same : (x : Stated) (e : ℕ) → (2 * e ≤ distance_of x - 1) ↔ (e ≤ radius_of x)
unfolding radius_of radius
bound_same x e = (λ h. omega arith, λ h. omega arith)

-- ---- the second call
pub shown_zero : (n : ℕ) (zeros ones : List ℕ) → shown_of 0 n zeros ones ≡ take ((n + 7) / 8) zeros
unfolding shown_of bytes_for
shown_zero n zeros ones = refl

pub shown_other : (trial n : ℕ) (zeros ones : List ℕ) → trial ≢ 0 → shown_of trial n zeros ones ≡ take ((n + 7) / 8) ones
unfolding shown_of bytes_for
shown_other trial n zeros ones h =
    ap (λ (b : Bool). take ((n + 7) / 8) (elim b as (λ _. List ℕ) [ true ↦ zeros | false ↦ ones ])) (ne_eqb trial 0 h)

pub shown_short : (n : ℕ) (buffer : List ℕ) → length buffer ≤ (n + 7) / 8 → take ((n + 7) / 8) buffer ≡ buffer
shown_short n buffer h = take_all ((n + 7) / 8) buffer h

-- ---- an accepted sheet
usable : (sheet : List ℕ) → IsAccepted sheet → Sheets.Accepted (stated sheet)
usable sheet accepted = Sheets.accepted short (omega arith) sheet (sym (judge_number short sheet) ∙ accepted)

module _ (sheet : List ℕ) (accepted : IsAccepted sheet) where
  abbrev x : Stated
  x = stated sheet

  pub only_said : (word marks : List ℕ) (b c : ℕ) → CodewordOf x b → CodewordOf x c → WithinMarks x word marks b → WithinMarks x word marks c → b ≡ c
  only_said word marks b c v w h j = marked_only (usable sheet accepted) word marks v w h j

  -- ---- a trial word decodes to the answer
  module _ (word marks : List ℕ) {c : ℕ} (w : CodewordOf x c) (h : WithinMarks x word marks c) (out : List ℕ)
      (l : length out ≡ (x.n + 7) / 8) where
    decodes : (v : ℕ) → v < 2 → differences x.n (trial_mask x.n (word_of x marks) v (word_of x word)) c ≤ radius_of x
        → decode_of sheet (trial_word x v word marks) out
        ≡ (returned (changed x (trial_word x v word marks) c ∷ []), bytes_of word_weight x.n c)
    unfolding bytes_for
    decodes v s k =
        sym (Decoding.decode_found short (omega arith) sheet accepted (trial_word x v word marks) out (trial_form x v s word marks out l) w
        (subst (λ (m : ℕ). m ≤ radius_of x) (sym (ap (λ (m : ℕ). differences x.n m c) (trial_mask_lem x v s word marks))) k))

    pub zeros_decoded : 2 * marked_ones x.n (word_of x marks) c ≤ marks_count x marks
        → decode_of sheet (trial_word x 0 word marks) out
        ≡ (returned (changed x (trial_word x 0 word marks) c ∷ []), bytes_of word_weight x.n c)
    zeros_decoded k = decodes 0 (omega arith) (zeros_near (usable sheet accepted) word marks c h k)

    pub ones_decoded : 2 * marked_zeros x.n (word_of x marks) c ≤ marks_count x marks
        → decode_of sheet (trial_word x 1 word marks) out
        ≡ (returned (changed x (trial_word x 1 word marks) c ∷ []), bytes_of word_weight x.n c)
    ones_decoded k = decodes 1 (omega arith) (ones_near (usable sheet accepted) word marks c h k)

    -- one of them does
    pub one_decodes :
        (decode_of sheet (trial_word x 0 word marks) out ≡ (returned (changed x (trial_word x 0 word marks) c ∷ []), bytes_of word_weight x.n c))
        ⊎ (decode_of sheet (trial_word x 1 word marks) out ≡ (returned (changed x (trial_word x 1 word marks) c ∷ []), bytes_of word_weight x.n c))
    one_decodes = elim (half_or_half x marks c) [ inl i ↦ inl (zeros_decoded i) | inr i ↦ inr (ones_decoded i) ]

-- ---- what is answered
module _ (sheet word marks zeros ones : List ℕ) (m : MarkedCall sheet word marks zeros ones) where
  abbrev X : Stated
  X = stated sheet

  a : Sheets.Accepted X
  a = usable sheet m.accepted

  abbrev reply : Answer × (List ℕ × List ℕ)
  reply = decode_marked_of sheet word marks zeros ones

  form : Markable X.n word marks zeros ones
  unfolding bytes_for
  form = let p = places_there m.is_word in let q = places_there m.is_marks in record {
    word_long = p.long;
    marks_long = q.long;
    zeros_long = m.zeros_long;
    ones_long = m.ones_long;
    clear = p.clear;
    marks_clear = q.clear;
  }

  -- the sheet draws no refusal of its own
  own : marked_entry [] X word marks zeros ones ≡ reply
  own = marked_accepted (refusals_of sheet) X word marks zeros ones (quiet_of short sheet (sym (judge_number short sheet) ∙ m.accepted))

  found : {c : ℕ} → CodewordOf X c → WithinMarks X word marks c
      → (returned (unmarked_changed X word marks c ∷ trial_shown X word marks ∷ []), (tried X 0 word marks, tried X 1 word marks)) ≡ reply
  found w h = marked_done a form w h refl refl refl refl ∙ own

  none : NoneWithMarks X word marks → (refused 15, (zeros, ones)) ≡ reply
  none f = marked_refused a form f ∙ own

  -- there is one, or there is none
  either : ((c : ℕ) × CodewordOf X c × WithinMarks X word marks c) ⊎ NoneWithMarks X word marks
  either =
      elim (ℕ_discrete (marked_message X word marks) (2 ^ dimension_of X)) [
        | yes e ↦ inr ((marked_none a word marks).0 e)
        | no e ↦
            (let w = marked_some a word marks (omega (arith, marked_le a word marks, e)) in
            inl (marked_word X word marks, w.0, w.1))
      ]

  pub exists_said : (reply.0.number ≡ 0) ↔ ((c : ℕ) × CodewordOf X c × WithinMarks X word marks c)
  exists_said = (
    λ q. elim either [
      | inl f ↦ f
      | inr f ↦ absurd (omega (arith, q, ap (λ (y : Answer × (List ℕ × List ℕ)). y.0.number) (none f)))
    ],
    λ f. sym (ap (λ (y : Answer × (List ℕ × List ℕ)). y.0.number) (found f.1 f.2)),
  )

  pub fifteen_said : (reply.0.number ≡ 15) ↔ NoneWithMarks X word marks
  fifteen_said = (
    λ q. elim either [
      | inl f ↦ absurd (omega (arith, q, ap (λ (y : Answer × (List ℕ × List ℕ)). y.0.number) (found f.1 f.2)))
      | inr f ↦ f
    ],
    λ f. sym (ap (λ (y : Answer × (List ℕ × List ℕ)). y.0.number) (none f)),
  )

  -- what each buffer holds is what decoding its trial word leaves there
  pub held_said : reply.0.number ≡ 0
      → (reply.1.0 ≡ (decode_of sheet (trial_word X 0 word marks) (trial_word X 0 word marks)).1)
      × (reply.1.1 ≡ (decode_of sheet (trial_word X 1 word marks) (trial_word X 1 word marks)).1)
  unfolding tried
  held_said q =
      let f = exists_said.0 q in
      let g = sym (found f.1 f.2) in (
        ap (λ (y : Answer × (List ℕ × List ℕ)). y.1.0) g
            ∙ ap (λ (y : Answer × List ℕ). y.1)
            (decode_accepted (refusals_of sheet) X (trial_word X 0 word marks) (trial_word X 0 word marks)
            (quiet_of short sheet (sym (judge_number short sheet) ∙ m.accepted))),
        ap (λ (y : Answer × (List ℕ × List ℕ)). y.1.1) g
            ∙ ap (λ (y : Answer × List ℕ). y.1)
            (decode_accepted (refusals_of sheet) X (trial_word X 1 word marks) (trial_word X 1 word marks)
            (quiet_of short sheet (sym (judge_number short sheet) ∙ m.accepted))),
      )

  -- ---- what is shown
  whole : (v : ℕ) → v < 2 → take (bytes_for X.n) (tried X v word marks) ≡ tried X v word marks
  whole v h =
      let t = tried_bytes X v h word marks a in
      take_all (bytes_for X.n) (tried X v word marks) (omega (arith, ap length t.2 ∙ bytes_length word_weight X.n t.0))

  is_shown : {c : ℕ} (v : ℕ) (h : v < 2) → CodewordOf X c → WithinMarks X word marks c → word_of X (tried X v word marks) ≡ c
      → trial_shown X word marks ≡ v → (v ≡ 0) ↔ (word_of X (tried X 0 word marks) ≡ c)
      → shown_of v X.n (tried X 0 word marks) (tried X 1 word marks) ≡ tried X v word marks
      → WordShown X word marks
      (returned (unmarked_changed X word marks c ∷ trial_shown X word marks ∷ []), (tried X 0 word marks, tried X 1 word marks))
  is_shown {c} v h w l q s z y =
      let t = tried_bytes X v h word marks a in
      record {
        e = unmarked_changed X word marks c;
        trial = v;
        told = ap (λ (i : ℕ). unmarked_changed X word marks c ∷ i ∷ []) s;
        shown = tried X v word marks;
        shown_is = sym y;
        is_word = subst (Word X) (sym t.2) (places_back (RoundTrip.placed_bytes word_weights X.n t.0 t.1));
        is_bytes = subst Bytes (sym t.2) (bytes_lt word_weights X.n t.0);
        in_code = subst (CodewordOf X) (sym q) w;
        within = subst (WithinMarks X word marks) (sym q) l;
        counted = ap (unmarked_changed X word marks) (sym q);
        zeros_first = (λ i. z.0 i ∙ sym q, λ i. z.1 (i ∙ q));
        else_ones = λ n. omega arith;
        others = λ b u ne j. ne (marked_only a word marks u w j l ∙ sym q);
      }

  by_zeros : word_of X (tried X 0 word marks) ≡ marked_word X word marks → trial_shown X word marks ≡ 0
  unfolding trial_shown
  by_zeros e =
      ap (λ (b : Bool). elim b as (λ _. ℕ) [ true ↦ 0 | false ↦ 1 ])
      (eq-eqb (word_of X (tried X 0 word marks)) (marked_word X word marks) e)

  by_ones : word_of X (tried X 0 word marks) ≢ marked_word X word marks → trial_shown X word marks ≡ 1
  unfolding trial_shown
  by_ones e =
      ap (λ (b : Bool). elim b as (λ _. ℕ) [ true ↦ 0 | false ↦ 1 ])
      (ne_eqb (word_of X (tried X 0 word marks)) (marked_word X word marks) e)

  part_zeros : shown_of 0 X.n (tried X 0 word marks) (tried X 1 word marks) ≡ tried X 0 word marks
  unfolding shown_of
  part_zeros = whole 0 (omega arith)

  part_ones : shown_of 1 X.n (tried X 0 word marks) (tried X 1 word marks) ≡ tried X 1 word marks
  unfolding shown_of
  part_ones = whole 1 (omega arith)

  -- if the zeros do not hold it, the ones do
  the_other : {c : ℕ} → CodewordOf X c → WithinMarks X word marks c → word_of X (tried X 0 word marks) ≢ c
      → word_of X (tried X 1 word marks) ≡ c
  the_other {c} w l e =
      elim (half_or_half X marks c) [
        | inl i ↦ absurd (e (trial_hits X 0 (omega arith) word marks a w (zeros_near a word marks c l i)))
        | inr i ↦ trial_hits X 1 (omega arith) word marks a w (ones_near a word marks c l i)
      ]

  pub shown_said : reply.0.number ≡ 0 → WordShown X word marks reply
  shown_said p =
      let f = exists_said.0 p in
      let g = marked_found a word marks f.1 f.2 in
      subst (WordShown X word marks) (found f.1 f.2) (go f.1 f.2 g.1 (ℕ_discrete (word_of X (tried X 0 word marks)) f.0))
    where
      go : {c : ℕ} → CodewordOf X c → WithinMarks X word marks c → marked_word X word marks ≡ c
          → Dec (word_of X (tried X 0 word marks) ≡ c)
          → WordShown X word marks
          (returned (unmarked_changed X word marks c ∷ trial_shown X word marks ∷ []), (tried X 0 word marks, tried X 1 word marks))
      go w l m (yes e) =
          is_shown 0 (omega arith) w l e (by_zeros (e ∙ sym m)) (λ _. e, λ _. refl)
          part_zeros
      go {c} w l m (no e) =
          is_shown 1 (omega arith) w l (the_other w l e) (by_ones (λ q. e (q ∙ m))) (λ i. absurd (omega arith), λ q. absurd (e q))
          part_ones

  -- ---- no mark
  module _ (unmarked : marks_count X marks ≡ 0) where
    within_iff : (c : ℕ) → WithinMarks X word marks c ↔ (changed X word c ≤ radius_of X)
    within_iff c =
        let e : unmarked_changed X word marks c ≡ changed X word c = no_difference X.n (word_of X marks) unmarked (word_of X word) c in
        let b = bound_same X (changed X word c) in (
          λ h. b.0 (omega arith),
          λ h. let k = b.1 h in omega arith,
        )

    pub unmarked_none : (out : List ℕ) → length out ≡ (X.n + 7) / 8
        → (reply.0.number ≡ 15) ↔ ((decode_of sheet word out).0.number ≡ 13)
    unmarked_none out l =
        let n = none_said sheet m.accepted word out m.is_word l in (
          λ q. n.1 (λ c v. elim (dec_lt (radius_of X) (changed X word c)) [
            | yes k ↦ k
            | no k ↦ absurd (fifteen_said.0 q c v ((within_iff c).1 (omega arith)))
          ]),
          λ q. fifteen_said.1 (λ c v h. let k = (within_iff c).0 h in omega (arith, n.0 q c v)),
        )

    pub unmarked_said : (out : List ℕ) → length out ≡ (X.n + 7) / 8 → (count : ℕ) (decoded : List ℕ)
        → decode_of sheet word out ≡ (returned (count ∷ []), decoded) → reply ≡ (returned (count ∷ 0 ∷ []), (decoded, decoded))
    unmarked_said out l count decoded q =
        let f = (found_said sheet m.accepted word out m.is_word l).0 (ap (λ (y : Answer × List ℕ). y.0.number) q) in
        let r = sym q ∙ radius_said sheet m.accepted word out m.is_word l f.0 f.1 f.2 in
        let c : ℕ = f.0 in
        let h : WithinMarks X word marks c = (within_iff c).1 f.2 in
        let near : (v : ℕ) → v < 2 → differences X.n (trial_mask X.n (word_of X marks) v (word_of X word)) c ≤ radius_of X =
        λ v s. subst (λ (m : ℕ). differences X.n m c ≤ radius_of X)
        (sym (no_trial X.n (word_of X marks) unmarked v (word_of X word) s (mask_lt word_weight X.n word))) f.2 in
        let both : (v : ℕ) → v < 2 → tried X v word marks ≡ decoded =
        λ v s. trial_writes X v s word marks a f.1 (near v s) ∙ sym (ap (λ (y : Answer × List ℕ). y.1) r) in
        let shown : trial_shown X word marks ≡ 0 =
        by_zeros (trial_hits X 0 (omega arith) word marks a f.1 (near 0 (omega arith)) ∙ sym (marked_found a word marks f.1 h).1) in
        sym (found f.1 h)
        ∙ ap₂ (λ (i j : ℕ). (returned (i ∷ j ∷ []), (tried X 0 word marks, tried X 1 word marks)))
        (no_difference X.n (word_of X marks) unmarked (word_of X word) c ∙ sym (ap (λ (y : Answer × List ℕ). get_or y.0.values 0 0) r)) shown
        ∙ ap₂ (λ (y z : List ℕ). (returned (count ∷ 0 ∷ []), (y, z))) (both 0 (omega arith)) (both 1 (omega arith))
