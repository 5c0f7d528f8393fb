-- Words one after the other, each decoded into its own bytes.
--
--   DecodedSome      the first words are done, and the bytes after them are as they were
--   some_more, some_end      one more, all
--   out_room         there is room for each
use mathlib.Core.Path.{◌≡◌, sym, ap, ◌∙◌, subst}
use Rattle.std.specs.Prelude.{Option, None}
use mathlib.Core.List.{List}
use Prim.Native.Nat.{ℕ, ◌+◌, ◌*◌, ◌≤◌, ◌<◌}
use native.Mathlib.Nat.{suc-mul}
use native.Mathlib.Numerals.{add-one}
use native.Mathlib.Decide.{ℕ_discrete}
use native.Mathlib.Omega.{arith}
use lib.ListN.{length, get_or, set, length-set}
use lib.Seq.{get_or-set_same, get_or-set_other}
use Rattle.decoder.specs.Decode.{Decoded, verdict_as, part, Lined, DecodedEach}
use Rattle.decoder.proofs.Parts.{splice, splice_long, part_here, part_before, part_after, part_long, within, beside}

pub record DecodedSome (n sent t : ℕ) (reps : List ℕ) (size k : ℕ) (words before : List ℕ) (verdicts_before : List (Option ℕ)) (out : List ℕ) (verdicts : List (Option ℕ)) : Type 0 where
  pub long : length out ≡ length before
  pub verdicts_long : length verdicts ≡ length verdicts_before
  pub each : (j : ℕ) → j < k
      → Decoded n sent t reps (part (j * size) size words) (part (j * size) size before) (part (j * size) size out) (verdict_as (get_or verdicts j None))
  pub rest : (b m : ℕ) → k * size ≤ b → part b m out ≡ part b m before

module _ {n sent t : ℕ} {reps : List ℕ} (size k : ℕ) {words before out : List ℕ} {verdicts_before verdicts : List (Option ℕ)} (room : k * size + size ≤ length before)
    (f : DecodedSome n sent t reps size k words before verdicts_before out verdicts) (l : k < length verdicts) where
  more : (new : List ℕ) (v : Option ℕ) → length new ≡ size
      → Decoded n sent t reps (part (k * size) size words) (part (k * size) size out) new (verdict_as v)
      → DecodedSome n sent t reps size (k + 1) words before verdicts_before (splice (k * size) size new out) (set verdicts k v)
  more new v s y =
      let r : k * size + size ≤ length out = let q = f.long in omega arith in
      record {
        long = splice_long (k * size) size new out r s ∙ f.long;
        verdicts_long = length-set verdicts k v ∙ f.verdicts_long;
        each = λ j h. elim (ℕ_discrete j k) [
          | yes e ↦
              subst
              (λ (i : ℕ). Decoded n sent t reps (part (i * size) size words) (part (i * size) size before)
              (part (i * size) size (splice (k * size) size new out)) (verdict_as (get_or (set verdicts k v) i None))) (sym e)
              (subst
              (λ (w : Option ℕ). Decoded n sent t reps (part (k * size) size words) (part (k * size) size before)
              (part (k * size) size (splice (k * size) size new out)) (verdict_as w)) (sym (get_or-set_same verdicts k v None l))
              (subst
              (λ (p : List ℕ). Decoded n sent t reps (part (k * size) size words) (part (k * size) size before) p (verdict_as v))
              (sym (part_here (k * size) size new out r s))
              (subst (λ (p : List ℕ). Decoded n sent t reps (part (k * size) size words) p new (verdict_as v))
              (f.rest (k * size) size (omega arith)) y)))
          | no e ↦
              subst
              (λ (w : Option ℕ). Decoded n sent t reps (part (j * size) size words) (part (j * size) size before)
              (part (j * size) size (splice (k * size) size new out)) (verdict_as w)) (sym (get_or-set_other verdicts k j v None e))
              (subst
              (λ (p : List ℕ). Decoded n sent t reps (part (j * size) size words) (part (j * size) size before) p (verdict_as (get_or verdicts j None)))
              (sym (part_before (k * size) size new out r s (j * size) size (beside j k size (omega arith))))
              (f.each j (omega arith)))
        ];
        rest = λ b m h.
            let q : (k + 1) * size ≡ k * size + size = ap (λ (i : ℕ). i * size) (add-one k) ∙ suc-mul k size in
            part_after (k * size) size new out r s b m (omega arith) ∙ f.rest b m (omega arith);
      }

  -- as the code has it: the part's size q is its end less its start, and the call kept its length
  pub some_more : (q : ℕ) → q ≡ size → (new : List ℕ) (v : Option ℕ) → length new ≡ length (part (k * size) q out)
      → Decoded n sent t reps (part (k * size) q words) (part (k * size) q out) new (verdict_as v)
      → DecodedSome n sent t reps size (k + 1) words before verdicts_before (splice (k * size) q new out) (set verdicts k v)
  some_more q p new v s y =
      let r : k * size + size ≤ length out = let z = f.long in omega arith in
      rw p (more new v (rw p at s ∙ part_long (k * size) size out r) (rw p at y))

pub some_end : {n sent t : ℕ} {reps : List ℕ} (size k : ℕ) {words before out : List ℕ} {verdicts_before verdicts : List (Option ℕ)} → length verdicts ≤ k
    → DecodedSome n sent t reps size k words before verdicts_before out verdicts → DecodedEach n sent t reps size words before out verdicts
some_end size k h f = record { each = λ j l. f.each j (omega arith) }

-- ---- one of the words
module _ {n sent size count : ℕ} {words before : List ℕ} (w : Lined n sent size count words before) where
  pub out_room : (k : ℕ) → k < count → k * size + size ≤ length before
  out_room k h = within k count size (length before) h w.out_long
