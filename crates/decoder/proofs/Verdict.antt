-- From the marked places to the answer.
--
--   far_many      more than t places are marked: no codeword is near
--   far_other     the word with the marked places changed is no codeword: none is near either
--   close_here    it is one, and at most t are marked: it is the codeword, and so many places were changed
use mathlib.Core.Path.{◌≡◌, sym, ap, ◌∙◌}
use mathlib.Core.Bool.{true, false}
use mathlib.Core.List.{List}
use Prim.Native.Nat.{ℕ, ◌-◌, ◌^◌, ◌<◌}
use native.Mathlib.Decide.{dec_lt}
use native.Mathlib.Omega.{arith}
use Rattle.field.specs.Mask.{◌⊕◌}
use Rattle.field.specs.Field.{order_of_two}
use Rattle.field.proofs.Search.{true_ne_false}
use Rattle.field.proofs.Xor.{⊕-lt, ⊕-cancel}
use Rattle.field.proofs.Elements.{F}
use Rattle.cyclic.proofs.Places.{count}
use Rattle.cyclic.proofs.Certificate.{syndromes}
use Rattle.cyclic.proofs.Syndromes.{Syndromes}
use Rattle.cyclic.proofs.Decode.{ReceivedSyndromes, Final, PlacesMarked, located_is, repaired}
use Rattle.document.specs.Sheet.{Certificate}
use Rattle.document.specs.Coset.{dimension}
use Rattle.document.specs.Generator.{generator, is_codeword, Codeword, differences}
use Rattle.document.specs.Certificate.{radius}
use Rattle.document.proofs.Theory.{Length, code_of}
use Rattle.certificate.proofs.RulesHeld.{Sound, theory}
use Rattle.certificate.proofs.Distance.{near, differences_are}

module _ {n : ℕ} (l : Length n) (reps : List ℕ) (c : Certificate) (sound : Sound n reps c) where
  abbrev S : Syndromes (code_of l reps)
  S = syndromes (theory l reps c sound)

  module _ {r e : ℕ} {s : ℕ → F (order_of_two n)} (small : r < 2 ^ n) (rec : ReceivedSyndromes S r s) (z : Final S s) (marked : PlacesMarked S z.t e) where
    pub far_many : radius c < count n e → (x : ℕ) → Codeword n reps x → radius c < differences n r x
    far_many h x w = go (dec_lt (radius c) (differences n r x))
      where
        go : Dec (radius c < differences n r x) → radius c < differences n r x
        go (yes y) = y
        go (no y) =
            let q : e ≡ r ⊕ x = located_is S small (near l reps c sound w (omega arith)) rec z marked in
            let k : count n e ≡ differences n r x = ap (count n) q ∙ sym (differences_are n r x) in
            absurd (omega arith)

    pub far_other : is_codeword (n - dimension n reps) (generator n reps) (r ⊕ e) ≡ false → (x : ℕ) → Codeword n reps x
        → radius c < differences n r x
    far_other h x w = go (dec_lt (radius c) (differences n r x))
      where
        go : Dec (radius c < differences n r x) → radius c < differences n r x
        go (yes y) = y
        go (no y) =
            let q : x ≡ r ⊕ e = repaired S small (near l reps c sound w (omega arith)) rec z marked in
            absurd (true_ne_false w.is (ap (is_codeword (n - dimension n reps) (generator n reps)) q ∙ h))

    pub close_here : is_codeword (n - dimension n reps) (generator n reps) (r ⊕ e) ≡ true
        → Codeword n reps (r ⊕ e) × (count n e ≡ differences n r (r ⊕ e))
    close_here h = (
      record { small = ⊕-lt n r e small marked.small; is = h },
      ap (count n) (sym (⊕-cancel r e)) ∙ sym (differences_are n r (r ⊕ e)),
    )
