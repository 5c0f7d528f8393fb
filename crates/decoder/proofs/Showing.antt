-- What is shown, by the test of each trial.
--
--   ones_found      the ones, where the zeros are not the answer
--   zeros_found    both
use mathlib.Core.Path.{◌≡◌, ap, ap₂, ◌∙◌}
use mathlib.Core.List.{List, [], ◌∷◌}
use Rattle.std.specs.Prelude.{Option}
use Prim.Native.Nat.{ℕ}
use lib.ListN.{length, take}
use Rattle.document.specs.Answer.{Answer, returned}
use Rattle.decoder.specs.Decode.{part}
use Rattle.decoder.specs.Marked.{unmarked_in, Measured, OnesShown, TrialsShown}

module _ (word marks decoded zeros ones : List ℕ) (d : ℕ) where
  abbrev first : List ℕ
  first = take (length word) decoded

  abbrev second : List ℕ
  second = part (length word) (length word) decoded

  -- as the code has it: the part's size q is the rest of the bytes
  module _ {verdict : Option ℕ} (q : ℕ) (p : q ≡ length word) {answer : Answer} (y : Measured d verdict word marks (part (length word) q decoded) answer) where
    here : Measured d verdict word marks second answer
    here = rw p at y

    pub ones_found : {e : ℕ} {zeros' ones' : List ℕ} → answer ≡ returned (e ∷ []) → zeros' ≡ first → ones' ≡ part (length word) q decoded
        → OnesShown word marks decoded zeros ones d verdict (returned (e ∷ 1 ∷ []), (zeros', ones'))
    ones_found {e} {zeros'} {ones'} f z o =
        let m = here.found e f in
        record {
          shown = λ _.
              ap (λ (i : ℕ). (returned (i ∷ 1 ∷ []), (zeros', ones'))) m.1
              ∙ ap₂ (λ (a b : List ℕ). (returned (unmarked_in word marks second ∷ 1 ∷ []), (a, b))) z (rw p at o);
          none = λ s. absurd (s m.0);
        }

  module _ {verdict ones_verdict : Option ℕ} {answer : Answer} (y : Measured d verdict word marks first answer) where
    pub zeros_found : (q : ℕ) → q ≡ length word → {e : ℕ} {zeros' ones' : List ℕ} → answer ≡ returned (e ∷ []) → zeros' ≡ first
        → ones' ≡ part (length word) q decoded
        → TrialsShown word marks decoded zeros ones d verdict ones_verdict (returned (e ∷ 0 ∷ []), (zeros', ones'))
    zeros_found q p {e} {zeros'} {ones'} f z o =
        let m = y.found e f in
        record {
          first = λ _.
              ap (λ (i : ℕ). (returned (i ∷ 0 ∷ []), (zeros', ones'))) m.1
              ∙ ap₂ (λ (a b : List ℕ). (returned (unmarked_in word marks first ∷ 0 ∷ []), (a, b))) z (rw p at o);
          second = λ s. absurd (s m.0);
        }
