-- Both trials decoded, with their verdicts, answer what the definition says.
--
--   passed?        whether a decoded trial word is the answer
--   marked_is      the reply, by the test of each trial
use mathlib.Core.Path.{◌≡◌, refl, sym, ap, ◌∙◌, subst}
use mathlib.Core.List.{List, []}
use Rattle.std.specs.Prelude.{Option, Some, None}
use Rattle.std.proofs.lemmas.Option.{none-some}
use Prim.Native.Nat.{ℕ, ◌+◌, ◌-◌, ◌*◌, ◌<◌}
use native.Mathlib.Nat.{zero-mul, one-mul}
use native.Mathlib.Decide.{dec_lt}
use native.Mathlib.Omega.{arith}
use lib.ListN.{length, get_or, take}
use Rattle.document.specs.Answer.{Answer}
use Rattle.document.specs.Sheet.{Stated}
use Rattle.document.specs.Entry.{decode_entry}
use Rattle.document.specs.Marked.{distance_of, trial_word, marked_entry}
use Rattle.certificate.proofs.Shortening.{unshortened}
use Rattle.decoder.specs.Decode.{States, Decoded, verdict_as, part, DecodedEach}
use Rattle.decoder.specs.Marked.{TrialsWritten, marks_in, unmarked_in, Passed, TrialsShown, Markable, MarkedDecoded}
use Rattle.decoder.proofs.Trying.{trial_bytes, zeros_part, ones_part}
use Rattle.decoder.proofs.Shown.{shown_zeros, shown_ones, shown_none}

passed? : (d : ℕ) (verdict : Option ℕ) (word marks decoded : List ℕ) → Dec (Passed d verdict word marks decoded)
passed? d None word marks decoded = no (λ p. p.near refl)
passed? d (Some m) word marks decoded =
    elim (dec_lt (2 * unmarked_in word marks decoded + marks_in marks) d) [
      | yes l ↦ yes (record { near = λ e. none-some m (sym e); within = l })
      | no l ↦ no (λ p. l p.within)
    ]

module _ {n t d : ℕ} {reps word marks zeros ones trials out decoded : List ℕ} {verdicts : List (Option ℕ)} {reply : Answer × (List ℕ × List ℕ)}
    (m : Markable n word marks zeros ones) (w : TrialsWritten word marks trials) (mb : (k : ℕ) → get_or marks k 0 < 256)
    (tb : (k : ℕ) → get_or trials k 0 < 256) (l : length verdicts ≡ 2) (o : out ≡ trials)
    (y : DecodedEach n n t reps (length word) trials out decoded verdicts)
    (s : TrialsShown word marks decoded zeros ones d (get_or verdicts 0 None) (get_or verdicts 1 None) reply) where
  abbrev size : ℕ
  size = length word

  -- of part k, which starts at `at`
  each : (k at : ℕ) → k < length verdicts → k * size ≡ at
      → Decoded n n t reps (part at size trials) (part at size trials) (part at size decoded) (verdict_as (get_or verdicts k None))
  each k at h e =
      subst
      (λ (i : ℕ). Decoded n n t reps (part i size trials) (part i size trials) (part i size decoded) (verdict_as (get_or verdicts k None))) e
      (subst
      (λ (b : List ℕ). Decoded n n t reps (part (k * size) size trials) (part (k * size) size b) (part (k * size) size decoded)
      (verdict_as (get_or verdicts k None))) o (y.each k h))

  first : Decoded n n t reps (trial_bytes n 0 word marks) (trial_bytes n 0 word marks) (take size decoded) (verdict_as (get_or verdicts 0 None))
  first =
      subst (λ (p : List ℕ). Decoded n n t reps p p (take size decoded) (verdict_as (get_or verdicts 0 None))) (zeros_part m w mb tb)
      (each 0 0 (omega (arith, l)) (zero-mul size))

  second : Decoded n n t reps (trial_bytes n 1 word marks) (trial_bytes n 1 word marks) (part size size decoded) (verdict_as (get_or verdicts 1 None))
  second =
      subst (λ (p : List ℕ). Decoded n n t reps p p (part size size decoded) (verdict_as (get_or verdicts 1 None))) (ones_part m w mb tb)
      (each 1 size (omega (arith, l)) (one-mul size))

  module _ {x : Stated} (u : States x n t reps) (e : d ≡ distance_of x) where
    here : Markable x.n word marks zeros ones
    here = subst (λ (k : ℕ). Markable k word marks zeros ones) u.n_is m

    trial : (v : ℕ) → trial_bytes n v word marks ≡ trial_word x v word marks
    unfolding trial_word
    trial v = ap (λ (k : ℕ). trial_bytes k v word marks) u.n_is

    whole : n ≡ x.n - 0
    whole = omega (arith, u.n_is)

    e₀ : (verdict_as (get_or verdicts 0 None), take size decoded) ≡ decode_entry [] x (trial_word x 0 word marks) (trial_word x 0 word marks)
    e₀ = first.is x u 0 whole ∙ unshortened u.accepted (trial_bytes n 0 word marks) (trial_bytes n 0 word marks) ∙ ap (λ (p : List ℕ). decode_entry [] x p p) (trial 0)

    e₁ : (verdict_as (get_or verdicts 1 None), part size size decoded) ≡ decode_entry [] x (trial_word x 1 word marks) (trial_word x 1 word marks)
    e₁ = second.is x u 0 whole ∙ unshortened u.accepted (trial_bytes n 1 word marks) (trial_bytes n 1 word marks) ∙ ap (λ (p : List ℕ). decode_entry [] x p p) (trial 1)

    there : {v : Option ℕ} {b : List ℕ} → Passed d v word marks b → Passed (distance_of x) v word marks b
    there {v} {b} p = subst (λ (k : ℕ). Passed k v word marks b) e p

    back : {v : Option ℕ} {b : List ℕ} → Passed (distance_of x) v word marks b → Passed d v word marks b
    back {v} {b} p = subst (λ (k : ℕ). Passed k v word marks b) (sym e) p

    reply_is : reply ≡ marked_entry [] x word marks zeros ones
    reply_is =
        elim (passed? d (get_or verdicts 0 None) word marks (take size decoded)) [
          | yes p ↦ s.first p ∙ shown_zeros u.accepted here (get_or verdicts 0 None) (get_or verdicts 1 None) e₀ e₁ (there p)
          | no p ↦
              elim (passed? d (get_or verdicts 1 None) word marks (part size size decoded)) [
                | yes q ↦
                    (s.second p).shown q
                    ∙ shown_ones u.accepted here (get_or verdicts 0 None) (get_or verdicts 1 None) e₀ e₁ (λ z. p (back z)) (there q)
                | no q ↦
                    (s.second p).none q
                    ∙ shown_none u.accepted here (get_or verdicts 0 None) (get_or verdicts 1 None) e₀ e₁ (λ z. p (back z)) (λ z. q (back z))
              ]
        ]

  pub marked_is : MarkedDecoded n t d reps word marks zeros ones reply
  marked_is = record { is = λ x u e. reply_is u e }
