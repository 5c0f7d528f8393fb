-- The part of a trial buffer that is shown.
--
--   part_zeros, part_ones      the first bytes of either buffer, or all of a shorter one
use mathlib.Core.Path.{◌≡◌, sym, ap, ◌∙◌}
use mathlib.Core.Logic.{◌≢◌}
use mathlib.Core.Bool.{Bool, true, false}
use mathlib.Core.List.{List}
use Prim.Native.Nat.{ℕ, ◌≤◌}
use native.Mathlib.Decide.{dec_le}
use native.Mathlib.Omega.{arith}
use lib.ListN.{length, take}
use lib.Seq.{take_all}
use borrow.Author.Tests.{eq-eqb, ne_eqb}
use Rattle.std.specs.Prelude.{min}
use Rattle.std.specs.Int.{div_ceil}
use Rattle.document.specs.Layout.{bytes_for}
use Rattle.document.specs.Marked.{shown_of}

cut : (n k : ℕ) (b : List ℕ) → k ≡ min (div_ceil n 8) (length b) → take k b ≡ take (bytes_for n) b
unfolding bytes_for
cut n k b e = go (dec_le (bytes_for n) (length b))
  where
    go : Dec (bytes_for n ≤ length b) → take k b ≡ take (bytes_for n) b
    go (yes h) = ap (λ (m : ℕ). take m b) (omega arith)
    go (no h) = take_all k b (omega arith) ∙ sym (take_all (bytes_for n) b (omega arith))

unfoldable picked : ℕ → List ℕ → List ℕ → Bool → List ℕ
picked n zeros ones t = take (bytes_for n) (elim t as (λ _. List ℕ) [ true ↦ zeros | false ↦ ones ])

module _ (trial n : ℕ) (zeros ones : List ℕ) {b : List ℕ} {k : ℕ} (e : k ≡ min (div_ceil n 8) (length b)) where
  pub part_zeros : trial ≡ 0 → b ≡ zeros → take k b ≡ shown_of trial n zeros ones
  unfolding shown_of picked
  part_zeros z q = cut n k b e ∙ ap (take (bytes_for n)) q ∙ sym (ap (picked n zeros ones) (eq-eqb trial 0 z))

  pub part_ones : trial ≢ 0 → b ≡ ones → take k b ≡ shown_of trial n zeros ones
  unfolding shown_of picked
  part_ones z q = cut n k b e ∙ ap (take (bytes_for n)) q ∙ sym (ap (picked n zeros ones) (ne_eqb trial 0 z))
