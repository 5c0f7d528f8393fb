-- What decoding with marked places is to find, and how far the trial words are from it: for what an accepted sheet states.
--
--   marked_only         at most one codeword has 2·e + r at most d - 1
--   marked_le, marked_found, marked_some, marked_none      `marked_message` finds it, or there is none
--   half_or_half        the marked places of any word hold at most r/2 ones, or at most r/2 zeros
--   zeros_near, ones_near      then the trial word of the zeros, or that of the ones, is within t places of it
use mathlib.Core.Path.{◌≡◌}
use mathlib.Core.Logic.{◌↔◌, ◌⊎◌, inl, inr}
use mathlib.Core.Bool.{Bool}
use mathlib.Core.List.{List}
use Prim.Native.Nat.{ℕ, ◌+◌, ◌-◌, ◌*◌, ◌^◌, ◌≤◌, ◌<◌}
use native.Mathlib.Decide.{ℕ_discrete, dec_lt}
use native.Mathlib.Omega.{arith}
use lib.Dec.{leb}
use borrow.Author.Tests.{leb-true, le-leb}
use Rattle.document.specs.Sheet.{Stated}
use Rattle.document.specs.Generator.{differences}
use Rattle.document.specs.Certificate.{radius}
use Rattle.document.specs.Judge.{dimension_of, working_of, working_certificate}
use Rattle.document.specs.Entry.{generator_of, radius_of, CodewordOf, word_of}
use Rattle.document.specs.Marked.{marked_ones, marked_zeros, trial_mask, distance_of, marks_count, unmarked_changed, WithinMarks}
use Rattle.document.specs.Marked.{marked_message, marked_word}
use Rattle.document.proofs.Sane.{distance_pos}
use Rattle.document.proofs.Searched.{found_le, found_some, found_is, found_none}
use Rattle.document.proofs.Marking.{halves, zeros_differ, ones_differ, between}
use Rattle.certificate.proofs.Sheets.{Accepted, accepted_length, working_lt, sheet_distance}

pub half_or_half : (x : Stated) (marks : List ℕ) (c : ℕ)
    → (2 * marked_ones x.n (word_of x marks) c ≤ marks_count x marks) ⊎ (2 * marked_zeros x.n (word_of x marks) c ≤ marks_count x marks)
half_or_half x marks c =
    elim (dec_lt (marks_count x marks) (2 * marked_ones x.n (word_of x marks) c)) [
      | yes h ↦ inr (omega (arith, halves x.n (word_of x marks) c))
      | no h ↦ inl (omega arith)
    ]

module _ {x : Stated} (a : Accepted x) (word marks : List ℕ) where
  abbrev n : ℕ
  n = x.n

  abbrev k : ℕ
  k = dimension_of x

  abbrev r : ℕ
  r = marks_count x marks

  abbrev reach : ℕ → ℕ
  reach c = 2 * unmarked_changed x word marks c + r

  abbrev most : ℕ
  most = distance_of x - 1

  abbrev passes : ℕ → Bool
  passes c = leb (reach c) most

  pub marked_only : {b c : ℕ} → CodewordOf x b → CodewordOf x c → WithinMarks x word marks b → WithinMarks x word marks c → b ≡ c
  unfolding working_certificate
  marked_only {b} {c} v w h j =
      elim (ℕ_discrete b c) [
        | yes q ↦ q
        | no q ↦
            absurd
            (omega (
              arith,
              sheet_distance a (working_of x) (working_lt a) v w q,
              between n (word_of x marks) (word_of x word) b c,
              distance_pos (working_certificate x),
            ))
      ]

  pub marked_le : marked_message x word marks ≤ 2 ^ k
  unfolding marked_message dimension_of generator_of
  marked_le = found_le (accepted_length a) x.representatives passes

  pub marked_found : {c : ℕ} → CodewordOf x c → WithinMarks x word marks c → (marked_message x word marks < 2 ^ k) × (marked_word x word marks ≡ c)
  unfolding marked_message marked_word dimension_of generator_of
  marked_found {c} w h =
      found_is (accepted_length a) x.representatives passes
      (λ b c v w i j. marked_only v w (leb-true (reach b) most i) (leb-true (reach c) most j)) w (le-leb (reach c) most h)

  pub marked_some : marked_message x word marks < 2 ^ k → CodewordOf x (marked_word x word marks) × WithinMarks x word marks (marked_word x word marks)
  unfolding marked_message marked_word dimension_of generator_of
  marked_some h =
      let w = found_some (accepted_length a) x.representatives passes h in
      (w.0, leb-true (reach (marked_word x word marks)) most w.1)

  pub marked_none : (marked_message x word marks ≡ 2 ^ k) ↔ ((c : ℕ) → CodewordOf x c → ¬ WithinMarks x word marks c)
  unfolding marked_message dimension_of generator_of
  marked_none =
      let f = found_none (accepted_length a) x.representatives passes in (
        λ e c w h. f.0 e c w (le-leb (reach c) most h),
        λ g. f.1 (λ c w h. g c w (leb-true (reach c) most h)),
      )

  -- ---- the trial words
  module _ (c : ℕ) (h : WithinMarks x word marks c) where
    pub zeros_near : 2 * marked_ones n (word_of x marks) c ≤ r
        → differences n (trial_mask n (word_of x marks) 0 (word_of x word)) c ≤ radius_of x
    unfolding radius_of radius
    zeros_near l = omega (arith, zeros_differ n (word_of x marks) (word_of x word) c)

    pub ones_near : 2 * marked_zeros n (word_of x marks) c ≤ r
        → differences n (trial_mask n (word_of x marks) 1 (word_of x word)) c ≤ radius_of x
    unfolding radius_of radius
    ones_near l = omega (arith, ones_differ n (word_of x marks) (word_of x word) c)
