-- The listing of what an accepted sheet states, from the numbers that its writer is lent.
--
--   listed               the lines are those of the definition
use mathlib.Core.Path.{◌≡◌, refl, sym, ap, ap₂, ◌∙◌}
use mathlib.Core.List.{List, ◌++◌, map, flat_map}
use Prim.Native.Nat.{ℕ, zero, suc, ◌+◌, ◌-◌, ◌<◌}
use native.Mathlib.Omega.{arith}
use lib.ListN.{length, length-map}
use Rattle.field.specs.Field.{order_of_two}
use Rattle.document.specs.Sheet.{Certificate, Stated}
use Rattle.document.specs.Coset.{defining_set, dimension}
use Rattle.document.specs.Generator.{generator_poly}
use Rattle.document.specs.Certificate.{distance}
use Rattle.document.specs.Judge.{dimension_of}
use Rattle.document.specs.Card.{spaced, newline, code_line, zeros_line, generator_line, certificate_line, radius_line, accepted_lines}
use Rattle.document.specs.Card.{code_text, zeros_word, generator_word, certificate_text, radius_text}
use Rattle.sheet.specs.declared.types.Certificate.{Certificate as CodeCertificate}
use Rattle.sheet.specs.Stage.{certificate_as}
use Rattle.sheet.proofs.Reading.{held_certificate}
use Rattle.listing.specs.Wrote.{Wrote}
use Rattle.listing.specs.Text.{rows, code_texts, zeros_text, generator_text}
use Rattle.listing.specs.Accepted.{row_in, certificate_rows, Lists, PageListed}
use Rattle.listing.proofs.Writing.{piece_is}
use Rattle.listing.proofs.Members.{rows_flat, members_are, digits_are}

rows_same : (f g : ℕ → List ℕ) (n : ℕ) → ((i : ℕ) → i < n → f i ≡ g i) → rows f n ≡ rows g n
unfolding rows
rows_same f g zero h = refl
rows_same f g (suc n) h = ap₂ (λ (a b : List ℕ). a ++ b) (rows_same f g n (λ i l. h i (omega arith))) (h n (omega arith))

-- ---- what x states
module _ {x : Stated} {n k s working t : ℕ} {w : List CodeCertificate} {zeros g : List ℕ} (l : Lists x n k s working t w zeros g) where
  dimension_is : dimension_of x ≡ dimension x.n x.representatives
  unfolding dimension_of
  dimension_is = refl

  k_is : k ≡ dimension n x.representatives
  k_is = l.k_is ∙ dimension_is ∙ ap (λ (y : ℕ). dimension y x.representatives) (sym l.n_is)

  s_is : s ≡ order_of_two x.n
  s_is = l.s_is ∙ ap order_of_two l.n_is

  code_is : code_text n k s ≡ code_line x
  unfolding code_line
  code_is = ap (λ (y : ℕ). code_text y k s) l.n_is ∙ ap₂ (code_text x.n) l.k_is s_is

  zeros_is : zeros_text zeros n ≡ zeros_line x
  unfolding zeros_line
  zeros_is =
      ap (λ (y : List ℕ). zeros_word ++ y ++ newline)
      (members_are l.marks ∙ ap (λ (y : ℕ). flat_map spaced (defining_set y x.representatives)) l.n_is)

  generator_is : generator_text g (n - k) ≡ generator_line x
  unfolding generator_line
  generator_is =
      ap (λ (y : List ℕ). generator_word ++ y ++ newline)
      (digits_are l.length_stated x.representatives g l.holds (ap (λ (y : ℕ). n - y) k_is)
      ∙ ap (λ (y : ℕ). map (λ (c : ℕ). 48 + c) (generator_poly y x.representatives)) l.n_is)

  line_is : (i : ℕ) → row_in w i ≡ certificate_line x i
  unfolding certificate_line
  line_is i = ap (λ (c : Certificate). certificate_text i c.L (distance c)) (sym (held_certificate x w i (sym l.certificates_are)))

  count_is : length w ≡ length x.certificates
  count_is = sym (length-map w certificate_as) ∙ ap length l.certificates_are

  radius_is : radius_text t working ≡ radius_line x
  unfolding radius_line
  radius_is = ap₂ radius_text l.t_is l.working_is

  accepted_is : code_texts n k s zeros g ++ certificate_rows w ++ radius_text t working ≡ accepted_lines x
  unfolding accepted_lines
  accepted_is =
      ap₂ (λ (a b : List ℕ). a ++ b)
      (ap₂ (λ (a b : List ℕ). a ++ b)
      (ap₂ (λ (a b : List ℕ). a ++ b) (ap₂ (λ (a b : List ℕ). a ++ b) code_is zeros_is) generator_is)
      (rows_same (row_in w) (certificate_line x) (length w) (λ i h. line_is i) ∙ ap (rows (certificate_line x)) count_is
      ∙ rows_flat (certificate_line x) (length x.certificates)))
      radius_is

pub listed : {n k s working t : ℕ} {w : List CodeCertificate} {zeros g out out' : List ℕ} {r : ℕ}
    → Wrote (code_texts n k s zeros g ++ certificate_rows w ++ radius_text t working) 0 out out' r
    → PageListed n k s working t w zeros g out out' r
listed y = record { is = λ x l. piece_is (accepted_is l) y }
