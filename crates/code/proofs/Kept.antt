-- What the encoder keeps (2026-02), for every sheet of document 01's kind.
--
--   kept_is, kept_all  after each bit, the remainder of x^m times the bits taken so far; after all
--   taken_kept         it is what the code's register holds
--   kept_said          so for an accepted sheet's generator
--   encoded_said       after a message's last bit, what encoding writes below it
--   word_said         after a word's last place, 0 exactly for a codeword
use mathlib.Core.Path.{◌≡◌, sym, ap, ◌∙◌, subst}
use mathlib.Core.Logic.Iff
use mathlib.Core.Logic.{◌↔◌}
use mathlib.Core.Bool.{true}
use mathlib.Core.List.{List, [], ◌∷◌}
use Prim.Native.Nat.{ℕ, zero, suc, ◌+◌, ◌-◌, ◌*◌, ◌/◌, ◌%◌, ◌^◌, ◌≤◌, ◌<◌}
use native.Mathlib.Nat.{zero-mul, div-one, div-eq_of_lt}
use native.Mathlib.Omega.{arith}
use lib.ListN.{length}
use borrow.Author.Tests.{eq-eqb, eqb-true}
use Rattle.field.specs.Mask.{◌⊕◌, coefficient, remainder}
use Rattle.field.proofs.Xor.{digit_lt}
use Rattle.document.specs.Answer.{returned}
use Rattle.document.specs.Layout.{word_weight, message_weight, mask_of}
use Rattle.document.specs.Sheet.{Stated}
use Rattle.document.specs.Generator.{is_codeword}
use Rattle.document.specs.Judge.{dimension_of}
use Rattle.document.specs.Entry.{CodewordOf, generator_of, word_of}
use Rattle.document.specs.Short.{short, stated, encode_of}
use Rattle.codeword.proofs.Places.{mask_lt}
use Rattle.binary.specs.Packed.{TopHolds, Feedback, Taken}
use Rattle.binary.proofs.Feeding.{bits_more}
use Rattle.binary.proofs.Taking.{remainder_none, remainder_more, raised_more}
use Rattle.code.specs.Published.{IsAccepted, Bytes, Message, kept}
use Rattle.code.proofs.Tried.{codeword_said}
use Rattle.code.proofs.RoundTrip as RoundTrip
use Rattle.code.proofs.Worded.{encodes_said}

module _ (m g : ℕ) (top : g / 2 ^ m ≡ 1) (k a : ℕ) (h : a < 2 ^ k) where
  pub kept_is : (j : ℕ) → j ≤ k → kept m g k a j ≡ remainder m g (a / 2 ^ (k - j) * 2 ^ m)
  unfolding kept
  kept_is zero b =
      let e : k - 0 ≡ k = omega arith in
      sym
      (ap (λ (i : ℕ). remainder m g (a / 2 ^ i * 2 ^ m)) e ∙ ap (λ (y : ℕ). remainder m g (y * 2 ^ m)) (div-eq_of_lt h)
      ∙ ap (remainder m g) (zero-mul (2 ^ m)) ∙ remainder_none m g top)
  kept_is (suc j) b =
      let d : k - suc j ≡ k - j - 1 = omega arith in
      ap (λ (y : ℕ). remainder m g (y * 2 ⊕ coefficient (k - suc j) a * 2 ^ m)) (kept_is j (omega arith))
      ∙ remainder_more m g top (a / 2 ^ (k - j) * 2 ^ m) (coefficient (k - suc j) a * 2 ^ m)
      ∙ ap (remainder m g)
      (raised_more (a / 2 ^ (k - j)) (coefficient (k - suc j) a) m (digit_lt (a / 2 ^ (k - suc j)))
      ∙ ap (λ (y : ℕ). y * 2 ^ m)
      (ap (λ (i : ℕ). a / 2 ^ (k - j) * 2 + coefficient i a) d ∙ bits_more a (k - j) (omega arith) ∙ ap (λ (i : ℕ). a / 2 ^ i) (sym d)))

  -- all bits
  pub kept_all : kept m g k a k ≡ remainder m g (a * 2 ^ m)
  kept_all =
      let e : k - k ≡ 0 = omega arith in
      kept_is k (omega arith) ∙ ap (λ (i : ℕ). remainder m g (a / 2 ^ i * 2 ^ m)) e ∙ ap (λ (y : ℕ). remainder m g (y * 2 ^ m)) (div-one a)

  pub taken_kept : (j : ℕ) → j ≤ k → {f r : List ℕ} → Feedback m g f → Taken a (k - j) f r → TopHolds m (kept m g k a j) r
  taken_kept j b {f} {r} d t = subst (λ (x : ℕ). TopHolds m x r) (sym (kept_is j b)) (t.holds d)

module _ (sheet : List ℕ) (e : IsAccepted sheet) where
  abbrev x : Stated
  x = stated sheet

  abbrev m : ℕ
  m = x.n - dimension_of x

  top : generator_of x / 2 ^ m ≡ 1
  top = RoundTrip.generator_top short sheet (omega arith) e

  pub kept_said : (k a j : ℕ) → a < 2 ^ k → j ≤ k
      → kept m (generator_of x) k a j ≡ remainder m (generator_of x) (a / 2 ^ (k - j) * 2 ^ m)
  kept_said k a j h b = kept_is m (generator_of x) top k a h j b

  pub encoded_said : (message out : List ℕ) → Message x message → Bytes message → length out ≡ (x.n + 7) / 8
      → (word : List ℕ) × (encode_of sheet message out ≡ (returned (0 ∷ []), word))
      × (word_of x word % 2 ^ m ≡ kept m (generator_of x) (dimension_of x) (mask_of message_weight (dimension_of x) message) (dimension_of x))
  encoded_said message out p small l =
      let w = encodes_said sheet e message out p small l in (
        w.0,
        w.1,
        w.2.low ∙ sym (kept_all m (generator_of x) top (dimension_of x) (mask_of message_weight (dimension_of x) message) (mask_lt message_weight (dimension_of x) message)),
      )

  zero_iff : (c : ℕ) → c < 2 ^ x.n → (is_codeword m (generator_of x) c ≡ true) ↔ (kept m (generator_of x) x.n c x.n ≡ 0)
  unfolding is_codeword
  zero_iff c h =
      let is : is_codeword m (generator_of x) (c * 2 ^ m) ≡ is_codeword m (generator_of x) c = RoundTrip.codeword_raised short sheet (omega arith) e m c in (
        λ t. kept_all m (generator_of x) top x.n c h ∙ eqb-true (remainder m (generator_of x) (c * 2 ^ m)) 0 (is ∙ t),
        λ z. sym is ∙ eq-eqb (remainder m (generator_of x) (c * 2 ^ m)) 0 (sym (kept_all m (generator_of x) top x.n c h) ∙ z),
      )

  pub word_said : (word : List ℕ) → CodewordOf x (word_of x word) ↔ (kept m (generator_of x) x.n (word_of x word) x.n ≡ 0)
  word_said word = Iff.trans (Iff.symm (codeword_said sheet word)) (zero_iff (word_of x word) (mask_lt word_weight x.n word))
