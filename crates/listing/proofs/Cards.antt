-- What an entry that lists a sheet says, from what the writers leave. The conditions of the sheet's refusals, and what it states, are
-- those of any kind.
--
--   card_size           a buffer of another length
--   card_accepted       the listing of an accepted sheet is what `card_entry` says
--   card_refused        and so does that of a refused one
use mathlib.Core.Path.{◌≡◌, refl, sym, ap, ◌∙◌}
use mathlib.Core.Logic.{◌≢◌}
use mathlib.Core.Bool.{not}
use mathlib.Core.List.{List, [], ◌∷◌, ◌++◌}
use Prim.Native.Nat.{ℕ, zero, suc, ◌<◌}
use native.Mathlib.Omega.{arith}
use lib.Dec.{eqb}
use lib.ListN.{length, drop}
use borrow.Author.Tests.{eq-eqb, ne_eqb}
use Rattle.document.specs.Answer.{returned, refused, Conditions, first_of, settle_in, settle}
use Rattle.document.specs.Sheet.{Stated}
use Rattle.document.specs.Card.{accepted_lines, refused_line, listing_for, listing_of, card_conditions, card_entry}
use Rattle.document.proofs.Chain.{first_true, first_false}
use Rattle.listing.specs.Wrote.{Wrote}
use Rattle.listing.proofs.Writing.{piece_is, page}

module _ (room : ℕ) (sheet : Conditions) (x : Stated) where
  accepted_text : first_of sheet ≡ 0 → accepted_lines x ≡ listing_of sheet x
  unfolding listing_of listing_for
  accepted_text e = sym (ap (λ (r : ℕ). listing_for r x) e)

  for_refused : (r : ℕ) → 0 < r → listing_for r x ≡ refused_line r
  unfolding listing_for
  for_refused zero h = absurd (omega arith)
  for_refused (suc r) h = refl

  refused_text : (r : ℕ) → 0 < r → first_of sheet ≡ r → refused_line r ≡ listing_of sheet x
  unfolding listing_of
  refused_text r h e = sym (ap (λ (y : ℕ). listing_for y x) e ∙ for_refused r h)

  -- a buffer of another length
  pub card_size : (out : List ℕ) → length out ≢ room → (refused 11, out) ≡ card_entry room sheet x out
  unfolding card_entry card_conditions settle_in
  card_size out h =
      sym (ap (λ (y : ℕ). settle y (length (listing_of sheet x) ∷ []) (listing_of sheet x ++ drop (length (listing_of sheet x)) out) out)
      (first_true (11, not (eqb (length out) room)) [] (ap not (ne_eqb (length out) room h))))

  module _ {out out' : List ℕ} {r : ℕ} (h : length out ≡ room) where
    card : Wrote (listing_of sheet x) 0 out out' r → (returned (r ∷ []), out') ≡ card_entry room sheet x out
    unfolding card_entry card_conditions settle_in first_of
    card w =
        page w
        ∙ sym (ap (λ (y : ℕ). settle y (length (listing_of sheet x) ∷ []) (listing_of sheet x ++ drop (length (listing_of sheet x)) out) out)
        (first_false (11, not (eqb (length out) room)) [] (ap not (eq-eqb (length out) room h))))

    pub card_accepted : first_of sheet ≡ 0 → Wrote (accepted_lines x) 0 out out' r
        → (returned (r ∷ []), out') ≡ card_entry room sheet x out
    card_accepted e w = card (piece_is (accepted_text e) w)

    pub card_refused : (number : ℕ) → 0 < number → first_of sheet ≡ number → Wrote (refused_line number) 0 out out' r
        → (returned (r ∷ []), out') ≡ card_entry room sheet x out
    card_refused number p e w = card (piece_is (refused_text number p e) w)
