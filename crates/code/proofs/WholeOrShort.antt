-- The exits of the entries on a whole code, or on one shortened by m, at a sheet of document 01's kind.
--
--   encode_refused, read_refused, decode_refused      a refused sheet
--   encode_wrong, read_wrong, decode_wrong      16 of an accepted one
--   encode_right, read_right, decode_right      an accepted one, and m is right
use mathlib.Core.Path.{◌≡◌, sym, ap, ◌∙◌}
use mathlib.Core.Bool.{Bool, ◌||◌}
use mathlib.Core.List.{List, []}
use Prim.Native.Nat.{ℕ}
use lib.Dec.{eqb, leb}
use Rattle.std.specs.Prelude.{Option, Some, None}
use Rattle.document.specs.declared.types.Refusal.{Refusal}
use Rattle.document.specs.Answer.{Answer, refused, number_of}
use Rattle.document.specs.Judge.{dimension_of}
use Rattle.document.specs.Shortened.{wrong_shortening, encode_shortened_entry, read_shortened_entry, decode_shortened_entry}
use Rattle.document.specs.Short.{stated, refusals_of, judge_of}
use Rattle.document.proofs.Chain.{Quiet}
use Rattle.certificate.proofs.Sheets.{Accepted}
use Rattle.certificate.proofs.Shortening.{unshortened}
use Rattle.code.specs.Stating.{UnsentPlaces, WrongUnsent, encode_for, read_for, decode_for}
use Rattle.code.proofs.Entries as Entries

module _ (sheet input out : List ℕ) (q : Refusal) (e : refused (number_of q) ≡ judge_of sheet) where
  pub encode_refused : (o : Option ℕ) → (refused (number_of q), out) ≡ encode_for o sheet input out
  encode_refused None = Entries.encode_sheet (refusals_of sheet) (stated sheet) input out q e
  encode_refused (Some m) = Entries.encode_short_sheet (refusals_of sheet) (stated sheet) m input out q e

  pub read_refused : (o : Option ℕ) → (refused (number_of q), out) ≡ read_for o sheet input out
  read_refused None = Entries.read_sheet (refusals_of sheet) (stated sheet) input out q e
  read_refused (Some m) = Entries.read_short_sheet (refusals_of sheet) (stated sheet) m input out q e

  pub decode_refused : (o : Option ℕ) → (refused (number_of q), out) ≡ decode_for o sheet input out
  decode_refused None = Entries.decode_sheet (refusals_of sheet) (stated sheet) input out q e
  decode_refused (Some m) = Entries.decode_short_sheet (refusals_of sheet) (stated sheet) m input out q e

-- ---- an accepted sheet, with its k
module _ (sheet input out : List ℕ) (quiet : Quiet (refusals_of sheet)) {k : ℕ} (d : k ≡ dimension_of (stated sheet)) where
  shortening_is : (m : ℕ) {b : Bool} → eqb m 0 || leb k m ≡ b → wrong_shortening m (stated sheet) ≡ b
  shortening_is m e = sym (ap (λ (i : ℕ). eqb m 0 || leb i m) d) ∙ e

  at_refusal : {q p : Refusal} → q ≡ p → {a : Answer × List ℕ} → (refused (number_of p), out) ≡ a → (refused (number_of q), out) ≡ a
  at_refusal e f = ap (λ (q : Refusal). (refused (number_of q), out)) e ∙ f

  pub encode_wrong : (o : Option ℕ) (q : Refusal) → WrongUnsent o k q → (refused (number_of q), out) ≡ encode_for o sheet input out
  encode_wrong None q h = absurd h
  encode_wrong (Some m) q h = at_refusal h.0 (Entries.encode_short_m (refusals_of sheet) (stated sheet) m input out quiet (shortening_is m h.1))

  pub read_wrong : (o : Option ℕ) (q : Refusal) → WrongUnsent o k q → (refused (number_of q), out) ≡ read_for o sheet input out
  read_wrong None q h = absurd h
  read_wrong (Some m) q h = at_refusal h.0 (Entries.read_short_m (refusals_of sheet) (stated sheet) m input out quiet (shortening_is m h.1))

  pub decode_wrong : (o : Option ℕ) (q : Refusal) → WrongUnsent o k q → (refused (number_of q), out) ≡ decode_for o sheet input out
  decode_wrong None q h = absurd h
  decode_wrong (Some m) q h = at_refusal h.0 (Entries.decode_short_m (refusals_of sheet) (stated sheet) m input out quiet (shortening_is m h.1))

  pub encode_right : (o : Option ℕ) (u : ℕ) → UnsentPlaces o k u → encode_shortened_entry [] u (stated sheet) input out ≡ encode_for o sheet input out
  encode_right None u h =
      ap (λ (i : ℕ). encode_shortened_entry [] i (stated sheet) input out) h ∙ Entries.unshortened_encoding (stated sheet) input out
      ∙ Entries.encode_accepted (refusals_of sheet) (stated sheet) input out quiet
  encode_right (Some m) u h =
      ap (λ (i : ℕ). encode_shortened_entry [] i (stated sheet) input out) h.0
      ∙ Entries.encode_short_accepted (refusals_of sheet) (stated sheet) m input out quiet (shortening_is m h.1)

  pub read_right : (o : Option ℕ) (u : ℕ) → UnsentPlaces o k u → read_shortened_entry [] u (stated sheet) input out ≡ read_for o sheet input out
  read_right None u h =
      ap (λ (i : ℕ). read_shortened_entry [] i (stated sheet) input out) h ∙ Entries.unshortened_reading (stated sheet) input out
      ∙ Entries.read_accepted (refusals_of sheet) (stated sheet) input out quiet
  read_right (Some m) u h =
      ap (λ (i : ℕ). read_shortened_entry [] i (stated sheet) input out) h.0
      ∙ Entries.read_short_accepted (refusals_of sheet) (stated sheet) m input out quiet (shortening_is m h.1)

  pub decode_right : Accepted (stated sheet) → (o : Option ℕ) (u : ℕ) → UnsentPlaces o k u
      → decode_shortened_entry [] u (stated sheet) input out ≡ decode_for o sheet input out
  decode_right a None u h =
      ap (λ (i : ℕ). decode_shortened_entry [] i (stated sheet) input out) h ∙ unshortened a input out
      ∙ Entries.decode_accepted (refusals_of sheet) (stated sheet) input out quiet
  decode_right a (Some m) u h =
      ap (λ (i : ℕ). decode_shortened_entry [] i (stated sheet) input out) h.0
      ∙ Entries.decode_short_accepted (refusals_of sheet) (stated sheet) m input out quiet (shortening_is m h.1)
