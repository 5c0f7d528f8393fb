-- What decoding answers and writes, by its definition, in bytes: for every accepted sheet of any kind, received word and buffer of the right
-- length.
--
--   RightForm x word out      the lengths are right, and no spare bit is 1
--   decode_found      a codeword within t places is what decoding writes, with the number of changed places
--   decode_none       where there is none, 13, and the buffer as it was
--   found_or_none     one of the two, always
--   stated_found, stated_none, stated_either      the same of what is stated, whatever the sheet
use mathlib.Core.Path.{◌≡◌, refl, sym, ap, ◌∙◌}
use mathlib.Core.Logic.{◌⊎◌, inl, inr}
use mathlib.Core.Bool.{Bool, false}
use mathlib.Core.List.{List, [], ◌∷◌}
use Prim.Native.Nat.{ℕ, ◌^◌, ◌≤◌, ◌<◌}
use native.Mathlib.Decide.{ℕ_discrete}
use native.Mathlib.Omega.{arith}
use lib.Dec.{eqb}
use lib.ListN.{length}
use borrow.Author.Tests.{eq-eqb, ne_eqb}
use Rattle.document.specs.Answer.{Answer, returned, refused, Conditions, first_of}
use Rattle.document.specs.Layout.{word_weight, bytes_for, bytes_of, spare}
use Rattle.document.specs.Sheet.{Stated, Kind, stated_by}
use Rattle.document.specs.Judge.{judge_conditions, dimension_of}
use Rattle.document.specs.Entry.{wrong_size, radius_of, CodewordOf, changed, nearest_message, decoded_word, decode_conditions, decode_entry}
use Rattle.document.proofs.Chain.{Quiet, first_true, first_false}
use Rattle.document.proofs.Acceptance.{judge_by, judge_number, accepted_iff}
use Rattle.document.proofs.Settled.{entry_quiet, entry_refused, entry_done, first_nil, size_right}
use Rattle.certificate.proofs.Sheets.{Accepted, accepted, sheet_found, sheet_some, sheet_none, nearest_le}

pub record RightForm (x : Stated) (word out : List ℕ) : Type 0 where
  pub word_long : length word ≡ bytes_for x.n
  pub out_long : length out ≡ bytes_for x.n
  pub clear : spare word_weight x.n word ≡ false

-- ---- what is stated: the conditions of the sheet's refusals are quiet, and it states x
module _ {x : Stated} (a : Accepted x) {conditions : Conditions} (q : Quiet conditions) (word out : List ℕ) (r : RightForm x word out) where
  abbrev n : ℕ
  n = x.n

  abbrev none : Bool
  none = eqb (nearest_message x word) (2 ^ dimension_of x)

  before : first_of (decode_conditions x word out) ≡ first_of ((13, none) ∷ [])
  unfolding decode_conditions
  before =
      first_false (11, wrong_size n word) _ (size_right n word r.word_long)
      ∙ first_false (11, wrong_size n out) _ (size_right n out r.out_long)
      ∙ first_false (12, spare word_weight n word) _ r.clear

  pub stated_found : {c : ℕ} → CodewordOf x c → changed x word c ≤ radius_of x
      → (returned (changed x word c ∷ []), bytes_of word_weight n c) ≡ decode_entry conditions x word out
  unfolding decode_entry
  stated_found {c} w h =
      let f = sheet_found a word w h in
      ap (λ (y : ℕ). (returned (changed x word y ∷ []), bytes_of word_weight n y)) (sym f.1)
      ∙ entry_done (decode_conditions x word out) (changed x word (decoded_word x word) ∷ []) (bytes_of word_weight n (decoded_word x word)) out
      (before ∙ first_false (13, none) [] (ne_eqb (nearest_message x word) (2 ^ dimension_of x) (λ e. omega (arith, f.0, e))) ∙ first_nil)
      refl
      ∙ entry_quiet (decode_conditions x word out) (changed x word (decoded_word x word) ∷ []) (bytes_of word_weight n (decoded_word x word)) out q

  pub stated_none : ((c : ℕ) → CodewordOf x c → radius_of x < changed x word c) → (refused 13, out) ≡ decode_entry conditions x word out
  unfolding decode_entry
  stated_none f =
      entry_refused (decode_conditions x word out) (changed x word (decoded_word x word) ∷ []) (bytes_of word_weight n (decoded_word x word)) out 12
      (before ∙ first_true (13, none) [] (eq-eqb (nearest_message x word) (2 ^ dimension_of x) ((sheet_none a word).1 f)))
      ∙ entry_quiet (decode_conditions x word out) (changed x word (decoded_word x word) ∷ []) (bytes_of word_weight n (decoded_word x word)) out q

  -- a codeword within t places, and it is written with the number of changed places; or 13, and there is none
  pub stated_either :
      ((c : ℕ) × CodewordOf x c × (changed x word c ≤ radius_of x)
      × (decode_entry conditions x word out ≡ (returned (changed x word c ∷ []), bytes_of word_weight n c)))
      ⊎ (((c : ℕ) → CodewordOf x c → radius_of x < changed x word c) × (decode_entry conditions x word out ≡ (refused 13, out)))
  stated_either =
      elim (ℕ_discrete (nearest_message x word) (2 ^ dimension_of x)) [
        | yes e ↦ (let f = (sheet_none a word).0 e in inr (f, sym (stated_none f)))
        | no e ↦
            (let w = sheet_some a word (omega (arith, nearest_le a word, e)) in
            inl (decoded_word x word, w.0, w.1, sym (stated_found w.0 w.1)))
      ]

-- ---- a sheet's bytes
module _ (kind : Kind) (small : kind.most_places ≤ 65535) (sheet : List ℕ) (e : (judge_by kind sheet).number ≡ 0) (word out : List ℕ)
    (r : RightForm (stated_by kind sheet) word out) where
  abbrev x : Stated
  x = stated_by kind sheet

  abbrev decoding : Answer × List ℕ
  decoding = decode_entry (judge_conditions kind sheet) x word out

  a : Accepted x
  a = accepted kind small sheet (sym (judge_number kind sheet) ∙ e)

  quiet : Quiet (judge_conditions kind sheet)
  quiet = (accepted_iff kind sheet).0 e

  pub decode_found : {c : ℕ} → CodewordOf x c → changed x word c ≤ radius_of x
      → (returned (changed x word c ∷ []), bytes_of word_weight x.n c) ≡ decoding
  decode_found w h = stated_found a quiet word out r w h

  pub decode_none : ((c : ℕ) → CodewordOf x c → radius_of x < changed x word c) → (refused 13, out) ≡ decoding
  decode_none f = stated_none a quiet word out r f

  pub found_or_none :
      ((c : ℕ) × CodewordOf x c × (changed x word c ≤ radius_of x)
      × (decoding ≡ (returned (changed x word c ∷ []), bytes_of word_weight x.n c)))
      ⊎ (((c : ℕ) → CodewordOf x c → radius_of x < changed x word c) × (decoding ≡ (refused 13, out)))
  found_or_none = stated_either a quiet word out r
