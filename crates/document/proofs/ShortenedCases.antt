-- Shortened codes (2026-06): rows on sheets H and E that the definitions hold. They are said of the entries as they are defined; rule 3 is
-- computed by what Tested.antt shows it to be.
--
--   tested_between                     an entry with conditions of a request between the sheet's and its own answers the same by that test
--   ShortenedReplies, shortened_by      the three entries, by the conditions of a sheet
--   shortened_tested                   they answer the same by the test that can be computed
--   shortened_hold                     the rows: each with the misreading that it catches
use mathlib.Core.Path.{◌≡◌, refl, sym, ap, ap₂, ◌∙◌, fun_ext}
use mathlib.Core.List.{List, [], ◌∷◌, ◌++◌, append_assoc}
use Prim.Native.Nat.{ℕ, ◌-◌}
use Rattle.document.specs.Answer.{Answer, Conditions, first_of, settle_in}
use Rattle.document.specs.Layout.{word_weight, message_weight, mask_of, bytes_of}
use Rattle.document.specs.Judge.{dimension_of}
use Rattle.document.specs.Shortened.{shortening_conditions, top_zero, encode_shortened_conditions, encoded_shortened, encode_shortened_entry}
use Rattle.document.specs.Shortened.{read_shortened_conditions, read_shortened_entry, shortened_message, decoded_shortened, decode_shortened_conditions}
use Rattle.document.specs.Shortened.{decode_shortened_entry}
use Rattle.document.specs.Short.{stated, refusals_of, encode_shortened_of, read_shortened_of, decode_shortened_of}
use Rattle.document.proofs.Tested.{tested_of, tested_first}
use Rattle.document.proofs.Cases.{definitions, sheet_of, one_certificate, sheetH, sheetE}

-- ---- the entries, by the conditions of a sheet
abbrev ShortenedCall : Type 0
ShortenedCall = List ℕ → ℕ → List ℕ → List ℕ → Answer × List ℕ

record ShortenedReplies : Type 0 where
  pub encode : ShortenedCall
  pub read : ShortenedCall
  pub decode : ShortenedCall

made : ShortenedCall → ShortenedCall → ShortenedCall → ShortenedReplies
made e r d = record { encode = e; read = r; decode = d }

abbrev shortened_by : (List ℕ → Conditions) → ShortenedReplies
shortened_by R = record {
  encode = λ sheet m message out. encode_shortened_entry (R sheet ++ shortening_conditions m (stated sheet)) m (stated sheet) message out;
  read = λ sheet m word out. read_shortened_entry (R sheet ++ shortening_conditions m (stated sheet)) m (stated sheet) word out;
  decode = λ sheet m word out. decode_shortened_entry (R sheet ++ shortening_conditions m (stated sheet)) m (stated sheet) word out;
}

abbrev documented : ShortenedReplies
documented = record { encode = encode_shortened_of; read = read_shortened_of; decode = decode_shortened_of }

pub tested_between : {B : Type 0} (sheet : List ℕ) (between own : Conditions) (v : List ℕ) (w old : B)
    → settle_in (first_of ((refusals_of sheet ++ between) ++ own)) v w old ≡ settle_in (first_of ((tested_of sheet ++ between) ++ own)) v w old
tested_between sheet between own v w old =
    ap (λ (r : ℕ). settle_in r v w old)
    (ap first_of (append_assoc (refusals_of sheet) between own) ∙ tested_first sheet (between ++ own)
    ∙ ap first_of (sym (append_assoc (tested_of sheet) between own)))

shortened_tested : documented ≡ shortened_by tested_of
unfolding encode_shortened_entry read_shortened_entry decode_shortened_entry made
shortened_tested =
    ap₂ (λ e r. made e r documented.decode)
    (fun_ext (λ sheet. fun_ext (λ m. fun_ext (λ message. fun_ext (λ out.
    tested_between sheet (shortening_conditions m (stated sheet)) (encode_shortened_conditions m (stated sheet) message out) _ _ out)))))
    (fun_ext (λ sheet. fun_ext (λ m. fun_ext (λ word. fun_ext (λ out.
    tested_between sheet (shortening_conditions m (stated sheet)) (read_shortened_conditions m (stated sheet) word out) _ _ out)))))
    ∙ ap (made (shortened_by tested_of).encode (shortened_by tested_of).read)
    (fun_ext (λ sheet. fun_ext (λ m. fun_ext (λ word. fun_ext (λ out.
    tested_between sheet (shortening_conditions m (stated sheet)) (decode_shortened_conditions m (stated sheet) word out) _ _ out)))))

-- ---- the rows: words and messages as masks; the number, what is returned, and the buffer, which holds FF before
module _ (E : ShortenedReplies) where
  encoded : List ℕ → ℕ → ℕ → List ℕ
  encoded sheet m message =
      let r = E.encode sheet m (bytes_of message_weight (dimension_of (stated sheet) - m) message) (255 ∷ []) in
      r.0.number ∷ r.0.values ++ (mask_of word_weight ((stated sheet).n - m) r.1 ∷ [])

  read_out : List ℕ → ℕ → ℕ → List ℕ
  read_out sheet m word =
      let r = E.read sheet m (bytes_of word_weight ((stated sheet).n - m) word) (255 ∷ []) in
      r.0.number ∷ r.0.values ++ (mask_of message_weight (dimension_of (stated sheet) - m) r.1 ∷ [])

  decoded : List ℕ → ℕ → ℕ → List ℕ
  decoded sheet m word =
      let r = E.decode sheet m (bytes_of word_weight ((stated sheet).n - m) word) (255 ∷ []) in
      r.0.number ∷ r.0.values ++ (mask_of word_weight ((stated sheet).n - m) r.1 ∷ [])

  number : Answer × List ℕ → List ℕ
  number r = r.0.number ∷ []

  rows : List (List ℕ)
  rows =
      encoded sheetH 1 5  -- of k - 1 bits
      ∷ encoded sheetH 3 1  -- the largest m: one bit
      ∷ read_out sheetH 1 44
      ∷ read_out sheetH 1 10  -- no codeword
      ∷ decoded sheetH 1 40
      ∷ decoded sheetH 3 3
      ∷ decoded sheetH 3 5  -- within t of 69, a codeword whose top places are not 0
      ∷ decoded (sheetE 3) 1 28
      ∷ decoded (sheetE 3) 2 3
      ∷ number (E.encode sheetH 0 (1 ∷ []) (0 ∷ []))  -- m is 0
      ∷ number (E.encode sheetH 4 [] [])  -- m is k, before lengths
      ∷ number (E.read sheetH 5 (0 ∷ []) (0 ∷ []))  -- m is above k
      ∷ number (E.decode sheetH 4 [] (0 ∷ []))
      ∷ number (E.decode (sheetE 4) 0 [] [])  -- the sheet's refusal first
      ∷ number (E.encode sheetH 1 (8 ∷ []) (0 ∷ []))  -- a spare bit is one from k - m on
      ∷ number (E.read sheetH 1 (2 ∷ []) (0 ∷ []))  -- and from n - m on
      ∷ number (E.decode sheetH 1 (2 ∷ []) (0 ∷ []))
      ∷ number (E.encode sheetH 1 (8 ∷ []) [])  -- lengths before spare bits
      ∷ []

expected : List (List ℕ)
expected =
    (0 ∷ 0 ∷ 44 ∷ [])
    ∷ (0 ∷ 0 ∷ 11 ∷ [])
    ∷ (0 ∷ 0 ∷ 5 ∷ [])
    ∷ (14 ∷ 7 ∷ [])
    ∷ (0 ∷ 1 ∷ 44 ∷ [])
    ∷ (0 ∷ 1 ∷ 11 ∷ [])
    ∷ (13 ∷ 15 ∷ [])
    ∷ (0 ∷ 1 ∷ 29 ∷ [])
    ∷ (13 ∷ 31 ∷ [])
    ∷ (16 ∷ [])
    ∷ (16 ∷ [])
    ∷ (16 ∷ [])
    ∷ (16 ∷ [])
    ∷ (10 ∷ [])
    ∷ (12 ∷ [])
    ∷ (12 ∷ [])
    ∷ (12 ∷ [])
    ∷ (11 ∷ [])
    ∷ []

computed : rows (shortened_by tested_of) ≡ expected
unfolding rows expected encoded read_out decoded number sheetH sheetE one_certificate sheet_of definitions top_zero encode_shortened_conditions encoded_shortened
    encode_shortened_entry read_shortened_conditions read_shortened_entry shortened_message decoded_shortened decode_shortened_conditions decode_shortened_entry
computed = refl

shortened_hold : rows documented ≡ expected
shortened_hold = ap rows shortened_tested ∙ computed
