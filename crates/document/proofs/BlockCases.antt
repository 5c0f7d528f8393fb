-- Blocks of words (2026-07): rows on sheets H and E, on one with words of two bytes, and on one for m = 16, that the definition holds.
-- They are said of the entry as it is defined; rule 3 is computed by what Tested.antt shows it to be.
--
--   BlockEntry, block_by      the entry, by the conditions of a sheet
--   block_tested            it answers the same by the test that can be computed
--   blocks_hold             the rows: each with the misreading that it catches
use mathlib.Core.Path.{◌≡◌, refl, ap, ◌∙◌, fun_ext}
use mathlib.Core.List.{List, [], ◌∷◌, ◌++◌}
use Prim.Native.Nat.{ℕ}
use lib.ListN.{replicate}
use Rattle.document.specs.Answer.{Answer, Conditions}
use Rattle.document.specs.Block.{depth_conditions, block_word, part_decoded, verdict_for, block_output, block_verdicts, block_conditions, block_entry}
use Rattle.document.specs.Short.{stated, decode_block_of}
use Rattle.document.proofs.Tested.{tested_of}
use Rattle.document.proofs.Cases.{definitions, sheet_of, one_certificate, sheetH, sheetE}
use Rattle.document.proofs.ShortenedCases.{tested_between}

-- ---- the entry, by the conditions of a sheet
abbrev BlockReply : Type 0
BlockReply = Answer × (List ℕ × List ℕ)

abbrev BlockEntry : Type 0
BlockEntry = List ℕ → ℕ → List ℕ → List ℕ → List ℕ → BlockReply

abbrev block_by : (List ℕ → Conditions) → BlockEntry
block_by R = λ sheet m block out verdicts. block_entry (R sheet ++ depth_conditions m) m (stated sheet) block out verdicts

abbrev documented : BlockEntry
documented = decode_block_of

block_tested : documented ≡ block_by tested_of
unfolding block_entry
block_tested =
    fun_ext (λ sheet. fun_ext (λ m. fun_ext (λ block. fun_ext (λ out. fun_ext (λ verdicts.
    tested_between sheet (depth_conditions m) (block_conditions m (stated sheet) block out verdicts) _ _ (out, verdicts))))))

-- n = 9, representatives 0 1: k 2, d 6, t 2, and two bytes for a word
sheet_nine : List ℕ
sheet_nine = one_certificate 9 (0 ∷ 1 ∷ []) 7 1 3 1 5

-- n = 3, representative 1: k 1, d 3, t 1
sheet_three : List ℕ
sheet_three = one_certificate 3 (1 ∷ []) 1 1 3 1 2

-- ---- the rows: the number, what is returned, the output and the verdicts. On sheet H the words sent are 11, 44 and 127,
-- in bytes D0, 34 and FE.
module _ (E : BlockEntry) where
  all : BlockReply → List ℕ
  all r = r.0.number ∷ r.0.values ++ r.1.0 ++ r.1.1

  number : BlockReply → List ℕ
  number r = r.0.number ∷ []

  two : List ℕ → ℕ → List ℕ → List ℕ
  two sheet m block = all (E sheet m block (0xAA ∷ 0x55 ∷ []) (7 ∷ 9 ∷ []))

  three : List ℕ → List ℕ
  three block = all (E sheetH 3 block (0xAA ∷ 0x55 ∷ 0x33 ∷ []) (7 ∷ 8 ∷ 9 ∷ []))

  nine : List ℕ → List ℕ
  nine block = all (E sheet_nine 2 block (0xAA ∷ 0x55 ∷ 0x33 ∷ 0xCC ∷ []) (7 ∷ 9 ∷ []))

  rows : List (List ℕ)
  rows =
      two sheetH 2 (0xA7 ∷ 0x10 ∷ [])  -- bit i·n + j for place j of word i; bits low first; the last word first
      ∷ two sheetH 2 (0xA3 ∷ 0x10 ∷ [])  -- one verdict for the whole block: it is 0 and 1
      ∷ two sheetH 2 (0x67 ∷ 0x10 ∷ [])  -- two neighbouring bits, the first ones, taken for two places of one word
      ∷ two sheetH 2 (0xA6 ∷ 0x90 ∷ [])  -- from one byte to the next
      ∷ two sheetH 2 (0xA7 ∷ 0x1C ∷ [])  -- the last ones
      ∷ two sheetH 2 (0xA0 ∷ 0x10 ∷ [])  -- three: the second word's two wrong places are taken for one of another codeword
      ∷ three (0xB5 ∷ 0xF2 ∷ 0xC8 ∷ [])  -- m = 3, 21 bits
      ∷ three (0xB4 ∷ 0x32 ∷ 0xC8 ∷ [])  -- three neighbouring bits, from one byte to the next, and the last ones
      ∷ three (0xB5 ∷ 0xF2 ∷ 0xF0 ∷ [])
      ∷ two (sheetE 3) 2 (0xA5 ∷ 0x40 ∷ [])  -- 13 for the block; the first word's bytes cleared, or the received word left; 13, 0 or t + 1 for 255
      ∷ two (sheetE 3) 2 (0xDA ∷ 0x80 ∷ [])  -- so of the second word; a spare bit of the output refused
      ∷ two (sheetE 3) 2 (0xA0 ∷ 0x50 ∷ [])  -- 13 where none comes back
      ∷ nine (0xE7 ∷ 0xE6 ∷ 0x40 ∷ [])  -- as many bytes of output as of the block, 3; word i from byte i on; a verdict of 1 for any change
      ∷ nine (0xF6 ∷ 0x8A ∷ 0x00 ∷ [])  -- one byte of a word with none near kept, of two; the second word's, and the first's
      ∷ nine (0xBC ∷ 0x51 ∷ 0x00 ∷ [])
      ∷ all (E sheet_three 16 (0xA2 ∷ 0xC3 ∷ 0x5D ∷ 0x3C ∷ 0xA5 ∷ 0x3C ∷ []) (replicate 16 0x11) (replicate 16 9))  -- m = 16 refused
      ∷ all (E sheetH 0 [] [] [])  -- m = 0, with right lengths
      ∷ all (E sheetH 1 (0 ∷ []) (0xAA ∷ []) (7 ∷ []))  -- m = 1
      ∷ number (E sheet_three 17 (replicate 7 0) (replicate 17 0) (replicate 17 0))  -- m = 17
      ∷ two sheetH 0 (0 ∷ [])  -- with wrong ones
      ∷ two sheetH 1 (0 ∷ 0 ∷ [])
      ∷ two sheetH 17 (0 ∷ 0 ∷ [])
      ∷ two sheetH 16 (0 ∷ 0 ∷ [])  -- m = 16 is none of them
      ∷ two (sheetE 4) 0 []  -- the sheet's refusal first
      ∷ two sheetH 2 (0xA7 ∷ [])  -- the block a byte short, and long
      ∷ two sheetH 2 (0xA7 ∷ 0x10 ∷ 0 ∷ [])
      ∷ all (E sheetH 2 (0xA7 ∷ 0x10 ∷ []) (0xAA ∷ []) (7 ∷ 9 ∷ []))  -- the output
      ∷ all (E sheetH 2 (0xA7 ∷ 0x10 ∷ []) (0xAA ∷ 0x55 ∷ 0x33 ∷ []) (7 ∷ 9 ∷ []))
      ∷ all (E sheetH 2 (0xA7 ∷ 0x10 ∷ []) (0xAA ∷ 0x55 ∷ []) (7 ∷ []))  -- the verdicts
      ∷ all (E sheetH 2 (0xA7 ∷ 0x10 ∷ []) (0xAA ∷ 0x55 ∷ []) (7 ∷ 8 ∷ 9 ∷ []))
      ∷ two sheetH 2 (0xA7 ∷ 0x12 ∷ [])  -- the first spare bit, and the last
      ∷ two sheetH 2 (0xA7 ∷ 0x11 ∷ [])
      ∷ three (0xB5 ∷ 0xF2 ∷ 0xCC ∷ [])  -- bit 21, of 3 spare ones
      ∷ all (E sheetH 2 (0xA7 ∷ 0x11 ∷ []) (0xAA ∷ 0x55 ∷ []) (7 ∷ []))  -- lengths before spare bits, that of the verdicts too
      ∷ []

expected : List (List ℕ)
expected =
    (0 ∷ 0 ∷ 0xD0 ∷ 0x34 ∷ 0 ∷ 0 ∷ [])
    ∷ (0 ∷ 0 ∷ 0xD0 ∷ 0x34 ∷ 0 ∷ 1 ∷ [])
    ∷ (0 ∷ 0 ∷ 0xD0 ∷ 0x34 ∷ 1 ∷ 1 ∷ [])
    ∷ (0 ∷ 0 ∷ 0xD0 ∷ 0x34 ∷ 1 ∷ 1 ∷ [])
    ∷ (0 ∷ 0 ∷ 0xD0 ∷ 0x34 ∷ 1 ∷ 1 ∷ [])
    ∷ (0 ∷ 0 ∷ 0xD0 ∷ 0x00 ∷ 1 ∷ 1 ∷ [])
    ∷ (0 ∷ 0 ∷ 0xD0 ∷ 0x34 ∷ 0xFE ∷ 0 ∷ 0 ∷ 0 ∷ [])
    ∷ (0 ∷ 0 ∷ 0xD0 ∷ 0x34 ∷ 0xFE ∷ 1 ∷ 1 ∷ 1 ∷ [])
    ∷ (0 ∷ 0 ∷ 0xD0 ∷ 0x34 ∷ 0xFE ∷ 1 ∷ 1 ∷ 1 ∷ [])
    ∷ (0 ∷ 0 ∷ 0xAA ∷ 0xB8 ∷ 255 ∷ 1 ∷ [])
    ∷ (0 ∷ 0 ∷ 0xB8 ∷ 0x55 ∷ 0 ∷ 255 ∷ [])
    ∷ (0 ∷ 0 ∷ 0xAA ∷ 0x55 ∷ 255 ∷ 255 ∷ [])
    ∷ (0 ∷ 0 ∷ 0xDB ∷ 0x00 ∷ 0xB6 ∷ 0x80 ∷ 2 ∷ 2 ∷ [])
    ∷ (0 ∷ 0 ∷ 0xDB ∷ 0x00 ∷ 0x33 ∷ 0xCC ∷ 0 ∷ 255 ∷ [])
    ∷ (0 ∷ 0 ∷ 0xAA ∷ 0x55 ∷ 0x6D ∷ 0x80 ∷ 255 ∷ 1 ∷ [])
    ∷ (0 ∷ 0 ∷ 0xE0 ∷ 0 ∷ 0xE0 ∷ 0 ∷ 0 ∷ 0xE0 ∷ 0 ∷ 0xE0 ∷ 0 ∷ 0 ∷ 0xE0 ∷ 0xE0 ∷ 0xE0 ∷ 0xE0 ∷ 0 ∷ 0 ∷ replicate 16 1)
    ∷ (17 ∷ [])
    ∷ (17 ∷ 0xAA ∷ 7 ∷ [])
    ∷ (17 ∷ [])
    ∷ (17 ∷ 0xAA ∷ 0x55 ∷ 7 ∷ 9 ∷ [])
    ∷ (17 ∷ 0xAA ∷ 0x55 ∷ 7 ∷ 9 ∷ [])
    ∷ (17 ∷ 0xAA ∷ 0x55 ∷ 7 ∷ 9 ∷ [])
    ∷ (11 ∷ 0xAA ∷ 0x55 ∷ 7 ∷ 9 ∷ [])
    ∷ (10 ∷ 0xAA ∷ 0x55 ∷ 7 ∷ 9 ∷ [])
    ∷ (11 ∷ 0xAA ∷ 0x55 ∷ 7 ∷ 9 ∷ [])
    ∷ (11 ∷ 0xAA ∷ 0x55 ∷ 7 ∷ 9 ∷ [])
    ∷ (11 ∷ 0xAA ∷ 7 ∷ 9 ∷ [])
    ∷ (11 ∷ 0xAA ∷ 0x55 ∷ 0x33 ∷ 7 ∷ 9 ∷ [])
    ∷ (11 ∷ 0xAA ∷ 0x55 ∷ 7 ∷ [])
    ∷ (11 ∷ 0xAA ∷ 0x55 ∷ 7 ∷ 8 ∷ 9 ∷ [])
    ∷ (12 ∷ 0xAA ∷ 0x55 ∷ 7 ∷ 9 ∷ [])
    ∷ (12 ∷ 0xAA ∷ 0x55 ∷ 7 ∷ 9 ∷ [])
    ∷ (12 ∷ 0xAA ∷ 0x55 ∷ 0x33 ∷ 7 ∷ 8 ∷ 9 ∷ [])
    ∷ (11 ∷ 0xAA ∷ 0x55 ∷ 7 ∷ [])
    ∷ []

computed : rows (block_by tested_of) ≡ expected
unfolding rows expected all number two three nine sheet_nine sheet_three sheetH sheetE one_certificate sheet_of definitions block_word part_decoded verdict_for
    block_output block_verdicts block_conditions block_entry
computed = refl

blocks_hold : rows documented ≡ expected
blocks_hold = ap rows block_tested ∙ computed
