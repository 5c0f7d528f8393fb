-- Blocks of words: 2026-07, "Drives that wipe out a run of bits", for a sheet of any kind. m is handed over: "A block carries m words". It is
-- the depth of interleaving.
--
--   wrong_depth, depth_conditions      17
--   block_places m x              how many bits of a block are no spare ones
--   block_word n m block i        word i of a block, as a mask; block_word_bytes: in word layout
--   own_bytes n i out             word i's own bytes of the output
--   part_decoded m x block out i  what decoding word i answers, and leaves in its own bytes
--   verdict_for, verdict_of        a verdict
--   block_output, block_verdicts   what both buffers hold afterwards
--   block_conditions, block_entry      11 and 12 in their order; answer, and the bytes of both buffers
-- "refusal 17, after the sheet's and before 11": what comes before 11 is handed to the entry as its conditions.
use Rattle.std.specs.Prelude.{Bool, not, ◌||◌, ℕ, zero, suc, ◌+◌, ◌*◌, ◌^◌, eqb, ltb, length, get_or, take, drop}
use mathlib.Core.List.{List, [], ◌∷◌, ◌++◌, map, flat_map}
use Rattle.field.specs.Search.{up_to, total}
use Rattle.document.specs.Answer.{Answer, Conditions, first_of, settle_in}
use Rattle.document.specs.Layout.{word_weight, bytes_for, place, bytes_of, spare}
use Rattle.document.specs.Sheet.{Stated}
use Rattle.document.specs.Entry.{wrong_size, decode_entry}

-- 17: "an m outside 2 to 16"
abbrev pub wrong_depth : ℕ → Bool
wrong_depth m = ltb m 2 || ltb 16 m

abbrev pub depth_conditions : ℕ → Conditions
depth_conditions m = (17, wrong_depth m) ∷ []

-- n places of each of m words
abbrev pub block_places : ℕ → Stated → ℕ
block_places m x = x.n * m

-- "bit j·m + i of the block is place j of word i, packed high bit first": bit p of a block stands where place p of a word does
unfoldable pub block_word : ℕ → ℕ → List ℕ → ℕ → ℕ
block_word n m block i = total n (λ j. place word_weight block (j * m + i) * 2 ^ j)

abbrev pub block_word_bytes : ℕ → ℕ → List ℕ → ℕ → List ℕ
block_word_bytes n m block i = bytes_of word_weight n (block_word n m block i)

-- "The output is m words long, one after the other in word layout"
abbrev pub own_bytes : ℕ → ℕ → List ℕ → List ℕ
own_bytes n i out = take (bytes_for n) (drop (i * bytes_for n) out)

-- "Each corrected word goes into its own bytes of the lent output; a word with no codeword within t leaves its bytes as they were": decoding
-- itself, whose 13 changes no byte
unfoldable pub part_decoded : ℕ → Stated → List ℕ → List ℕ → ℕ → Answer × List ℕ
part_decoded m x block out i = decode_entry [] x (block_word_bytes x.n m block i) (own_bytes x.n i out)

-- "A verdict byte for each word holds its changed places, or 255 for none near."
unfoldable pub verdict_for : ℕ → List ℕ → ℕ
verdict_for zero values = get_or values 0 0
verdict_for (suc r) values = 255

abbrev pub verdict_of : Answer → ℕ
verdict_of answer = verdict_for answer.number answer.values

unfoldable pub block_output : ℕ → Stated → List ℕ → List ℕ → List ℕ
block_output m x block out = flat_map (λ i. (part_decoded m x block out i).1) (up_to m)

unfoldable pub block_verdicts : ℕ → Stated → List ℕ → List ℕ → List ℕ
block_verdicts m x block out = map (λ i. verdict_of (part_decoded m x block out i).0) (up_to m)

-- ---- the entry. "The output is m words long", "and the verdicts m bytes. .. Buffer lengths and spare bits are 11 and 12": of the block, then
-- the output, then the verdicts
unfoldable pub block_conditions : ℕ → Stated → List ℕ → List ℕ → List ℕ → Conditions
block_conditions m x block out verdicts =
    (11, wrong_size (block_places m x) block)
    ∷ (11, not (eqb (length out) (m * bytes_for x.n)))
    ∷ (11, not (eqb (length verdicts) m))
    ∷ (12, spare word_weight (block_places m x) block)
    ∷ []

-- What is returned the request does not say: 0, as of encoding and reading out.
unfoldable pub block_entry : Conditions → ℕ → Stated → List ℕ → List ℕ → List ℕ → Answer × (List ℕ × List ℕ)
block_entry conditions m x block out verdicts =
    settle_in (first_of (conditions ++ block_conditions m x block out verdicts)) (0 ∷ [])
    (block_output m x block out, block_verdicts m x block out) (out, verdicts)
