-- The twelve cases of document 01, "Known sheets and words", as one table that the definitions hold; the fourteen examples of
-- its table of refusals as a second, 12 and 14 as 2026-01 has them; near misses, sheets of 2026-03 and 2026-04 among
-- them; words with marked places (2026-05); and listings. They are said of the entries as they are defined; rule 3 is computed by what Tested.antt shows it to be.
--
--   sheetH, sheetE, sheetS, sheetB      the known sheets, in bytes
--   facts, encodes, decodes             what the definitions say, as numbers
--   said, expected, cases_hold          the twelve cases: what the definitions say is what document 01 says
--   refusals_hold                       the examples of "Refused, by number", 1 to 14, by their numbers
--   near_hold                           near misses: each row with the misreadings that it catches
--   before_hold                         rule 3 as it was refused the sheets of 2026-03
--   marked_hold                         decoding with marks (2026-05)
--   listings_hold                       the listing of sheet H and of four others, byte for byte
-- Where document 01 abbreviates an example of a refusal, the sheet is H with what is said changed.
use mathlib.Core.Path.{◌≡◌, refl, ap, ◌∙◌}
use mathlib.Core.Bool.{Bool}
use mathlib.Core.List.{List, [], ◌∷◌, ◌++◌, flat_map}
use Prim.Native.Nat.{ℕ, zero, suc, ◌+◌}
use lib.ListN.{length, get_or, set, replicate}
use Rattle.field.specs.Search.{least_from, least, up_to, keep, some, every, total}
use Rattle.field.specs.Mask.{◌⊕◌, size, product_below, clmul, divide_down, remainder}
use Rattle.field.specs.Field.{masks, mask, field_multiply, field_power, α, order_of_two}
use Rattle.binary.specs.Factor.{coprime, degree, divides, common, period, terms}
use Rattle.binary.specs.Independence.{value_modulo, independent}
use Rattle.document.specs.Answer.{Answer, first_of, settle_in}
use Rattle.document.specs.Layout.{word_weight, message_weight, bytes_for, place, mask_of, byte_of, bytes_of, spare}
use Rattle.document.specs.Sheet.{Certificate, certificate_at, stated_by, wrong_length, wrong_code_length, wrong_header}
use Rattle.document.specs.Coset.{in_coset, smallest, in_set, defining_set, dimension}
use Rattle.document.specs.Generator.{add_poly, times_root, root_product, generator_poly, mask_of_poly, generator, is_codeword}
use Rattle.document.specs.Generator.{encode_mask, message_of, differences, nearest}
use Rattle.document.specs.Certificate.{steps, ratio, extent, rule1, rule2, rule4, distance, radius, beats, working}
use Rattle.document.specs.Judge.{wrong_degree, wrong_representative, no_message, sheet_conditions}
use Rattle.document.specs.Judge.{dimension_of, working_of, working_certificate, record_of, judge_entry}
use Rattle.document.specs.Entry.{generator_of, radius_of, encode_conditions, encoded_word, encode_entry, read_conditions, read_entry}
use Rattle.document.specs.Entry.{nearest_message, decoded_word, decode_conditions, decode_entry}
use Rattle.document.specs.Marked.{marked_count, unmarked_differences, trial_place, trial_mask, marked_message, marked_word, trial_word, tried}
use Rattle.document.specs.Marked.{trial_shown, marked_conditions, marked_entry}
use Rattle.document.specs.Card.{decimal_in, decimal, code_line, zeros_line, generator_line, certificate_line, radius_line}
use Rattle.document.specs.Card.{refused_line, accepted_lines, listing_for, listing_of, card_conditions, card_entry}
use Rattle.document.specs.Short.{short, stated}
use Rattle.document.specs.OtherTest.{four_with, conditions_with}
use Rattle.document.proofs.Tested.{tested_of, Replies, replies_by, documented, replies_tested}

-- all definitions, for the lemmas that compute
unfoldable pub definitions : ℕ
unfolding least_from least up_to keep some every total ◌⊕◌ size product_below clmul divide_down remainder masks mask
    field_multiply field_power α order_of_two first_of settle_in word_weight message_weight bytes_for place mask_of byte_of bytes_of
    spare certificate_at stated_by in_coset smallest in_set defining_set dimension add_poly times_root root_product generator_poly
    mask_of_poly generator is_codeword encode_mask message_of differences nearest degree coprime divides common terms value_modulo
    independent steps ratio extent rule1 rule2 rule4 four_with conditions_with distance radius beats working wrong_length wrong_code_length wrong_degree wrong_header
    wrong_representative no_message sheet_conditions dimension_of working_of
    working_certificate record_of judge_entry generator_of radius_of encode_conditions encoded_word encode_entry read_conditions
    read_entry nearest_message decoded_word decode_conditions decode_entry flat_map marked_count unmarked_differences trial_place trial_mask
    marked_message marked_word trial_word tried trial_shown marked_conditions marked_entry
definitions = 0

-- a sheet of its numbers: n, representatives, certificates (b, z, f, h, L, all below 256)
unfoldable pub sheet_of : ℕ → List ℕ → List ℕ → ℕ → ℕ → List ℕ
sheet_of n reps certificate length_low count =
    length_low ∷ 0 ∷ n ∷ length reps ∷ 10 ∷ 0 ∷ count ∷ 0 ∷ (10 + length reps) ∷ 0 ∷ [] ++ reps ++ certificate

unfoldable pub one_certificate : ℕ → List ℕ → ℕ → ℕ → ℕ → ℕ → ℕ → List ℕ
one_certificate n reps b z f h L = sheet_of n reps (b ∷ z ∷ f ∷ 0 ∷ h ∷ 0 ∷ L ∷ 0 ∷ []) (18 + length reps) 1

-- "Sheet H: n = 7, representative 1, b 1, z 1, f 3, h 1, L 2."
unfoldable pub sheetH : List ℕ
sheetH = one_certificate 7 (1 ∷ []) 1 1 3 1 2

-- the bytes that document 01 gives
sheet_h_bytes : sheetH ≡ 0x13 ∷ 0x00 ∷ 0x07 ∷ 0x01 ∷ 0x0A ∷ 0x00 ∷ 0x01 ∷ 0x00 ∷ 0x0B ∷ 0x00 ∷ 0x01 ∷ 0x01 ∷ 0x01 ∷ 0x03 ∷ 0x00 ∷ 0x01 ∷ 0x00 ∷ 0x02 ∷ 0x00 ∷ []
unfolding sheetH one_certificate sheet_of
sheet_h_bytes = refl

-- "Sheet E: n = 7, representatives 0 1, b 0, z 1, f 3, h 1, L 3."
unfoldable pub sheetE : ℕ → List ℕ
sheetE L = one_certificate 7 (0 ∷ 1 ∷ []) 0 1 3 1 L

-- "Sheet S: n = 17, representative 1, b 13, z 1, f 7, h 3, L 9 (document 001)."
sheetS : ℕ → List ℕ
sheetS L = one_certificate 17 (1 ∷ []) 13 1 7 3 L

-- "Sheet B: n = 15, representatives 1 3, b 1, z 1, f 3, h 1, L 4."
sheetB : ℕ → List ℕ
sheetB L = one_certificate 15 (1 ∷ 3 ∷ []) 1 1 3 1 L

module _ (E : Replies) where
  -- k, d and t of the record, and the generator where it is asked for; or a refusal's number alone
  facts : List ℕ → List ℕ
  facts sheet = pick (E.judge sheet)
    where
      pick : Answer → List ℕ
      pick a = elim a.number [ zero ↦ get_or a.values 1 0 ∷ get_or a.values 4 0 ∷ get_or a.values 5 0 ∷ [] | suc r ↦ suc r ∷ [] ]

  -- the word of a message, both as masks
  encodes : List ℕ → ℕ → List ℕ
  encodes sheet message =
      let n : ℕ = (stated sheet).n in
      let k : ℕ = dimension_of (stated sheet) in
      let r = E.encode sheet (bytes_of message_weight k message) (replicate (bytes_for n) 0) in
      r.0.number ∷ mask_of word_weight n r.1 ∷ []

  -- the answer to a received word: its number, what is returned, and the word written
  decodes : List ℕ → ℕ → List ℕ
  decodes sheet received =
      let n : ℕ = (stated sheet).n in
      let r = E.decode sheet (bytes_of word_weight n received) (replicate (bytes_for n) 0) in
      r.0.number ∷ r.0.values ++ (mask_of word_weight n r.1 ∷ [])

  said : List (List ℕ)
  said =
      (generator_of (stated sheetH) ∷ facts sheetH)
      ∷ encodes sheetH 1
      ∷ encodes sheetH 2
      ∷ decodes sheetH 10
      ∷ decodes sheetH 1
      ∷ decodes sheetH 127
      ∷ (generator_of (stated (sheetE 3)) ∷ facts (sheetE 3) ++ facts (sheetE 4))
      ∷ decodes (sheetE 3) 3
      ∷ decodes (sheetE 3) 28
      ∷ facts (sheetS 9)
      ∷ facts (sheetS 10)
      ∷ (facts (sheetB 4) ++ facts (sheetB 5))
      ∷ []

expected : List (List ℕ)
expected =
    (11 ∷ 4 ∷ 3 ∷ 1 ∷ [])
    ∷ (0 ∷ 11 ∷ [])
    ∷ (0 ∷ 22 ∷ [])
    ∷ (0 ∷ 1 ∷ 11 ∷ [])
    ∷ (0 ∷ 1 ∷ 0 ∷ [])
    ∷ (0 ∷ 0 ∷ 127 ∷ [])
    ∷ (29 ∷ 3 ∷ 4 ∷ 1 ∷ 10 ∷ [])
    ∷ (13 ∷ 0 ∷ [])
    ∷ (0 ∷ 1 ∷ 29 ∷ [])
    ∷ (9 ∷ 5 ∷ 2 ∷ [])
    ∷ (10 ∷ [])
    ∷ (7 ∷ 5 ∷ 2 ∷ 10 ∷ [])
    ∷ []

cases_computed : said (replies_by tested_of) ≡ expected
unfolding said expected facts encodes decodes sheetH sheetE sheetS sheetB one_certificate sheet_of definitions
cases_computed = refl

cases_hold : said documented ≡ expected
cases_hold = ap said replies_tested ∙ cases_computed

-- ---- decoding with marks (2026-05), of words and marks as masks: the number, what is told, and both buffers, the zeros' of which holds AA
-- before, as a mask 85, and the ones' 55, 42
module _ (E : Replies) where
  marks : List ℕ → ℕ → ℕ → List ℕ
  marks sheet received marked =
      let n : ℕ = (stated sheet).n in
      let r = E.decode_marked sheet (bytes_of word_weight n received) (bytes_of word_weight n marked) (170 ∷ []) (85 ∷ []) in
      r.0.number ∷ r.0.values ++ (mask_of word_weight n r.1.0 ∷ mask_of word_weight n r.1.1 ∷ [])

  marked_rows : List (List ℕ)
  marked_rows =
      marks sheetH 10 1  -- both hold the answer
      ∷ marks sheetH 1 10  -- the ones do, and the zeros another codeword
      ∷ marks sheetH 11 7  -- r is d: both trial words are near a codeword, and none is the answer
      ∷ marks sheetH 10 0  -- no mark, as case 4
      ∷ marks (sheetE 3) 20 9  -- the ones do, and the zeros are near no codeword
      ∷ marks (sheetE 3) 29 98  -- d - 1 marks: the zeros do, and the ones are near no codeword
      ∷ marks (sheetE 3) 3 4  -- 2·e + r is d - 1
      ∷ marks (sheetE 3) 93 3  -- 2·e + r is d
      ∷ marks (sheetE 3) 3 0  -- no mark, as case 8
      ∷ ((E.decode_marked sheetH (1 ∷ []) (1 ∷ []) (0 ∷ []) []).0.number ∷ [])  -- a buffer's length before spare bits
      ∷ ((E.decode_marked sheetH (224 ∷ []) (1 ∷ []) (0 ∷ []) (0 ∷ [])).0.number ∷ [])  -- a spare bit of the marks
      ∷ []

marked_expected : List (List ℕ)
marked_expected =
    (0 ∷ 0 ∷ 0 ∷ 11 ∷ 11 ∷ [])
    ∷ (0 ∷ 0 ∷ 1 ∷ 0 ∷ 11 ∷ [])
    ∷ (15 ∷ 85 ∷ 42 ∷ [])
    ∷ (0 ∷ 1 ∷ 0 ∷ 11 ∷ 11 ∷ [])
    ∷ (0 ∷ 0 ∷ 1 ∷ 20 ∷ 29 ∷ [])
    ∷ (0 ∷ 0 ∷ 0 ∷ 29 ∷ 127 ∷ [])
    ∷ (0 ∷ 1 ∷ 1 ∷ 3 ∷ 39 ∷ [])
    ∷ (15 ∷ 85 ∷ 42 ∷ [])
    ∷ (15 ∷ 85 ∷ 42 ∷ [])
    ∷ (11 ∷ [])
    ∷ (12 ∷ [])
    ∷ []

marked_computed : marked_rows (replies_by tested_of) ≡ marked_expected
unfolding marked_rows marked_expected marks sheetH sheetE one_certificate sheet_of definitions
marked_computed = refl

marked_hold : marked_rows documented ≡ marked_expected
marked_hold = ap marked_rows replies_tested ∙ marked_computed

-- ---- the refusals
module _ (E : Replies) where
  judged : List ℕ → ℕ
  judged sheet = (E.judge sheet).number

  decoded : List ℕ → List ℕ → ℕ
  decoded sheet word = (E.decode sheet word (0 ∷ [])).0.number

  read_out : List ℕ → List ℕ → ℕ
  read_out sheet word = (E.read sheet word (0 ∷ [])).0.number

  refusals : List ℕ
  refusals =
      judged (9 ∷ 0 ∷ 7 ∷ 1 ∷ 10 ∷ 0 ∷ 1 ∷ 0 ∷ 11 ∷ [])  -- 9 bytes
      ∷ judged (one_certificate 129 (1 ∷ []) 1 1 3 1 2)  -- n = 129
      ∷ judged (one_certificate 19 (1 ∷ []) 1 1 3 1 2)  -- n = 19
      ∷ judged (set sheetH 7 1)  -- byte 7 is 01
      ∷ judged (one_certificate 7 (2 ∷ []) 1 1 3 1 2)  -- n = 7, representative 2
      ∷ judged (one_certificate 7 (0 ∷ 1 ∷ 3 ∷ []) 1 1 3 1 2)  -- n = 7, representatives 0 1 3
      ∷ judged (one_certificate 7 (1 ∷ []) 1 1 3 1 0)  -- L = 0
      ∷ judged (one_certificate 7 (1 ∷ []) 1 1 5 3 2)  -- f = 5, h = 3
      ∷ judged (one_certificate 21 (1 ∷ []) 1 1 7 1 2)  -- n = 21, f = 7, h = 1
      ∷ judged (sheetS 10)  -- n = 17, case 11 below
      ∷ decoded sheetH []  -- empty word
      ∷ decoded sheetH (0x01 ∷ [])  -- n = 7, word 01
      ∷ decoded (sheetE 3) (0xC0 ∷ [])  -- case 8 below
      ∷ read_out sheetH (0x80 ∷ [])  -- n = 7, representative 1, word 80
      ∷ []

refusals_computed : refusals (replies_by tested_of) ≡ 1 ∷ 2 ∷ 3 ∷ 4 ∷ 5 ∷ 6 ∷ 7 ∷ 8 ∷ 9 ∷ 10 ∷ 11 ∷ 12 ∷ 13 ∷ 14 ∷ []
unfolding refusals judged decoded read_out sheetH sheetE sheetS one_certificate sheet_of definitions
refusals_computed = refl

refusals_hold : refusals documented ≡ 1 ∷ 2 ∷ 3 ∷ 4 ∷ 5 ∷ 6 ∷ 7 ∷ 8 ∷ 9 ∷ 10 ∷ 11 ∷ 12 ∷ 13 ∷ 14 ∷ []
refusals_hold = ap refusals replies_tested ∙ refusals_computed

-- ---- near misses: rows that definitions a step away would get wrong. Beside each row stand the misreadings that it catches.
two_certificates : ℕ → List ℕ → List ℕ → List ℕ → List ℕ
two_certificates n reps c d = sheet_of n reps (c ++ d) (26 + length reps) 2

three_certificates : ℕ → List ℕ → List ℕ → List ℕ → List ℕ → List ℕ
three_certificates n reps c d e = sheet_of n reps (c ++ d ++ e) (34 + length reps) 3

certificate_of : ℕ → ℕ → ℕ → ℕ → ℕ → ℕ → List ℕ
certificate_of b z f high h L = b ∷ z ∷ f ∷ high ∷ h ∷ 0 ∷ L ∷ 0 ∷ []

-- n = 9, k = 8, with seven spare bits in a word and none in a message
nine : List ℕ
nine = one_certificate 9 (0 ∷ []) 0 1 3 1 1

module _ (E : Replies) where
  record_told : List ℕ → List ℕ
  record_told sheet = let a : Answer = E.judge sheet in a.number ∷ a.values

  answered : Answer × List ℕ → List ℕ
  answered r = r.0.number ∷ r.0.values ++ r.1

  near : List (List ℕ)
  near =
      record_told (one_certificate 7 (1 ∷ []) 0 1 3 1 2)  -- terms looked at from j = 1 on, or the last alone: 1 is in D, 0 is not
      ∷ record_told (one_certificate 7 (1 ∷ []) 1 2 3 1 2)  -- z left out, or multiplied by: the places are 1, 3, not 1, 2
      ∷ record_told (one_certificate 7 (1 ∷ []) 1 3 3 1 2)  -- no z but 1 admitted: the places 1, 4 are in D
      ∷ record_told (sheetS 8)  -- d rounded down: it is 4.5, so 5, and t is 2, not 1
      ∷ record_told (one_certificate 7 (0 ∷ 1 ∷ []) 0 1 31 8 1)  -- L below v refused, or d taken as 0 or from v - L: it is 1
      ∷ record_told (one_certificate 9 (0 ∷ []) 0 1 31 1 1)  -- f of degree 4 held to 2^4 - 1 = 15: its period is 5
      ∷ record_told (one_certificate 21 (1 ∷ []) 1 1 19 11 8)  -- the period alone looked at: that of f is 15, and no two f(α^i x) have a common factor
      ∷ record_told (one_certificate 21 (1 ∷ 3 ∷ 7 ∷ []) 14 5 19 7 15)  -- so with a step other than 1
      ∷ record_told (one_certificate 21 (1 ∷ []) 1 1 7 2 8)  -- 9 never drawn, or 10 tried before it: f is 7
      ∷ record_told (two_certificates 15 (1 ∷ 3 ∷ []) (certificate_of 1 1 3 0 1 2) (certificate_of 1 1 3 0 1 4))  -- the first at work whatever its d
      ∷ record_told (two_certificates 7 (1 ∷ []) (certificate_of 1 1 7 0 1 4) (certificate_of 1 1 3 0 1 2))  -- the first of the largest d at work, or that with the most terms: d is 3 and 3
      ∷ record_told (two_certificates 7 (1 ∷ []) (certificate_of 1 1 3 0 1 2) (certificate_of 1 1 7 0 1 4))  -- the last of the largest d at work
      ∷ record_told (two_certificates 7 (1 ∷ []) (certificate_of 1 1 3 0 1 2) (certificate_of 1 3 3 0 1 2))  -- the latest of equal ones
      ∷ record_told (two_certificates 15 (0 ∷ 1 ∷ 3 ∷ []) (certificate_of 1 1 3 0 1 4) (certificate_of 0 1 3 0 1 5))  -- the largest t in d's place, or fewest terms before it: d is 5 and 6, t is 2 and 2
      ∷ record_told (two_certificates 15 (0 ∷ 1 ∷ 3 ∷ []) (certificate_of 0 1 3 0 1 5) (certificate_of 1 1 3 0 1 4))  -- fewest terms before largest d, or next after largest t
      ∷ record_told (three_certificates 15 (0 ∷ 1 ∷ 3 ∷ []) (certificate_of 0 1 5 0 1 9) (certificate_of 0 1 3 0 1 5) (certificate_of 1 1 3 0 1 4))  -- the first, or the last, at work: d is 6, 6 and 5
      ∷ record_told (three_certificates 7 (1 ∷ []) (certificate_of 1 1 7 0 1 4) (certificate_of 1 1 3 0 1 2) (certificate_of 1 3 3 0 1 2))  -- the latest of equal ones that beat the first: d is 3, 3 and 3
      ∷ record_told (two_certificates 7 (1 ∷ []) (certificate_of 4 1 17 0 1 8) (certificate_of 1 1 7 0 1 4))  -- terms that are 0 not counted: of 8 there are 2 others, of 4 there are 3
      ∷ record_told (two_certificates 7 (1 ∷ []) (certificate_of 1 1 3 0 1 2) (certificate_of 1 1 3 0 1 3))  -- the first alone judged
      ∷ record_told (two_certificates 7 (1 ∷ []) (certificate_of 1 1 3 0 1 3) (certificate_of 1 0 3 0 1 2))  -- 7 tried for both before 10 for the first
      ∷ record_told (one_certificate 15 (1 ∷ []) 1 3 3 1 1)  -- z not held to be coprime to n
      ∷ record_told (sheet_of 7 (1 ∷ []) (certificate_of 1 1 3 2 1 2) 19 1)  -- the high byte of f not read: f is 515, not 3
      ∷ record_told (one_certificate 7 (1 ∷ []) 1 1 6 1 2)  -- f not held to have constant term 1
      ∷ record_told (one_certificate 7 (1 ∷ 1 ∷ []) 1 1 3 1 2)  -- a representative may be that before it
      ∷ record_told (one_certificate 7 (3 ∷ 1 ∷ 0 ∷ []) 1 1 3 1 2)  -- a representative may be below that before it; 6 tried before 5
      ∷ record_told (sheet_of 7 [] (certificate_of 0 1 7 0 2 1) 18 1)  -- R = 0 refused; a term that is 0 held to D
      ∷ (generator_of (stated (sheetB 4)) ∷ decodes E (sheetB 4) 466)  -- another root of order n for α: with α^14 the generator is 279
      ∷ answered (E.encode nine (0x83 ∷ []) (0xAA ∷ 0xBB ∷ []))  -- a byte more for k = 8, or one less for n = 9; messages high bit first, words low bit first; place 8 at the low end
      ∷ answered (E.read nine (0xE0 ∷ 0x88 ∷ []) (0xAA ∷ []))  -- the first spare bit alone looked at, or the last
      ∷ answered (E.encode sheetH (0x12 ∷ []) (0xAA ∷ []))  -- a message's spare bits taken from n on, not from k; the output written beside 12
      ∷ answered (E.read sheetH (0xD0 ∷ []) (0xAA ∷ []))  -- the message taken from the low places; a bit at the high end taken for spare; every word refused
      ∷ answered (E.read sheetH (0x50 ∷ []) (0xAA ∷ []))  -- the output written beside 14
      ∷ answered (E.decode sheetH (0x50 ∷ []) (0xAB ∷ []))  -- old bits of the output kept, or a spare one of them refused
      ∷ answered (E.decode sheetH (0x51 ∷ []) (0xAA ∷ 0xBB ∷ []))  -- an output too long taken; 12 tried before it
      ∷ answered (E.decode (sheetE 3) (0xC1 ∷ []) (0xAA ∷ []))  -- 13 tried before 12
      ∷ answered (E.decode (sheetE 3) (0xC0 ∷ []) (0xAA ∷ []))  -- the output cleared, or a word written, beside 13
      ∷ answered (E.card sheetH (0xAA ∷ []))  -- what fits of the listing written beside 11
      ∷ []

near_expected : List (List ℕ)
near_expected =
    (10 ∷ [])
    ∷ (10 ∷ [])
    ∷ (0 ∷ 7 ∷ 4 ∷ 3 ∷ 0 ∷ 3 ∷ 1 ∷ 2 ∷ [])
    ∷ (0 ∷ 17 ∷ 9 ∷ 8 ∷ 0 ∷ 5 ∷ 2 ∷ 8 ∷ [])
    ∷ (0 ∷ 7 ∷ 3 ∷ 3 ∷ 0 ∷ 1 ∷ 0 ∷ 1 ∷ [])
    ∷ (0 ∷ 9 ∷ 8 ∷ 6 ∷ 0 ∷ 2 ∷ 0 ∷ 1 ∷ [])
    ∷ (0 ∷ 21 ∷ 15 ∷ 6 ∷ 0 ∷ 3 ∷ 1 ∷ 8 ∷ [])
    ∷ (0 ∷ 21 ∷ 10 ∷ 6 ∷ 0 ∷ 5 ∷ 2 ∷ 15 ∷ [])
    ∷ (9 ∷ [])
    ∷ (0 ∷ 15 ∷ 7 ∷ 4 ∷ 1 ∷ 5 ∷ 2 ∷ 4 ∷ [])
    ∷ (0 ∷ 7 ∷ 4 ∷ 3 ∷ 1 ∷ 3 ∷ 1 ∷ 2 ∷ [])
    ∷ (0 ∷ 7 ∷ 4 ∷ 3 ∷ 0 ∷ 3 ∷ 1 ∷ 2 ∷ [])
    ∷ (0 ∷ 7 ∷ 4 ∷ 3 ∷ 0 ∷ 3 ∷ 1 ∷ 2 ∷ [])
    ∷ (0 ∷ 15 ∷ 6 ∷ 4 ∷ 1 ∷ 6 ∷ 2 ∷ 5 ∷ [])
    ∷ (0 ∷ 15 ∷ 6 ∷ 4 ∷ 0 ∷ 6 ∷ 2 ∷ 5 ∷ [])
    ∷ (0 ∷ 15 ∷ 6 ∷ 4 ∷ 1 ∷ 6 ∷ 2 ∷ 5 ∷ [])
    ∷ (0 ∷ 7 ∷ 4 ∷ 3 ∷ 1 ∷ 3 ∷ 1 ∷ 2 ∷ [])
    ∷ (0 ∷ 7 ∷ 4 ∷ 3 ∷ 1 ∷ 3 ∷ 1 ∷ 4 ∷ [])
    ∷ (10 ∷ [])
    ∷ (10 ∷ [])
    ∷ (7 ∷ [])
    ∷ (7 ∷ [])
    ∷ (7 ∷ [])
    ∷ (5 ∷ [])
    ∷ (5 ∷ [])
    ∷ (0 ∷ 7 ∷ 7 ∷ 3 ∷ 0 ∷ 1 ∷ 0 ∷ 1 ∷ [])
    ∷ (465 ∷ 0 ∷ 2 ∷ 465 ∷ [])
    ∷ (0 ∷ 0 ∷ 0xE0 ∷ 0x80 ∷ [])
    ∷ (12 ∷ 0xAA ∷ [])
    ∷ (12 ∷ 0xAA ∷ [])
    ∷ (0 ∷ 0 ∷ 1 ∷ [])
    ∷ (14 ∷ 0xAA ∷ [])
    ∷ (0 ∷ 1 ∷ 0xD0 ∷ [])
    ∷ (11 ∷ 0xAA ∷ 0xBB ∷ [])
    ∷ (12 ∷ 0xAA ∷ [])
    ∷ (13 ∷ 0xAA ∷ [])
    ∷ (11 ∷ 0xAA ∷ [])
    ∷ []

near_computed : near (replies_by tested_of) ≡ near_expected
unfolding near near_expected nine record_told answered decodes two_certificates three_certificates certificate_of sheetH sheetE sheetS sheetB one_certificate sheet_of card_entry card_conditions definitions
near_computed = refl

near_hold : near documented ≡ near_expected
near_hold = ap near replies_tested ∙ near_computed

-- ---- rule 3 before 2026-03 refused both sheets with f = 19
period_rule : ℕ → Certificate → Bool
period_rule n c = coprime (period c.f) n

before_hold : first_of (conditions_with period_rule short (one_certificate 21 (1 ∷ []) 1 1 19 11 8))
    ∷ first_of (conditions_with period_rule short (one_certificate 21 (1 ∷ 3 ∷ 7 ∷ []) 14 5 19 7 15)) ∷ []
    ≡ 9 ∷ 9 ∷ []
unfolding period_rule period one_certificate sheet_of definitions
before_hold = refl

-- ---- the listing: that of document 01, and rows beside which stand the misreadings that they catch
module _ (E : Replies) where
  listings : List (List ℕ)
  listings =
      E.text sheetH
      ∷ E.text (two_certificates 15 (1 ∷ 3 ∷ []) (certificate_of 1 1 3 0 1 2) (certificate_of 1 1 3 0 1 4))  -- the first named as the working one; one line for all certificates; numbers of one digit alone
      ∷ E.text (two_certificates 7 (1 ∷ []) (certificate_of 1 1 7 0 1 4) (certificate_of 1 1 3 0 1 2))  -- the first of the largest d named, or the largest L
      ∷ E.text (sheet_of 7 [] (certificate_of 0 1 7 0 2 1) 18 1)  -- a space after `zeros` where D is empty
      ∷ E.text (sheetS 10)  -- another word than `refused`, two spaces, the digits of 10 the other way
      ∷ []

-- code 7 4 3, zeros 1 2 4, generator 1101, cert 0 terms 2 distance 3, radius 1 from cert 0;
-- code 15 7 4, zeros 1 2 3 4 6 8 9 12, generator 100010111, cert 0 terms 2 distance 3, cert 1 terms 4 distance 5, radius 2 from cert 1;
-- code 7 4 3, zeros 1 2 4, generator 1101, cert 0 terms 4 distance 3, cert 1 terms 2 distance 3, radius 1 from cert 1;
-- code 7 7 3, zeros, generator 1, cert 0 terms 1 distance 1, radius 0 from cert 0; refused 10
listings_expected : List (List ℕ)
listings_expected =
    (99 ∷ 111 ∷ 100 ∷ 101 ∷ 32 ∷ 55 ∷ 32 ∷ 52 ∷ 32 ∷ 51 ∷ 10
    ∷ 122 ∷ 101 ∷ 114 ∷ 111 ∷ 115 ∷ 32 ∷ 49 ∷ 32 ∷ 50 ∷ 32 ∷ 52 ∷ 10
    ∷ 103 ∷ 101 ∷ 110 ∷ 101 ∷ 114 ∷ 97 ∷ 116 ∷ 111 ∷ 114 ∷ 32 ∷ 49 ∷ 49 ∷ 48 ∷ 49 ∷ 10
    ∷ 99 ∷ 101 ∷ 114 ∷ 116 ∷ 32 ∷ 48 ∷ 32 ∷ 116 ∷ 101 ∷ 114 ∷ 109 ∷ 115 ∷ 32 ∷ 50 ∷ 32 ∷ 100 ∷ 105 ∷ 115 ∷ 116 ∷ 97 ∷ 110 ∷ 99 ∷ 101 ∷ 32 ∷ 51 ∷ 10
    ∷ 114 ∷ 97 ∷ 100 ∷ 105 ∷ 117 ∷ 115 ∷ 32 ∷ 49 ∷ 32 ∷ 102 ∷ 114 ∷ 111 ∷ 109 ∷ 32 ∷ 99 ∷ 101 ∷ 114 ∷ 116 ∷ 32 ∷ 48 ∷ 10 ∷ [])
    ∷ (99 ∷ 111 ∷ 100 ∷ 101 ∷ 32 ∷ 49 ∷ 53 ∷ 32 ∷ 55 ∷ 32 ∷ 52 ∷ 10
    ∷ 122 ∷ 101 ∷ 114 ∷ 111 ∷ 115 ∷ 32 ∷ 49 ∷ 32 ∷ 50 ∷ 32 ∷ 51 ∷ 32 ∷ 52 ∷ 32 ∷ 54 ∷ 32 ∷ 56 ∷ 32 ∷ 57 ∷ 32 ∷ 49 ∷ 50 ∷ 10
    ∷ 103 ∷ 101 ∷ 110 ∷ 101 ∷ 114 ∷ 97 ∷ 116 ∷ 111 ∷ 114 ∷ 32 ∷ 49 ∷ 48 ∷ 48 ∷ 48 ∷ 49 ∷ 48 ∷ 49 ∷ 49 ∷ 49 ∷ 10
    ∷ 99 ∷ 101 ∷ 114 ∷ 116 ∷ 32 ∷ 48 ∷ 32 ∷ 116 ∷ 101 ∷ 114 ∷ 109 ∷ 115 ∷ 32 ∷ 50 ∷ 32 ∷ 100 ∷ 105 ∷ 115 ∷ 116 ∷ 97 ∷ 110 ∷ 99 ∷ 101 ∷ 32 ∷ 51 ∷ 10
    ∷ 99 ∷ 101 ∷ 114 ∷ 116 ∷ 32 ∷ 49 ∷ 32 ∷ 116 ∷ 101 ∷ 114 ∷ 109 ∷ 115 ∷ 32 ∷ 52 ∷ 32 ∷ 100 ∷ 105 ∷ 115 ∷ 116 ∷ 97 ∷ 110 ∷ 99 ∷ 101 ∷ 32 ∷ 53 ∷ 10
    ∷ 114 ∷ 97 ∷ 100 ∷ 105 ∷ 117 ∷ 115 ∷ 32 ∷ 50 ∷ 32 ∷ 102 ∷ 114 ∷ 111 ∷ 109 ∷ 32 ∷ 99 ∷ 101 ∷ 114 ∷ 116 ∷ 32 ∷ 49 ∷ 10 ∷ [])
    ∷ (99 ∷ 111 ∷ 100 ∷ 101 ∷ 32 ∷ 55 ∷ 32 ∷ 52 ∷ 32 ∷ 51 ∷ 10
    ∷ 122 ∷ 101 ∷ 114 ∷ 111 ∷ 115 ∷ 32 ∷ 49 ∷ 32 ∷ 50 ∷ 32 ∷ 52 ∷ 10
    ∷ 103 ∷ 101 ∷ 110 ∷ 101 ∷ 114 ∷ 97 ∷ 116 ∷ 111 ∷ 114 ∷ 32 ∷ 49 ∷ 49 ∷ 48 ∷ 49 ∷ 10
    ∷ 99 ∷ 101 ∷ 114 ∷ 116 ∷ 32 ∷ 48 ∷ 32 ∷ 116 ∷ 101 ∷ 114 ∷ 109 ∷ 115 ∷ 32 ∷ 52 ∷ 32 ∷ 100 ∷ 105 ∷ 115 ∷ 116 ∷ 97 ∷ 110 ∷ 99 ∷ 101 ∷ 32 ∷ 51 ∷ 10
    ∷ 99 ∷ 101 ∷ 114 ∷ 116 ∷ 32 ∷ 49 ∷ 32 ∷ 116 ∷ 101 ∷ 114 ∷ 109 ∷ 115 ∷ 32 ∷ 50 ∷ 32 ∷ 100 ∷ 105 ∷ 115 ∷ 116 ∷ 97 ∷ 110 ∷ 99 ∷ 101 ∷ 32 ∷ 51 ∷ 10
    ∷ 114 ∷ 97 ∷ 100 ∷ 105 ∷ 117 ∷ 115 ∷ 32 ∷ 49 ∷ 32 ∷ 102 ∷ 114 ∷ 111 ∷ 109 ∷ 32 ∷ 99 ∷ 101 ∷ 114 ∷ 116 ∷ 32 ∷ 49 ∷ 10 ∷ [])
    ∷ (99 ∷ 111 ∷ 100 ∷ 101 ∷ 32 ∷ 55 ∷ 32 ∷ 55 ∷ 32 ∷ 51 ∷ 10
    ∷ 122 ∷ 101 ∷ 114 ∷ 111 ∷ 115 ∷ 10
    ∷ 103 ∷ 101 ∷ 110 ∷ 101 ∷ 114 ∷ 97 ∷ 116 ∷ 111 ∷ 114 ∷ 32 ∷ 49 ∷ 10
    ∷ 99 ∷ 101 ∷ 114 ∷ 116 ∷ 32 ∷ 48 ∷ 32 ∷ 116 ∷ 101 ∷ 114 ∷ 109 ∷ 115 ∷ 32 ∷ 49 ∷ 32 ∷ 100 ∷ 105 ∷ 115 ∷ 116 ∷ 97 ∷ 110 ∷ 99 ∷ 101 ∷ 32 ∷ 49 ∷ 10
    ∷ 114 ∷ 97 ∷ 100 ∷ 105 ∷ 117 ∷ 115 ∷ 32 ∷ 48 ∷ 32 ∷ 102 ∷ 114 ∷ 111 ∷ 109 ∷ 32 ∷ 99 ∷ 101 ∷ 114 ∷ 116 ∷ 32 ∷ 48 ∷ 10 ∷ [])
    ∷ (114 ∷ 101 ∷ 102 ∷ 117 ∷ 115 ∷ 101 ∷ 100 ∷ 32 ∷ 49 ∷ 48 ∷ 10 ∷ [])
    ∷ []

listings_computed : listings (replies_by tested_of) ≡ listings_expected
unfolding listings listings_expected listing_of listing_for accepted_lines code_line zeros_line generator_line certificate_line radius_line refused_line decimal decimal_in two_certificates certificate_of sheetH sheetS one_certificate sheet_of definitions
listings_computed = refl

listings_hold : listings documented ≡ listings_expected
listings_hold = ap listings replies_tested ∙ listings_computed
