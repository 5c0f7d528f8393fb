-- The three demands, each one theorem about the entries, and what document 02's requests state. This is the file to read first.
--
-- It speaks of judge_of, encode_of, read_of, decode_of, encode_shortened_of, read_shortened_of, decode_shortened_of, decode_marked_of, decode_block_of and card_of
-- (document/specs/Short.antt) and of shown_of (Marked.antt). The contract of each entry is one equation: reply and bytes are, in the documents' numbers, what these give, whatever is handed over. So what
-- is said of them is said of the entries.
--
--   Demand1, demand_1      every answer, and every refusal exactly at its turn
--   Demand2, demand_2      codewords, encoding and reading out; certificates, and the distance that they yield
--   Demand3, demand_3      decoding
--   Request01, request_01      2026-01, highest bit first: how words and messages lie in bytes
--   Request02, request_02      2026-02, the encoder keeps only a remainder
--   Request03, request_03      2026-03, rule 3 as document 001 needs it
--   Request04, request_04      2026-04, the shorter certificate of two equal ones
--   Request05, request_05      2026-05, bits the modem isn't sure of
--   Request06, request_06      2026-06, shortened codes
--   Request07, request_07      2026-07, drives that wipe out a run of bits
-- A record for each demand and for each request, a field for each clause, under the clause's words. Each demand is for every list of bytes
-- that may be a sheet; x is what it states. The words are in specs/Published.antt and specs/Table.antt, under the documents' sentences. That
-- the field's masks are the smallest primitive ones is mask_least of field/proofs/Smallest.antt; examples, 13 with a buffer that was not 0
-- among them, are the tables of document/proofs/Cases.antt, ShortenedCases.antt and BlockCases.antt.
use mathlib.Core.Path.{◌≡◌, refl}
use mathlib.Core.Logic.{◌≢◌, ◌↔◌, ◌⊎◌}
use mathlib.Core.Bool.{true, ◌&&◌}
use mathlib.Core.List.{List, [], ◌∷◌, ◌++◌, map, flat_map}
use Prim.Native.Nat.{ℕ, suc, ◌+◌, ◌-◌, ◌*◌, ◌/◌, ◌%◌, ◌^◌, ◌≤◌, ◌<◌, ◌∣◌}
use native.Mathlib.Omega.{arith}
use lib.Dec.{leb, ltb}
use lib.ListN.{length, get_or, take, drop}
use Rattle.field.specs.Search.{up_to, total, bit}
use Rattle.field.specs.Mask.{◌⊕◌, coefficient, remainder}
use Rattle.field.specs.Field.{order_of_two}
use Rattle.document.specs.Answer.{returned, refused, first_of}
use Rattle.document.specs.Layout.{word_weight, message_weight, place, mask_of, bytes_of}
use Rattle.document.specs.Sheet.{Certificate, Stated, certificate_at}
use Rattle.document.specs.Generator.{generator_poly, differences}
use Rattle.document.specs.Certificate.{rule3, distance, radius}
use Rattle.document.specs.Judge.{certificate_conditions, dimension_of, working_of, working_certificate}
use Rattle.document.specs.OtherTest.{conditions_with}
use Rattle.document.specs.Entry.{CodewordOf, generator_of, radius_of, word_of, changed}
use Rattle.document.specs.Marked.{marked_ones, marked_zeros, marks_count, unmarked_changed, WithinMarks, trial_word, shown_of}
use Rattle.document.specs.Shortened.{sent_word_of, sent_message_of, ShortenedCodeword}
use Rattle.document.specs.Block.{block_word, block_word_bytes, own_bytes, verdict_of}
use Rattle.document.specs.Card.{refused_line, accepted_lines, certificate_text, radius_text}
use Rattle.document.specs.Short.{short, stated, refusals_of, judge_of, encode_of, read_of, decode_of, decode_marked_of, listing, card_of}
use Rattle.document.specs.Short.{encode_shortened_of, read_shortened_of, decode_shortened_of, decode_block_of}
use Rattle.document.proofs.Meaning.{differ_count}
use Rattle.document.proofs.Tested.{conditions_are}
use Rattle.document.proofs.Working.{radius_rises, radius_most}
use Rattle.codeword.proofs.Places.{mask_lt, mask_coefficient}
use Rattle.certificate.proofs.Marks.{half_or_half}
use Rattle.code.specs.Published.{IsAccepted, SheetRead, Bytes, Word, Message, InDefiningSet, SetSize, ZeroAt}
use Rattle.code.specs.Published.{HasDegree, Divides, Rule1, Rule3, Published, Rounded, Working, WorkingIs, Systematic, WordDecoded, MarkedCall, WordShown, kept}
use Rattle.code.specs.Published.{Shortenable, ShortenedWord, ShortenedMessage, ShortenedSystematic, ShortenedDecoded}
use Rattle.code.specs.Published.{Places, BlockCall, RunSpoiled}
use Rattle.code.specs.Turns.{FirstThatHolds}
use Rattle.code.specs.Table.{SpareBit, NoneNear, NoneWithMarks, sheet_turns, encode_turns, read_turns, decode_turns, marked_turns, card_turns}
use Rattle.code.specs.Table.{NoneNearSaid, NoCodewordSaid, NoneWithMarksSaid, Answered}
use Rattle.code.specs.Table.{WrongShortening, NoneNearShortened, NoneNearShortenedSaid, NoShortenedCodewordSaid, encode_shortened_turns, read_shortened_turns, decode_shortened_turns}
use Rattle.code.specs.Table.{WrongDepth, block_turns}
use Rattle.code.specs.Before.{PeriodCoprime, period_coprime, judge_before, WorkingBefore, working_before, decode_with}
use Rattle.code.proofs.Tried.{judge_answered, encode_answered, read_answered, decode_answered, marked_answered, card_answered}
use Rattle.code.proofs.Refusing.{read_sheet_bytes, sheet_first, marked_first, card_writes, text_refused_iff, text_listed_iff}
use Rattle.code.proofs.Refusing.{thirteen_iff, fourteen_iff, fifteen_iff}
use Rattle.code.proofs.Between.{encode_short_answered, read_short_answered, decode_short_answered, block_answered, shortened_first, block_first}
use Rattle.code.proofs.Between.{sixteen_iff, thirteen_short_iff, fourteen_short_iff, seventeen_iff}
use Rattle.code.proofs.Fits.{listing_fits}
use Rattle.code.proofs.Worded.{word_spare_said, message_spare_said, mask_word, word_one, degree_said, dimension_said, generator_said}
use Rattle.code.proofs.Worded.{generator_degree_said, multiple_said, zeros_said}
use Rattle.code.proofs.Worded.{encodes_said, reads_said, refused_said, certificate_published, accepted_published}
use Rattle.code.proofs.Worded.{rounded_said, distance_said, working_said, record_said, found_said, decoded_said, none_said, apart_said}
use Rattle.code.proofs.Worded.{length_here, radius_said}
use Rattle.code.proofs.RuleThree.{period_said, period_suffices, nine_alone}
use Rattle.code.proofs.Rules.{modulus}
use Rattle.code.proofs.Kept.{kept_said, encoded_said, word_said}
use Rattle.code.proofs.Chosen.{working_only, record_chosen, card_chosen, before_said, radius_still, decoded_chosen, decoded_still}
use Rattle.code.proofs.Uncertain.{marks_counted, unmarked_counted, trial_places, bound_same, only_said, exists_said, fifteen_said}
use Rattle.code.proofs.Uncertain.{shown_said, held_said, one_decodes, zeros_decoded, ones_decoded, unmarked_said, unmarked_none}
use Rattle.code.proofs.Uncertain.{shown_zero, shown_other, shown_short}
use Rattle.code.proofs.Shortened as Shortened
use Rattle.code.proofs.Blocks as Blocks

module _ (sheet : List ℕ) where
  abbrev x : Stated
  x = stated sheet

  abbrev k : ℕ
  k = dimension_of x

  -- s, and d and t of the working certificate
  abbrev s : ℕ
  s = order_of_two x.n

  abbrev d : ℕ
  d = distance (working_certificate x)

  abbrev t : ℕ
  t = radius_of x

  -- ---- demand 1: for every input, of any length and content
  pub record Demand1 : Type 0 where
    -- what is stated is what the sheet's bytes say
    pub bytes : SheetRead sheet x
    -- each entry answers 0, or 1 to 17 with no values and the lent buffers as they were; and the number r exactly when condition r holds and
    -- no earlier one in the documents' order does
    pub judge : Answered {B = List ℕ} (sheet_turns sheet) (judge_of sheet, []) []
    pub encode : (message out : List ℕ) → Answered (encode_turns sheet message out) (encode_of sheet message out) out
    pub read : (word out : List ℕ) → Answered (read_turns sheet word out) (read_of sheet word out) out
    pub decode : (word out : List ℕ) → Answered (decode_turns sheet word out) (decode_of sheet word out) out
    pub decode_marked : (word marks zeros ones : List ℕ)
        → Answered (marked_turns sheet word marks zeros ones) (decode_marked_of sheet word marks zeros ones) (zeros, ones)
    pub encode_short : (m : ℕ) (message out : List ℕ) → Answered (encode_shortened_turns sheet m message out) (encode_shortened_of sheet m message out) out
    pub read_short : (m : ℕ) (word out : List ℕ) → Answered (read_shortened_turns sheet m word out) (read_shortened_of sheet m word out) out
    pub decode_short : (m : ℕ) (word out : List ℕ) → Answered (decode_shortened_turns sheet m word out) (decode_shortened_of sheet m word out) out
    pub decode_block : (m : ℕ) (block out verdicts : List ℕ)
        → Answered (block_turns sheet m block out verdicts) (decode_block_of sheet m block out verdicts) (out, verdicts)
    -- card's only refusal is 11, before the sheet is judged
    pub card : (out : List ℕ) → Answered (card_turns out) (card_of sheet out) out
    -- every entry but card refuses with the sheet's refusal, if it has one
    pub sheet_refusal : (input out : List ℕ) (r : ℕ) → judge_of sheet ≡ refused r
        → (encode_of sheet input out ≡ (refused r, out)) × (read_of sheet input out ≡ (refused r, out))
        × (decode_of sheet input out ≡ (refused r, out))
    pub sheet_refusal_marked : (word marks zeros ones : List ℕ) (r : ℕ) → judge_of sheet ≡ refused r
        → decode_marked_of sheet word marks zeros ones ≡ (refused r, (zeros, ones))
    pub sheet_refusal_short : (m : ℕ) (input out : List ℕ) (r : ℕ) → judge_of sheet ≡ refused r
        → (encode_shortened_of sheet m input out ≡ (refused r, out)) × (read_shortened_of sheet m input out ≡ (refused r, out))
        × (decode_shortened_of sheet m input out ≡ (refused r, out))
    pub sheet_refusal_block : (m : ℕ) (block out verdicts : List ℕ) (r : ℕ) → judge_of sheet ≡ refused r
        → decode_block_of sheet m block out verdicts ≡ (refused r, (out, verdicts))
    -- card writes its text, returns the text's length, and leaves what stood after it
    pub card_text : (out : List ℕ) → length out ≡ 1024
        → card_of sheet out ≡ (returned (length (listing sheet) ∷ []), listing sheet ++ drop (length (listing sheet)) out)
    -- the text fits
    pub card_fits : length (listing sheet) ≤ 1024
    -- the text is `refused r` exactly when judging refuses with r
    pub card_refusal : (r : ℕ) → (listing sheet ≡ refused_line r) ↔ (judge_of sheet ≡ refused r)
    -- and the listing of the sheet exactly when it is accepted
    pub card_listing : (listing sheet ≡ accepted_lines x) ↔ IsAccepted sheet
    -- 13 says, whatever was handed over: the sheet is accepted, lengths and spare bits are right, and every codeword differs in more than
    -- t places
    pub thirteen : (word out : List ℕ) → ((decode_of sheet word out).0.number ≡ 13) ↔ NoneNearSaid sheet word out
    -- 14 says, whatever was handed over: the sheet is accepted, lengths and spare bits are right, and the word is no codeword
    pub fourteen : (word out : List ℕ) → ((read_of sheet word out).0.number ≡ 14) ↔ NoCodewordSaid sheet word out
    -- 15 says, whatever was handed over: the sheet is accepted, lengths and spare bits are right, and no codeword has 2·e + r at most d - 1
    pub fifteen : (word marks zeros ones : List ℕ) → ((decode_marked_of sheet word marks zeros ones).0.number ≡ 15)
        ↔ NoneWithMarksSaid sheet word marks zeros ones
    -- 13 and 14 say the same of a shortened code: m is right too, lengths and spare bits go by the places that are sent, and every shortened
    -- codeword differs in more than t places, or the word is no shortened codeword
    pub thirteen_short : (m : ℕ) (word out : List ℕ) → ((decode_shortened_of sheet m word out).0.number ≡ 13) ↔ NoneNearShortenedSaid sheet m word out
    pub fourteen_short : (m : ℕ) (word out : List ℕ) → ((read_shortened_of sheet m word out).0.number ≡ 14) ↔ NoShortenedCodewordSaid sheet m word out
    -- 16 says, whatever was handed over, of encoding, reading out and decoding a shortened code: the sheet is accepted, and m is 0 or not
    -- below k
    pub sixteen : (m : ℕ) (input out : List ℕ)
        → (((encode_shortened_of sheet m input out).0.number ≡ 16) ↔ (IsAccepted sheet × WrongShortening m x))
        × (((read_shortened_of sheet m input out).0.number ≡ 16) ↔ (IsAccepted sheet × WrongShortening m x))
        × (((decode_shortened_of sheet m input out).0.number ≡ 16) ↔ (IsAccepted sheet × WrongShortening m x))
    -- 17 says, whatever was handed over, of decoding a block: the sheet is accepted, and m is below 2 or above 16
    pub seventeen : (m : ℕ) (block out verdicts : List ℕ)
        → ((decode_block_of sheet m block out verdicts).0.number ≡ 17) ↔ (IsAccepted sheet × WrongDepth m)

  -- ---- demand 2: for every accepted sheet, in bytes
  pub record Demand2 : Type 0 where
    -- "place i the coefficient of x^i"; where in the bytes place i stands is `word_order` and `message_order` of Request01
    pub word_places : (word : List ℕ) (i : ℕ) → i < x.n → coefficient i (word_of x word) ≡ place word_weight word i
    pub message_places : (message : List ℕ) (i : ℕ) → i < k → coefficient i (mask_of message_weight k message) ≡ place message_weight message i
    -- words in bytes and masks of n places are the same
    pub word_mask : (word : List ℕ) → word_of x word < 2 ^ x.n
    pub mask_word : (c : ℕ) → c < 2 ^ x.n → (word : List ℕ) × Word x word × Bytes word × (word_of x word ≡ c)
    pub word_one : (v w : List ℕ) → Word x v → Bytes v → Word x w → Bytes w → word_of x v ≡ word_of x w → v ≡ w
    -- "s is the smallest number above 0 with n dividing 2^s - 1."
    pub degree : IsAccepted sheet → (0 < s) × (x.n ∣ 2 ^ s - 1) × ((q : ℕ) → 0 < q → x.n ∣ 2 ^ q - 1 → s ≤ q)
    -- "k = n - (size of D)"
    pub dimension : IsAccepted sheet → (k ≤ x.n) × SetSize x.n x.representatives (x.n - k)
    -- "The generator is the product of x - α^i over all i in D. It has coefficients 0 and 1 only."
    pub generator : IsAccepted sheet → (i : ℕ) → get_or (generator_poly x.n x.representatives) i 0 ≡ coefficient i (generator_of x)
    pub generator_degree : IsAccepted sheet → HasDegree (generator_of x) (x.n - k)
    -- "Two words of one length differ in a place where one has 1 and the other 0. Spare bits are no places."
    pub differ : (c c' : ℕ) → differences x.n c c' ≡ total x.n (λ i. (coefficient i c + coefficient i c') % 2)
    -- a word is a codeword ⟺ it is a multiple of the generator
    pub multiple : IsAccepted sheet → (word : List ℕ) → CodewordOf x (word_of x word) ↔ Divides (generator_of x) (word_of x word)
    -- ⟺ it is 0 at α^i for every i in D
    pub zeros : IsAccepted sheet → (word : List ℕ)
        → CodewordOf x (word_of x word) ↔ ((i : ℕ) → InDefiningSet x.n x.representatives i → ZeroAt x i (word_of x word))
    -- each message is encoded into its systematic codeword, and reads back the same
    pub encodes : IsAccepted sheet → (message out : List ℕ) → Message x message → Bytes message → length out ≡ (x.n + 7) / 8
        → (word : List ℕ) × (encode_of sheet message out ≡ (returned (0 ∷ []), word)) × Systematic x message word
        × ((back : List ℕ) → length back ≡ (k + 7) / 8 → read_of sheet word back ≡ (returned (0 ∷ []), message))
    -- each codeword reads out as a message, which is encoded into it
    pub reads : IsAccepted sheet → (word out : List ℕ) → Word x word → Bytes word → CodewordOf x (word_of x word)
        → length out ≡ (k + 7) / 8
        → (message : List ℕ) × Message x message × Bytes message × (read_of sheet word out ≡ (returned (0 ∷ []), message))
        × ((back : List ℕ) → length back ≡ (x.n + 7) / 8 → encode_of sheet message back ≡ (returned (0 ∷ []), word))
    -- what is no codeword is refused with 14
    pub no_codeword : IsAccepted sheet → (word out : List ℕ) → Word x word → ¬ CodewordOf x (word_of x word) → length out ≡ (k + 7) / 8
        → read_of sheet word out ≡ (refused 14, out)
    -- for every sheet that draws none of 1 to 6: certificate i draws none of 7 to 10 ⟺ it meets the published conditions. (That judging
    -- tries 7 to 10 of each certificate in turn is `judge` of demand 1.)
    pub certificate : IsAccepted sheet ⊎ (6 < (judge_of sheet).number) → (i : ℕ) → i < length x.certificates
        → (first_of (certificate_conditions 1023 x.n x.representatives (certificate_at x i)) ≡ 0)
        ↔ Published x.n x.representatives (certificate_at x i)
    -- and the sheet is accepted ⟺ all its certificates meet them
    pub acceptance : IsAccepted sheet ⊎ (6 < (judge_of sheet).number)
        → IsAccepted sheet ↔ ((i : ℕ) → i < length x.certificates → Published x.n x.representatives (certificate_at x i))
    -- every certificate of an accepted sheet yields the published d
    pub yields : IsAccepted sheet → (i : ℕ) → i < length x.certificates → Rounded (certificate_at x i) (distance (certificate_at x i))
    -- and different codewords differ in at least that many places
    pub distances : IsAccepted sheet → (i : ℕ) → i < length x.certificates → (c c' : ℕ) → CodewordOf x c → CodewordOf x c' → c ≢ c'
        → distance (certificate_at x i) ≤ differences x.n c c'

  -- ---- demand 3: for every accepted sheet, every word of the right length without spare bits, and every output of the right length
  pub record Demand3 : Type 0 where
    -- d, t and the number of terms are those of the working certificate, and judging returns them
    pub working : IsAccepted sheet → WorkingIs x (working_of x) d t (certificate_at x (working_of x)).L
    pub judged : IsAccepted sheet
        → judge_of sheet
        ≡ returned (x.n ∷ k ∷ s ∷ working_of x ∷ d ∷ t ∷ (certificate_at x (working_of x)).L ∷ [])
    -- the number is 0 ⟺ some codeword differs in at most t places
    pub found : IsAccepted sheet → (word out : List ℕ) → Word x word → length out ≡ (x.n + 7) / 8
        → ((decode_of sheet word out).0.number ≡ 0) ↔ ((c : ℕ) × CodewordOf x c × (changed x word c ≤ t))
    -- then the buffer afterwards is a word without spare bits whose places are a codeword c that differs in at most t places, the value
    -- returned is the number of places in which c and the received word differ, and every other codeword differs in more than t places
    pub decoded : IsAccepted sheet → (word out : List ℕ) → Word x word → length out ≡ (x.n + 7) / 8 → (decode_of sheet word out).0.number ≡ 0
        → WordDecoded x word (decode_of sheet word out)
    -- the number is 13 ⟺ every codeword differs in more than t places
    pub none : IsAccepted sheet → (word out : List ℕ) → Word x word → length out ≡ (x.n + 7) / 8
        → ((decode_of sheet word out).0.number ≡ 13) ↔ NoneNear x word
    -- any two different codewords differ in at least d places
    pub apart : IsAccepted sheet → (c c' : ℕ) → CodewordOf x c → CodewordOf x c' → c ≢ c' → d ≤ differences x.n c c'

  -- ---- 2026-02, the encoder keeps only a remainder: of the bits of a mask a, taken in from the highest of so many bits down. That the
  -- code's register holds it after each bit is taken_kept of proofs/Kept.antt, by the invariant of take_places; that no reply or written
  -- byte differs is that encode_of and read_of, and the contracts with them, are as they were; of buffers no contract speaks.
  abbrev checks : ℕ
  checks = x.n - k

  abbrev g : ℕ
  g = generator_of x

  pub record Request02 : Type 0 where
    -- nothing at first, and with one bit more the remainder of x·p + bit·x^(n-k), where p was kept
    pub first : (bits a : ℕ) → kept checks g bits a 0 ≡ 0
    pub bit_in : (bits a j : ℕ) → j < bits → kept checks g bits a (suc j) ≡ remainder checks g (kept checks g bits a j * 2 ⊕ coefficient (bits - suc j) a * 2 ^ checks)
    -- "after each bit, that of x^(n-k) times the bits taken so far, the last of them as x^0, by the generator"
    pub after_each_bit : IsAccepted sheet → (bits a j : ℕ) → a < 2 ^ bits → j ≤ bits
        → kept checks g bits a j ≡ remainder checks g (a / 2 ^ (bits - j) * 2 ^ checks)
    -- after a message's last bit it is what encoding writes below the message
    pub written : IsAccepted sheet → (message out : List ℕ) → Message x message → Bytes message → length out ≡ (x.n + 7) / 8
        → (word : List ℕ) × (encode_of sheet message out ≡ (returned (0 ∷ []), word))
        × (word_of x word % 2 ^ checks ≡ kept checks g k (mask_of message_weight k message) k)
    -- after a word's last place it is 0 exactly for a codeword
    pub word_test : IsAccepted sheet → (word : List ℕ) → CodewordOf x (word_of x word) ↔ (kept checks g x.n (word_of x word) x.n ≡ 0)

  -- ---- 2026-03, codes that the period rule turned away. Rule 3 of a certificate (specs/Published.antt, Rule3) is what document 001 needs;
  -- specs/Before.antt has the rule that it was.
  pub record Request03 : Type 0 where
    -- "9 is returned, at its turn in 01's order, exactly when it fails": Rule3 is what stands at 9 in these turns
    pub refusal_nine : ((judge_of sheet).number ≡ 9) ↔ FirstThatHolds (sheet_turns sheet) 9
    -- what it was: of a certificate that meets rule 1, the statement and what was computed; judging by it differs in this alone
    pub before : IsAccepted sheet ⊎ (6 < (judge_of sheet).number) → (i : ℕ) → i < length x.certificates → Rule1 x.n (certificate_at x i)
        → (period_coprime x.n (certificate_at x i) ≡ true) ↔ PeriodCoprime x.n (certificate_at x i)
    pub in_its_place : conditions_with rule3 short sheet ≡ refusals_of sheet
    -- a period coprime to n suffices
    pub period : IsAccepted sheet ⊎ (6 < (judge_of sheet).number) → (i : ℕ) → i < length x.certificates → Rule1 x.n (certificate_at x i)
        → PeriodCoprime x.n (certificate_at x i) → Rule3 x.n (certificate_at x i)
    -- so a sheet that was accepted is accepted still, and rule 3 changes nothing of its record; which certificate works is Request04's
    pub accepted_still : (judge_before sheet).number ≡ 0 → judge_of sheet ≡ judge_before sheet
    -- and judging answers what it did wherever that was not 9
    pub answered_still : (judge_before sheet).number ≢ 9 → judge_of sheet ≡ judge_before sheet
    -- "Decoding keeps its full radius for every sheet accepted in this wider way": a word within t places of a codeword becomes it
    pub full_radius : IsAccepted sheet → (word out : List ℕ) → Word x word → length out ≡ (x.n + 7) / 8
        → (c : ℕ) → CodewordOf x c → changed x word c ≤ t
        → decode_of sheet word out ≡ (returned (changed x word c ∷ []), bytes_of word_weight x.n c)

  -- ---- 2026-04, the shorter certificate of two equal ones. specs/Before.antt has the choice that it was.
  pub record Request04 : Type 0 where
    -- "The working certificate becomes the one with the largest d, then the fewest terms, then the earliest": that one is it, and no other
    pub chosen : IsAccepted sheet → (w : ℕ) → (w ≡ working_of x) ↔ Working x w
    -- "The record made from a sheet keeps d, t and the number of terms, and these always belong to that one certificate": whatever judging
    -- returns, the index in it is that of the working certificate, and d, t and the number of terms are its own
    pub one_certificate : (n' k' s' w d' t' terms : ℕ) → judge_of sheet ≡ returned (n' ∷ k' ∷ s' ∷ w ∷ d' ∷ t' ∷ terms ∷ [])
        → WorkingIs x w d' t' terms
    -- "`linkcard` follows": its last line has the same t and index, and the line of that certificate the same number of terms and d
    pub linkcard : (n' k' s' w d' t' terms : ℕ) → judge_of sheet ≡ returned (n' ∷ k' ∷ s' ∷ w ∷ d' ∷ t' ∷ terms ∷ [])
        → (above between : List ℕ) × (listing sheet ≡ above ++ certificate_text w terms d' ++ between ++ radius_text t' w)
    -- "The largest d always has the largest t": of two certificates, and so of all on a sheet
    pub rises : (c e : Certificate) → distance c ≤ distance e → radius c ≤ radius e
    pub largest_radius : (i : ℕ) → i < length x.certificates → radius (certificate_at x i) ≤ t
    -- what the choice was: the first with the largest t, and no other
    pub before : IsAccepted sheet → (w : ℕ) → (w ≡ working_before x) ↔ WorkingBefore x w
    -- "so t stays what it was", of every sheet
    pub radius_still : radius (certificate_at x (working_before x)) ≡ t
    -- decode_with says how decoding goes by a chosen certificate: by the working one it is decoding
    pub in_its_place : (word out : List ℕ) → decode_with working_of sheet word out ≡ decode_of sheet word out
    -- "and every received word decodes as before": for every sheet, word and buffer, by the choice before it is the same
    pub decoded_still : (word out : List ℕ) → decode_with working_before sheet word out ≡ decode_of sheet word out

  -- ---- 2026-05, bits the modem isn't sure of: r is the number of marked places, and e that of the unmarked ones in which a codeword c and the
  -- received word differ. WithinMarks is "2·e + r at most d - 1", and MarkedCall says that the sheet is accepted, lengths are right and no
  -- spare bit is 1.
  pub record Request05 : Type 0 where
    -- "1 meaning marked; r is the number marked"; "in e unmarked places": place by place
    pub r_is : (marks : List ℕ) → marks_count x marks ≡ total x.n (λ i. place word_weight marks i)
    pub e_is : (word marks : List ℕ) (c : ℕ) → unmarked_changed x word marks c
        ≡ total x.n (λ i. (1 - place word_weight marks i) * ((place word_weight word i + coefficient i c) % 2))
    -- "Set all marked bits to 0, then to 1": the trial word of the bit v is a word, v where it is marked, and the received word elsewhere
    pub trials : (v : ℕ) → v < 2 → (word marks : List ℕ) → Word x (trial_word x v word marks) × Bytes (trial_word x v word marks)
        × ((i : ℕ) → i < x.n → (place word_weight marks i ≡ 1 → place word_weight (trial_word x v word marks) i ≡ v)
        × (place word_weight marks i ≡ 0 → place word_weight (trial_word x v word marks) i ≡ place word_weight word i))
    -- at most one codeword has 2·e + r at most d - 1
    pub only : IsAccepted sheet → (word marks : List ℕ) (b c : ℕ) → CodewordOf x b → CodewordOf x c
        → WithinMarks x word marks b → WithinMarks x word marks c → b ≡ c
    -- the number is 0 ⟺ there is one, and 15 ⟺ there is none
    pub exists : (word marks zeros ones : List ℕ) → MarkedCall sheet word marks zeros ones
        → ((decode_marked_of sheet word marks zeros ones).0.number ≡ 0) ↔ ((c : ℕ) × CodewordOf x c × WithinMarks x word marks c)
    pub none : (word marks zeros ones : List ℕ) → MarkedCall sheet word marks zeros ones
        → ((decode_marked_of sheet word marks zeros ones).0.number ≡ 15) ↔ NoneWithMarks x word marks
    -- it is returned with e: the second call, handed the trial that is told, gives it
    pub answer : (word marks zeros ones : List ℕ) → MarkedCall sheet word marks zeros ones
        → (decode_marked_of sheet word marks zeros ones).0.number ≡ 0
        → WordShown x word marks (decode_marked_of sheet word marks zeros ones)
    -- "After an answer each holds its decoded trial word, or the undecoded trial word if its decoding gave 13": as decoding leaves a buffer
    -- that holds the trial word
    pub held : (word marks zeros ones : List ℕ) → MarkedCall sheet word marks zeros ones
        → (decode_marked_of sheet word marks zeros ones).0.number ≡ 0
        → ((decode_marked_of sheet word marks zeros ones).1.0 ≡ (decode_of sheet (trial_word x 0 word marks) (trial_word x 0 word marks)).1)
        × ((decode_marked_of sheet word marks zeros ones).1.1 ≡ (decode_of sheet (trial_word x 1 word marks) (trial_word x 1 word marks)).1)
    -- if c is the answer, at least one of the two trial words decodes to it: its marked places hold at most r/2 ones or at most r/2 zeros, as
    -- those of any word do, and that tells which
    pub decodes : IsAccepted sheet → (word marks : List ℕ) {c : ℕ} → CodewordOf x c → WithinMarks x word marks c → (out : List ℕ)
        → length out ≡ (x.n + 7) / 8
        → (decode_of sheet (trial_word x 0 word marks) out ≡ (returned (changed x (trial_word x 0 word marks) c ∷ []), bytes_of word_weight x.n c))
        ⊎ (decode_of sheet (trial_word x 1 word marks) out ≡ (returned (changed x (trial_word x 1 word marks) c ∷ []), bytes_of word_weight x.n c))
    pub half : (marks : List ℕ) (c : ℕ) → (2 * marked_ones x.n (word_of x marks) c ≤ marks_count x marks)
        ⊎ (2 * marked_zeros x.n (word_of x marks) c ≤ marks_count x marks)
    pub zeros_decode : IsAccepted sheet → (word marks : List ℕ) {c : ℕ} → CodewordOf x c → WithinMarks x word marks c
        → (out : List ℕ) → length out ≡ (x.n + 7) / 8 → 2 * marked_ones x.n (word_of x marks) c ≤ marks_count x marks
        → decode_of sheet (trial_word x 0 word marks) out ≡ (returned (changed x (trial_word x 0 word marks) c ∷ []), bytes_of word_weight x.n c)
    pub ones_decode : IsAccepted sheet → (word marks : List ℕ) {c : ℕ} → CodewordOf x c → WithinMarks x word marks c
        → (out : List ℕ) → length out ≡ (x.n + 7) / 8 → 2 * marked_zeros x.n (word_of x marks) c ≤ marks_count x marks
        → decode_of sheet (trial_word x 1 word marks) out ≡ (returned (changed x (trial_word x 1 word marks) c ∷ []), bytes_of word_weight x.n c)
    -- "With no mark, the answer is the ordinary one, since 2·e at most d - 1 is the same as e at most t": decode's count and word, trial 0,
    -- and 15 exactly where decode answers 13
    pub bound : (e : ℕ) → (2 * e ≤ d - 1) ↔ (e ≤ t)
    pub no_mark : (word marks zeros ones : List ℕ) → MarkedCall sheet word marks zeros ones
        → marks_count x marks ≡ 0 → (out : List ℕ) → length out ≡ (x.n + 7) / 8 → (count : ℕ) (decoded : List ℕ) → decode_of sheet word out ≡ (returned (count ∷ []), decoded)
        → decode_marked_of sheet word marks zeros ones ≡ (returned (count ∷ 0 ∷ []), (decoded, decoded))
    pub no_mark_none : (word marks zeros ones : List ℕ) → MarkedCall sheet word marks zeros ones
        → marks_count x marks ≡ 0 → (out : List ℕ) → length out ≡ (x.n + 7) / 8
        → ((decode_marked_of sheet word marks zeros ones).0.number ≡ 15) ↔ ((decode_of sheet word out).0.number ≡ 13)
    -- the second call: "that buffer's first n/8 bytes, rounded up", "(any other counts as 1)", "or all of a shorter one". That it "copies nothing
    -- and refuses nothing" is its type: it returns a part of a lent buffer.
    pub shown_zero : (n : ℕ) (zeros ones : List ℕ) → shown_of 0 n zeros ones ≡ take ((n + 7) / 8) zeros
    pub shown_other : (trial n : ℕ) (zeros ones : List ℕ) → trial ≢ 0 → shown_of trial n zeros ones ≡ take ((n + 7) / 8) ones
    pub shown_short : (n : ℕ) (buffer : List ℕ) → length buffer ≤ (n + 7) / 8 → take ((n + 7) / 8) buffer ≡ buffer

  -- ---- 2026-06, shortened codes: "the top m message bits are 0 and the top m places aren't sent, so messages have k - m bits and words n - m".
  -- Shortenable says that the sheet is accepted, and that m is above 0 and below k. A word of n - m places is the mask of n places that has 0
  -- in the others, and a message likewise.
  pub record Request06 : Type 0 where
    pub word_places : (m : ℕ) (word : List ℕ) (i : ℕ) → (i < x.n - m → coefficient i (sent_word_of m x word) ≡ place word_weight word i)
        × (x.n - m ≤ i → coefficient i (sent_word_of m x word) ≡ 0)
    pub message_places : (m : ℕ) (message : List ℕ) (i : ℕ)
        → (i < k - m → coefficient i (sent_message_of m x message) ≡ place message_weight message i)
        × (k - m ≤ i → coefficient i (sent_message_of m x message) ≡ 0)
    -- a shortened codeword is a codeword whose top m places are 0
    pub shortened : (m c : ℕ) → ShortenedCodeword m x c ↔ (CodewordOf x c × ((i : ℕ) → x.n - m ≤ i → i < x.n → coefficient i c ≡ 0))
    -- encoding is that of the message with m zero bits above, which there is: its codeword is what is written here, with 0 above
    pub encodes_as : (m : ℕ) → Shortenable sheet m → (message out : List ℕ) → ShortenedMessage m x message → length out ≡ (x.n - m + 7) / 8
        → (whole : List ℕ) × Message x whole × Bytes whole × (mask_of message_weight k whole ≡ sent_message_of m x message)
        × ((all : List ℕ) → length all ≡ (x.n + 7) / 8
        → word_of x (encode_of sheet whole all).1 ≡ sent_word_of m x (encode_shortened_of sheet m message out).1)
    -- each message is encoded into its systematic codeword, and reads back the same
    pub encodes : (m : ℕ) → Shortenable sheet m → (message out : List ℕ) → ShortenedMessage m x message → Bytes message
        → length out ≡ (x.n - m + 7) / 8
        → (word : List ℕ) × (encode_shortened_of sheet m message out ≡ (returned (0 ∷ []), word)) × ShortenedSystematic m x message word
        × ((back : List ℕ) → length back ≡ (k - m + 7) / 8 → read_shortened_of sheet m word back ≡ (returned (0 ∷ []), message))
    -- each shortened codeword reads out as a message, which is encoded into it
    pub reads : (m : ℕ) → Shortenable sheet m → (word out : List ℕ) → ShortenedWord m x word → Bytes word
        → ShortenedCodeword m x (sent_word_of m x word) → length out ≡ (k - m + 7) / 8
        → (message : List ℕ) × ShortenedMessage m x message × Bytes message × (read_shortened_of sheet m word out ≡ (returned (0 ∷ []), message))
        × ((back : List ℕ) → length back ≡ (x.n - m + 7) / 8 → encode_shortened_of sheet m message back ≡ (returned (0 ∷ []), word))
    -- what is no shortened codeword is refused with 14
    pub no_codeword : (m : ℕ) → Shortenable sheet m → (word out : List ℕ) → ShortenedWord m x word
        → ¬ ShortenedCodeword m x (sent_word_of m x word) → length out ≡ (k - m + 7) / 8 → read_shortened_of sheet m word out ≡ (refused 14, out)
    -- "Decoding a shortened word gives the only shortened codeword within t": the number is 0 ⟺ there is one; and then it is written, with the
    -- number of changed places, and no other codeword, shortened or not, is within t
    pub found : (m : ℕ) → Shortenable sheet m → (word out : List ℕ) → ShortenedWord m x word → length out ≡ (x.n - m + 7) / 8
        → ((decode_shortened_of sheet m word out).0.number ≡ 0)
        ↔ ((c : ℕ) × ShortenedCodeword m x c × (differences x.n (sent_word_of m x word) c ≤ t))
    pub decoded : (m : ℕ) → Shortenable sheet m → (word out : List ℕ) → ShortenedWord m x word → length out ≡ (x.n - m + 7) / 8
        → (decode_shortened_of sheet m word out).0.number ≡ 0 → ShortenedDecoded m x word (decode_shortened_of sheet m word out)
    -- "and 13 exactly if there is none",
    pub none : (m : ℕ) → Shortenable sheet m → (word out : List ℕ) → ShortenedWord m x word → length out ≡ (x.n - m + 7) / 8
        → ((decode_shortened_of sheet m word out).0.number ≡ 13) ↔ NoneNearShortened m x word
    -- "also where an unshortened codeword was near": within t of a codeword that is no shortened one
    pub other_near : (m : ℕ) → Shortenable sheet m → (word out : List ℕ) → ShortenedWord m x word → length out ≡ (x.n - m + 7) / 8
        → (c : ℕ) → CodewordOf x c → differences x.n (sent_word_of m x word) c ≤ t → ¬ ShortenedCodeword m x c
        → decode_shortened_of sheet m word out ≡ (refused 13, out)
    -- in how many places a word and a shortened codeword differ: those that are sent
    pub differ : (m : ℕ) (word : List ℕ) (c : ℕ) → ShortenedCodeword m x c
        → differences x.n (sent_word_of m x word) c ≡ total (x.n - m) (λ i. (place word_weight word i + coefficient i c) % 2)
    -- any two different shortened codewords differ in at least d of them
    pub apart : IsAccepted sheet → (m b c : ℕ) → ShortenedCodeword m x b → ShortenedCodeword m x c → b ≢ c
        → d ≤ differences (x.n - m) b c

  -- ---- 2026-07, drives that wipe out a run of bits: "A block carries m words". BlockCall says that the sheet is accepted, that m is 2 to 16,
  -- and that lengths and spare bits are right.
  pub record Request07 : Type 0 where
    -- "bit j·m + i of the block is place j of word i, packed high bit first"
    pub word_places : (m : ℕ) (block : List ℕ) (i j : ℕ) → j < x.n
        → coefficient j (block_word x.n m block i) ≡ get_or block ((j * m + i) / 8) 0 / 2 ^ (7 - (j * m + i) % 8) % 2
    -- in word layout it is a word, with these places
    pub word_bytes : (m : ℕ) (block : List ℕ) (i : ℕ)
        → Word x (block_word_bytes x.n m block i) × Bytes (block_word_bytes x.n m block i)
        × (word_of x (block_word_bytes x.n m block i) ≡ block_word x.n m block i)
    -- "A block carries m words", "spare bits 0": any m of n places
    pub carries : (m : ℕ) (words : ℕ → ℕ) → ((i : ℕ) → i < m → words i < 2 ^ x.n)
        → (block : List ℕ) × Places word_weight (x.n * m) block × Bytes block × ((i : ℕ) → i < m → block_word x.n m block i ≡ words i)
    -- the calls that draw no refusal are those with an accepted sheet, an m of 2 to 16, right lengths and no spare bit;
    pub right_call : (m : ℕ) (block out verdicts : List ℕ)
        → ((decode_block_of sheet m block out verdicts).0.number ≡ 0) ↔ BlockCall sheet m block out verdicts
    -- such a call answers 0; output and verdicts are as long as they were
    pub answered : (m : ℕ) (block out verdicts : List ℕ) → BlockCall sheet m block out verdicts
        → ((decode_block_of sheet m block out verdicts).0 ≡ returned (0 ∷ []))
        × (length (decode_block_of sheet m block out verdicts).1.0 ≡ length out)
        × (length (decode_block_of sheet m block out verdicts).1.1 ≡ m)
    -- "The output is m words long, one after the other": byte p of word i's own bytes is byte i·(n/8 rounded up) + p
    pub own_bytes_read : (i p : ℕ) (out : List ℕ) → p < (x.n + 7) / 8 → get_or (own_bytes x.n i out) p 0 ≡ get_or out (i * ((x.n + 7) / 8) + p) 0
    -- "Each corrected word goes into its own bytes of the lent output": they are as decoding leaves them, and the verdict is of its answer
    pub each : (m : ℕ) (block out verdicts : List ℕ) → BlockCall sheet m block out verdicts → (i : ℕ) → i < m
        → (own_bytes x.n i (decode_block_of sheet m block out verdicts).1.0
        ≡ (decode_of sheet (block_word_bytes x.n m block i) (own_bytes x.n i out)).1)
        × (get_or (decode_block_of sheet m block out verdicts).1.1 i 0
        ≡ verdict_of (decode_of sheet (block_word_bytes x.n m block i) (own_bytes x.n i out)).0)
    -- "A verdict byte for each word holds its changed places": where a codeword is within t places of word i, it is in the word's own bytes, and
    -- the verdict is the number of places in which they differ;
    pub near : (m : ℕ) (block out verdicts : List ℕ) → BlockCall sheet m block out verdicts → (i : ℕ) → i < m → (c : ℕ) → CodewordOf x c
        → differences x.n (block_word x.n m block i) c ≤ t
        → (own_bytes x.n i (decode_block_of sheet m block out verdicts).1.0 ≡ bytes_of word_weight x.n c)
        × (get_or (decode_block_of sheet m block out verdicts).1.1 i 0 ≡ differences x.n (block_word x.n m block i) c)
    -- "or 255 for none near", exactly;
    pub none_near : (m : ℕ) (block out verdicts : List ℕ) → BlockCall sheet m block out verdicts → (i : ℕ) → i < m
        → (get_or (decode_block_of sheet m block out verdicts).1.1 i 0 ≡ 255)
        ↔ ((c : ℕ) → CodewordOf x c → t < differences x.n (block_word x.n m block i) c)
    -- and "a word with no codeword within t leaves its bytes as they were"
    pub none_near_bytes : (m : ℕ) (block out verdicts : List ℕ) → BlockCall sheet m block out verdicts → (i : ℕ) → i < m
        → get_or (decode_block_of sheet m block out verdicts).1.1 i 0 ≡ 255
        → own_bytes x.n i (decode_block_of sheet m block out verdicts).1.0 ≡ own_bytes x.n i out
    -- of a run of at most m·r bits at most r are of each word
    pub run_few : (m r start run i n : ℕ) → run ≤ m * r → total n (λ j. bit (leb start (j * m + i) && ltb (j * m + i) (start + run))) ≤ r
    -- "A block of codewords with at most m·t neighbouring bits spoiled, none spare, always comes back whole": every word is the one that was
    -- sent, and every verdict the number of its spoiled places,
    pub whole : (m : ℕ) (block out verdicts : List ℕ) → BlockCall sheet m block out verdicts
        → (sent : List ℕ) → ((i : ℕ) → i < m → CodewordOf x (block_word x.n m sent i))
        → (start run : ℕ) → run ≤ m * t → RunSpoiled m x sent block start run
        → decode_block_of sheet m block out verdicts
        ≡ (
          returned (0 ∷ []),
          (
            flat_map (block_word_bytes x.n m sent) (up_to m),
            map (λ i. differences x.n (block_word x.n m block i) (block_word x.n m sent i)) (up_to m),
          ),
        )
    -- which are those whose bit was received other than it was sent
    pub spoiled_places : (m : ℕ) (sent received : List ℕ) (i : ℕ)
        → differences x.n (block_word x.n m received i) (block_word x.n m sent i)
        ≡ total x.n (λ j. (place word_weight received (j * m + i) + place word_weight sent (j * m + i)) % 2)

-- ---- of bytes alone: 2026-01, highest bit first: for all bytes; spare bits for a buffer of the right length
pub record Request01 : Type 0 where
  -- "place i of a word has weight 2^(7 - i mod 8) in byte i div 8"
  pub word_order : (word : List ℕ) (i : ℕ) → place word_weight word i ≡ get_or word (i / 8) 0 / 2 ^ (7 - i % 8) % 2
  -- "A word's spare bits are then the low bits of its last byte": as many as its places leave of its bytes
  pub word_spare : (n : ℕ) (word : List ℕ) → 1 ≤ n → length word ≡ (n + 7) / 8
      → SpareBit word_weight n word ↔ (get_or word (length word - 1) 0 % 2 ^ (8 * length word - n) ≢ 0)
  -- "Messages keep 01's order", 2^(i mod 8)
  pub message_order : (message : List ℕ) (i : ℕ) → place message_weight message i ≡ get_or message (i / 8) 0 / 2 ^ (i % 8) % 2
  -- and their spare bits are the high bits of their last byte
  pub message_spare : (k : ℕ) (message : List ℕ) → 1 ≤ k → length message ≡ (k + 7) / 8 → Bytes message
      → SpareBit message_weight k message ↔ (get_or message (length message - 1) 0 / 2 ^ (8 - (8 * length message - k)) ≢ 0)

-- ---- they hold
pub demand_1 : (sheet : List ℕ) → Demand1 sheet
demand_1 sheet = record {
  bytes = read_sheet_bytes sheet;
  judge = judge_answered sheet;
  encode = encode_answered sheet;
  read = read_answered sheet;
  decode = decode_answered sheet;
  decode_marked = marked_answered sheet;
  encode_short = encode_short_answered sheet;
  read_short = read_short_answered sheet;
  decode_short = decode_short_answered sheet;
  decode_block = block_answered sheet;
  card = card_answered sheet;
  sheet_refusal = sheet_first sheet;
  sheet_refusal_marked = marked_first sheet;
  sheet_refusal_short = shortened_first sheet;
  sheet_refusal_block = block_first sheet;
  card_text = card_writes sheet;
  card_fits = listing_fits sheet;
  card_refusal = text_refused_iff sheet;
  card_listing = text_listed_iff sheet;
  thirteen = thirteen_iff sheet;
  fourteen = fourteen_iff sheet;
  fifteen = fifteen_iff sheet;
  thirteen_short = thirteen_short_iff sheet;
  fourteen_short = fourteen_short_iff sheet;
  sixteen = sixteen_iff sheet;
  seventeen = seventeen_iff sheet;
}

pub demand_2 : (sheet : List ℕ) → Demand2 sheet
demand_2 sheet = record {
  word_places = mask_coefficient word_weight (stated sheet).n;
  message_places = mask_coefficient message_weight (dimension_of (stated sheet));
  word_mask = mask_lt word_weight (stated sheet).n;
  mask_word = mask_word (stated sheet);
  word_one = word_one (stated sheet);
  degree = degree_said sheet;
  dimension = dimension_said sheet;
  generator = generator_said sheet;
  generator_degree = generator_degree_said sheet;
  differ = differ_count (stated sheet).n;
  multiple = multiple_said sheet;
  zeros = zeros_said sheet;
  encodes = encodes_said sheet;
  reads = reads_said sheet;
  no_codeword = refused_said sheet;
  certificate = λ h i l. certificate_published sheet h i;
  acceptance = accepted_published sheet;
  yields = rounded_said sheet;
  distances = distance_said sheet;
}

pub demand_3 : (sheet : List ℕ) → Demand3 sheet
demand_3 sheet = record {
  working = working_said sheet;
  judged = record_said sheet;
  found = found_said sheet;
  decoded = decoded_said sheet;
  none = none_said sheet;
  apart = apart_said sheet;
}

pub request_01 : Request01
unfolding word_weight message_weight place
request_01 = record {
  word_order = λ word i. refl;
  word_spare = word_spare_said;
  message_order = λ message i. refl;
  message_spare = message_spare_said;
}

pub request_02 : (sheet : List ℕ) → Request02 sheet
unfolding kept
request_02 sheet = record {
  first = λ bits a. refl;
  bit_in = λ bits a j h. refl;
  after_each_bit = kept_said sheet;
  written = encoded_said sheet;
  word_test = word_said sheet;
}

pub request_03 : (sheet : List ℕ) → Request03 sheet
request_03 sheet = record {
  refusal_nine = (judge_answered sheet).refused 9 (omega arith);
  before = λ h i l r. period_said (length_here sheet h) (certificate_at (stated sheet) i) (modulus r);
  in_its_place = conditions_are short sheet;
  period = λ h i l r. period_suffices (length_here sheet h) (certificate_at (stated sheet) i) (modulus r);
  accepted_still = λ e. nine_alone sheet (λ n. omega (arith, e, n));
  answered_still = nine_alone sheet;
  full_radius = radius_said sheet;
}

pub request_04 : (sheet : List ℕ) → Request04 sheet
unfolding radius_of
request_04 sheet = record {
  chosen = working_only sheet;
  one_certificate = λ n k s w d t terms e. record_chosen sheet e;
  linkcard = λ n k s w d t terms e. card_chosen sheet e;
  rises = radius_rises;
  largest_radius = radius_most (stated sheet);
  before = λ e w. before_said (stated sheet) (omega (arith, (working_said sheet e).working.below)) w;
  radius_still = radius_still (stated sheet);
  in_its_place = decoded_chosen sheet;
  decoded_still = decoded_still sheet;
}

pub request_05 : (sheet : List ℕ) → Request05 sheet
request_05 sheet = record {
  r_is = marks_counted (stated sheet);
  e_is = unmarked_counted (stated sheet);
  trials = trial_places (stated sheet);
  only = only_said sheet;
  exists = exists_said sheet;
  none = fifteen_said sheet;
  answer = shown_said sheet;
  held = held_said sheet;
  decodes = one_decodes sheet;
  half = half_or_half (stated sheet);
  zeros_decode = zeros_decoded sheet;
  ones_decode = ones_decoded sheet;
  bound = bound_same (stated sheet);
  no_mark = unmarked_said sheet;
  no_mark_none = unmarked_none sheet;
  shown_zero = shown_zero;
  shown_other = shown_other;
  shown_short = shown_short;
}

pub request_06 : (sheet : List ℕ) → Request06 sheet
request_06 sheet = record {
  word_places = Shortened.sent_word (stated sheet);
  message_places = Shortened.sent_message (stated sheet);
  shortened = Shortened.shortened_iff (stated sheet);
  encodes_as = Shortened.encoded_as sheet;
  encodes = Shortened.encodes_said sheet;
  reads = Shortened.reads_said sheet;
  no_codeword = Shortened.refused_said sheet;
  found = Shortened.found_said sheet;
  decoded = Shortened.decoded_said sheet;
  none = Shortened.none_said sheet;
  other_near = Shortened.other_near sheet;
  differ = Shortened.counted_said (stated sheet);
  apart = Shortened.apart_said sheet;
}

pub request_07 : (sheet : List ℕ) → Request07 sheet
request_07 sheet = record {
  word_places = Blocks.word_places (stated sheet).n;
  word_bytes = Blocks.word_bytes (stated sheet);
  carries = Blocks.carries (stated sheet).n;
  right_call = Blocks.right_call sheet;
  answered = Blocks.answered sheet;
  own_bytes_read = Blocks.own_at (stated sheet).n;
  each = Blocks.each_said sheet;
  near = Blocks.near_said sheet;
  none_near = Blocks.none_near_said sheet;
  none_near_bytes = Blocks.none_near_bytes sheet;
  run_few = Blocks.run_few;
  whole = Blocks.whole_said sheet;
  spoiled_places = Blocks.spoiled_places (stated sheet).n;
}
