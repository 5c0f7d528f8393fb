-- Document 01's kind of sheet, and the entries on its bytes: the definitions that the entries' contracts cite.
--
--   byte_at, number_at      a byte, and a 16-bit number
--   short                 the kind: "The code sheet"
--   stated sheet          what a sheet states; refusals_of sheet: the conditions 1 to 10 of its refusals, in order
--   judge_of sheet         judging
--   encode_of sheet message out, read_of sheet word out, decode_of sheet word out      answer, and bytes
--   decode_marked_of sheet word marks zeros ones      answer, and the bytes of both trial buffers
--   refusals_to_shorten sheet m      1 to 10, and then 16
--   encode_shortened_of sheet m message out, read_shortened_of sheet m word out, decode_shortened_of sheet m word out      answer, and bytes
--   refusals_to_interleave sheet m      1 to 10, and then 17
--   decode_block_of sheet m block out verdicts      answer, and the bytes of the output and of the verdicts
--   listing sheet, card_of sheet out      the listing, and the entry that writes it
use Rattle.std.specs.Prelude.{List, ◌++◌, ℕ, ◌+◌, ◌*◌, get_or}
use Rattle.document.specs.Answer.{Answer, Conditions}
use Rattle.document.specs.Sheet.{Certificate, Stated, Header, Kind, stated_by}
use Rattle.document.specs.Judge.{judge_conditions, judge_entry}
use Rattle.document.specs.Entry.{encode_entry, read_entry, decode_entry}
use Rattle.document.specs.Marked.{marked_entry}
use Rattle.document.specs.Shortened.{shortening_conditions, encode_shortened_entry, read_shortened_entry, decode_shortened_entry}
use Rattle.document.specs.Block.{depth_conditions, block_entry}
use Rattle.document.specs.Card.{listing_of, card_entry}

abbrev pub byte_at : List ℕ → ℕ → ℕ
byte_at sheet i = get_or sheet i 0

-- "16-bit numbers low byte first"
abbrev pub number_at : List ℕ → ℕ → ℕ
number_at sheet i = byte_at sheet i + 256 * byte_at sheet (i + 1)

-- 0-1 length of the whole sheet; 2 n; 3 R; 4-5 offset of the representatives; 6 C; 7 0; 8-9 offset of the certificates
abbrev pub header_of : List ℕ → Header
header_of sheet = record {
  sheet_length = number_at sheet 0;
  n = byte_at sheet 2;
  R = byte_at sheet 3;
  representatives_at = number_at sheet 4;
  C = byte_at sheet 6;
  zero_field = byte_at sheet 7;
  certificates_at = number_at sheet 8;
}

-- "Then R bytes: representatives"
abbrev pub representative_of : List ℕ → ℕ → ℕ
representative_of sheet i = byte_at sheet (10 + i)

-- "b, z, f (two bytes), h, a byte 0, L (two bytes)", from byte `at` on
abbrev pub certificate_from : List ℕ → ℕ → Certificate
certificate_from sheet at = record {
  b = byte_at sheet at;
  z = byte_at sheet (at + 1);
  f = number_at sheet (at + 2);
  h = byte_at sheet (at + 4);
  zero_field = byte_at sheet (at + 5);
  L = number_at sheet (at + 6);
}

-- "Then C times 8 bytes"
abbrev pub certificate_of : List ℕ → ℕ → Certificate
certificate_of sheet i = certificate_from sheet (10 + byte_at sheet 3 + 8 * i)

-- "under 10 or over 74 bytes"; offsets "always 10", "always 10 + R"; "The length is 10 + R + 8·C."; n to 127, R "0 to 32", L to 1,023
abbrev pub short : Kind
short = record {
  shortest = 10;
  longest = 74;
  representatives_from = 10;
  certificates_from = λ R. 10 + R;
  length_of = λ R C. 10 + R + 8 * C;
  most_places = 127;
  most_representatives = 32;
  most_terms = 1023;
  header = header_of;
  representative = representative_of;
  certificate = certificate_of;
}

abbrev pub stated : List ℕ → Stated
stated sheet = stated_by short sheet

abbrev pub refusals_of : List ℕ → Conditions
refusals_of sheet = judge_conditions short sheet

-- ---- the entries. "Every operation on messages and words is handed the sheet's bytes as well and judges the sheet first."
abbrev pub judge_of : List ℕ → Answer
judge_of sheet = judge_entry (refusals_of sheet) (stated sheet)

abbrev pub encode_of : List ℕ → List ℕ → List ℕ → Answer × List ℕ
encode_of sheet message out = encode_entry (refusals_of sheet) (stated sheet) message out

abbrev pub read_of : List ℕ → List ℕ → List ℕ → Answer × List ℕ
read_of sheet word out = read_entry (refusals_of sheet) (stated sheet) word out

abbrev pub decode_of : List ℕ → List ℕ → List ℕ → Answer × List ℕ
decode_of sheet word out = decode_entry (refusals_of sheet) (stated sheet) word out

abbrev pub decode_marked_of : List ℕ → List ℕ → List ℕ → List ℕ → List ℕ → Answer × (List ℕ × List ℕ)
decode_marked_of sheet word marks zeros ones = marked_entry (refusals_of sheet) (stated sheet) word marks zeros ones

-- 2026-06: "New entries to encode, read out and decode take m"; "Refusal 16, after the sheet's and before 11"
abbrev pub refusals_to_shorten : List ℕ → ℕ → Conditions
refusals_to_shorten sheet m = refusals_of sheet ++ shortening_conditions m (stated sheet)

abbrev pub encode_shortened_of : List ℕ → ℕ → List ℕ → List ℕ → Answer × List ℕ
encode_shortened_of sheet m message out = encode_shortened_entry (refusals_to_shorten sheet m) m (stated sheet) message out

abbrev pub read_shortened_of : List ℕ → ℕ → List ℕ → List ℕ → Answer × List ℕ
read_shortened_of sheet m word out = read_shortened_entry (refusals_to_shorten sheet m) m (stated sheet) word out

abbrev pub decode_shortened_of : List ℕ → ℕ → List ℕ → List ℕ → Answer × List ℕ
decode_shortened_of sheet m word out = decode_shortened_entry (refusals_to_shorten sheet m) m (stated sheet) word out

-- 2026-07: "A block carries m words"; "refusal 17, after the sheet's and before 11"
abbrev pub refusals_to_interleave : List ℕ → ℕ → Conditions
refusals_to_interleave sheet m = refusals_of sheet ++ depth_conditions m

abbrev pub decode_block_of : List ℕ → ℕ → List ℕ → List ℕ → List ℕ → Answer × (List ℕ × List ℕ)
decode_block_of sheet m block out verdicts = block_entry (refusals_to_interleave sheet m) m (stated sheet) block out verdicts

abbrev pub listing : List ℕ → List ℕ
listing sheet = listing_of (refusals_of sheet) (stated sheet)

-- 1,024 bytes are more than any listing of such a sheet takes
abbrev pub card_of : List ℕ → List ℕ → Answer × List ℕ
card_of sheet out = card_entry 1024 (refusals_of sheet) (stated sheet) out
