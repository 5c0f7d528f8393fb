-- What a sheet states, apart from how its bytes say it; and what a kind of sheet is.
--
--   Certificate, Stated            what a sheet states: n, its representatives, its certificates
--   certificate_at x i              certificate i of what is stated
--   Header, Kind                   a kind of sheet: how long it is, how many of each there may be, how its bytes are read
--   wrong_length, wrong_code_length, wrong_header      conditions 1, 2 and 4, which belong to the kind
--   stated_by kind sheet            what the bytes of a sheet of this kind state
-- Short.antt has document 01's kind. Conditions 3 and 5 to 10, and all that an entry does, speak of what is stated.
use Rattle.std.specs.Prelude.{Bool, not, ◌||◌, List, map, ℕ, ◌%◌, eqb, ltb, length, get_or}
use Rattle.field.specs.Search.{up_to}

-- ---- what is stated
-- "A certificate is a start b, a step z, masks f and h, and a number of terms L." Rule 1 asks that its zero on the sheet is 0.
pub record Certificate : Type 0 where
  pub b : ℕ
  pub z : ℕ
  pub f : ℕ
  pub h : ℕ
  pub zero_field : ℕ
  pub L : ℕ

pub record Stated : Type 0 where
  pub n : ℕ
  pub representatives : List ℕ
  pub certificates : List Certificate

-- past the last there is none, and nothing asks for it
abbrev no_certificate : Certificate
no_certificate = record { b = 0; z = 0; f = 0; h = 0; zero_field = 0; L = 0 }

unfoldable pub certificate_at : Stated → ℕ → Certificate
certificate_at x i = get_or x.certificates i no_certificate

-- ---- kinds of sheets
-- "A header of counts and offsets": the length of the whole sheet, n, the number R of representatives and their offset, the number
-- C of certificates, a 0, and the certificates' offset
pub record Header : Type 0 where
  pub sheet_length : ℕ
  pub n : ℕ
  pub R : ℕ
  pub representatives_at : ℕ
  pub C : ℕ
  pub zero_field : ℕ
  pub certificates_at : ℕ

pub record Kind : Type 0 where
  -- how long: the shortest and the longest sheet, the two offsets (the second by R), the length by R and C
  pub shortest : ℕ
  pub longest : ℕ
  pub representatives_from : ℕ
  pub certificates_from : ℕ → ℕ
  pub length_of : ℕ → ℕ → ℕ
  -- how many: the largest n, R and L
  pub most_places : ℕ
  pub most_representatives : ℕ
  pub most_terms : ℕ
  -- how to read: the header, representative i, certificate i
  pub header : List ℕ → Header
  pub representative : List ℕ → ℕ → ℕ
  pub certificate : List ℕ → ℕ → Certificate

unfoldable pub stated_by : Kind → List ℕ → Stated
stated_by kind sheet = record {
  n = (kind.header sheet).n;
  representatives = map (kind.representative sheet) (up_to (kind.header sheet).R);
  certificates = map (kind.certificate sheet) (up_to (kind.header sheet).C);
}

-- The conditions as document 01 says them of its own kind; another kind puts its own numbers in their place.
-- 1: "under 10 or over 74 bytes, or bytes 0-1 differ from the true length"
unfoldable pub wrong_length : Kind → List ℕ → Bool
wrong_length kind sheet =
    ltb (length sheet) kind.shortest
    || ltb kind.longest (length sheet)
    || not (eqb (kind.header sheet).sheet_length (length sheet))

-- 2: "n even, below 3 or above 127"
unfoldable pub wrong_code_length : Kind → ℕ → Bool
wrong_code_length kind n = eqb (n % 2) 0 || ltb n 3 || ltb kind.most_places n

-- 4: "a count, offset, byte 7 or the length formula is wrong"
unfoldable pub wrong_header : Kind → List ℕ → Bool
wrong_header kind sheet =
    let h : Header = kind.header sheet in
    ltb kind.most_representatives h.R
    || not (eqb h.representatives_at kind.representatives_from)
    || (ltb h.C 1 || ltb 4 h.C)
    || not (eqb h.zero_field 0)
    || not (eqb h.certificates_at (kind.certificates_from h.R))
    || not (eqb (length sheet) (kind.length_of h.R h.C))
