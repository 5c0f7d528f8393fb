-- What correcting a word asks for, and says. No entry's contract cites this file.
--
--   Given n s t c reps       a certificate that keeps rules 1 to 4, with its radius
--   Choosable, Chosen        the first coefficients of one of two slices
--   corrected_as, Verified    so many places to be changed, or None, in document 01's numbers, and what the last test lets through
--   Workspace, Held, Correctable      lent slices that are long enough and hold 0 where they must, and a word
--   Corrected                the codeword within t places, or that there is none
use Rattle.std.specs.Prelude.{◌≡◌, Bool, true, false, Option, Some, None, List, [], ◌∷◌, ℕ, ◌+◌, ◌*◌, ◌/◌, ◌%◌, ◌^◌, ◌≤◌, ◌<◌, length, get_or, take}
use Rattle.field.specs.Mask.{◌⊕◌}
use Rattle.field.specs.Field.{order_of_two}
use Rattle.document.specs.Answer.{Answer, returned, refused}
use Rattle.document.specs.Generator.{Codeword, differences}
use Rattle.document.specs.Certificate.{radius}
use Rattle.document.proofs.Theory.{Length}
use Rattle.sheet.specs.declared.types.Certificate.{Certificate as CodeCertificate}
use Rattle.sheet.specs.Stage.{certificate_as}
use Rattle.certificate.proofs.RulesHeld.{Sound}
use Rattle.binary.specs.Bits.{Holds}
use Rattle.syndrome.specs.Sums.{Listed}
use Rattle.poly.specs.Slice.{Short}
use Rattle.syndrome.specs.Value.{Compared}
use Rattle.poly.specs.declared.types.Locator.{Locator}
use Rattle.poly.specs.declared.types.Locator.TheVariants.{Lower, Upper}
use Rattle.locator.specs.declared.terms.Term.{Term}
use Rattle.locator.specs.declared.terms.Lanes.{Lanes}

pub record Given (n s t : ℕ) (c : CodeCertificate) (reps : List ℕ) : Type 0 where
  pub length_stated : Length n
  pub s_is : s ≡ order_of_two n
  pub few : c.terms ≤ 65535
  pub below : (k : ℕ) → k < length reps → get_or reps k 0 < n
  pub sound : Sound n reps (certificate_as c)
  pub t_is : t ≡ radius (certificate_as c)

-- ---- the first coefficients of one of two slices
abbrev pub Choosable : Locator → List ℕ → List ℕ → Type 0
Choosable (Lower len) lower_cofactor upper_cofactor = len ≤ length lower_cofactor
Choosable (Upper len) lower_cofactor upper_cofactor = len ≤ length upper_cofactor

abbrev pub Chosen : Locator → List ℕ → List ℕ → List ℕ → Type 0
Chosen (Lower len) lower_cofactor upper_cofactor locator = locator ≡ take len lower_cofactor
Chosen (Upper len) lower_cofactor upper_cofactor locator = locator ≡ take len upper_cofactor

-- ---- the last test
-- "Decoding returns the number of changed places"; refusal 13, "no codeword within t places"
abbrev pub corrected_as : Option ℕ → Answer
corrected_as (Some m) = returned (m ∷ [])
corrected_as None = refused 13

-- m listed places: 13 where they are more than t, or where the word with them changed is no codeword
pub record Verified (n s t m : ℕ) (list reps val : List ℕ) (answer : Answer) : Type 0 where
  pub many : t < m → answer ≡ refused 13
  pub right : Bool
  pub tested : m ≤ t → (m ≤ length list) × Compared n s (take m list) reps val right
  pub yes : m ≤ t → right ≡ true → answer ≡ returned (m ∷ [])
  pub no : m ≤ t → right ≡ false → answer ≡ refused 13

-- ---- the whole
pub record Workspace (n L : ℕ) (columns values upper lower lower_cofactor upper_cofactor : List ℕ) (terms : List Term) (lanes : List Lanes) (places : List ℕ) : Type 0 where
  pub columns_long : (n + 7) / 8 * 2 ≤ length columns
  pub places_long : n ≤ length places
  pub values_long : n ≤ length values
  pub upper_long : L < length upper
  pub lower_long : L < length lower
  pub lower_cofactor_long : L < length lower_cofactor
  pub upper_cofactor_long : L < length upper_cofactor
  pub terms_long : (length lower_cofactor ≤ length terms) × (length upper_cofactor ≤ length terms)
  pub lanes_long : (length lower_cofactor ≤ length lanes) × (length upper_cofactor ≤ length lanes)
  pub upper_zero : Short 0 upper
  pub lower_zero : Short 0 lower
  pub lower_cofactor_zero : Short 0 lower_cofactor
  pub upper_cofactor_zero : Short 0 upper_cofactor

-- a word of n places at most, and 0 up to the next whole byte
pub record Held (n : ℕ) (w : List ℕ) : Type 0 where
  pub word : ℕ
  pub small : word < 2 ^ n
  pub holds : Holds word w
  pub whole : length w % 8 ≡ 0
  pub most : length w ≤ (n + 7) / 8 * 8

pub record Correctable (n : ℕ) (c : CodeCertificate) (columns values upper lower lower_cofactor upper_cofactor : List ℕ) (terms : List Term) (lanes : List Lanes) (places bits : List ℕ) : Type 0 where
  pub space : Workspace n c.terms columns values upper lower lower_cofactor upper_cofactor terms lanes places
  pub held : Held n bits

-- of whatever word r it was: m places are listed, m at most t, and with them changed it is a codeword, m places from it; or none
-- is so near
pub record Corrected (n t : ℕ) (reps w list : List ℕ) (answer : Answer) : Type 0 where
  pub found : {r m : ℕ} → Holds r w → r < 2 ^ n → answer ≡ returned (m ∷ [])
      → (a : ℕ) × Codeword n reps (r ⊕ a) × (m ≡ differences n r (r ⊕ a)) × (m ≤ t) × (a < 2 ^ n) × Listed n a list m
  pub none : {r : ℕ} → Holds r w → r < 2 ^ n → answer ≡ refused 13 → (c : ℕ) → Codeword n reps c → t < differences n r c
