-- Each entry's conditions, in its order, are the statements of document 01's table. The entries that are handed m are Between.antt's.
--
--   length_stated                a length that draws neither 2 nor 3
--   head_said, sheet_said      the conditions 1 to 6, and 1 to 10
--   accepted_of              where none of 1 to 10 holds, the sheet is accepted
--   size_said, spare_said    11 and 12, of any buffer
--   codeword_said, near_said, marks_said      a codeword as it is tested; no codeword near, or with marks, as it is searched for
--   judge_answered, encode_answered, read_answered, decode_answered, marked_answered, card_answered      what each entry answers
use mathlib.Core.Path.{◌≡◌, refl}
use mathlib.Core.Logic.Iff
use mathlib.Core.Logic.{◌≢◌, inl, inr}
use mathlib.Core.Bool.{not}
use mathlib.Core.List.{List, [], ◌++◌}
use Prim.Native.Nat.{ℕ, ◌+◌, ◌-◌, ◌/◌, ◌%◌, ◌^◌, ◌≤◌}
use native.Mathlib.Decide.{dec_lt}
use native.Mathlib.Omega.{arith}
use lib.Dec.{eqb}
use lib.ListN.{length}
use borrow.Author.Tests.{lt-ltb}
use Rattle.field.specs.Field.{OddLength, order_of_two}
use Rattle.codeword.proofs.Places.{mask_lt}
use Rattle.document.specs.Answer.{first_of}
use Rattle.document.specs.Layout.{word_weight, message_weight, bytes_for, spare}
use Rattle.document.specs.Sheet.{Stated}
use Rattle.document.specs.Coset.{dimension}
use Rattle.document.specs.Generator.{is_codeword}
use Rattle.document.specs.Judge.{wrong_degree, no_message, sheet_conditions, judge_conditions, dimension_of, record_of, judge_entry}
use Rattle.document.specs.Entry.{CodewordOf, generator_of, word_of, nearest_message, encode_conditions, encode_entry, read_conditions, read_entry}
use Rattle.document.specs.Entry.{decode_conditions, decode_entry}
use Rattle.document.specs.Marked.{marked_message, marked_conditions, marked_entry}
use Rattle.document.specs.Card.{card_conditions, card_entry}
use Rattle.document.specs.Short.{short, stated, refusals_of, judge_of, encode_of, read_of, decode_of, decode_marked_of, card_of}
use Rattle.document.proofs.Reflect.{Says, not_iff, eqb_iff, not_eq_iff}
use Rattle.document.proofs.Meaning.{length_iff, code_length_iff, header_iff, representative_iff, degree_iff, no_message_iff, spare_iff}
use Rattle.document.proofs.Theory.{Length}
use Rattle.certificate.proofs.Sheets as Sheets
use Rattle.certificate.proofs.Marks.{marked_none}
use Rattle.code.specs.Turns.{NoneHolds}
use Rattle.code.specs.Table.{WrongCodeLength, WrongDegree, NoMessage, WrongBufferLength, SpareBit, NoneNear, head_turns, sheet_turns, encode_own, encode_turns}
use Rattle.code.specs.Table.{NoneWithMarks, read_own, read_turns, decode_own, decode_turns, marked_own, marked_turns, card_turns, last_refusal, Answered}
use Rattle.code.proofs.InTurn.{Said, said_none, said_append, answered, judged_answered}
use Rattle.code.proofs.Rules.{certificates_said}

odd_length : {n : ℕ} → ¬ WrongCodeLength n → OddLength n
odd_length {n} h = record {
  least = elim (dec_lt n 3) [ yes l ↦ absurd (h (inr (inl l))) | no l ↦ omega arith ];
  most = elim (dec_lt 127 n) [ yes l ↦ absurd (h (inr (inr l))) | no l ↦ omega arith ];
  odd = (let e : n % 2 ≢ 0 = λ q. h (inl q) in omega arith);
}

pub length_stated : {n : ℕ} → ¬ WrongCodeLength n → ¬ WrongDegree n → Length n
unfolding wrong_degree
length_stated {n} h k =
    let o : OddLength n = odd_length h in
    record { odd = o; most = elim (dec_lt 12 (order_of_two n)) [ yes l ↦ absurd (k ((degree_iff o).0 (lt-ltb 12 (order_of_two n) l))) | no l ↦ omega arith ] }

pub card_said : (out : List ℕ) → Said last_refusal (card_conditions 1024 out) (card_turns out)
unfolding card_conditions
card_said out = (omega arith, omega arith, refl, not_eq_iff (length out) 1024, λ n. tt)

pub size_said : (places : ℕ) (buffer : List ℕ) → Says (not (eqb (length buffer) (bytes_for places))) (WrongBufferLength places buffer)
unfolding bytes_for
size_said places buffer = not_eq_iff (length buffer) ((places + 7) / 8)

pub spare_said : (weight : ℕ → ℕ) (n : ℕ) (bytes : List ℕ) → Says (spare weight n bytes) (SpareBit weight n bytes)
unfolding bytes_for
spare_said weight n bytes = spare_iff weight n bytes

module _ (sheet : List ℕ) where
  abbrev x : Stated
  x = stated sheet

  -- ---- 1 to 10
  message_said : OddLength x.n → Says (no_message x.n x.representatives) (NoMessage x.n x.representatives)
  unfolding no_message
  message_said o =
      Iff.trans (eqb_iff (dimension x.n x.representatives) 0) (no_message_iff o x.representatives)

  pub head_said : (top : ℕ) → 6 ≤ top → Said top (sheet_conditions short sheet) (head_turns sheet)
  unfolding sheet_conditions
  head_said top h = (
    omega arith,
    omega arith,
    refl,
    length_iff sheet,
    λ n₁. (
      omega arith,
      omega arith,
      refl,
      code_length_iff x.n,
      λ n₂. let o : OddLength x.n = odd_length n₂ in (
        omega arith,
        omega arith,
        refl,
        degree_iff o,
        λ n₃. (
          omega arith,
          omega arith,
          refl,
          header_iff sheet,
          λ n₄. (
            omega arith,
            omega arith,
            refl,
            representative_iff o x.representatives,
            λ n₅. (omega arith, omega arith, refl, message_said o, λ n₆. tt),
          ),
        ),
      ),
    ),
  )

  pub sheet_said : Said last_refusal (refusals_of sheet) (sheet_turns sheet)
  unfolding judge_conditions
  sheet_said =
      said_append last_refusal (sheet_conditions short sheet) (head_turns sheet) _ _ (head_said last_refusal (omega arith))
      (λ none. certificates_said (length_stated none.1.0 none.1.1.0) x.representatives x.certificates)

  pub accepted_of : NoneHolds (sheet_turns sheet) → first_of (refusals_of sheet) ≡ 0
  accepted_of none = (said_none last_refusal (refusals_of sheet) (sheet_turns sheet) sheet_said).1 none

  usable : NoneHolds (sheet_turns sheet) → Sheets.Accepted x
  usable none = Sheets.accepted short (omega arith) sheet (accepted_of none)

  -- ---- 13 to 15
  pub codeword_said : (word : List ℕ)
      → Says (is_codeword (x.n - dimension_of x) (generator_of x) (word_of x word)) (CodewordOf x (word_of x word))
  unfolding dimension_of generator_of
  codeword_said word = (λ e. record { small = mask_lt word_weight x.n word; is = e }, λ c. c.is)

  pub near_said : Sheets.Accepted x → (word : List ℕ) → Says (eqb (nearest_message x word) (2 ^ dimension_of x)) (NoneNear x word)
  near_said a word =
      Iff.trans (eqb_iff (nearest_message x word) (2 ^ dimension_of x)) (Sheets.sheet_none a word)

  pub marks_said : Sheets.Accepted x → (word marks : List ℕ)
      → Says (eqb (marked_message x word marks) (2 ^ dimension_of x)) (NoneWithMarks x word marks)
  marks_said a word marks =
      Iff.trans (eqb_iff (marked_message x word marks) (2 ^ dimension_of x)) (marked_none a word marks)

  -- ---- the entries
  module _ (input out : List ℕ) where
    encode_own_lem : Said last_refusal (encode_conditions x input out) (encode_own x input out)
    unfolding encode_conditions
    encode_own_lem = (
      omega arith,
      omega arith,
      refl,
      size_said (dimension_of x) input,
      λ n₁. (
        omega arith,
        omega arith,
        refl,
        size_said x.n out,
        λ n₂. (omega arith, omega arith, refl, spare_said message_weight (dimension_of x) input, λ n₃. tt),
      ),
    )

    pub read_own_lem : Said last_refusal (read_conditions x input out) (read_own x input out)
    unfolding read_conditions
    read_own_lem = (
      omega arith,
      omega arith,
      refl,
      size_said x.n input,
      λ n₁. (
        omega arith,
        omega arith,
        refl,
        size_said (dimension_of x) out,
        λ n₂. (
          omega arith,
          omega arith,
          refl,
          spare_said word_weight x.n input,
          λ n₃. (
            omega arith,
            omega arith,
            refl,
            Iff.trans (not_iff (is_codeword (x.n - dimension_of x) (generator_of x) (word_of x input))) (Iff.not (codeword_said input)),
            λ n₄. tt,
          ),
        ),
      ),
    )

    pub decode_own_lem : Sheets.Accepted x → Said last_refusal (decode_conditions x input out) (decode_own x input out)
    unfolding decode_conditions
    decode_own_lem a = (
      omega arith,
      omega arith,
      refl,
      size_said x.n input,
      λ n₁. (
        omega arith,
        omega arith,
        refl,
        size_said x.n out,
        λ n₂. (
          omega arith,
          omega arith,
          refl,
          spare_said word_weight x.n input,
          λ n₃. (omega arith, omega arith, refl, near_said a input, λ n₄. tt),
        ),
      ),
    )

    -- ---- what is answered
    pub encode_answered : Answered (encode_turns sheet input out) (encode_of sheet input out) out
    unfolding encode_entry
    encode_answered =
        answered (refusals_of sheet ++ encode_conditions x input out) (encode_turns sheet input out)
        (said_append last_refusal (refusals_of sheet) (sheet_turns sheet) _ _ sheet_said (λ none. encode_own_lem)) _ _ out

    pub read_answered : Answered (read_turns sheet input out) (read_of sheet input out) out
    unfolding read_entry
    read_answered =
        answered (refusals_of sheet ++ read_conditions x input out) (read_turns sheet input out)
        (said_append last_refusal (refusals_of sheet) (sheet_turns sheet) _ _ sheet_said (λ none. read_own_lem)) _ _ out

    pub decode_answered : Answered (decode_turns sheet input out) (decode_of sheet input out) out
    unfolding decode_entry
    decode_answered =
        answered (refusals_of sheet ++ decode_conditions x input out) (decode_turns sheet input out)
        (said_append last_refusal (refusals_of sheet) (sheet_turns sheet) _ _ sheet_said (λ none. decode_own_lem (usable none))) _ _ out

  -- ---- decoding with marks
  module _ (word marks zeros ones : List ℕ) where
    pub marked_own_lem : Sheets.Accepted x → Said last_refusal (marked_conditions x word marks zeros ones) (marked_own x word marks zeros ones)
    unfolding marked_conditions
    marked_own_lem a = (
      omega arith,
      omega arith,
      refl,
      size_said x.n word,
      λ n₁. (
        omega arith,
        omega arith,
        refl,
        size_said x.n marks,
        λ n₂. (
          omega arith,
          omega arith,
          refl,
          size_said x.n zeros,
          λ n₃. (
            omega arith,
            omega arith,
            refl,
            size_said x.n ones,
            λ n₄. (
              omega arith,
              omega arith,
              refl,
              spare_said word_weight x.n word,
              λ n₅. (
                omega arith,
                omega arith,
                refl,
                spare_said word_weight x.n marks,
                λ n₆. (omega arith, omega arith, refl, marks_said a word marks, λ n₇. tt),
              ),
            ),
          ),
        ),
      ),
    )

    pub marked_answered : Answered (marked_turns sheet word marks zeros ones) (decode_marked_of sheet word marks zeros ones) (zeros, ones)
    unfolding marked_entry
    marked_answered =
        answered (refusals_of sheet ++ marked_conditions x word marks zeros ones) (marked_turns sheet word marks zeros ones)
        (said_append last_refusal (refusals_of sheet) (sheet_turns sheet) _ _ sheet_said (λ none. marked_own_lem (usable none))) _ _ (zeros, ones)

  pub judge_answered : Answered {B = List ℕ} (sheet_turns sheet) (judge_of sheet, []) []
  unfolding judge_entry
  judge_answered = judged_answered (refusals_of sheet) (sheet_turns sheet) sheet_said (record_of x)

  pub card_answered : (out : List ℕ) → Answered (card_turns out) (card_of sheet out) out
  unfolding card_entry
  card_answered out = answered (card_conditions 1024 out) (card_turns out) (card_said out) _ _ out
