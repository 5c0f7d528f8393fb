-- The codes of answers.
--
--   refused_code, marked_refused_code      a refusal's code is minus its number
--   done_code, marked_done_code            a small number is its own code
--   value_few, marked_value_few             an entry's reply returns what its answer does
--   coded, marked_coded                    and its code is the answer's
--   encode_few, read_few, encode_short_few, read_short_few, block_few      what encoding, reading out and decoding a block return is small
--   decode_few, decode_short_few, card_few, marked_few      so is what decoding returns, and a listing's length
use mathlib.Core.Path.{◌≡◌, refl, sym, ap, ◌∙◌}
use mathlib.Core.Bool.{Bool, true, false}
use mathlib.Core.List.{List, [], ◌∷◌}
use Prim.Native.Nat.{ℕ, zero, suc, ◌+◌, ◌*◌, ◌/◌, ◌^◌, ◌≤◌, ◌<◌}
use native.Mathlib.Omega.{arith}
use lib.Dec.{eqb}
use lib.IntN.{ℤ, pos, neg_ℤ}
use lib.Signed.{mag}
use lib.ListN.{get_or}
use mir.Syntax.{w32}
use mir.Val.{to_z, of_z}
use mir.ValLaws.{to_z_pos, to_z-of_z}
use Rattle.document.specs.declared.types.Refusal.{Refusal}
use Rattle.document.specs.declared.types.Refusal.TheVariants.{SheetLength, CodeLength, FieldDegree, Header, Representative, NoMessage, Range}
use Rattle.document.specs.declared.types.Refusal.TheVariants.{CommonFactor, Period, Term, BufferLength, SpareBit, NoneNear, NoCodeword}
use Rattle.document.specs.declared.types.Refusal.TheVariants.{NoneWithMarks, Shortening, InterleavingDepth}
use Rattle.document.specs.Answer.{Answer, returned, refused, number_of, settle_in}
use Rattle.document.specs.Sheet.{Stated}
use Rattle.document.specs.Generator.{differences}
use Rattle.document.specs.Entry.{encode_entry, read_entry, word_of, decoded_word, decode_entry}
use Rattle.document.specs.Marked.{marked_word, tried, trial_shown, marked_entry}
use Rattle.document.specs.Shortened.{sent_word_of, decoded_shortened, encode_shortened_entry, read_shortened_entry, decode_shortened_entry}
use Rattle.document.specs.Short.{stated, encode_of, read_of, decode_of, encode_shortened_of, read_shortened_of, decode_shortened_of, decode_marked_of}
use Rattle.document.specs.Block.{block_entry}
use Rattle.document.specs.Short.{decode_block_of, card_of}
use Rattle.document.proofs.Marking.{unmarked_le}
use Rattle.field.specs.Mask.{◌⊕◌}
use Rattle.field.proofs.Xor.{digit_lt}
use Rattle.cyclic.proofs.Places.{count, count_z, count_s}
use Rattle.certificate.proofs.Distance.{differences_are}
use Rattle.judging.proofs.Weighing.{number_pos}
use Rattle.code.proofs.Fits.{card_fits}
use Rattle.dunefork.specs.Codes.{code_for, return_code, coded_as, marked_code_for, marked_code, marked_coded_as}

minus : (r : ℕ) → 0 < r → code_for r [] ≡ neg_ℤ (pos r)
unfolding code_for
minus zero h = absurd (omega arith)
minus (suc r) h = refl

minus_marked : (r : ℕ) → 0 < r → marked_code_for r [] ≡ neg_ℤ (pos r)
unfolding marked_code_for
minus_marked zero h = absurd (omega arith)
minus_marked (suc r) h = refl

-- a code of 32 bits is read back as it was
kept : (q : Refusal) → to_z w32 (of_z w32 (neg_ℤ (pos (number_of q)))) ≡ neg_ℤ (pos (number_of q))
kept SheetLength = refl
kept CodeLength = refl
kept FieldDegree = refl
kept Header = refl
kept Representative = refl
kept NoMessage = refl
kept Range = refl
kept CommonFactor = refl
kept Period = refl
kept Term = refl
kept BufferLength = refl
kept SpareBit = refl
kept NoneNear = refl
kept NoCodeword = refl
kept NoneWithMarks = refl
kept Shortening = refl
kept InterleavingDepth = refl

pub refused_code : (q : Refusal) {x : ℤ} → x ≡ neg_ℤ (pos (number_of q)) → to_z w32 (of_z w32 x) ≡ return_code (refused (number_of q))
refused_code q {x} f = ap (λ (z : ℤ). to_z w32 (of_z w32 z)) f ∙ kept q ∙ sym (minus (number_of q) (number_pos q))

pub marked_refused_code : (q : Refusal) {x : ℤ} → x ≡ neg_ℤ (pos (number_of q)) → to_z w32 (of_z w32 x) ≡ marked_code (refused (number_of q))
marked_refused_code q {x} f = ap (λ (z : ℤ). to_z w32 (of_z w32 z)) f ∙ kept q ∙ sym (minus_marked (number_of q) (number_pos q))

pub done_code : (n : ℕ) → n < 2147483648 → to_z w32 n ≡ return_code (returned (n ∷ []))
unfolding code_for
done_code n h = to_z_pos w32 n (omega arith)

pub marked_done_code : (e trial : ℕ) → 2 * e + trial < 2147483648 → to_z w32 (2 * e + trial) ≡ marked_code (returned (e ∷ trial ∷ []))
unfolding marked_code_for
marked_done_code e trial h = to_z_pos w32 (2 * e + trial) (omega arith)

-- ---- an entry's reply, and its answer
abbrev value : {B : Type 0} → Answer × B → ℕ
value p = get_or p.0.values 0 0

abbrev marked_value : Answer × (List ℕ × List ℕ) → ℕ
marked_value p = 2 * get_or p.0.values 0 0 + get_or p.0.values 1 0

pub value_few : {B : Type 0} {a : Answer} {o : B} {p : Answer × B} → (a, o) ≡ p → value p < 2147483648 → get_or a.values 0 0 < 2147483648
value_few {B} e h = let v = ap (λ (q : Answer × B). get_or q.0.values 0 0) e in omega arith

pub marked_value_few : {a : Answer} {o : List ℕ × List ℕ} {p : Answer × (List ℕ × List ℕ)} → (a, o) ≡ p → marked_value p < 2147483648
    → 2 * get_or a.values 0 0 + get_or a.values 1 0 < 2147483648
marked_value_few e h = let v = ap (λ (q : Answer × (List ℕ × List ℕ)). 2 * get_or q.0.values 0 0 + get_or q.0.values 1 0) e in omega arith

back : (x : ℤ) → mag x < 2147483648 → to_z w32 (of_z w32 x) ≡ x
back x h = to_z-of_z w32 x record { sfits = h }

pub coded : {B : Type 0} {a : Answer} {o : B} {p : Answer × B} {x : ℤ} → mag x < 2147483648 → x ≡ return_code a → (a, o) ≡ p
    → (to_z w32 (of_z w32 x), o) ≡ coded_as p
coded {o = o} {x = x} h f e = ap (λ (z : ℤ). (z, o)) (back x h ∙ f) ∙ ap coded_as e

pub marked_coded : {a : Answer} {o : List ℕ × List ℕ} {p : Answer × (List ℕ × List ℕ)} {x : ℤ} → mag x < 2147483648 → x ≡ marked_code a → (a, o) ≡ p
    → (to_z w32 (of_z w32 x), o) ≡ marked_coded_as p
marked_coded {o = o} {x = x} h f e = ap (λ (z : ℤ). (z, o)) (back x h ∙ f) ∙ ap marked_coded_as e

-- ---- what is returned is small
settled_few : {B : Type 0} (x v : ℕ) (w old : B) → v < 2147483648 → value (settle_in x (v ∷ []) w old) < 2147483648
unfolding settle_in
settled_few zero v w old h = h
settled_few (suc r) v w old h = omega arith

pub encode_few : (sheet message out : List ℕ) → value (encode_of sheet message out) < 2147483648
unfolding encode_entry
encode_few sheet message out = settled_few _ 0 _ _ (omega arith)

pub read_few : (sheet word out : List ℕ) → value (read_of sheet word out) < 2147483648
unfolding read_entry
read_few sheet word out = settled_few _ 0 _ _ (omega arith)

pub encode_short_few : (sheet : List ℕ) (m : ℕ) (message out : List ℕ) → value (encode_shortened_of sheet m message out) < 2147483648
unfolding encode_shortened_entry
encode_short_few sheet m message out = settled_few _ 0 _ _ (omega arith)

pub read_short_few : (sheet : List ℕ) (m : ℕ) (word out : List ℕ) → value (read_shortened_of sheet m word out) < 2147483648
unfolding read_shortened_entry
read_short_few sheet m word out = settled_few _ 0 _ _ (omega arith)

pub block_few : (sheet : List ℕ) (m : ℕ) (block out verdicts : List ℕ) → value (decode_block_of sheet m block out verdicts) < 2147483648
unfolding block_entry
block_few sheet m block out verdicts = settled_few _ 0 _ _ (omega arith)

-- ---- decoding: at most n places change
count_le : (n e : ℕ) → count n e ≤ n
count_le zero e = omega (arith, count_z e)
count_le (suc n) e = omega (arith, count_s n e, count_le n e, digit_lt (e / 2 ^ n))

differ_le : (n a b : ℕ) → differences n a b ≤ n
differ_le n a b = omega (arith, differences_are n a b, count_le n (a ⊕ b))

pub decode_few : (sheet word out : List ℕ) → (stated sheet).n < 65536 → value (decode_of sheet word out) < 2147483648
unfolding decode_entry
decode_few sheet word out h =
    let x = stated sheet in settled_few _ _ _ _ (omega (arith, differ_le x.n (word_of x word) (decoded_word x word)))

pub decode_short_few : (sheet : List ℕ) (m : ℕ) (word out : List ℕ) → (stated sheet).n < 65536 → value (decode_shortened_of sheet m word out) < 2147483648
unfolding decode_shortened_entry
decode_short_few sheet m word out h =
    let x = stated sheet in settled_few _ _ _ _ (omega (arith, differ_le x.n (sent_word_of m x word) (decoded_shortened m x word)))

-- ---- listing
pub card_few : (sheet out : List ℕ) → value (card_of sheet out) < 2147483648
card_few sheet out = omega (arith, card_fits sheet out)

-- ---- decoding with marks: e is at most n, and the trial is 0 or 1
both_few : (x u v : ℕ) (w old : List ℕ × List ℕ) → 2 * u + v < 2147483648 → marked_value (settle_in x (u ∷ v ∷ []) w old) < 2147483648
unfolding settle_in
both_few zero u v w old h = h
both_few (suc r) u v w old h = omega arith

trial_le : (x : Stated) (word marks : List ℕ) → trial_shown x word marks ≤ 1
unfolding trial_shown
trial_le x word marks = go (eqb (word_of x (tried x 0 word marks)) (marked_word x word marks))
  where
    go : (b : Bool) → (elim b as (λ _. ℕ) [ true ↦ 0 | false ↦ 1 ]) ≤ 1
    go true = omega arith
    go false = omega arith

pub marked_few : (sheet word marks zeros ones : List ℕ) → (stated sheet).n < 65536
    → marked_value (decode_marked_of sheet word marks zeros ones) < 2147483648
unfolding marked_entry
marked_few sheet word marks zeros ones h =
    let x = stated sheet in
    both_few _ _ _ _ _ (omega (arith, trial_le x word marks, unmarked_le x.n (word_of x marks) (word_of x word) (marked_word x word marks)))
