-- Blocks of interleaved words (2026-07), in the words of specs/Published.antt.
--
--   few_inside, run_few    of a run of at most m·t bits at most t are of each word
--   word_places            bit j·m + i of a block is place j of word i
--   carries                any m words are those of a block
--   word_bytes             word i in word layout
--   spoiled_places         spoiled places, counted; spoiled_few: a run of at most m·t bits spoils at most t of each word
--   rows_long, row_part, rows_same      lists of one length, one after the other
--   answered               a call that draws no refusal
--   each_said, near_said, none_near_said, none_near_bytes      what it leaves: each word as decoding does, and its verdict
--   whole_said             a block of codewords with a run of spoiled bits comes back whole
--   right_call             the calls that draw no refusal are those; own_at: which bytes are a word's own
use mathlib.Core.Path.{◌≡◌, refl, sym, ap, ap₂, ◌∙◌, subst}
use mathlib.Core.Logic.{◌↔◌, ◌⊎◌, inl, inr}
use mathlib.Core.Bool.{Bool, true, false, not, ◌||◌, ◌&&◌}
use mathlib.Core.List.{List, [], ◌∷◌, ◌++◌, map, flat_map}
use Prim.Native.Nat.{ℕ, zero, suc, ◌+◌, ◌-◌, ◌*◌, ◌/◌, ◌%◌, ◌^◌, ◌≤◌, ◌<◌}
use native.Mathlib.Nat.{mul-le-mul_right, add-mul, mul_comm, mul-add-div_right, mul-add-mod_self_right, div-eq_of_lt, mod-eq_of_lt}
use native.Mathlib.Decide.{ℕ_discrete, dec_lt}
use native.Mathlib.Omega.{arith}
use lib.Dec.{eqb, leb, ltb}
use lib.ListN.{length, get_or, take, drop, length-append, length-drop}
use lib.Seq.{take_all, drop_at, take-append-le, drop-append-le, get_or-take, get_or-drop, ext_get_or}
use borrow.Author.Tests.{eq-eqb, leb-true, ltb-true, le-leb, lt-ltb, le-ltb}
use Rattle.field.specs.Search.{least, up_to, total, bit}
use Rattle.field.proofs.Search.{least_is, least_most, and_both, total_z, total_s, total_ext, total_le, total_most}
use Rattle.field.specs.Mask.{◌⊕◌, coefficient}
use Rattle.field.proofs.Xor.{digit_lt}
use Rattle.cyclic.proofs.Places.{same_places}
use Rattle.binary.proofs.Digits.{sum_at, sum_lt}
use Rattle.document.specs.Answer.{Answer, returned, refused, first_of}
use Rattle.document.specs.Layout.{word_weight, bytes_for, place, bytes_of, spare}
use Rattle.document.specs.Sheet.{Stated}
use Rattle.document.specs.Generator.{differences}
use Rattle.document.specs.Entry.{wrong_size, radius_of, CodewordOf, word_of}
use Rattle.document.specs.Block.{wrong_depth, block_word, block_word_bytes, own_bytes, part_decoded, verdict_for, verdict_of, block_output, block_verdicts}
use Rattle.document.specs.Block.{block_conditions, block_entry}
use Rattle.document.specs.Short.{short, stated, refusals_of, decode_of, decode_block_of}
use Rattle.document.proofs.Stated.{tabulated_at, tabulated_length, odd_to}
use Rattle.document.proofs.Meaning.{differ_count}
use Rattle.document.proofs.Chain.{Quiet, silent, first_false, row_suc}
use Rattle.document.proofs.Settled.{entry_done, first_nil, size_right}
use Rattle.document.proofs.Acceptance.{judge_number, quiet_of}
use Rattle.certificate.proofs.Sheets as Sheets
use Rattle.certificate.proofs.Decoding as Decoding
use Rattle.codeword.proofs.Places.{word_weights, place_lt, for_le, bytes_length, bytes_place, bytes_lt, mask_of_bytes}
use Rattle.codeword.proofs.Interleaving.{block_word_lt, block_word_at}
use Rattle.decoder.proofs.Parts.{part_long, within}
use Rattle.code.specs.Published.{Places, Bytes, Word, BlockCall, RunSpoiled}
use Rattle.code.specs.Turns.{NoneHolds}
use Rattle.code.specs.Table.{WrongDepth, sheet_turns, interleaved_turns, block_own, block_turns}
use Rattle.code.proofs.InTurn.{same}
use Rattle.code.proofs.Tried.{accepted_of}
use Rattle.code.proofs.Refusing.{is_accepted}
use Rattle.code.proofs.Between.{none_front, none_back, block_answered}
use Rattle.code.proofs.Accepted.{conditions}
use Rattle.code.proofs.RoundTrip as RoundTrip
use Rattle.code.proofs.Entries.{decode_accepted, block_accepted}
use Rattle.code.proofs.Worded.{places_there, places_back}

-- ---- a run of bits
-- terms of 0 and 1 that are 0 but for t numbers from `first` on
few_inside : (first t n : ℕ) (f : ℕ → ℕ) → ((j : ℕ) → j < n → (f j ≡ 0) ⊎ ((f j ≡ 1) × (first ≤ j) × (j < first + t)))
    → (total n f ≤ t) × (total n f ≤ n - first)
few_inside first t zero f h = let z : total 0 f ≡ 0 = total_z f in (omega arith, omega arith)
few_inside first t (suc n) f h =
    let s : total (suc n) f ≡ total n f + f n = total_s n f in
    let ih = few_inside first t n f (λ j l. h j (omega arith)) in
    elim (h n (omega arith)) [
      | inl z ↦ (omega (arith, ih.0), omega (arith, ih.1))
      | inr o ↦ (omega (arith, ih.1, o.0, o.1, o.2), omega (arith, ih.1, o.0, o.1))
    ]

-- whether bit p is one of the run
abbrev inside : ℕ → ℕ → ℕ → Bool
inside start run p = leb start p && ltb p (start + run)

module _ (m t start run i n : ℕ) (h : run ≤ m * t) where
  -- the first place whose bit is not before the run, and a place whose bit is of the run
  abbrev first : ℕ
  first = least (λ j. leb start (j * m + i)) n

  of_run : (j : ℕ) → j < n → (b : Bool) → inside start run (j * m + i) ≡ b → (bit b ≡ 0) ⊎ ((bit b ≡ 1) × (first ≤ j) × (j < first + t))
  of_run j l false e = inl refl
  of_run j l true e =
      let p = and_both (leb start (j * m + i)) (ltb (j * m + i) (start + run)) e in
      let f : first ≤ j = least_most (λ j. leb start (j * m + i)) n j p.0 in
      let a : start ≤ first * m + i = leb-true start (first * m + i) ((least_is (λ j. leb start (j * m + i)) n).passes (omega arith)) in
      let b : j * m + i < start + run = ltb-true (j * m + i) (start + run) p.1 in
      inr (
        refl,
        f,
        elim (dec_lt j (first + t)) [
          | yes k ↦ k
          | no k ↦
              (let c : (first + t) * m ≤ j * m = mul-le-mul_right m (omega arith) in
              absurd (omega (arith, a, b, c, add-mul first t m, mul_comm t m)))
        ],
      )

  pub run_few : total n (λ j. bit (leb start (j * m + i) && ltb (j * m + i) (start + run))) ≤ t
  run_few =
      (few_inside first t n (λ j. bit (inside start run (j * m + i)))
      (λ j l. of_run j l (inside start run (j * m + i)) refl)).0

-- ---- words of a block
pub word_places : (n m : ℕ) (block : List ℕ) (i j : ℕ) → j < n
    → coefficient j (block_word n m block i) ≡ get_or block ((j * m + i) / 8) 0 / 2 ^ (7 - (j * m + i) % 8) % 2
unfolding place word_weight
word_places n m block i = block_word_at n m block i

pub spoiled_places : (n m : ℕ) (sent received : List ℕ) (i : ℕ) → differences n (block_word n m received i) (block_word n m sent i)
    ≡ total n (λ j. (place word_weight received (j * m + i) + place word_weight sent (j * m + i)) % 2)
spoiled_places n m sent received i =
    differ_count n (block_word n m received i) (block_word n m sent i)
    ∙ total_ext n _ _
    (λ j h. ap₂ (λ (y z : ℕ). (y + z) % 2) (block_word_at n m received i j h) (block_word_at n m sent i j h))

pub differences_le : (n a b : ℕ) → differences n a b ≤ n
unfolding differences
differences_le n a b = total_most n (λ i. coefficient i (a ⊕ b)) (λ i. digit_lt ((a ⊕ b) / 2 ^ i))

pub word_bytes : (x : Stated) (m : ℕ) (block : List ℕ) (i : ℕ) → Word x (block_word_bytes x.n m block i) × Bytes (block_word_bytes x.n m block i)
    × (word_of x (block_word_bytes x.n m block i) ≡ block_word x.n m block i)
word_bytes x m block i = (
  places_back (RoundTrip.placed_bytes word_weights x.n (block_word x.n m block i) (block_word_lt x.n m block i)),
  bytes_lt word_weights x.n (block_word x.n m block i),
  mask_of_bytes word_weights x.n (block_word x.n m block i) (block_word_lt x.n m block i),
)

-- "A block carries m words": any m of n places, its bit p being place p div m of word p mod m
module _ (n m : ℕ) (words : ℕ → ℕ) where
  abbrev bit_at : ℕ → ℕ
  bit_at p = coefficient (p / m) (words (p % m))

  abbrev mask : ℕ
  mask = total (n * m) (λ p. bit_at p * 2 ^ p)

  bit_lt_two : (p : ℕ) → bit_at p < 2
  bit_lt_two p = digit_lt (words (p % m) / 2 ^ (p / m))

  mask_small : mask < 2 ^ (n * m)
  mask_small = sum_lt (λ p. p) bit_at bit_lt_two (n * m) (n * m) (λ p q h k e. e) (λ p h. h)

  bit_is : (i j : ℕ) → i < m → j < n → place word_weight (bytes_of word_weight (n * m) mask) (j * m + i) ≡ coefficient j (words i)
  bit_is i j l h =
      let p : j * m + i < n * m = omega (arith, within j n m (n * m) h refl, l) in
      let d : (j * m + i) / m ≡ j = omega (arith, mul-add-div_right {m = m} (omega arith) j i, div-eq_of_lt l) in
      let r : (j * m + i) % m ≡ i = mul-add-mod_self_right j m i ∙ mod-eq_of_lt l in
      bytes_place word_weights (n * m) mask (j * m + i) (omega (arith, p, for_le (n * m)))
      ∙ sum_at (λ p. p) bit_at bit_lt_two (n * m) (λ p q h k e. e) (j * m + i) p ∙ ap₂ (λ (y z : ℕ). coefficient y (words z)) d r

  pub carries : ((i : ℕ) → i < m → words i < 2 ^ n)
      → (block : List ℕ) × Places word_weight (n * m) block × Bytes block × ((i : ℕ) → i < m → block_word n m block i ≡ words i)
  carries h = (
    bytes_of word_weight (n * m) mask,
    places_back (RoundTrip.placed_bytes word_weights (n * m) mask mask_small),
    bytes_lt word_weights (n * m) mask,
    λ i l. same_places (block_word_lt n m (bytes_of word_weight (n * m) mask) i) (h i l)
        (λ j k. block_word_at n m (bytes_of word_weight (n * m) mask) i j k ∙ bit_is i j l k),
  )

-- a run of at most m·t bits spoils at most t places of each word
pub spoiled_few : (m : ℕ) (x : Stated) (sent received : List ℕ) (t start run : ℕ) → run ≤ m * t → RunSpoiled m x sent received start run
    → (i : ℕ) → i < m → differences x.n (block_word x.n m received i) (block_word x.n m sent i) ≤ t
spoiled_few m x sent received t start run h spoiled i l =
    let few = run_few m t start run i x.n h in
    let le = total_le x.n _ _ at in
    omega (arith, spoiled_places x.n m sent received i, le, few)
  where
    at : (j : ℕ) → j < x.n → (place word_weight received (j * m + i) + place word_weight sent (j * m + i)) % 2
        ≤ bit (inside start run (j * m + i))
    at j k =
        let same = spoiled.outside (j * m + i) (omega (arith, within j x.n m (x.n * m) k refl)) in
        elim (dec_lt (j * m + i) start) [
          | yes q ↦ omega (arith, same (inl q))
          | no q ↦ elim (dec_lt (j * m + i) (start + run)) [
            | yes r ↦
                omega (arith, ap bit (ap₂ ◌&&◌ (le-leb start (j * m + i) (omega arith)) (lt-ltb (j * m + i) (start + run) r)))
            | no r ↦ omega (arith, same (inr (omega arith)))
          ]
        ]

-- ---- lists of one length, one after the other
module _ (f : ℕ → List ℕ) (size : ℕ) where
  pub rows_long : (m : ℕ) → ((i : ℕ) → i < m → length (f i) ≡ size) → length (flat_map f (up_to m)) ≡ m * size
  unfolding flat_map up_to
  rows_long zero h = omega arith
  rows_long (suc m) h =
      ap length (row_suc f m) ∙ length-append (flat_map f (up_to m)) (f m)
      ∙ ap₂ ◌+◌ (rows_long m (λ i l. h i (omega arith))) (h m (omega arith)) ∙ omega arith

  pub row_part : (m : ℕ) → ((i : ℕ) → i < m → length (f i) ≡ size) → (i : ℕ) → i < m → take size (drop (i * size) (flat_map f (up_to m))) ≡ f i
  row_part zero h i l = absurd (omega arith)
  row_part (suc m) h i l =
      let before : (j : ℕ) → j < m → length (f j) ≡ size = λ j k. h j (omega arith) in
      let long : length (flat_map f (up_to m)) ≡ m * size = rows_long m before in
      ap (λ (y : List ℕ). take size (drop (i * size) y)) (row_suc f m)
      ∙ elim (ℕ_discrete i m) [
        | yes e ↦
            ap (λ (j : ℕ). take size (drop (j * size) (flat_map f (up_to m) ++ f m))) e
            ∙ ap (take size) (drop_at (flat_map f (up_to m)) (f m) (m * size) long)
            ∙ take_all size (f m) (omega (arith, h m (omega arith))) ∙ ap f (sym e)
        | no e ↦
            (let r : i * size + size ≤ m * size = within i m size (m * size) (omega arith) refl in
            ap (take size) (drop-append-le (i * size) (flat_map f (up_to m)) (f m) (omega (arith, r, long)))
            ∙ take-append-le size (drop (i * size) (flat_map f (up_to m))) (f m)
            (omega (arith, r, long, length-drop (i * size) (flat_map f (up_to m)))) ∙ row_part m before i (omega arith))
      ]

pub rows_same : (f g : ℕ → List ℕ) (m : ℕ) → ((i : ℕ) → i < m → f i ≡ g i) → flat_map f (up_to m) ≡ flat_map g (up_to m)
unfolding flat_map up_to
rows_same f g zero h = refl
rows_same f g (suc m) h =
    row_suc f m ∙ ap₂ ◌++◌ (rows_same f g m (λ i l. h i (omega arith))) (h m (omega arith)) ∙ sym (row_suc g m)

values_same : (f g : ℕ → ℕ) (m : ℕ) → ((i : ℕ) → i < m → f i ≡ g i) → map f (up_to m) ≡ map g (up_to m)
values_same f g m h =
    ext_get_or 0 (map f (up_to m)) (map g (up_to m)) (tabulated_length f m ∙ sym (tabulated_length g m))
    (λ i l. let k : i < m = omega (arith, l, tabulated_length f m) in
    tabulated_at f m i 0 k ∙ h i k ∙ sym (tabulated_at g m i 0 k))

-- ---- a call that draws no refusal
module _ (sheet : List ℕ) (m : ℕ) (block out verdicts : List ℕ) (call : BlockCall sheet m block out verdicts) where
  abbrev x : Stated
  x = stated sheet

  abbrev n : ℕ
  n = x.n

  abbrev reply : Answer × (List ℕ × List ℕ)
  reply = decode_block_of sheet m block out verdicts

  abbrev word : ℕ → ℕ
  word i = block_word n m block i

  none_first : first_of (refusals_of sheet) ≡ 0
  none_first = sym (judge_number short sheet) ∙ call.accepted

  a : Sheets.Accepted x
  a = Sheets.accepted short (omega arith) sheet none_first

  quiet : Quiet (refusals_of sheet)
  quiet = quiet_of short sheet none_first

  right : wrong_depth m ≡ false
  right = ap₂ ◌||◌ (le-ltb m 2 call.depth.0) (le-ltb 16 m (omega (arith, call.depth.1)))

  none_own : first_of (block_conditions m x block out verdicts) ≡ 0
  unfolding block_conditions bytes_for
  none_own =
      let p = places_there call.is_block in
      first_false (11, wrong_size (n * m) block) _ (size_right (n * m) block p.long)
      ∙ first_false (11, not (eqb (length out) (m * bytes_for n))) _ (ap not (eq-eqb (length out) (m * bytes_for n) call.out_long))
      ∙ first_false (11, not (eqb (length verdicts) m)) _ (ap not (eq-eqb (length verdicts) m call.verdicts_long))
      ∙ first_false (12, spare word_weight (n * m) block) _ p.clear ∙ first_nil

  reply_is : reply ≡ (returned (0 ∷ []), (block_output m x block out, block_verdicts m x block out))
  unfolding block_entry
  reply_is =
      sym (entry_done (block_conditions m x block out verdicts) (0 ∷ []) (block_output m x block out, block_verdicts m x block out) (out, verdicts)
      none_own refl ∙ block_accepted (refusals_of sheet) x m block out verdicts quiet right)

  -- ---- word i
  module _ (i : ℕ) (l : i < m) where
    own_long : length (own_bytes n i out) ≡ bytes_for n
    unfolding bytes_for
    own_long = part_long (i * bytes_for n) (bytes_for n) out (within i m (bytes_for n) (length out) l call.out_long)

    form : Decoding.RightForm x (block_word_bytes n m block i) (own_bytes n i out)
    form =
        let p = RoundTrip.placed_bytes word_weights n (word i) (block_word_lt n m block i) in
        record { word_long = p.long; out_long = own_long; clear = p.clear }

    found : {c : ℕ} → CodewordOf x c → differences n (word i) c ≤ radius_of x
        → part_decoded m x block out i ≡ (returned (differences n (word i) c ∷ []), bytes_of word_weight n c)
    unfolding part_decoded
    found {c} w =
        subst (λ (y : ℕ). differences n y c ≤ radius_of x
        → part_decoded m x block out i ≡ (returned (differences n y c ∷ []), bytes_of word_weight n c)) (word_bytes x m block i).2
        (λ h. sym (Decoding.stated_found a silent (block_word_bytes n m block i) (own_bytes n i out) form w h))

    -- a codeword is within t places; or there is none, and the bytes are as they were
    either : ((c : ℕ) × CodewordOf x c × (differences n (word i) c ≤ radius_of x))
        ⊎ (((c : ℕ) → CodewordOf x c → radius_of x < differences n (word i) c) × (part_decoded m x block out i ≡ (refused 13, own_bytes n i out)))
    unfolding part_decoded
    either =
        subst (λ (y : ℕ). ((c : ℕ) × CodewordOf x c × (differences n y c ≤ radius_of x))
        ⊎ (((c : ℕ) → CodewordOf x c → radius_of x < differences n y c) × (part_decoded m x block out i ≡ (refused 13, own_bytes n i out))))
        (word_bytes x m block i).2
        (elim (Decoding.stated_either a silent (block_word_bytes n m block i) (own_bytes n i out) form) [
          | inl f ↦ inl (f.0, f.1, f.2)
          | inr f ↦ inr f
        ])

    decoded_long : length (part_decoded m x block out i).1 ≡ bytes_for n
    decoded_long =
        elim either [
          | inl f ↦ ap (λ (y : Answer × List ℕ). length y.1) (found f.1 f.2) ∙ bytes_length word_weight n f.0
          | inr f ↦ ap (λ (y : Answer × List ℕ). length y.1) f.1 ∙ own_long
        ]

  pub answered : (reply.0 ≡ returned (0 ∷ [])) × (length reply.1.0 ≡ length out) × (length reply.1.1 ≡ m)
  unfolding block_output block_verdicts bytes_for
  answered = (
    ap (λ (y : Answer × (List ℕ × List ℕ)). y.0) reply_is,
    ap (λ (y : Answer × (List ℕ × List ℕ)). length y.1.0) reply_is
        ∙ rows_long (λ i. (part_decoded m x block out i).1) (bytes_for n) m decoded_long ∙ sym call.out_long,
    ap (λ (y : Answer × (List ℕ × List ℕ)). length y.1.1) reply_is
        ∙ tabulated_length (λ i. verdict_of (part_decoded m x block out i).0) m,
  )

  -- ---- what is left of word i
  module _ (i : ℕ) (l : i < m) where
    own_is : own_bytes n i reply.1.0 ≡ (part_decoded m x block out i).1
    unfolding block_output
    own_is =
        ap (λ (y : Answer × (List ℕ × List ℕ)). own_bytes n i y.1.0) reply_is
        ∙ row_part (λ i. (part_decoded m x block out i).1) (bytes_for n) m decoded_long i l

    verdict_is : get_or reply.1.1 i 0 ≡ verdict_of (part_decoded m x block out i).0
    unfolding block_verdicts
    verdict_is =
        ap (λ (y : Answer × (List ℕ × List ℕ)). get_or y.1.1 i 0) reply_is
        ∙ tabulated_at (λ i. verdict_of (part_decoded m x block out i).0) m i 0 l

    pub each_said : (own_bytes n i reply.1.0 ≡ (decode_of sheet (block_word_bytes n m block i) (own_bytes n i out)).1)
        × (get_or reply.1.1 i 0 ≡ verdict_of (decode_of sheet (block_word_bytes n m block i) (own_bytes n i out)).0)
    unfolding part_decoded
    each_said =
        let e = decode_accepted (refusals_of sheet) x (block_word_bytes n m block i) (own_bytes n i out) quiet in
        (own_is ∙ ap (λ (y : Answer × List ℕ). y.1) e, verdict_is ∙ ap (λ (y : Answer × List ℕ). verdict_of y.0) e)

    pub near_said : (c : ℕ) → CodewordOf x c → differences n (word i) c ≤ radius_of x
        → (own_bytes n i reply.1.0 ≡ bytes_of word_weight n c) × (get_or reply.1.1 i 0 ≡ differences n (word i) c)
    unfolding verdict_for
    near_said c w h =
        let e = found i l w h in (
          own_is ∙ ap (λ (y : Answer × List ℕ). y.1) e,
          verdict_is ∙ ap (λ (y : Answer × List ℕ). verdict_of y.0) e,
        )

    -- a count is at most n, which is at most 127
    count_small : (c : ℕ) → differences n (word i) c < 255
    count_small c = omega (arith, differences_le n (word i) c, (odd_to short n (conditions short sheet none_first).0).most)

    pub none_near_said : (get_or reply.1.1 i 0 ≡ 255) ↔ ((c : ℕ) → CodewordOf x c → radius_of x < differences n (word i) c)
    unfolding verdict_for
    none_near_said = (
      λ e. elim (either i l) [
        | inl f ↦ absurd (omega (arith, e, (near_said f.0 f.1 f.2).1, count_small f.0))
        | inr f ↦ f.0
      ],
      λ g. elim (either i l) [
        | inl f ↦ absurd (omega (arith, g f.0 f.1, f.2))
        | inr f ↦ verdict_is ∙ ap (λ (y : Answer × List ℕ). verdict_of y.0) f.1
      ],
    )

    pub none_near_bytes : get_or reply.1.1 i 0 ≡ 255 → own_bytes n i reply.1.0 ≡ own_bytes n i out
    none_near_bytes e =
        elim (either i l) [
          | inl f ↦ absurd (omega (arith, none_near_said.0 e f.0 f.1, f.2))
          | inr f ↦ own_is ∙ ap (λ (y : Answer × List ℕ). y.1) f.1
        ]

  -- ---- a run of spoiled bits
  pub whole_said : (sent : List ℕ) → ((i : ℕ) → i < m → CodewordOf x (block_word n m sent i)) → (start run : ℕ) → run ≤ m * radius_of x
      → RunSpoiled m x sent block start run
      → decode_block_of sheet m block out verdicts
      ≡ (returned (0 ∷ []), (flat_map (block_word_bytes n m sent) (up_to m), map (λ i. differences n (word i) (block_word n m sent i)) (up_to m)))
  unfolding block_output block_verdicts verdict_for
  whole_said sent codewords start run h spoiled =
      reply_is
      ∙ ap₂ (λ (y z : List ℕ). (returned (0 ∷ []), (y, z)))
      (rows_same (λ i. (part_decoded m x block out i).1) (block_word_bytes n m sent) m (λ i l. ap (λ (y : Answer × List ℕ). y.1) (comes i l)))
      (values_same (λ i. verdict_of (part_decoded m x block out i).0) (λ i. differences n (word i) (block_word n m sent i)) m
      (λ i l. ap (λ (y : Answer × List ℕ). verdict_of y.0) (comes i l)))
    where
      comes : (i : ℕ) → i < m → part_decoded m x block out i ≡ (returned (differences n (word i) (block_word n m sent i) ∷ []), block_word_bytes n m sent i)
      comes i l = found i l (codewords i l) (spoiled_few m x sent block (radius_of x) start run h spoiled i l)

-- ---- which calls draw no refusal
pub right_call : (sheet : List ℕ) (m : ℕ) (block out verdicts : List ℕ)
    → ((decode_block_of sheet m block out verdicts).0.number ≡ 0) ↔ BlockCall sheet m block out verdicts
right_call sheet m block out verdicts = (
  λ e. called ((block_answered sheet m block out verdicts).done.0 e),
  λ call. ap (λ (y : Answer). y.number) (answered sheet m block out verdicts call).0,
)
  where
    called : NoneHolds (block_turns sheet m block out verdicts) → BlockCall sheet m block out verdicts
    called none =
        let front = none_front (interleaved_turns sheet m) (block_own m (stated sheet) block out verdicts) none in
        let own = none_back (interleaved_turns sheet m) (block_own m (stated sheet) block out verdicts) none in
        let depth = (none_back (sheet_turns sheet) ((17, WrongDepth m) ∷ []) front).0 in
        record {
          accepted = is_accepted sheet (accepted_of sheet (none_front (sheet_turns sheet) ((17, WrongDepth m) ∷ []) front));
          depth = (
            elim (dec_lt m 2) [ yes l ↦ absurd (depth (inl l)) | no l ↦ omega arith ],
            elim (dec_lt 16 m) [ yes l ↦ absurd (depth (inr l)) | no l ↦ omega arith ],
          );
          is_block = record {
            long = same own.0;
            clear = λ p l h.
                let two : place word_weight block p < 2 = place_lt word_weight block p in
                elim (ℕ_discrete (place word_weight block p) 1) [ yes q ↦ absurd (own.1.1.1.0 (p, l, h, q)) | no q ↦ omega arith ];
          };
          out_long = same own.1.0;
          verdicts_long = same own.1.1.0;
        }

-- ---- the bytes that are a word's own
pub own_at : (n i p : ℕ) (out : List ℕ) → p < (n + 7) / 8 → get_or (own_bytes n i out) p 0 ≡ get_or out (i * ((n + 7) / 8) + p) 0
unfolding bytes_for
own_at n i p out h = get_or-take ((n + 7) / 8) (drop (i * ((n + 7) / 8)) out) p 0 h ∙ get_or-drop (i * ((n + 7) / 8)) out p 0
