-- Blocks of words: taken out, decoded, and their verdicts.
--
--   few_words      the number of bytes
--   TakenSome, taken_more      the first words are taken out of the block
--   WrittenSome      the first verdicts are written
--   joined               parts of one size, one after the other
--   words_are, block_lined      the words that were taken out are the block's, and a line of words
--   verdict_is           a verdict, as a byte, of what decoding answers
--   block_done           all words decoded: what the definition says
--   block_wrong, block_out, block_verdicts_lem, block_spare      11 and 12
use mathlib.Core.Path.{◌≡◌, sym, ap, ap₂, ◌∙◌, subst}
use mathlib.Core.Logic.{◌≢◌, inl, inr}
use mathlib.Core.Bool.{true, not}
use Rattle.std.specs.Prelude.{Option, Some, None, unwrap_or}
use mathlib.Core.List.{List, [], ◌∷◌, ◌++◌, map, flat_map}
use Prim.Native.Nat.{ℕ, zero, suc, ◌+◌, ◌*◌, ◌≤◌, ◌<◌}
use native.Mathlib.Nat.{mul-le-mul_right, suc-mul, zero-mul}
use native.Mathlib.Decide.{ℕ_discrete}
use native.Mathlib.Omega.{arith}
use lib.Dec.{eqb}
use lib.ListN.{length, get_or, take, drop, get_or-eq_default}
use lib.Seq.{get_or-take, get_or-drop, take-add, take_all, ext_get_or}
use borrow.Author.Tests.{eq-eqb, ne_eqb}
use Rattle.algebra.proofs.Poly.{le_or_lt}
use Rattle.field.specs.Search.{up_to}
use Rattle.field.proofs.Search.{total_most}
use Rattle.field.proofs.Xor.{digit_lt}
use Rattle.document.specs.Answer.{Answer, returned, refused, Conditions, first_of}
use Rattle.document.specs.Layout.{word_weight, bytes_for, spare}
use Rattle.document.specs.Sheet.{Stated}
use Rattle.document.specs.Generator.{differences}
use Rattle.document.specs.Entry.{wrong_size, word_of, changed, decode_entry}
use Rattle.document.specs.Block.{block_places, block_word, block_word_bytes, own_bytes, part_decoded, verdict_for, verdict_of, block_output, block_verdicts}
use Rattle.document.specs.Block.{block_conditions, block_entry}
use Rattle.document.proofs.Chain.{silent, row_suc, first_true, first_false}
use Rattle.document.proofs.Stated.{tabulated_at, tabulated_length}
use Rattle.document.proofs.Settled.{entry_refused, entry_done, first_nil, size_wrong, size_right}
use Rattle.certificate.proofs.Sheets.{Accepted}
use Rattle.certificate.proofs.Decoding.{RightForm, stated_either}
use Rattle.certificate.proofs.Shortening.{unshortened}
use Rattle.codeword.specs.Interleaved.{Deinterleaved}
use Rattle.codeword.proofs.Places.{bytes_length}
use Rattle.codeword.proofs.Interleaving.{block_word_lt, word_deinterleaved}
use Rattle.decoder.specs.Decode.{States, verdict_as, part, Lined, DecodedEach}
use Rattle.decoder.specs.Block.{WordsDeinterleaved, VerdictsWritten, BlockReceivable, BlockDecoded}
use Rattle.decoder.proofs.Parts.{splice, splice_long, part_here, part_before, part_long, within, beside}
use Rattle.decoder.proofs.Trying.{bytes_clear}

-- ---- how much there is at most
pub few_words : (m size : ℕ) → m ≤ 16 → size ≤ 16 → m * size ≤ 256
few_words m size h k = let q : m * size ≤ 16 * size = mul-le-mul_right size h in omega arith

-- ---- the words, one after the other
pub record TakenSome (m size k : ℕ) (block before words : List ℕ) : Type 0 where
  pub long : length words ≡ length before
  pub each : (i : ℕ) → i < k → Deinterleaved m i block (part (i * size) size words)

-- as the code has it: the part's size q is its end less its start, and the call kept its length
pub taken_more : {m k : ℕ} (size : ℕ) {block before words : List ℕ} → k * size + size ≤ length before → TakenSome m size k block before words
    → (q : ℕ) → q ≡ size → (new : List ℕ) → length new ≡ length (part (k * size) q words) → Deinterleaved m k block new
    → TakenSome m size (k + 1) block before (splice (k * size) q new words)
taken_more {m} {k} size {block} {before} {words} room f q p new s y =
    let r : k * size + size ≤ length words = let z = f.long in omega arith in
    let n : length new ≡ size = rw p at s ∙ part_long (k * size) size words r in
    rw p (record {
      long = splice_long (k * size) size new words r n ∙ f.long;
      each = λ i h. elim (ℕ_discrete i k) [
        | yes e ↦
            subst (λ (j : ℕ). Deinterleaved m j block (part (j * size) size (splice (k * size) size new words))) (sym e)
            (subst (Deinterleaved m k block) (sym (part_here (k * size) size new words r n)) y)
        | no e ↦
            subst (Deinterleaved m i block) (sym (part_before (k * size) size new words r n (i * size) size (beside i k size (omega arith))))
            (f.each i (omega arith))
      ];
    })

-- ---- the verdicts
pub record WrittenSome (counts : List (Option ℕ)) (k : ℕ) (verdicts : List ℕ) : Type 0 where
  pub long : length verdicts ≡ length counts
  pub at : (i : ℕ) → i < k → get_or verdicts i 0 ≡ unwrap_or (get_or counts i None) 255

-- ---- parts of one size, one after the other
joined_front : (f : ℕ → List ℕ) (size m : ℕ) (l : List ℕ) → ((i : ℕ) → i < m → part (i * size) size l ≡ f i) → take (m * size) l ≡ flat_map f (up_to m)
unfolding up_to flat_map
joined_front f size zero l h = ap (λ (k : ℕ). take k l) (zero-mul size)
joined_front f size (suc m) l h =
    ap (λ (k : ℕ). take k l) (suc-mul m size) ∙ take-add (m * size) size l
    ∙ ap₂ (λ (y z : List ℕ). y ++ z) (joined_front f size m l (λ i k. h i (omega arith))) (h m (omega arith)) ∙ sym (row_suc f m)

pub joined : (f : ℕ → List ℕ) (size m : ℕ) (l : List ℕ) → length l ≡ m * size → ((i : ℕ) → i < m → part (i * size) size l ≡ f i)
    → l ≡ flat_map f (up_to m)
joined f size m l e h = sym (take_all (m * size) l (omega (arith, e))) ∙ joined_front f size m l h

-- ---- the words that were taken out
module _ {n m : ℕ} {block out verdicts : List ℕ} (b : BlockReceivable n m block out verdicts) {size : ℕ} (e : size ≡ bytes_for n) {words : List ℕ}
    (long : length words ≡ m * bytes_for n) (small : (k : ℕ) → get_or words k 0 < 256) (w : WordsDeinterleaved m size block words) where
  here : length words ≡ m * size
  here = long ∙ ap (λ (k : ℕ). m * k) (sym e)

  part_small : (at : ℕ) → at + size ≤ length words → (k : ℕ) → get_or (part at size words) k 0 < 256
  part_small at r k =
      elim (le_or_lt size k) [
        | inl h ↦ rw (get_or-eq_default (part at size words) 0 {n = k} (omega (arith, part_long at size words r))) (omega arith)
        | inr h ↦ rw (get_or-take size (drop at words) k 0 h ∙ get_or-drop at words k 0) (small (at + k))
      ]

  pub words_are : (i : ℕ) → i < m → part (i * size) size words ≡ block_word_bytes n m block i
  words_are i h =
      let r : i * size + size ≤ length words = within i m size (length words) h here in
      word_deinterleaved n m b.block_long b.clear (part_long (i * size) size words r ∙ e) (part_small (i * size) r) (w.each i h)

  pub block_lined : {count : ℕ} → count ≡ m → Lined n n size count words out
  block_lined {count} q = record {
    at_most = omega arith;
    size_is = e;
    words_long = here ∙ ap (λ (k : ℕ). k * size) (sym q);
    out_long = b.out_long ∙ ap₂ (λ (j k : ℕ). j * k) (sym q) (sym e);
    clear = λ i h.
        ap (spare word_weight n) (words_are i (omega (arith, q))) ∙ bytes_clear n (block_word n m block i) (block_word_lt n m block i);
  }

-- ---- one verdict
differences_le : (n a b : ℕ) → differences n a b ≤ n
unfolding differences
differences_le n a b = total_most n _ (λ i. digit_lt _)

module _ {x : Stated} (a : Accepted x) (few : x.n ≤ 127) {word out out' : List ℕ} (r : RightForm x word out) where
  pub verdict_is : (v : Option ℕ) → (verdict_as v, out') ≡ decode_entry [] x word out → unwrap_or v 255 ≡ verdict_of (decode_entry [] x word out).0
  unfolding verdict_for
  verdict_is None e = ap (λ (y : Answer × List ℕ). verdict_of y.0) e
  verdict_is (Some v) e =
      elim (stated_either a silent word out r) [
        | inl f ↦
            (let z : v ≡ changed x word f.0 = ap (λ (y : Answer × List ℕ). get_or y.0.values 0 0) (e ∙ f.3) in
            omega (arith, differences_le x.n (word_of x word) f.0)) ∙ ap (λ (y : Answer × List ℕ). verdict_of y.0) e
        | inr f ↦ absurd (omega (arith, ap (λ (y : Answer × List ℕ). y.0.number) (e ∙ f.1)))
      ]

-- ---- all words
module _ {n t m : ℕ} {reps block out verdicts words out' verdicts' : List ℕ} {counts : List (Option ℕ)} (b : BlockReceivable n m block out verdicts) (few : n ≤ 127)
    {size : ℕ} (e : size ≡ bytes_for n) (long : length words ≡ m * bytes_for n) (small : (k : ℕ) → get_or words k 0 < 256)
    (w : WordsDeinterleaved m size block words) (y : DecodedEach n n t reps size words out out' counts) (counts_long : length counts ≡ m)
    (v : VerdictsWritten counts verdicts') (out_long : length out' ≡ length out) (verdicts_long : length verdicts' ≡ length verdicts) where
  module _ {x : Stated} (u : States x n t reps) where
    size_is : size ≡ bytes_for x.n
    size_is = e ∙ ap bytes_for u.n_is

    own : (i : ℕ) → part (i * size) size out ≡ own_bytes x.n i out
    own i = ap (λ (k : ℕ). part (i * k) k out) size_is

    word : (i : ℕ) → i < m → part (i * size) size words ≡ block_word_bytes x.n m block i
    word i h = words_are b e long small w i h ∙ ap (λ (k : ℕ). block_word_bytes k m block i) u.n_is

    decoded : (i : ℕ) → i < m → (verdict_as (get_or counts i None), part (i * size) size out') ≡ part_decoded m x block out i
    unfolding part_decoded
    decoded i h =
        (y.each i (omega (arith, counts_long))).is x u 0 (omega (arith, u.n_is))
        ∙ unshortened u.accepted (part (i * size) size words) (part (i * size) size out)
        ∙ ap₂ (decode_entry [] x) (word i h) (own i)

    form : (i : ℕ) → i < m → RightForm x (block_word_bytes x.n m block i) (own_bytes x.n i out)
    form i h = record {
      word_long = bytes_length word_weight x.n (block_word x.n m block i);
      out_long = part_long (i * bytes_for x.n) (bytes_for x.n) out
          (within i m (bytes_for x.n) (length out) h (b.out_long ∙ ap (λ (k : ℕ). m * bytes_for k) u.n_is));
      clear = bytes_clear x.n (block_word x.n m block i) (block_word_lt x.n m block i);
    }

    output_is : out' ≡ block_output m x block out
    unfolding block_output
    output_is =
        joined (λ i. (part_decoded m x block out i).1) size m out' (out_long ∙ b.out_long ∙ ap (λ (k : ℕ). m * k) (sym e))
        (λ i h. ap (λ (p : Answer × List ℕ). p.1) (decoded i h))

    verdict : (i : ℕ) → i < m → get_or verdicts' i 0 ≡ verdict_of (part_decoded m x block out i).0
    unfolding part_decoded
    verdict i h =
        v.at i (omega (arith, counts_long))
        ∙ verdict_is u.accepted (omega (arith, u.n_is)) (form i h) (get_or counts i None) (decoded i h)

    verdicts_are : verdicts' ≡ block_verdicts m x block out
    unfolding block_verdicts
    verdicts_are =
        let g : ℕ → ℕ = λ i. verdict_of (part_decoded m x block out i).0 in
        let l : length verdicts' ≡ m = verdicts_long ∙ b.verdicts_long in
        ext_get_or 0 verdicts' (map g (up_to m)) (l ∙ sym (tabulated_length g m))
        (λ i h. verdict i (omega (arith, l)) ∙ sym (tabulated_at g m i 0 (omega (arith, l))))

    none : first_of (block_conditions m x block out verdicts) ≡ 0
    unfolding block_conditions
    none =
        let n_is : n ≡ x.n = u.n_is in
        first_false (11, wrong_size (block_places m x) block) _ (size_right (x.n * m) block (b.block_long ∙ ap (λ (k : ℕ). bytes_for (k * m)) n_is))
        ∙ first_false (11, not (eqb (length out) (m * bytes_for x.n))) _
        (ap not (eq-eqb (length out) (m * bytes_for x.n) (b.out_long ∙ ap (λ (k : ℕ). m * bytes_for k) n_is)))
        ∙ first_false (11, not (eqb (length verdicts) m)) _ (ap not (eq-eqb (length verdicts) m b.verdicts_long))
        ∙ first_false (12, spare word_weight (block_places m x) block) [] (ap (λ (k : ℕ). spare word_weight (k * m) block) (sym n_is) ∙ b.clear)
        ∙ first_nil

    reply_is : (returned (0 ∷ []), (out', verdicts')) ≡ block_entry [] m x block out verdicts
    unfolding block_entry
    reply_is =
        entry_done (block_conditions m x block out verdicts) (0 ∷ []) (block_output m x block out, block_verdicts m x block out) (out, verdicts) none
        (ap₂ (λ (p q : List ℕ). (p, q)) output_is verdicts_are)

  pub block_done : BlockDecoded n t reps m block out verdicts (returned (0 ∷ []), (out', verdicts'))
  block_done = record { is = λ x u. reply_is u }

-- ---- 11 and 12, for what an accepted sheet states
module _ (m : ℕ) (x : Stated) (block out verdicts : List ℕ) where
  abbrev conditions : Conditions
  conditions = block_conditions m x block out verdicts

  refusal : (r : ℕ) → first_of conditions ≡ suc r → (refused (suc r), (out, verdicts)) ≡ block_entry [] m x block out verdicts
  unfolding block_entry
  refusal r e = entry_refused conditions (0 ∷ []) (block_output m x block out, block_verdicts m x block out) (out, verdicts) r e

  wrong_block : length block ≢ bytes_for (x.n * m) → first_of conditions ≡ 11
  unfolding block_conditions
  wrong_block h = first_true (11, wrong_size (block_places m x) block) _ (size_wrong (x.n * m) block h)

  module _ (a : length block ≡ bytes_for (x.n * m)) where
    wrong_out : length out ≢ m * bytes_for x.n → first_of conditions ≡ 11
    unfolding block_conditions
    wrong_out h =
        first_false (11, wrong_size (block_places m x) block) _ (size_right (x.n * m) block a)
        ∙ first_true (11, not (eqb (length out) (m * bytes_for x.n))) _ (ap not (ne_eqb (length out) (m * bytes_for x.n) h))

    module _ (b : length out ≡ m * bytes_for x.n) where
      wrong_verdicts : length verdicts ≢ m → first_of conditions ≡ 11
      unfolding block_conditions
      wrong_verdicts h =
          first_false (11, wrong_size (block_places m x) block) _ (size_right (x.n * m) block a)
          ∙ first_false (11, not (eqb (length out) (m * bytes_for x.n))) _ (ap not (eq-eqb (length out) (m * bytes_for x.n) b))
          ∙ first_true (11, not (eqb (length verdicts) m)) _ (ap not (ne_eqb (length verdicts) m h))

      spare_bit : length verdicts ≡ m → spare word_weight (x.n * m) block ≡ true → first_of conditions ≡ 12
      unfolding block_conditions
      spare_bit c h =
          first_false (11, wrong_size (block_places m x) block) _ (size_right (x.n * m) block a)
          ∙ first_false (11, not (eqb (length out) (m * bytes_for x.n))) _ (ap not (eq-eqb (length out) (m * bytes_for x.n) b))
          ∙ first_false (11, not (eqb (length verdicts) m)) _ (ap not (eq-eqb (length verdicts) m c))
          ∙ first_true (12, spare word_weight (block_places m x) block) [] h

-- ---- of whatever was stated
module _ {n t : ℕ} {reps : List ℕ} (m : ℕ) (block out verdicts : List ℕ) where
  by : (r : ℕ) → ((x : Stated) → n ≡ x.n → first_of (block_conditions m x block out verdicts) ≡ suc r)
      → BlockDecoded n t reps m block out verdicts (refused (suc r), (out, verdicts))
  by r f = record { is = λ x u. refusal m x block out verdicts r (f x u.n_is) }

  pub block_wrong : length block ≢ bytes_for (n * m) → BlockDecoded n t reps m block out verdicts (refused 11, (out, verdicts))
  block_wrong h = by 10 (λ x e. wrong_block m x block out verdicts (rw e at h))

  module _ (a : length block ≡ bytes_for (n * m)) where
    pub block_out : length out ≢ m * bytes_for n → BlockDecoded n t reps m block out verdicts (refused 11, (out, verdicts))
    block_out h = by 10 (λ x e. wrong_out m x block out verdicts (rw e at a) (rw e at h))

    module _ (b : length out ≡ m * bytes_for n) where
      pub block_verdicts_lem : length verdicts ≢ m → BlockDecoded n t reps m block out verdicts (refused 11, (out, verdicts))
      block_verdicts_lem h = by 10 (λ x e. wrong_verdicts m x block out verdicts (rw e at a) (rw e at b) h)

      pub block_spare : length verdicts ≡ m → spare word_weight (n * m) block ≡ true
          → BlockDecoded n t reps m block out verdicts (refused 12, (out, verdicts))
      block_spare c h = by 11 (λ x e. spare_bit m x block out verdicts (rw e at a) (rw e at b) c (rw e at h))
