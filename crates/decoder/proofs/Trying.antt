-- The trial words as they are written, and what they are.
--
--   zero_byte, one_byte      a byte of each
--   Trying      the first bytes of each are written
--   few_bytes      both are at most 16 bytes long
--   trial_bytes n v word marks      a trial word; bytes_clear, trial_clear: it has no spare bit
--   trial_marked, trial_unmarked   its places
--   zeros_are, ones_are            bytes that are written so are the trial words
--   zeros_part, ones_part          the bytes that were written are the trial words
--   trials_lined                   they are a line of two words
use mathlib.Core.Path.{◌≡◌, refl, sym, ap, ap₂, ◌∙◌}
use mathlib.Core.Logic.{inl, inr}
use mathlib.Core.Bool.{false}
use mathlib.Core.List.{List}
use Prim.Native.Nat.{ℕ, ◌+◌, ◌-◌, ◌*◌, ◌/◌, ◌%◌, ◌^◌, ◌≤◌, ◌<◌, min, max}
use native.Mathlib.Nat.{zero-mul, one-mul, zero-add}
use native.Mathlib.Decide.{ℕ_discrete}
use native.Mathlib.Omega.{arith}
use lib.Bits.{bit_and, bit_or}
use lib.ListN.{length, get_or, drop, get_or-eq_default}
use lib.Seq.{get_or-take, get_or-drop}
use Rattle.algebra.proofs.Poly.{le_or_lt}
use Rattle.field.specs.Mask.{coefficient}
use Rattle.field.proofs.Xor.{digit, digit_lt}
use Rattle.cyclic.proofs.Places.{coefficient_above}
use Rattle.binary.proofs.Digits.{coefficient_and, coefficient_or}
use Rattle.document.specs.Layout.{word_weight, bytes_for, place, mask_of, bytes_of, spare}
use Rattle.document.specs.Marked.{trial_mask}
use Rattle.document.proofs.Marking.{trial_lt, trial_at}
use Rattle.codeword.proofs.Places.{word_weights, mask_coefficient, spare_none, spare_clear, bytes_place, bytes_unique, for_le}
use Rattle.decoder.specs.Decode.{part, Lined}
use Rattle.decoder.specs.Marked.{TrialsWritten, Markable}
use Rattle.decoder.proofs.Parts.{part_long}
use Rattle.decoder.proofs.Weighing.{byte_place, byte_not}

abbrev pub zero_byte : List ℕ → List ℕ → ℕ → ℕ
zero_byte word marks j = bit_and (get_or word j 0) (255 - get_or marks j 0)

abbrev pub one_byte : List ℕ → List ℕ → ℕ → ℕ
one_byte word marks j = bit_or (get_or word j 0) (get_or marks j 0)

-- ---- byte by byte
pub record Trying (word marks : List ℕ) (j : ℕ) (trials : List ℕ) : Type 0 where
  pub long : length trials ≡ 2 * length word
  pub zeros : (i : ℕ) → i < j → get_or trials i 0 ≡ zero_byte word marks i
  pub ones : (i : ℕ) → i < j → get_or trials (length word + i) 0 ≡ one_byte word marks i

-- ---- what they are
pub few_bytes : (n : ℕ) → n ≤ 127 → bytes_for n ≤ 16
unfolding bytes_for
few_bytes n h = omega arith

abbrev pub trial_bytes : ℕ → ℕ → List ℕ → List ℕ → List ℕ
trial_bytes n v word marks = bytes_of word_weight n (trial_mask n (mask_of word_weight n marks) v (mask_of word_weight n word))

pub bytes_clear : (n mask : ℕ) → mask < 2 ^ n → spare word_weight n (bytes_of word_weight n mask) ≡ false
bytes_clear n mask h =
    spare_clear word_weight n (bytes_of word_weight n mask) (λ i a b. bytes_place word_weights n mask i b ∙ coefficient_above h i a)

pub trial_clear : (n v : ℕ) → v < 2 → (word marks : List ℕ) → spare word_weight n (trial_bytes n v word marks) ≡ false
trial_clear n v h word marks =
    bytes_clear n (trial_mask n (mask_of word_weight n marks) v (mask_of word_weight n word))
    (trial_lt n (mask_of word_weight n marks) v h (mask_of word_weight n word))

module _ (n v : ℕ) (h : v < 2) (word marks : List ℕ) (i : ℕ) (l : i < n) where
  abbrev W : ℕ
  W = mask_of word_weight n word

  abbrev M : ℕ
  M = mask_of word_weight n marks

  pub trial_marked : coefficient i M ≡ 1 → coefficient i (trial_mask n M v W) ≡ v
  trial_marked e = rw e at (trial_at n M v h W i l)

  pub trial_unmarked : coefficient i M ≡ 0 → coefficient i (trial_mask n M v W) ≡ coefficient i W
  trial_unmarked e = rw e at (trial_at n M v h W i l)

-- ---- the places that the code sets
low : (x : ℕ) → x < 2 → (y : ℕ) → y < 2 → ((y ≡ 0) → min x (1 - y) ≡ x) × ((y ≡ 1) → min x (1 - y) ≡ 0)
low x h y k = (
  λ e. ap (λ (z : ℕ). min x (1 - z)) e ∙ digit (λ x. min x (1 - 0) ≡ x) refl refl x h,
  λ e. ap (λ (z : ℕ). min x (1 - z)) e ∙ digit (λ x. min x (1 - 1) ≡ 0) refl refl x h,
)

high : (x : ℕ) → x < 2 → (y : ℕ) → y < 2 → ((y ≡ 0) → max x y ≡ x) × ((y ≡ 1) → max x y ≡ 1)
high x h y k = (
  λ e. ap (max x) e ∙ digit (λ x. max x 0 ≡ x) refl refl x h,
  λ e. ap (max x) e ∙ digit (λ x. max x 1 ≡ 1) refl refl x h,
)

-- a place by its byte
at_byte : (l : List ℕ) (i : ℕ) → place word_weight l i ≡ coefficient (7 - i % 8) (get_or l (i / 8) 0)
at_byte l i =
    let e : i / 8 * 8 + i % 8 ≡ i = omega arith in
    ap (place word_weight l) (sym e) ∙ byte_place l (i / 8) (i % 8) (omega arith)

module _ (n : ℕ) (word marks : List ℕ) (wl : length word ≡ bytes_for n) (wc : spare word_weight n word ≡ false)
    (mc : spare word_weight n marks ≡ false) (mb : (k : ℕ) → get_or marks k 0 < 256) (l : List ℕ) (long : length l ≡ length word)
    (bytes : (k : ℕ) → get_or l k 0 < 256) where
  -- of two places x and y it makes f x y, which is v where y is 1, and x where it is 0
  trial_is : (v : ℕ) → v < 2 → (f : ℕ → ℕ → ℕ) → ((x : ℕ) → x < 2 → (y : ℕ) → y < 2 → ((y ≡ 0) → f x y ≡ x) × ((y ≡ 1) → f x y ≡ v))
      → ((i : ℕ) → i < bytes_for n * 8 → place word_weight l i ≡ f (place word_weight word i) (place word_weight marks i))
      → l ≡ trial_bytes n v word marks
  trial_is v h f g q =
      bytes_unique word_weights n (trial_mask n (mask_of word_weight n marks) v (mask_of word_weight n word)) l (long ∙ wl) bytes
      (trial_lt n (mask_of word_weight n marks) v h (mask_of word_weight n word))
      (λ i k. q i (omega (arith, for_le n))
      ∙ ap₂ f (sym (mask_coefficient word_weight n word i k)) (sym (mask_coefficient word_weight n marks i k))
      ∙ go i k (coefficient i (mask_of word_weight n marks)) refl (digit_lt (mask_of word_weight n marks / 2 ^ i)))
      (λ i a b. q i b ∙ ap₂ f (spare_none word_weight n word wc i a b) (spare_none word_weight n marks mc i a b)
      ∙ (g 0 (omega arith) 0 (omega arith)).0 refl)
    where
      go : (i : ℕ) → i < n → (y : ℕ) → y ≡ coefficient i (mask_of word_weight n marks) → y < 2
          → f (coefficient i (mask_of word_weight n word)) (coefficient i (mask_of word_weight n marks))
          ≡ coefficient i (trial_mask n (mask_of word_weight n marks) v (mask_of word_weight n word))
      go i k y e s =
          let both = g (coefficient i (mask_of word_weight n word)) (digit_lt (mask_of word_weight n word / 2 ^ i))
          (coefficient i (mask_of word_weight n marks)) (digit_lt (mask_of word_weight n marks / 2 ^ i)) in
          elim (ℕ_discrete y 1) [
            | yes o ↦ both.1 (sym e ∙ o) ∙ sym (trial_marked n v h word marks i k (sym e ∙ o))
            | no o ↦ (let z : y ≡ 0 = omega arith in both.0 (sym e ∙ z) ∙ sym (trial_unmarked n v h word marks i k (sym e ∙ z)))
          ]

  pub zeros_are : ((j : ℕ) → j < length word → get_or l j 0 ≡ zero_byte word marks j) → l ≡ trial_bytes n 0 word marks
  zeros_are q =
      trial_is 0 (omega arith) (λ x y. min x (1 - y)) low
      (λ i k. at_byte l i ∙ ap (coefficient (7 - i % 8)) (q (i / 8) (omega (arith, wl)))
      ∙ coefficient_and (7 - i % 8) (get_or word (i / 8) 0) (255 - get_or marks (i / 8) 0)
      ∙ ap₂ min (sym (at_byte word i))
      (byte_not (get_or marks (i / 8) 0) (7 - i % 8) (mb (i / 8)) (omega arith) ∙ ap (λ (x : ℕ). 1 - x) (sym (at_byte marks i))))

  pub ones_are : ((j : ℕ) → j < length word → get_or l j 0 ≡ one_byte word marks j) → l ≡ trial_bytes n 1 word marks
  ones_are q =
      trial_is 1 (omega arith) max high
      (λ i k. at_byte l i ∙ ap (coefficient (7 - i % 8)) (q (i / 8) (omega (arith, wl)))
      ∙ coefficient_or (7 - i % 8) (get_or word (i / 8) 0) (get_or marks (i / 8) 0) ∙ ap₂ max (sym (at_byte word i)) (sym (at_byte marks i)))

-- ---- both, one after the other
module _ {n : ℕ} {word marks zeros ones trials : List ℕ} (m : Markable n word marks zeros ones) (t : TrialsWritten word marks trials)
    (mb : (k : ℕ) → get_or marks k 0 < 256) (tb : (k : ℕ) → get_or trials k 0 < 256) where
  abbrev size : ℕ
  size = length word

  entry : (at i : ℕ) → i < size → get_or (part at size trials) i 0 ≡ get_or trials (at + i) 0
  entry at i h = get_or-take size (drop at trials) i 0 h ∙ get_or-drop at trials i 0

  small : (at : ℕ) → at + size ≤ length trials → (k : ℕ) → get_or (part at size trials) k 0 < 256
  small at r k =
      elim (le_or_lt size k) [
        | inl h ↦ rw (get_or-eq_default (part at size trials) 0 {n = k} (omega (arith, part_long at size trials r))) (omega arith)
        | inr h ↦ rw (entry at k h) (tb (at + k))
      ]

  pub zeros_part : part 0 size trials ≡ trial_bytes n 0 word marks
  zeros_part =
      let r : 0 + size ≤ length trials = omega (arith, t.long) in
      zeros_are n word marks m.word_long m.clear m.marks_clear mb (part 0 size trials) (part_long 0 size trials r) (small 0 r)
      (λ j h. entry 0 j h ∙ ap (λ (k : ℕ). get_or trials k 0) (zero-add j) ∙ t.zeros j h)

  pub ones_part : part size size trials ≡ trial_bytes n 1 word marks
  ones_part =
      let r : size + size ≤ length trials = omega (arith, t.long) in
      ones_are n word marks m.word_long m.clear m.marks_clear mb (part size size trials) (part_long size size trials r) (small size r)
      (λ j h. entry size j h ∙ t.ones j h)

  pub trials_lined : {count : ℕ} {out : List ℕ} → count ≡ 2 → out ≡ trials → Lined n n size count trials out
  trials_lined {count} e o =
      record {
        at_most = omega arith;
        size_is = m.word_long;
        words_long = t.long ∙ ap (λ (k : ℕ). k * size) (sym e);
        out_long = ap length o ∙ t.long ∙ ap (λ (k : ℕ). k * size) (sym e);
        clear = λ k h. elim (ℕ_discrete k 0) [
          | yes z ↦
              ap (spare word_weight n)
              (ap (λ (i : ℕ). part i size trials) (ap (λ (i : ℕ). i * size) z ∙ zero-mul size) ∙ zeros_part)
              ∙ trial_clear n 0 (omega arith) word marks
          | no z ↦
              (let o : k ≡ 1 = omega arith in
              ap (spare word_weight n)
              (ap (λ (i : ℕ). part i size trials) (ap (λ (i : ℕ). i * size) o ∙ one-mul size) ∙ ones_part)
              ∙ trial_clear n 1 (omega arith) word marks)
        ];
      }
