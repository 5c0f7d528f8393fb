-- Words taken out of a block.
--
--   bit_past, bit_lt_two   past its last byte a block has 0; a bit is 0 or 1
--   Gathering, gathering_start, gathering_more, gathering_end      eight bits that are m apart, one after the other
--   Deinterleaving, deinterleaving_start, deinterleaving_more, deinterleaving_end      a word, eight places at a time
--   block_word_lt, block_word_at      word i of a block as a mask: it has n places, and place j is bit j·m + i
--   block_end              a block without spare bits has 0 from its last place on
--   word_deinterleaved             a word that was taken is the block's, in word layout
use mathlib.Core.Path.{◌≡◌, sym, ap, ◌∙◌, subst}
use mathlib.Core.Logic.{inl, inr}
use mathlib.Core.Bool.{false}
use mathlib.Core.List.{List}
use Prim.Native.Nat.{ℕ, ◌+◌, ◌-◌, ◌*◌, ◌/◌, ◌%◌, ◌^◌, ◌≤◌, ◌<◌}
use native.Mathlib.Nat.{mul-le-mul_right, add-mul}
use native.Mathlib.Decide.{ℕ_discrete}
use native.Mathlib.Omega.{arith}
use lib.ListN.{length, get_or, set, get_or-eq_default}
use lib.Pow.{pow-add, shr-shr}
use lib.Seq.{get_or-set_same, get_or-set_other}
use Rattle.algebra.proofs.Poly.{le_or_lt}
use Rattle.field.specs.Mask.{coefficient}
use Rattle.cyclic.proofs.Places.{coefficient_zero}
use Rattle.binary.proofs.Digits.{sum_at, sum_lt}
use Rattle.document.specs.Layout.{word_weight, bytes_for, place, spare}
use Rattle.document.specs.Block.{block_word, block_word_bytes}
use Rattle.codeword.specs.Interleaved.{EightApart, Deinterleaved}
use Rattle.codeword.proofs.Places.{word_weights, place_lt, place_is, spare_none, bytes_unique, for_le}

-- ---- one bit
pub bit_past : (block : List ℕ) (p : ℕ) → length block ≤ p / 8 → 0 ≡ place word_weight block p
bit_past block p h =
    sym (place_is word_weights block p ∙ ap (coefficient (7 - p % 8)) (get_or-eq_default block 0 {n = p / 8} h) ∙ coefficient_zero (7 - p % 8))

pub bit_lt_two : (block : List ℕ) (q : ℕ) {b : ℕ} → b ≡ place word_weight block q → b < 2
bit_lt_two block q e = rw e (place_lt word_weight block q)

-- ---- eight bits that are m apart: the first k of them, the last one lowest
pub record Gathering (block : List ℕ) (p m k x : ℕ) : Type 0 where
  pub small : x < 2 ^ k
  pub at : (i : ℕ) → i < k → coefficient (k - 1 - i) x ≡ place word_weight block (p + i * m)

pub gathering_start : {block : List ℕ} {p m : ℕ} → Gathering block p m 0 0
gathering_start = record { small = omega arith; at = λ i h. absurd (omega arith) }

-- a number with one bit more below: its bits above that one are the number's
above_bit : (x b q : ℕ) → b < 2 → coefficient (1 + q) (x * 2 + b) ≡ coefficient q x
above_bit x b q h =
    let e : (x * 2 + b) / 2 ^ 1 ≡ x = omega arith in
    ap (λ (y : ℕ). y % 2) (sym (shr-shr (x * 2 + b) 1 q)) ∙ ap (coefficient q) e

lowest_bit : (x b : ℕ) → b < 2 → coefficient 0 (x * 2 + b) ≡ b
lowest_bit x b h = omega arith

pub gathering_more : {block : List ℕ} {p m k x b : ℕ} → b ≡ place word_weight block (p + k * m) → Gathering block p m k x
    → Gathering block p m (k + 1) (x * 2 + b)
gathering_more {block} {p} {m} {k} {x} {b} e g =
    let two : b < 2 = bit_lt_two block (p + k * m) e in
    let w : 2 ^ (k + 1) ≡ 2 ^ k * 2 = pow-add 2 k 1 in
    record {
      small = let s = g.small in omega arith;
      at = λ i h. elim (ℕ_discrete i k) [
        | yes q ↦ (let z : k + 1 - 1 - i ≡ 0 = omega arith in
            ap (λ (y : ℕ). coefficient y (x * 2 + b)) z ∙ lowest_bit x b two ∙ e ∙ ap (λ (y : ℕ). place word_weight block (p + y * m)) (sym q))
        | no q ↦ (let z : k + 1 - 1 - i ≡ 1 + (k - 1 - i) = omega arith in
            ap (λ (y : ℕ). coefficient y (x * 2 + b)) z ∙ above_bit x b (k - 1 - i) two ∙ g.at i (omega arith))
      ];
    }

pub gathering_end : {block : List ℕ} {p m k x : ℕ} → k ≡ 8 → Gathering block p m k x → EightApart block p m x
gathering_end {block} {p} {m} {k} {x} e g =
    let f : Gathering block p m 8 x = subst (λ (y : ℕ). Gathering block p m y x) e g in
    record { small = f.small; at = λ i h. f.at i h }

-- ---- a word, eight places at a time
pub record Deinterleaving (m i : ℕ) (block : List ℕ) (j : ℕ) (word : List ℕ) : Type 0 where
  pub at : (q : ℕ) → q < j * 8 → place word_weight word q ≡ place word_weight block (q * m + i)

pub deinterleaving_start : {m i : ℕ} {block word : List ℕ} → Deinterleaving m i block 0 word
deinterleaving_start = record { at = λ q h. absurd (omega arith) }

-- place q of byte j is bit q mod 8 of those from 8·j·m + i on
bit_of : (m i j q : ℕ) → q / 8 ≡ j → 8 * j * m + i + q % 8 * m ≡ q * m + i
bit_of m i j q e =
    let d : q ≡ 8 * j + q % 8 = omega arith in
    let s : (8 * j + q % 8) * m ≡ 8 * j * m + q % 8 * m = add-mul (8 * j) (q % 8) m in
    let z : q * m ≡ (8 * j + q % 8) * m = ap (λ (y : ℕ). y * m) d in
    omega arith

pub deinterleaving_more : {m i j p x : ℕ} {block word : List ℕ} → p ≡ 8 * j * m + i → EightApart block p m x → j < length word → Deinterleaving m i block j word
    → Deinterleaving m i block (j + 1) (set word j x)
deinterleaving_more {m} {i} {j} {p} {x} {block} {word} e g h t = record {
  at = λ q l. elim (ℕ_discrete (q / 8) j) [
    | yes s ↦
        place_is word_weights (set word j x) q
        ∙ ap (coefficient (7 - q % 8)) (ap (λ (k : ℕ). get_or (set word j x) k 0) s ∙ get_or-set_same word j x 0 h)
        ∙ g.at (q % 8) (omega arith)
        ∙ ap (place word_weight block) (ap (λ (y : ℕ). y + q % 8 * m) e ∙ bit_of m i j q s)
    | no s ↦
        place_is word_weights (set word j x) q ∙ ap (coefficient (7 - q % 8)) (get_or-set_other word j (q / 8) x 0 s)
        ∙ sym (place_is word_weights word q) ∙ t.at q (omega arith)
  ];
}

pub deinterleaving_end : {m i j : ℕ} {block word : List ℕ} → length word ≤ j → Deinterleaving m i block j word → Deinterleaved m i block word
deinterleaving_end h t = record { at = λ q l. t.at q (omega arith) }

-- ---- word i of a block as a mask
module _ (n m : ℕ) (block : List ℕ) (i : ℕ) where
  pub block_word_lt : block_word n m block i < 2 ^ n
  unfolding block_word
  block_word_lt =
      sum_lt (λ j. j) (λ j. place word_weight block (j * m + i)) (λ j. place_lt word_weight block (j * m + i)) n n (λ j k hj hk e. e) (λ j h. h)

  pub block_word_at : (j : ℕ) → j < n → coefficient j (block_word n m block i) ≡ place word_weight block (j * m + i)
  unfolding block_word
  block_word_at j h =
      sum_at (λ j. j) (λ j. place word_weight block (j * m + i)) (λ j. place_lt word_weight block (j * m + i)) n (λ j k hj hk e. e) j h

-- ---- a block without spare bits
pub block_end : (places : ℕ) (block : List ℕ) → length block ≡ bytes_for places → spare word_weight places block ≡ false
    → (p : ℕ) → places ≤ p → place word_weight block p ≡ 0
block_end places block long clear p h =
    elim (le_or_lt (length block) (p / 8)) [
      | inl l ↦ sym (bit_past block p l)
      | inr l ↦ spare_none word_weight places block clear p h (omega (arith, long))
    ]

pub word_deinterleaved : (n m : ℕ) {i : ℕ} {block word : List ℕ} → length block ≡ bytes_for (n * m) → spare word_weight (n * m) block ≡ false
    → length word ≡ bytes_for n → ((k : ℕ) → get_or word k 0 < 256) → Deinterleaved m i block word → word ≡ block_word_bytes n m block i
word_deinterleaved n m {i} {block} {word} long clear size small t =
    bytes_unique word_weights n (block_word n m block i) word size small (block_word_lt n m block i)
    (λ j h. t.at j (omega (arith, size, for_le n)) ∙ sym (block_word_at n m block i j h))
    (λ j a b. t.at j (omega (arith, size))
    ∙ block_end (n * m) block long clear (j * m + i) (let q : n * m ≤ j * m = mul-le-mul_right m a in omega arith))
