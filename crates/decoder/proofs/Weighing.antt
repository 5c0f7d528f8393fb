-- Marked places of bytes, counted byte by byte.
--
--   byte_place       a place of a word, by its byte; byte_not: the other value at each place of a byte
--   Summed f j r     r is the sum of f over the places of the first j bytes; summed_start, summed_more: byte by byte
--   marks_at, unmarked_at            what is summed
--   marks_byte, unmarked_byte, unmarked_lt      what one byte adds to r, and to e
--   marks_sum, unmarked_sum        all bytes; marks_most, unmarked_most: r and e are at most all places
--   marks_are, unmarked_are        without spare bits they are r and e of the words
use mathlib.Core.Path.{◌≡◌, refl, sym, ap, ap₂, ◌∙◌}
use mathlib.Core.Bool.{Bool, true, false}
use mathlib.Core.List.{List}
use Prim.Native.Nat.{ℕ, ◌+◌, ◌-◌, ◌*◌, ◌/◌, ◌%◌, ◌^◌, ◌≤◌, ◌<◌, min}
use native.Mathlib.Omega.{arith}
use lib.Bits.{bit_and, bit_xor, and_lt, xor_lt}
use lib.Count.{ones, ones_in, ones-le}
use lib.Dec.{eqb}
use lib.ListN.{length, get_or}
use borrow.Author.Tests.{eqb-true}
use Rattle.field.specs.Search.{up_to, every, total}
use Rattle.field.specs.Mask.{◌⊕◌, coefficient}
use Rattle.field.proofs.Search.{every_at, total_z, total_ext, total_join, total_most, total_still}
use Rattle.field.proofs.Xor.{digit, digit_lt, bit_⊕, ⊕-lt}
use Rattle.cyclic.proofs.Places.{coefficient_above}
use Rattle.binary.proofs.Digits.{coefficient_and}
use Rattle.document.specs.Layout.{word_weight, bytes_for, place, mask_of, spare}
use Rattle.document.specs.Marked.{is_marked, marked_count, unmarked_differences}
use Rattle.codeword.specs.Place.{whole_mask}
use Rattle.codeword.proofs.Places.{word_weights, place_is, mask_lt, mask_coefficient, for_le}
use Rattle.codeword.proofs.Eight.{whole_is}
use Rattle.decoder.specs.Marked.{marks_in, unmarked_in}

-- ---- a byte
ones_tried : every (λ b. eqb (ones b) (total 8 (λ i. coefficient (7 - i) b))) (up_to 256) ≡ true
unfolding ones ones_in total every up_to
ones_tried = refl

ones_byte : (b : ℕ) → b < 256 → ones b ≡ total 8 (λ i. coefficient (7 - i) b)
ones_byte b h =
    eqb-true (ones b) (total 8 (λ i. coefficient (7 - i) b))
    (every_at (λ b. eqb (ones b) (total 8 (λ i. coefficient (7 - i) b))) 256 ones_tried b h)

not_tried : every (λ b. every (λ p. eqb (coefficient p (255 - b)) (1 - coefficient p b)) (up_to 8)) (up_to 256) ≡ true
unfolding every up_to
not_tried = refl

pub byte_not : (b p : ℕ) → b < 256 → p < 8 → coefficient p (255 - b) ≡ 1 - coefficient p b
byte_not b p h l =
    eqb-true (coefficient p (255 - b)) (1 - coefficient p b)
    (every_at (λ p. eqb (coefficient p (255 - b)) (1 - coefficient p b)) 8
    (every_at (λ b. every (λ p. eqb (coefficient p (255 - b)) (1 - coefficient p b)) (up_to 8)) 256 not_tried b h) p l)

pub byte_place : (l : List ℕ) (j i : ℕ) → i < 8 → place word_weight l (j * 8 + i) ≡ coefficient (7 - i) (get_or l j 0)
byte_place l j i h =
    let p : (j * 8 + i) % 8 ≡ i = omega arith in
    let q : (j * 8 + i) / 8 ≡ j = omega arith in
    place_is word_weights l (j * 8 + i) ∙ ap₂ (λ (x y : ℕ). coefficient (7 - x) (get_or l y 0)) p q

whole_at : (l : List ℕ) (j i : ℕ) → j < length l → i < 8 → coefficient (j * 8 + i) (whole_mask word_weight l) ≡ coefficient (7 - i) (get_or l j 0)
whole_at l j i h k = mask_coefficient word_weight (length l * 8) l (j * 8 + i) (omega arith) ∙ byte_place l j i k

-- ---- byte by byte
pub record Summed (f : ℕ → ℕ) (j r : ℕ) : Type 0 where
  pub is : r ≡ total (j * 8) f
  pub few : r ≤ j * 8

pub summed_start : (f : ℕ → ℕ) → Summed f 0 0
summed_start f = record { is = sym (total_z f); few = omega arith }

pub summed_more : (f : ℕ → ℕ) (j b : ℕ) {r : ℕ} → b < 256 → ones b ≡ total 8 (λ i. f (j * 8 + i)) → Summed f j r
    → (r + ones b < (j + 1) * 8 + 1) × Summed f (j + 1) (r + ones b)
summed_more f j b {r} h e s =
    let l : ones b ≤ 8 = ones-le 8 b h in
    let q : (j + 1) * 8 ≡ j * 8 + 8 = omega arith in
    let t : total ((j + 1) * 8) f ≡ total (j * 8) f + total 8 (λ i. f (j * 8 + i)) =
    ap (λ (k : ℕ). total k f) q ∙ total_join (j * 8) 8 f in (
      omega (arith, s.few),
      record { is = omega (arith, s.is); few = omega (arith, s.few) },
    )

-- ---- r
abbrev pub marks_at : List ℕ → ℕ → ℕ
marks_at marks i = coefficient i (whole_mask word_weight marks)

pub marks_byte : (marks : List ℕ) (j : ℕ) → j < length marks → get_or marks j 0 < 256
    → ones (get_or marks j 0) ≡ total 8 (λ i. marks_at marks (j * 8 + i))
marks_byte marks j h b =
    ones_byte (get_or marks j 0) b
    ∙ total_ext 8 (λ i. coefficient (7 - i) (get_or marks j 0)) (λ i. marks_at marks (j * 8 + i)) (λ i l. sym (whole_at marks j i h l))

pub marks_sum : (marks : List ℕ) (j : ℕ) {r : ℕ} → j ≡ length marks → Summed (marks_at marks) j r → r ≡ marks_in marks
unfolding marks_in marked_count
marks_sum marks j e s = s.is ∙ ap (λ (k : ℕ). total (k * 8) (marks_at marks)) e

-- ---- e
abbrev pub unmarked_at : List ℕ → List ℕ → List ℕ → ℕ → ℕ
unmarked_at word marks other i =
    elim (is_marked (whole_mask word_weight marks) i) as (λ _. ℕ) [
      | true ↦ 0
      | false ↦ coefficient i (whole_mask word_weight word ⊕ whole_mask word_weight other)
    ]

-- without the marked ones
less_marked : (x : ℕ) → x < 2 → (y : ℕ) → y < 2 → min x (1 - y) ≡ (elim (eqb y 1) as (λ _. ℕ) [ true ↦ 0 | false ↦ x ])
less_marked =
    digit (λ x. (y : ℕ) → y < 2 → min x (1 - y) ≡ (elim (eqb y 1) as (λ _. ℕ) [ true ↦ 0 | false ↦ x ]))
    (digit (λ y. min 0 (1 - y) ≡ (elim (eqb y 1) as (λ _. ℕ) [ true ↦ 0 | false ↦ 0 ])) refl refl)
    (digit (λ y. min 1 (1 - y) ≡ (elim (eqb y 1) as (λ _. ℕ) [ true ↦ 0 | false ↦ 1 ])) refl refl)

module _ (word marks other : List ℕ) (j : ℕ) (hw : j < length word) (hm : j < length marks) (ho : j < length other)
    (bw : get_or word j 0 < 256) (bm : get_or marks j 0 < 256) (bo : get_or other j 0 < 256) where
  abbrev w : ℕ
  w = get_or word j 0

  abbrev m : ℕ
  m = get_or marks j 0

  abbrev o : ℕ
  o = get_or other j 0

  pub unmarked_lt : bit_and (bit_xor w o) (255 - m) < 256
  unmarked_lt = and_lt 8 (bit_xor w o) (255 - m) (xor_lt 8 w o bw bo) (omega arith)

  at : (i : ℕ) → i < 8 → coefficient (7 - i) (bit_and (bit_xor w o) (255 - m)) ≡ unmarked_at word marks other (j * 8 + i)
  unfolding ◌⊕◌
  at i h =
      let p : ℕ = 7 - i in
      let x : coefficient (j * 8 + i) (whole_mask word_weight word ⊕ whole_mask word_weight other) ≡ coefficient p (w ⊕ o) =
      bit_⊕ (j * 8 + i) (whole_mask word_weight word) (whole_mask word_weight other)
      ∙ ap₂ ◌⊕◌ (whole_at word j i hw h) (whole_at other j i ho h) ∙ sym (bit_⊕ p w o) in
      coefficient_and p (w ⊕ o) (255 - m)
      ∙ ap (min (coefficient p (w ⊕ o))) (byte_not m p bm (omega arith))
      ∙ less_marked (coefficient p (w ⊕ o)) (digit_lt ((w ⊕ o) / 2 ^ p)) (coefficient p m) (digit_lt (m / 2 ^ p))
      ∙ ap₂ (λ (y z : ℕ). elim (eqb y 1) as (λ _. ℕ) [ true ↦ 0 | false ↦ z ]) (sym (whole_at marks j i hm h)) (sym x)

  pub unmarked_byte : ones (bit_and (bit_xor w o) (255 - m)) ≡ total 8 (λ i. unmarked_at word marks other (j * 8 + i))
  unmarked_byte =
      ones_byte (bit_and (bit_xor w o) (255 - m)) unmarked_lt
      ∙ total_ext 8 (λ i. coefficient (7 - i) (bit_and (bit_xor w o) (255 - m))) (λ i. unmarked_at word marks other (j * 8 + i)) at

pub unmarked_sum : (word marks other : List ℕ) (j : ℕ) {e : ℕ} → j ≡ length word → Summed (unmarked_at word marks other) j e
    → e ≡ unmarked_in word marks other
unfolding unmarked_in unmarked_differences
unmarked_sum word marks other j q s = s.is ∙ ap (λ (k : ℕ). total (k * 8) (unmarked_at word marks other)) q

-- ---- at most all places
pub marks_most : (marks : List ℕ) → marks_in marks ≤ length marks * 8
unfolding marks_in marked_count
marks_most marks = total_most (length marks * 8) (marks_at marks) (λ i. digit_lt (whole_mask word_weight marks / 2 ^ i))

pub unmarked_most : (word marks other : List ℕ) → unmarked_in word marks other ≤ length word * 8
unfolding unmarked_in unmarked_differences
unmarked_most word marks other =
    total_most (length word * 8) (unmarked_at word marks other)
    (λ i. small (digit_lt ((whole_mask word_weight word ⊕ whole_mask word_weight other) / 2 ^ i)) (is_marked (whole_mask word_weight marks) i))
  where
    small : {x : ℕ} → x < 2 → (b : Bool) → (elim b as (λ _. ℕ) [ true ↦ 0 | false ↦ x ]) < 2
    small h true = omega arith
    small h false = h

-- ---- of words without spare bits
pub marks_are : (n : ℕ) (marks : List ℕ) → length marks ≡ bytes_for n → spare word_weight n marks ≡ false
    → marks_in marks ≡ marked_count n (mask_of word_weight n marks)
unfolding marks_in marked_count
marks_are n marks a d =
    ap (λ (x : ℕ). total (length marks * 8) (λ i. coefficient i x)) (whole_is word_weight n marks a d)
    ∙ total_still n (length marks * 8) (λ i. coefficient i (mask_of word_weight n marks)) (omega (arith, for_le n, a))
    (λ i h. coefficient_above (mask_lt word_weight n marks) i h)

unmarked_still : (n m marks a b : ℕ) → n ≤ m → a < 2 ^ n → b < 2 ^ n → unmarked_differences m marks a b ≡ unmarked_differences n marks a b
unfolding unmarked_differences
unmarked_still n m marks a b h s t =
    total_still n m (λ i. elim (is_marked marks i) as (λ _. ℕ) [ true ↦ 0 | false ↦ coefficient i (a ⊕ b) ]) h
    (λ i k. still (coefficient i (a ⊕ b)) (coefficient_above (⊕-lt n a b s t) i k) (is_marked marks i))
  where
    still : (x : ℕ) → x ≡ 0 → (c : Bool) → ◌≡◌ {A = ℕ} (elim c as (λ _. ℕ) [ true ↦ 0 | false ↦ x ]) 0
    still x e true = refl
    still x e false = e

pub unmarked_are : (n : ℕ) (word marks other : List ℕ) → length word ≡ bytes_for n → spare word_weight n word ≡ false → length marks ≡ bytes_for n
    → spare word_weight n marks ≡ false → length other ≡ bytes_for n → spare word_weight n other ≡ false
    → unmarked_in word marks other
    ≡ unmarked_differences n (mask_of word_weight n marks) (mask_of word_weight n word) (mask_of word_weight n other)
unfolding unmarked_in
unmarked_are n word marks other a d b e c f =
    ap₂ (λ (x y : ℕ). unmarked_differences (length word * 8) x y (whole_mask word_weight other)) (whole_is word_weight n marks b e)
    (whole_is word_weight n word a d)
    ∙ ap (unmarked_differences (length word * 8) (mask_of word_weight n marks) (mask_of word_weight n word)) (whole_is word_weight n other c f)
    ∙ unmarked_still n (length word * 8) (mask_of word_weight n marks) (mask_of word_weight n word) (mask_of word_weight n other)
    (omega (arith, for_le n, a)) (mask_lt word_weight n word) (mask_lt word_weight n other)
