-- Marked places, counted.
--
--   mark_is           a mark is 1 or 0
--   trial_lt, trial_at      a trial word has n places: the bit where it is marked, and the word's elsewhere
--   halves            the marked places hold ones and zeros
--   zeros_differ, ones_differ      a trial word differs from c in the unmarked places where the word does, and in the marked ones that hold
--                     the other bit
--   between           two words differ in no more places than both do from a third, and the marked ones
--   unmarked_le       e is at most n
--   none_marked, no_difference, no_trial      with no mark, e is the number of all changed places, and both trial words are the word
use mathlib.Core.Path.{◌≡◌, refl, sym, ap, ap₂, ◌∙◌}
use mathlib.Core.Bool.{Bool, true, false}
use Prim.Native.Nat.{ℕ, ◌+◌, ◌-◌, ◌/◌, ◌%◌, ◌^◌, ◌≤◌, ◌<◌}
use native.Mathlib.Omega.{arith}
use lib.Dec.{eqb}
use Rattle.field.specs.Search.{total, bit}
use Rattle.field.specs.Mask.{◌⊕◌, coefficient}
use Rattle.field.proofs.Search.{total_ext, total_add, total_le, total_term, total_most}
use Rattle.field.proofs.Xor.{digit, digit_lt}
use Rattle.cyclic.proofs.Places.{same_places}
use Rattle.binary.proofs.Digits.{sum_at, sum_lt}
use Rattle.document.specs.Generator.{differences}
use Rattle.document.specs.Marked.{is_marked, marked_count, unmarked_differences, marked_ones, marked_zeros, trial_place, trial_mask}
use Rattle.document.proofs.Meaning.{differ_at}

pub mark_is : (marks i : ℕ) → coefficient i marks ≡ bit (is_marked marks i)
mark_is marks i = digit (λ x. x ≡ bit (eqb x 1)) refl refl (coefficient i marks) (digit_lt (marks / 2 ^ i))

-- one of two numbers: the first where b is true
abbrev either : Bool → ℕ → ℕ → ℕ
either true x y = x
either false x y = y

either_lt : (b : Bool) (x y : ℕ) → x < 2 → y < 2 → either b x y < 2
either_lt true x y h j = h
either_lt false x y h j = j

-- ---- trial words
module _ (n marks : ℕ) (v : ℕ) (small : v < 2) (a : ℕ) where
  trial_is : (i : ℕ) → trial_place marks v a i ≡ either (is_marked marks i) v (coefficient i a)
  unfolding trial_place
  trial_is i = go (is_marked marks i)
    where
      go : (b : Bool) → (elim b as (λ _. ℕ) [ true ↦ v | false ↦ coefficient i a ]) ≡ either b v (coefficient i a)
      go true = refl
      go false = refl

  trial_bit : (i : ℕ) → trial_place marks v a i < 2
  trial_bit i = rw (trial_is i) (either_lt (is_marked marks i) v (coefficient i a) small (digit_lt (a / 2 ^ i)))

  pub trial_lt : trial_mask n marks v a < 2 ^ n
  unfolding trial_mask
  trial_lt = sum_lt (λ i. i) (trial_place marks v a) trial_bit n n (λ i j hi hj e. e) (λ i h. h)

  pub trial_at : (i : ℕ) → i < n → coefficient i (trial_mask n marks v a) ≡ either (is_marked marks i) v (coefficient i a)
  unfolding trial_mask
  trial_at i h = sum_at (λ i. i) (trial_place marks v a) trial_bit n (λ i j hi hj e. e) i h ∙ trial_is i

-- ---- the sums, place by place
unmarked_is : (n marks a b : ℕ) → unmarked_differences n marks a b ≡ total n (λ i. either (is_marked marks i) 0 (coefficient i (a ⊕ b)))
unfolding unmarked_differences
unmarked_is n marks a b =
    total_ext n (λ i. elim (is_marked marks i) as (λ _. ℕ) [ true ↦ 0 | false ↦ coefficient i (a ⊕ b) ])
    (λ i. either (is_marked marks i) 0 (coefficient i (a ⊕ b))) (λ i h. go (coefficient i (a ⊕ b)) (is_marked marks i))
  where
    go : (x : ℕ) (b : Bool) → (elim b as (λ _. ℕ) [ true ↦ 0 | false ↦ x ]) ≡ either b 0 x
    go x true = refl
    go x false = refl

held_is : (n marks : ℕ) (f : ℕ → ℕ) → total n (λ i. elim (is_marked marks i) as (λ _. ℕ) [ true ↦ f i | false ↦ 0 ])
    ≡ total n (λ i. either (is_marked marks i) (f i) 0)
held_is n marks f =
    total_ext n (λ i. elim (is_marked marks i) as (λ _. ℕ) [ true ↦ f i | false ↦ 0 ])
    (λ i. either (is_marked marks i) (f i) 0) (λ i h. go (f i) (is_marked marks i))
  where
    go : (x : ℕ) (b : Bool) → (elim b as (λ _. ℕ) [ true ↦ x | false ↦ 0 ]) ≡ either b x 0
    go x true = refl
    go x false = refl

ones_is : (n marks c : ℕ) → marked_ones n marks c ≡ total n (λ i. either (is_marked marks i) (coefficient i c) 0)
unfolding marked_ones
ones_is n marks c = held_is n marks (λ i. coefficient i c)

zeros_is : (n marks c : ℕ) → marked_zeros n marks c ≡ total n (λ i. either (is_marked marks i) (1 - coefficient i c) 0)
unfolding marked_zeros
zeros_is n marks c = held_is n marks (λ i. 1 - coefficient i c)

pub halves : (n marks c : ℕ) → marked_ones n marks c + marked_zeros n marks c ≡ marked_count n marks
unfolding marked_count
halves n marks c =
    ap₂ ◌+◌ (ones_is n marks c) (zeros_is n marks c)
    ∙ sym (total_add n (λ i. either (is_marked marks i) (coefficient i c) 0) (λ i. either (is_marked marks i) (1 - coefficient i c) 0))
    ∙ total_ext n _ (λ i. coefficient i marks)
    (λ i h. go (coefficient i c) (digit_lt (c / 2 ^ i)) (is_marked marks i) ∙ sym (mark_is marks i))
  where
    go : (x : ℕ) → x < 2 → (b : Bool) → either b x 0 + either b (1 - x) 0 ≡ bit b
    go x h true = omega arith
    go x h false = refl

-- ---- a trial word
module _ (n marks a c : ℕ) where
  differ_trial : (v : ℕ) → v < 2 → (held : ℕ → ℕ) → ((x : ℕ) → x < 2 → (v + x) % 2 ≡ held x)
      → differences n (trial_mask n marks v a) c
      ≡ unmarked_differences n marks a c + total n (λ i. either (is_marked marks i) (held (coefficient i c)) 0)
  unfolding differences
  differ_trial v h held f =
      total_ext n (λ i. coefficient i (trial_mask n marks v a ⊕ c))
      (λ i. either (is_marked marks i) 0 (coefficient i (a ⊕ c)) + either (is_marked marks i) (held (coefficient i c)) 0)
      (λ i l. differ_at (trial_mask n marks v a) c i
      ∙ ap (λ (x : ℕ). (x + coefficient i c) % 2) (trial_at n marks v h a i l)
      ∙ go (coefficient i c) (digit_lt (c / 2 ^ i)) (coefficient i a) (coefficient i (a ⊕ c)) (differ_at a c i) (is_marked marks i))
      ∙ total_add n (λ i. either (is_marked marks i) 0 (coefficient i (a ⊕ c)))
      (λ i. either (is_marked marks i) (held (coefficient i c)) 0)
      ∙ ap (λ (x : ℕ). x + total n (λ i. either (is_marked marks i) (held (coefficient i c)) 0)) (sym (unmarked_is n marks a c))
    where
      go : (x : ℕ) → x < 2 → (y z : ℕ) → z ≡ (y + x) % 2 → (b : Bool) → (either b v y + x) % 2 ≡ either b 0 z + either b (held x) 0
      go x l y z e true = let q : (v + x) % 2 ≡ held x = f x l in omega arith
      go x l y z e false = omega arith

  pub zeros_differ : differences n (trial_mask n marks 0 a) c ≡ unmarked_differences n marks a c + marked_ones n marks c
  zeros_differ =
      differ_trial 0 (omega arith) (λ x. x) (λ x h. omega arith)
      ∙ ap (λ (x : ℕ). unmarked_differences n marks a c + x) (sym (ones_is n marks c))

  pub ones_differ : differences n (trial_mask n marks 1 a) c ≡ unmarked_differences n marks a c + marked_zeros n marks c
  ones_differ =
      differ_trial 1 (omega arith) (λ x. 1 - x) (λ x h. omega arith)
      ∙ ap (λ (x : ℕ). unmarked_differences n marks a c + x) (sym (zeros_is n marks c))

-- ---- two words
pub between : (n marks a b c : ℕ)
    → differences n b c ≤ unmarked_differences n marks a b + unmarked_differences n marks a c + marked_count n marks
unfolding differences marked_count
between n marks a b c =
    let f : ℕ → ℕ = λ i. either (is_marked marks i) 0 (coefficient i (a ⊕ b)) in
    let g : ℕ → ℕ = λ i. either (is_marked marks i) 0 (coefficient i (a ⊕ c)) in
    let h : ℕ → ℕ = λ i. coefficient i marks in
    let p : total n (λ i. f i + g i) ≡ total n f + total n g = total_add n f g in
    let q : total n (λ i. f i + g i + h i) ≡ total n (λ i. f i + g i) + total n h = total_add n (λ i. f i + g i) h in
    let s : total n (λ i. coefficient i (b ⊕ c)) ≤ total n (λ i. f i + g i + h i) =
    total_le n (λ i. coefficient i (b ⊕ c)) (λ i. f i + g i + h i)
    (λ i l. go (coefficient i a) (coefficient i b) (coefficient i c) (differ_at a b i) (differ_at a c i) (differ_at b c i) (is_marked marks i)
    (mark_is marks i)) in
    let u : unmarked_differences n marks a b ≡ total n f = unmarked_is n marks a b in
    let v : unmarked_differences n marks a c ≡ total n g = unmarked_is n marks a c in
    omega arith
  where
    go : (x y z : ℕ) {p q r : ℕ} → p ≡ (x + y) % 2 → q ≡ (x + z) % 2 → r ≡ (y + z) % 2 → (t : Bool) {m : ℕ} → m ≡ bit t
        → r ≤ either t 0 p + either t 0 q + m
    go x y z e f g true h = omega arith
    go x y z e f g false h = omega arith

-- no more than all places
pub unmarked_le : (n marks a b : ℕ) → unmarked_differences n marks a b ≤ n
unmarked_le n marks a b =
    let l : total n (λ i. either (is_marked marks i) 0 (coefficient i (a ⊕ b))) ≤ n =
    total_most n (λ i. either (is_marked marks i) 0 (coefficient i (a ⊕ b)))
    (λ i. either_lt (is_marked marks i) 0 (coefficient i (a ⊕ b)) (omega arith) (digit_lt ((a ⊕ b) / 2 ^ i))) in
    let e : unmarked_differences n marks a b ≡ total n (λ i. either (is_marked marks i) 0 (coefficient i (a ⊕ b))) = unmarked_is n marks a b in
    omega arith

-- ---- no mark
module _ (n marks : ℕ) (none : marked_count n marks ≡ 0) where
  pub none_marked : (i : ℕ) → i < n → is_marked marks i ≡ false
  unfolding marked_count
  none_marked i h =
      let l : coefficient i marks ≤ total n (λ i. coefficient i marks) = total_term n (λ i. coefficient i marks) i h in
      let e : coefficient i marks ≡ 0 = omega arith in
      ap (λ (x : ℕ). eqb x 1) e

  pub no_difference : (a b : ℕ) → unmarked_differences n marks a b ≡ differences n a b
  unfolding differences
  no_difference a b =
      unmarked_is n marks a b
      ∙ total_ext n (λ i. either (is_marked marks i) 0 (coefficient i (a ⊕ b))) (λ i. coefficient i (a ⊕ b))
      (λ i h. ap (λ (t : Bool). either t 0 (coefficient i (a ⊕ b))) (none_marked i h))

  pub no_trial : (v a : ℕ) → v < 2 → a < 2 ^ n → trial_mask n marks v a ≡ a
  no_trial v a h small =
      same_places (trial_lt n marks v h a) small
      (λ i l. trial_at n marks v h a i l ∙ ap (λ (t : Bool). either t v (coefficient i a)) (none_marked i l))
