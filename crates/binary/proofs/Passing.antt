-- Passes over the numbers of a packed slice.
--
--   masked           a number where a selector is all ones, and else 0
--   xor_is           the code's sum is that of masks
--   Passing, passing_start, passing_more, passing_end      x w, and g where it is asked for, number by number
--   carry_lt         what is carried is a digit
--   passing_two      two numbers, written out
--   packed_one       x^i in place of 0; packed_past: or nothing, past the last number
--   packed_none      numbers that are all 0
--   Handing, handing_start, handing_more, handing_end      a slice handed over
--   none_is          the test for 0
use mathlib.Core.Path.{◌≡◌, refl, sym, ap, ap₂, ◌∙◌, subst}
use mathlib.Core.Bool.{◌&&◌}
use mathlib.Core.List.{List}
use Prim.Native.Nat.{ℕ, zero, suc, ◌+◌, ◌-◌, ◌*◌, ◌/◌, ◌%◌, ◌^◌, ◌≤◌, ◌<◌}
use native.Mathlib.Nat.{zero-mul, one-mul, zero-div, mod-eq_of_lt}
use native.Mathlib.Numerals.{add-one}
use native.Mathlib.Decide.{ℕ_discrete, dec_lt}
use native.Mathlib.Omega.{arith}
use lib.Bits.{bit_xor, bit_and, and_zero_r, and_mask}
use lib.Dec.{eqb}
use lib.ListN.{length, get_or, set, take, length-set, get_or-eq_default}
use lib.Pow.{shl-shr, pow_pos, pow-lt, pow-add}
use lib.Seq.{get_or-set_same, get_or-set_other, take-length}
use Rattle.std.specs.List.{list_all}
use Rattle.std.proofs.lemmas.List.Folds.{list_all_more}
use borrow.Author.Tests.{eq-eqb, ne_eqb}
use Rattle.field.specs.Mask.{◌⊕◌, coefficient}
use Rattle.field.proofs.Xor.{digit, digit_lt, bit_ext}
use Rattle.cyclic.proofs.Places.{coefficient_zero}
use Rattle.binary.specs.Packed.{joined, packed, places_in}
use Rattle.binary.proofs.Digits.{pow_same, pow_other}
use Rattle.binary.proofs.Packing.{Words, joined_z, joined_s, joined_same, joined_sum, joined_scale, carried, carried_z, carried_s, carried_lt, doubled, doubled_lt, joined_double, coefficient_packed}

pub masked : (m x : ℕ) → m ≡ m % 2 * 18446744073709551615 → x < 2 ^ 64 → bit_and x m ≡ m % 2 * x
masked m x e h =
    ap (bit_and x) e ∙ go (m % 2) (digit_lt m)
  where
    go : (b : ℕ) → b < 2 → bit_and x (b * 18446744073709551615) ≡ b * x
    go = digit (λ b. bit_and x (b * 18446744073709551615) ≡ b * x) (and_zero_r x ∙ sym (zero-mul x))
        (and_mask x 64 ∙ mod-eq_of_lt h ∙ sym (one-mul x))

-- ---- the pass
abbrev entries : List ℕ → ℕ → ℕ
entries l i = get_or l i 0

pub record Passing (n by carry : ℕ) (g w₀ w : List ℕ) : Type 0 where
  pub done : (i : ℕ) → i < n → get_or w i 0 ≡ doubled (entries w₀) i ⊕ by * get_or g i 0
  pub over : carry ≡ carried (entries w₀) n
  pub rest : (k : ℕ) → n ≤ k → get_or w k 0 ≡ get_or w₀ k 0
  pub small : (i : ℕ) → i < n → get_or w₀ i 0 < 2 ^ 64
  pub small_added : (i : ℕ) → i < n → get_or g i 0 < 2 ^ 64

pub passing_start : {by : ℕ} {g w : List ℕ} → Passing 0 by 0 g w w
passing_start {by} {g} {w} = record { done = λ i h. absurd (omega arith); over = sym (carried_z (entries w)); rest = λ k h. refl; small = λ i h. absurd (omega arith); small_added = λ i h. absurd (omega arith) }

pub xor_is : (x y : ℕ) → bit_xor x y ≡ x ⊕ y
unfolding ◌⊕◌
xor_is x y = refl

pub passing_more : {n m carry x v : ℕ} {g w₀ w : List ℕ} → Passing n (m % 2) carry g w₀ w → n < length w → get_or g n 0 < 2 ^ 64
    → m ≡ m % 2 * 18446744073709551615 → x ≡ get_or w n 0 → x < 2 ^ 64 → v ≡ bit_xor (x * 2 ^ 1 % 2 ^ 64 + carry) (bit_and (get_or g n 0) m)
    → Passing (n + 1) (m % 2) (x / 2 ^ 63) g w₀ (set w n v)
passing_more {n} {m} {carry} {x} {v} {g} {w₀} {w} t h hg em ex lx ev =
    let was : x ≡ get_or w₀ n 0 = ex ∙ t.rest n (omega arith) in
    let is : v ≡ doubled (entries w₀) n ⊕ m % 2 * get_or g n 0 =
    ev ∙ xor_is (x * 2 ^ 1 % 2 ^ 64 + carry) (bit_and (get_or g n 0) m)
    ∙ ap₂ ◌⊕◌ (ap₂ (λ (y z : ℕ). y * 2 % 2 ^ 64 + z) was t.over) (masked m (get_or g n 0) em hg) in
    record {
      done = λ i l. elim (ℕ_discrete i n) [
        | yes e ↦ ap (λ (k : ℕ). get_or (set w n v) k 0) e ∙ get_or-set_same w n v 0 h ∙ is
            ∙ sym (ap (λ (k : ℕ). doubled (entries w₀) k ⊕ m % 2 * get_or g k 0) e)
        | no e ↦ get_or-set_other w n i v 0 e ∙ t.done i (omega arith)
      ];
      over = ap (λ (y : ℕ). y / 2 ^ 63) was ∙ sym (ap (carried (entries w₀)) (add-one n) ∙ carried_s (entries w₀) n);
      rest = λ k l. get_or-set_other w n k v 0 (λ e. omega arith) ∙ t.rest k (omega arith);
      small = λ i l. elim (ℕ_discrete i n) [
        | yes e ↦ subst (λ (y : ℕ). y < 2 ^ 64) (was ∙ ap (λ (k : ℕ). get_or w₀ k 0) (sym e)) lx
        | no e ↦ t.small i (omega arith)
      ];
      small_added = λ i l. elim (ℕ_discrete i n) [
        | yes e ↦ subst (λ (k : ℕ). get_or g k 0 < 2 ^ 64) (sym e) hg
        | no e ↦ t.small_added i (omega arith)
      ];
    }

pub passing_end : {n by carry : ℕ} {g w₀ w : List ℕ} → n ≡ length w → length w ≡ length w₀ → length w₀ ≡ length g → by < 2
    → Passing n by carry g w₀ w → packed w ≡ (packed w₀ * 2 % 2 ^ places_in g) ⊕ by * packed g
unfolding packed
passing_end {n} {by} {carry} {g} {w₀} {w} e f l two t =
    ap (λ (k : ℕ). joined k (entries w)) (sym e)
    ∙ joined_same n (entries w) (λ i. doubled (entries w₀) i ⊕ by * get_or g i 0) t.done
    ∙ joined_sum n (doubled (entries w₀)) (λ i. by * get_or g i 0) (doubled_lt n (entries w₀) t.small) scaled
    ∙ ap₂ ◌⊕◌ (joined_double (entries w₀) n t.small) (joined_scale n by (entries g))
    ∙ ap₂ (λ (y z : ℕ). (joined y (entries w₀) * 2 % 2 ^ (64 * z)) ⊕ by * joined z (entries g)) (e ∙ f) (e ∙ f ∙ l)
  where
    scaled : (i : ℕ) → i < n → by * get_or g i 0 < 2 ^ 64
    scaled i b =
        digit (λ b. b * get_or g i 0 < 2 ^ 64) (subst (λ (y : ℕ). y < 2 ^ 64) (sym (zero-mul (get_or g i 0))) (pow_pos 64))
        (subst (λ (y : ℕ). y < 2 ^ 64) (sym (one-mul (get_or g i 0))) (t.small_added i b)) by two

pub carry_lt : {n by carry : ℕ} {g w₀ w : List ℕ} → Passing n by carry g w₀ w → carry < 2
carry_lt {n} {w₀ = w₀} t = subst (λ (y : ℕ). y < 2) (sym t.over) (carried_lt n (entries w₀) t.small)

pub passing_two : (m : ℕ) (g w : List ℕ) → length w ≡ 2 → length g ≡ 2 → m ≡ m % 2 * 18446744073709551615 → Words g → Words w
    → (v u : ℕ) → v ≡ bit_xor (get_or w 0 0 * 2 ^ 1 % 2 ^ 64) (bit_and (get_or g 0 0) m)
    → u ≡ bit_xor (get_or (set w 0 v) 1 0 * 2 ^ 1 % 2 ^ 64 + get_or w 0 0 / 2 ^ 63) (bit_and (get_or g 1 0) m)
    → packed (set (set w 0 v) 1 u) ≡ (packed w * 2 % 2 ^ places_in g) ⊕ m % 2 * packed g
passing_two m g w lw lg em hg hw v u ev eu =
    let none : get_or w 0 0 * 2 ^ 1 % 2 ^ 64 + 0 ≡ get_or w 0 0 * 2 ^ 1 % 2 ^ 64 = omega arith in
    let first : Passing 1 (m % 2) (get_or w 0 0 / 2 ^ 63) g w (set w 0 v) =
    passing_more passing_start (omega arith) (hg 0) em refl (hw 0) (ev ∙ ap (λ (y : ℕ). bit_xor y (bit_and (get_or g 0 0) m)) (sym none)) in
    let long : length (set w 0 v) ≡ 2 = simp length-set lw in
    let small : get_or (set w 0 v) 1 0 < 2 ^ 64 = subst (λ (y : ℕ). y < 2 ^ 64) (sym (get_or-set_other w 0 1 v 0 (λ e. omega arith))) (hw 1) in
    let second : Passing 2 (m % 2) (get_or (set w 0 v) 1 0 / 2 ^ 63) g w (set (set w 0 v) 1 u) =
    passing_more first (omega arith) (hg 1) em refl small eu in
    passing_end (sym (simp length-set lw)) (simp length-set) (lw ∙ sym lg) (digit_lt m) second

-- ---- a power of x in place of 0
zero_of : (x k : ℕ) → x * 2 ^ k ≡ 0 → x ≡ 0
zero_of x k e = sym (shl-shr x k) ∙ ap (λ (y : ℕ). y / 2 ^ k) e ∙ zero-div (2 ^ k)

joined_none : (n : ℕ) (f : ℕ → ℕ) → joined n f ≡ 0 → (i : ℕ) → i < n → f i ≡ 0
joined_none zero f h i b = absurd (omega arith)
joined_none (suc n) f h i b =
    let e : f n * 2 ^ (64 * n) + joined n f ≡ 0 = sym (joined_s n f) ∙ h in
    let r : joined n f ≡ 0 = omega arith in
    let q : f n * 2 ^ (64 * n) ≡ 0 = omega arith in
    elim (ℕ_discrete i n) [ yes z ↦ ap f z ∙ zero_of (f n) (64 * n) q | no z ↦ joined_none n f r i (omega arith) ]

module _ (l : List ℕ) (i : ℕ) (none : packed l ≡ 0) where
  entry_none : (k : ℕ) → k < length l → get_or l k 0 ≡ 0
  unfolding packed
  entry_none k b = joined_none (length l) (entries l) none k b

  h : Words l
  h k = elim (dec_lt k (length l)) [
    | yes b ↦ subst (λ (x : ℕ). x < 2 ^ 64) (sym (entry_none k b)) (pow_pos 64)
    | no b ↦ subst (λ (x : ℕ). x < 2 ^ 64) (sym (get_or-eq_default l 0 (omega arith))) (pow_pos 64)
  ]

  module _ (room : i / 64 < length l) where
    one : ℕ
    one = 2 ^ (i % 64)

    one_lt : one < 2 ^ 64
    unfolding one
    one_lt = pow-lt {i = i % 64} {j = 64} (omega arith)

    new_words : Words (set l (i / 64) one)
    new_words k = elim (ℕ_discrete k (i / 64)) [
      | yes e ↦ subst (λ (x : ℕ). x < 2 ^ 64) (sym (ap (λ (x : ℕ). get_or (set l (i / 64) one) x 0) e ∙ get_or-set_same l (i / 64) one 0 room)) one_lt
      | no e ↦ subst (λ (x : ℕ). x < 2 ^ 64) (sym (get_or-set_other l (i / 64) k one 0 e)) (h k)
    ]

    at : (j : ℕ) → coefficient (j % 64) (get_or (set l (i / 64) one) (j / 64) 0) ≡ coefficient j (2 ^ i)
    unfolding one
    at j = elim (ℕ_discrete (j / 64) (i / 64)) [
      | yes e ↦ ap (coefficient (j % 64)) (ap (λ (x : ℕ). get_or (set l (i / 64) one) x 0) e ∙ get_or-set_same l (i / 64) one 0 room) ∙ same j e (ℕ_discrete j i)
      | no e ↦ ap (coefficient (j % 64)) (get_or-set_other l (i / 64) (j / 64) one 0 e) ∙ sym (coefficient_packed l h j) ∙ ap (coefficient j) none
          ∙ coefficient_zero j ∙ sym (pow_other i j (λ z. e (ap (λ (x : ℕ). x / 64) z)))
    ]
      where
        same : (j : ℕ) → j / 64 ≡ i / 64 → Dec (j ≡ i) → coefficient (j % 64) (2 ^ (i % 64)) ≡ coefficient j (2 ^ i)
        same j e (yes q) = ap (λ (x : ℕ). coefficient (x % 64) (2 ^ (i % 64))) q ∙ pow_same (i % 64) ∙ sym (ap (λ (x : ℕ). coefficient x (2 ^ i)) q ∙ pow_same i)
        same j e (no q) = pow_other (i % 64) (j % 64) (λ z. q (omega arith)) ∙ sym (pow_other i j q)

    pub packed_one : {v : ℕ} → v ≡ 1 * 2 ^ (i % 64) % 2 ^ 64 → packed (set l (i / 64) v) ≡ 2 ^ i % 2 ^ places_in l
    unfolding one
    packed_one {v} e =
        ap (λ (x : ℕ). packed (set l (i / 64) x)) (e ∙ ap (λ (x : ℕ). x % 2 ^ 64) (one-mul (2 ^ (i % 64))) ∙ mod-eq_of_lt one_lt)
        ∙ bit_ext (λ j. coefficient_packed (set l (i / 64) one) new_words j ∙ at j)
        ∙ sym (mod-eq_of_lt (pow-lt (omega arith)))

  pub packed_past : length l ≤ i / 64 → packed l ≡ 2 ^ i % 2 ^ places_in l
  packed_past b =
      let e : i ≡ i - places_in l + places_in l = omega arith in
      none ∙ sym (ap (λ (k : ℕ). 2 ^ k % 2 ^ places_in l) e ∙ ap (λ (x : ℕ). x % 2 ^ places_in l) (pow-add 2 (i - places_in l) (places_in l))
      ∙ native.Mathlib.Nat.mul-mod_left (2 ^ (i - places_in l)) (2 ^ places_in l))

-- ---- a slice handed over
pub record Handing (n : ℕ) (p₀ p q : List ℕ) : Type 0 where
  pub moved : (i : ℕ) → i < n → get_or q i 0 ≡ get_or p₀ i 0
  pub clear : (i : ℕ) → i < n → get_or p i 0 ≡ 0
  pub rest : (i : ℕ) → n ≤ i → get_or p i 0 ≡ get_or p₀ i 0

pub handing_start : {p q : List ℕ} → Handing 0 p p q
handing_start = record { moved = λ i h. absurd (omega arith); clear = λ i h. absurd (omega arith); rest = λ i h. refl }

pub handing_more : {n : ℕ} {p₀ p q : List ℕ} → Handing n p₀ p q → n < length p → n < length q
    → Handing (n + 1) p₀ (set p n 0) (set q n (get_or p n 0))
handing_more {n} {p₀} {p} {q} t a b = record {
  moved = λ i h. elim (ℕ_discrete i n) [
    | yes e ↦ ap (λ (k : ℕ). get_or (set q n (get_or p n 0)) k 0) e ∙ get_or-set_same q n (get_or p n 0) 0 b ∙ t.rest n (omega arith)
        ∙ ap (λ (k : ℕ). get_or p₀ k 0) (sym e)
    | no e ↦ get_or-set_other q n i (get_or p n 0) 0 e ∙ t.moved i (omega arith)
  ];
  clear = λ i h. elim (ℕ_discrete i n) [
    | yes e ↦ ap (λ (k : ℕ). get_or (set p n 0) k 0) e ∙ get_or-set_same p n 0 0 a
    | no e ↦ get_or-set_other p n i 0 0 e ∙ t.clear i (omega arith)
  ];
  rest = λ i h. get_or-set_other p n i 0 0 (λ e. omega arith) ∙ t.rest i (omega arith);
}

all_none : (n : ℕ) → joined n (λ i. 0) ≡ 0
all_none zero = joined_z (λ i. 0)
all_none (suc n) = joined_s n (λ i. 0) ∙ ap₂ ◌+◌ (zero-mul (2 ^ (64 * n))) (all_none n)

pub packed_none : (l : List ℕ) → ((i : ℕ) → get_or l i 0 ≡ 0) → packed l ≡ 0
unfolding packed
packed_none l h = joined_same (length l) (entries l) (λ i. 0) (λ i b. h i) ∙ all_none (length l)

pub handing_end : {n : ℕ} {p₀ p q : List ℕ} → n ≡ length p₀ → length p ≡ length p₀ → length q ≡ length p₀ → Handing n p₀ p q
    → (packed q ≡ packed p₀) × (packed p ≡ 0)
unfolding packed
handing_end {n} {p₀} {p} {q} e lp lq t = (
  ap (λ (k : ℕ). joined k (entries q)) (lq ∙ sym e) ∙ joined_same n (entries q) (entries p₀) t.moved ∙ ap (λ (k : ℕ). joined k (entries p₀)) e,
  ap (λ (k : ℕ). joined k (entries p)) (lp ∙ sym e) ∙ joined_same n (entries p) (λ i. 0) t.clear ∙ all_none n,
)

-- the test for 0, number by number
both_none : (x y k : ℕ) → eqb y 0 && eqb x 0 ≡ eqb (x * 2 ^ k + y) 0
both_none x y k =
    go (ℕ_discrete y 0) (ℕ_discrete x 0)
  where
    go : Dec (y ≡ 0) → Dec (x ≡ 0) → eqb y 0 && eqb x 0 ≡ eqb (x * 2 ^ k + y) 0
    go (yes p) (yes q) =
        ap₂ ◌&&◌ (eq-eqb y 0 p) (eq-eqb x 0 q)
        ∙ sym (eq-eqb (x * 2 ^ k + y) 0 (ap₂ (λ (a b : ℕ). a * 2 ^ k + b) q p ∙ ap (λ (a : ℕ). a + 0) (zero-mul (2 ^ k))))
    go (yes p) (no q) =
        ap₂ ◌&&◌ (eq-eqb y 0 p) (ne_eqb x 0 q) ∙ sym (ne_eqb (x * 2 ^ k + y) 0 (λ e. q (zero_of x k (omega arith))))
    go (no p) c = ap (λ b. b && eqb x 0) (ne_eqb y 0 p) ∙ sym (ne_eqb (x * 2 ^ k + y) 0 (λ e. p (omega arith)))

none_below : (l : List ℕ) (n : ℕ) → n ≤ length l → list_all (λ x. eqb x 0) (take n l) ≡ eqb (joined n (entries l)) 0
none_below l zero h = sym (eq-eqb (joined 0 (entries l)) 0 (joined_z (entries l)))
none_below l (suc n) h =
    ap (λ (k : ℕ). list_all (λ x. eqb x 0) (take k l)) (sym (add-one n)) ∙ list_all_more (λ x. eqb x 0) l n 0 (omega arith)
    ∙ ap (λ b. b && eqb (get_or l n 0) 0) (none_below l n (omega arith)) ∙ both_none (get_or l n 0) (joined n (entries l)) (64 * n)
    ∙ ap (λ (x : ℕ). eqb x 0) (sym (joined_s n (entries l)))

pub none_is : (l : List ℕ) → list_all (λ x. eqb x 0) l ≡ eqb (packed l) 0
unfolding packed
none_is l = ap (list_all (λ x. eqb x 0)) (sym (take-length l)) ∙ none_below l (length l) (omega arith)
