-- Words and messages by their places, for any layout.
--
--   Weights w              w gives the eight places of each byte its eight weights, each to one
--   word_weights, message_weights      both layouts do
--   place_lt, place_is     a place is 0 or 1: the digit of its byte
--   read, put              what the code's shifts and masks do
--   mask_lt, mask_coefficient, mask_above      the mask of the first n places
--   lowest_lt, lowest_digit, lowest_is, lowest_none      the places of a byte in order
--   bytes_length, bytes_place      the bytes of a mask
--   mask_of_bytes, bytes_of_mask   masks below 2^n, and bytes with no spare bit, are the same thing
--   places_ext             lists of bytes with the same places are equal
--   bytes_same, bytes_unique       bytes whose places are those of a mask, or those and 0 from n on, are its bytes
--   spare_none, spare_clear      no spare bit: all places from n on are 0
--   places_length, places_at, places_hold   all places of a word's bytes, and the mask that they are
--   four_are               four places of a word by the shifts of half a byte
use mathlib.Core.Path.{◌≡◌, sym, ap, ap₂, ◌∙◌, subst}
use mathlib.Core.Logic.{◌≢◌, ◌⊎◌, inl, inr}
use mathlib.Core.Bool.{Bool, false}
use mathlib.Core.List.{List}
use Prim.Native.Nat.{ℕ, suc, ◌+◌, ◌-◌, ◌*◌, ◌/◌, ◌%◌, ◌^◌, ◌≤◌, ◌<◌}
use native.Mathlib.Nat.{one-mul, pow-succ'}
use native.Mathlib.Decide.{ℕ_discrete, dec_lt}
use native.Mathlib.Omega.{arith}
use lib.Dec.{eqb}
use lib.Bits.{bit_or, bit_and, and_mask}
use lib.ListN.{length, get_or, set, length-set, length-map, get_or-eq_default}
use lib.Pow.{shl_exact, shr-shr, pow_pos, pow_mono}
use lib.Seq.{get_or-set_same, get_or-set_other, ext_get_or}
use borrow.Author.Tests.{eqb-false, ne_eqb}
use Rattle.algebra.proofs.Poly.{le_or_lt}
use Rattle.field.specs.Search.{up_to, total}
use Rattle.field.specs.Mask.{coefficient}
use Rattle.field.proofs.Search.{some_none, some_false, length_up_to, total_ext}
use Rattle.field.proofs.Xor.{digit_lt}
use Rattle.cyclic.proofs.Places.{coefficient_zero, coefficient_above, same_places}
use Rattle.document.specs.Layout.{word_weight, bytes_for, place, mask_of, byte_of, bytes_of, spare}
use Rattle.document.proofs.Stated.{tabulated_at, tabulated_length}
use Rattle.binary.specs.Bits.{Holds}
use Rattle.binary.specs.Lanes.{in_lanes}
use Rattle.codeword.specs.Place.{Put, lowest_first, places_of, four_places}
pub use Rattle.codeword.specs.Place.{Weights, word_weights, message_weights}
use Rattle.binary.proofs.Digits.{put_same, put_other, sum_at, sum_lt}

pub place_lt : (w : ℕ → ℕ) (l : List ℕ) (i : ℕ) → place w l i < 2
unfolding place
place_lt w l i = digit_lt (get_or l (i / 8) 0 / w i)

pub for_le : (n : ℕ) → n ≤ bytes_for n * 8
unfolding bytes_for
for_le n = omega arith

-- ---- the mask of the first n places
module _ (w : ℕ → ℕ) (n : ℕ) (l : List ℕ) where
  pub mask_lt : mask_of w n l < 2 ^ n
  unfolding mask_of
  mask_lt = sum_lt (λ i. i) (place w l) (place_lt w l) n n (λ i j hi hj e. e) (λ i h. h)

  pub mask_coefficient : (i : ℕ) → i < n → coefficient i (mask_of w n l) ≡ place w l i
  unfolding mask_of
  mask_coefficient i h = sum_at (λ i. i) (place w l) (place_lt w l) n (λ i j hi hj e. e) i h

  pub mask_above : (i : ℕ) → n ≤ i → coefficient i (mask_of w n l) ≡ 0
  mask_above i h = coefficient_above mask_lt i h

-- ---- spare places
module _ (w : ℕ → ℕ) (n : ℕ) (l : List ℕ) where
  abbrev ones : ℕ → Bool
  ones i = eqb (place w l (n + i)) 1

  pub spare_none : spare w n l ≡ false → (i : ℕ) → n ≤ i → i < bytes_for n * 8 → place w l i ≡ 0
  unfolding spare
  spare_none h i a b =
      let e : n + (i - n) ≡ i = omega arith in
      let q : place w l (n + (i - n)) ≢ 1 =
      eqb-false (place w l (n + (i - n))) 1 (some_none ones (bytes_for n * 8 - n) h (i - n) (omega arith)) in
      let s : place w l (n + (i - n)) < 2 = place_lt w l (n + (i - n)) in
      sym (ap (place w l) e) ∙ omega arith

  pub spare_clear : ((i : ℕ) → n ≤ i → i < bytes_for n * 8 → place w l i ≡ 0) → spare w n l ≡ false
  unfolding spare
  spare_clear h =
      some_false ones (bytes_for n * 8 - n)
      (λ i k. ne_eqb (place w l (n + i)) 1
      (λ e. let z : place w l (n + i) ≡ 0 = h (n + i) (omega arith) (omega arith) in
      omega arith))

-- ---- the bytes of a mask
pub bytes_length : (w : ℕ → ℕ) (n mask : ℕ) → length (bytes_of w n mask) ≡ bytes_for n
unfolding bytes_of
bytes_length w n mask = length-map (up_to (bytes_for n)) (byte_of w mask) ∙ length_up_to (bytes_for n)

bytes_at : (w : ℕ → ℕ) (n mask k : ℕ) → k < bytes_for n → get_or (bytes_of w n mask) k 0 ≡ byte_of w mask k
unfolding bytes_of
bytes_at w n mask k h =
    tabulated_at (byte_of w mask) (bytes_for n) k 0 h

same_power : (p q : ℕ) → 2 ^ p ≡ 2 ^ q → p ≡ q
same_power p q e = elim (dec_lt p q) [
  | yes l ↦ absurd (omega (arith, pow_pos p, pow-succ' 2 p, pow_mono {i = suc p} {j = q} l))
  | no l ↦ elim (dec_lt q p) [
    | yes k ↦ absurd (omega (arith, pow_pos q, pow-succ' 2 q, pow_mono {i = suc q} {j = p} k))
    | no k ↦ omega arith
  ]
]

module _ {w : ℕ → ℕ} (W : Weights w) where
  apart : (i j : ℕ) → i < 8 → j < 8 → W.shift i ≡ W.shift j → i ≡ j
  apart i j hi hj e = sym (W.back_shift i hi) ∙ ap W.back e ∙ W.back_shift j hj

  pub place_is : (l : List ℕ) (i : ℕ) → place w l i ≡ coefficient (W.shift (i % 8)) (get_or l (i / 8) 0)
  unfolding place
  place_is l i = ap (λ (x : ℕ). get_or l (i / 8) 0 / x % 2) (W.is i)

  -- ---- a place read and set, as the code does it
  shift_is : (i r : ℕ) → w i ≡ 2 ^ r → W.shift (i % 8) ≡ r
  shift_is i r e = same_power (W.shift (i % 8)) r (sym (W.is i) ∙ e)

  pub read : (l : List ℕ) (i r : ℕ) → w i ≡ 2 ^ r → bit_and (get_or l (i / 8) 0 / 2 ^ r) 1 ≡ place w l i
  read l i r e =
      and_mask (get_or l (i / 8) 0 / 2 ^ r) 1 ∙ ap (λ (k : ℕ). coefficient k (get_or l (i / 8) 0)) (sym (shift_is i r e)) ∙ sym (place_is l i)

  shifted : (x p : ℕ) → x < 2 → p < 8 → x * 2 ^ p % 256 ≡ x * 2 ^ p
  shifted x p hx hp = shl_exact 1 p 8 hx (omega arith)

  module _ (l : List ℕ) (i x : ℕ) (h : i / 8 < length l) (hx : x < 2) where
    abbrev b : ℕ
    b = get_or l (i / 8) 0

    abbrev p : ℕ
    p = W.shift (i % 8)

    p_lt : p < 8
    p_lt = W.shift_lt (i % 8) (omega arith)

    abbrev v : ℕ
    v = bit_or (bit_and b (255 - 2 ^ p)) (x * 2 ^ p)

    here : get_or (set l (i / 8) v) (i / 8) 0 ≡ v
    here = get_or-set_same l (i / 8) v 0 h

    other : (j : ℕ) → j ≢ i → Dec (j / 8 ≡ i / 8) → place w (set l (i / 8) v) j ≡ place w l j
    other j n (yes e) =
        let m : W.shift (j % 8) ≢ p =
        λ r. let q : j % 8 ≡ i % 8 = apart (j % 8) (i % 8) (omega arith) (omega arith) r in
        n (omega arith) in
        place_is (set l (i / 8) v) j
        ∙ ap (coefficient (W.shift (j % 8))) (ap (λ (k : ℕ). get_or (set l (i / 8) v) k 0) e ∙ here)
        ∙ put_other b p x p_lt hx (W.shift (j % 8)) (W.shift_lt (j % 8) (omega arith)) m
        ∙ sym (place_is l j ∙ ap (λ (k : ℕ). coefficient (W.shift (j % 8)) (get_or l k 0)) e)
    other j n (no e) =
        place_is (set l (i / 8) v) j
        ∙ ap (coefficient (W.shift (j % 8))) (get_or-set_other l (i / 8) (j / 8) v 0 e)
        ∙ sym (place_is l j)

    set_put : Put w i x l (set l (i / 8) v)
    set_put = record {
      long = length-set l (i / 8) v;
      here = place_is (set l (i / 8) v) i ∙ ap (coefficient p) here ∙ put_same b p x p_lt hx;
      other = λ j n. other j n (ℕ_discrete (j / 8) (i / 8));
      outside = λ k n. get_or-set_other l (i / 8) k v 0 n;
    }

    put_shifted : Put w i x l (set l (i / 8) (bit_or (bit_and b (255 - 1 * 2 ^ p % 256)) (x * 2 ^ p % 256)))
    put_shifted =
        let one : 1 * 2 ^ p % 256 ≡ 2 ^ p = shifted 1 p (omega arith) p_lt ∙ one-mul (2 ^ p) in
        subst (λ (y : ℕ). Put w i x l (set l (i / 8) y))
        (ap₂ (λ (y z : ℕ). bit_or (bit_and b (255 - y)) z) (sym one) (sym (shifted x p hx p_lt)))
        set_put

    pub put : (r : ℕ) → w i ≡ 2 ^ r → Put w i x l (set l (i / 8) (bit_or (bit_and b (255 - 1 * 2 ^ r % 256)) (x * 2 ^ r % 256)))
    put r e =
        subst (λ (k : ℕ). Put w i x l (set l (i / 8) (bit_or (bit_and b (255 - 1 * 2 ^ k % 256)) (x * 2 ^ k % 256)))) (shift_is i r e) put_shifted

  -- ---- a byte by its digits
  abbrev digit_of : ℕ → ℕ → ℕ → ℕ
  digit_of mask k i = coefficient (k * 8 + i) mask

  digit_of_lt : (mask k i : ℕ) → digit_of mask k i < 2
  digit_of_lt mask k i = digit_lt (mask / 2 ^ (k * 8 + i))

  byte_is : (mask k : ℕ) → byte_of w mask k ≡ total 8 (λ i. digit_of mask k i * 2 ^ W.shift i)
  unfolding byte_of
  byte_is mask k =
      total_ext 8 _ _
      (λ i h. let e : (k * 8 + i) % 8 ≡ i = omega arith in
      ap (λ (x : ℕ). digit_of mask k i * x) (W.is (k * 8 + i) ∙ ap (λ (x : ℕ). 2 ^ W.shift x) e))

  pub byte_lt : (mask k : ℕ) → byte_of w mask k < 256
  byte_lt mask k = rw (byte_is mask k) (sum_lt W.shift (digit_of mask k) (digit_of_lt mask k) 8 8 apart W.shift_lt)

  byte_digit : (mask k i : ℕ) → i < 8 → coefficient (W.shift i) (byte_of w mask k) ≡ coefficient (k * 8 + i) mask
  byte_digit mask k i h =
      ap (coefficient (W.shift i)) (byte_is mask k) ∙ sum_at W.shift (digit_of mask k) (digit_of_lt mask k) 8 apart i h

  pub bytes_place : (n mask i : ℕ) → i < bytes_for n * 8 → place w (bytes_of w n mask) i ≡ coefficient i mask
  bytes_place n mask i h =
      let e : i / 8 * 8 + i % 8 ≡ i = omega arith in
      place_is (bytes_of w n mask) i
      ∙ ap (coefficient (W.shift (i % 8))) (bytes_at w n mask (i / 8) (omega arith))
      ∙ byte_digit mask (i / 8) (i % 8) (omega arith)
      ∙ ap (λ (x : ℕ). coefficient x mask) e

  pub mask_of_bytes : (n mask : ℕ) → mask < 2 ^ n → mask_of w n (bytes_of w n mask) ≡ mask
  mask_of_bytes n mask h =
      same_places (mask_lt w n (bytes_of w n mask)) h
      (λ i l. mask_coefficient w n (bytes_of w n mask) i l ∙ bytes_place n mask i (omega (arith, for_le n)))

  -- ---- the places of a byte in order
  ordered : ℕ → ℕ → ℕ
  ordered b i = b / w i % 2

  ordered_lt : (b i : ℕ) → ordered b i < 2
  unfolding ordered
  ordered_lt b i = digit_lt (b / w i)

  pub lowest_lt : (b : ℕ) → lowest_first w b < 256
  unfolding lowest_first ordered
  lowest_lt b = sum_lt (λ i. i) (ordered b) (ordered_lt b) 8 8 (λ i j hi hj e. e) (λ i h. h)

  pub lowest_digit : (b t : ℕ) → t < 8 → coefficient t (lowest_first w b) ≡ coefficient (W.shift t) b
  unfolding lowest_first ordered
  lowest_digit b t h =
      let e : t % 8 ≡ t = omega arith in
      sum_at (λ i. i) (ordered b) (ordered_lt b) 8 (λ i j hi hj q. q) t h ∙ ap (λ (x : ℕ). b / x % 2) (W.is t ∙ ap (λ (r : ℕ). 2 ^ W.shift r) e)

  pub lowest_is : (b : ℕ) {x : ℕ} → x < 256 → ((t : ℕ) → t < 8 → coefficient t x ≡ coefficient (W.shift t) b) → x ≡ lowest_first w b
  lowest_is b {x} small f = same_places {n = 8} small (lowest_lt b) (λ t h. f t h ∙ sym (lowest_digit b t h))

  pub lowest_none : lowest_first w 0 ≡ 0
  lowest_none = sym (lowest_is 0 (omega arith) (λ t h. coefficient_zero t ∙ sym (coefficient_zero (W.shift t))))

  -- ---- bytes by their places
  same_byte : (a b : ℕ) → a < 256 → b < 256
      → ((r : ℕ) → r < 8 → coefficient (W.shift r) a ≡ coefficient (W.shift r) b) → a ≡ b
  same_byte a b ha hb f =
      same_places {n = 8} ha hb
      (λ e h. sym (ap (λ (x : ℕ). coefficient x a) (W.shift_back e h)) ∙ f (W.back e) (W.back_lt e h)
      ∙ ap (λ (x : ℕ). coefficient x b) (W.shift_back e h))

  pub places_ext : (l m : List ℕ) → length l ≡ length m → ((k : ℕ) → get_or l k 0 < 256) → ((k : ℕ) → get_or m k 0 < 256)
      → ((i : ℕ) → i < length l * 8 → place w l i ≡ place w m i) → l ≡ m
  places_ext l m long hl hm f =
      ext_get_or 0 l m long
      (λ k h. same_byte (get_or l k 0) (get_or m k 0) (hl k) (hm k)
      (λ r hr. sym (one l k r hr) ∙ f (k * 8 + r) (omega arith) ∙ one m k r hr))
    where
      one : (l : List ℕ) (k r : ℕ) → r < 8 → place w l (k * 8 + r) ≡ coefficient (W.shift r) (get_or l k 0)
      one l k r h =
          let p : (k * 8 + r) % 8 ≡ r = omega arith in
          let q : (k * 8 + r) / 8 ≡ k = omega arith in
          place_is l (k * 8 + r) ∙ ap₂ (λ (x y : ℕ). coefficient (W.shift x) (get_or l y 0)) p q

  pub bytes_lt : (n mask k : ℕ) → get_or (bytes_of w n mask) k 0 < 256
  bytes_lt n mask k = go (le_or_lt (bytes_for n) k)
    where
      go : (bytes_for n ≤ k) ⊎ (k < bytes_for n) → get_or (bytes_of w n mask) k 0 < 256
      go (inl h) = rw (get_or-eq_default (bytes_of w n mask) 0 {n = k} (omega (arith, bytes_length w n mask))) (omega arith)
      go (inr h) = rw (bytes_at w n mask k h) (byte_lt mask k)

  module _ (n mask : ℕ) (l : List ℕ) (long : length l ≡ bytes_for n) (bytes : (k : ℕ) → get_or l k 0 < 256) where
    pub bytes_same : ((i : ℕ) → i < bytes_for n * 8 → place w l i ≡ coefficient i mask) → l ≡ bytes_of w n mask
    bytes_same f =
        places_ext l (bytes_of w n mask) (long ∙ sym (bytes_length w n mask)) bytes (bytes_lt n mask)
        (λ i k. f i (omega arith) ∙ sym (bytes_place n mask i (omega arith)))

    pub bytes_unique : mask < 2 ^ n → ((i : ℕ) → i < n → place w l i ≡ coefficient i mask)
        → ((i : ℕ) → n ≤ i → i < bytes_for n * 8 → place w l i ≡ 0) → l ≡ bytes_of w n mask
    bytes_unique h f g = bytes_same (λ i k. go i k (le_or_lt n i))
      where
        go : (i : ℕ) → i < bytes_for n * 8 → (n ≤ i) ⊎ (i < n) → place w l i ≡ coefficient i mask
        go i k (inl a) = g i a k ∙ sym (coefficient_above h i a)
        go i k (inr a) = f i a

  pub bytes_of_mask : (n : ℕ) (l : List ℕ) → length l ≡ bytes_for n → ((k : ℕ) → get_or l k 0 < 256) → spare w n l ≡ false
      → l ≡ bytes_of w n (mask_of w n l)
  bytes_of_mask n l long bytes clear =
      bytes_unique n (mask_of w n l) l long bytes (mask_lt w n l)
      (λ i h. sym (mask_coefficient w n l i h)) (spare_none w n l clear)

-- ---- all places of a word's bytes
pub places_length : (word : List ℕ) → length (places_of word) ≡ length word * 8
unfolding places_of
places_length word = tabulated_length (place word_weight word) (length word * 8)

pub places_at : (word : List ℕ) (i : ℕ) → i < length word * 8 → get_or (places_of word) i 0 ≡ place word_weight word i
unfolding places_of
places_at word i h = tabulated_at (place word_weight word) (length word * 8) i 0 h

pub places_hold : (n : ℕ) (word : List ℕ) → length word ≡ bytes_for n → spare word_weight n word ≡ false
    → Holds (mask_of word_weight n word) (places_of word)
places_hold n word a d = record { at = λ i. go i (le_or_lt (length word * 8) i) (le_or_lt n i) }
  where
    go : (i : ℕ) → (length word * 8 ≤ i) ⊎ (i < length word * 8) → (n ≤ i) ⊎ (i < n)
        → get_or (places_of word) i 0 ≡ coefficient i (mask_of word_weight n word)
    go i (inl h) k =
        get_or-eq_default (places_of word) 0 (omega (arith, places_length word))
        ∙ sym (mask_above word_weight n word i (omega (arith, a, for_le n)))
    go i (inr h) (inl k) =
        places_at word i h ∙ spare_none word_weight n word d i k (omega (arith, a)) ∙ sym (mask_above word_weight n word i k)
    go i (inr h) (inr k) = places_at word i h ∙ sym (mask_coefficient word_weight n word i k)

-- ---- half a byte
pub bit_lt : (x : ℕ) → bit_and x 1 < 2
bit_lt x = rw (and_mask x 1) (digit_lt x)

-- the byte of four places, with those after them shifted out
abbrev pub half : List ℕ → ℕ → ℕ
half word i = get_or word (i / 8) 0 / 2 ^ (4 - i % 8)

half_place : (word : List ℕ) (i j : ℕ) → i % 4 ≡ 0 → j < 4 → {x : ℕ} → x ≡ get_or word (i / 8) 0 / 2 ^ (4 - i % 8 + (3 - j))
    → bit_and x 1 ≡ place word_weight word (i + j)
half_place word i j m h {x} q =
    let e : 4 - i % 8 + (3 - j) ≡ 7 - (i + j) % 8 = omega arith in
    let f : i / 8 ≡ (i + j) / 8 = omega arith in
    and_mask x 1 ∙ ap (λ (y : ℕ). y % 2) q ∙ ap₂ (λ (y k : ℕ). get_or word k 0 / 2 ^ y % 2) e f ∙ sym (place_is word_weights word (i + j))

pub four_are : (word : List ℕ) (i : ℕ) → i % 4 ≡ 0
    → ((bit_and (half word i) 1 * 65536 + bit_and (half word i / 2) 1) * 65536 + bit_and (half word i / 4) 1) * 65536 + bit_and (half word i / 8) 1
    ≡ four_places word_weight word i
unfolding four_places in_lanes total
four_are word i m =
    let b : ℕ = get_or word (i / 8) 0 in
    let p : ℕ = 4 - i % 8 in
    let none : p ≡ p + 0 = omega arith in
    omega (
      arith,
      half_place word i 0 m (omega arith) (shr-shr b p 3),
      half_place word i 1 m (omega arith) (shr-shr b p 2),
      half_place word i 2 m (omega arith) (shr-shr b p 1),
      half_place word i 3 m (omega arith) (ap (λ (k : ℕ). b / 2 ^ k) none),
    )
