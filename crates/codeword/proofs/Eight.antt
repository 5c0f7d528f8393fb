-- Eight places at once, of messages and words in bytes.
--
--   turned_lt, turned_digit      a byte the other way round
--   turning          how the code turns it
--   shifted_lt       a byte shifted up
--   turned_is, unturned_is      the places of a word's byte in order, and of a message's
--   eight_sum, eight_last      eight places as the code takes them out of two neighbouring bytes, or of the last
--   whole_is         without spare bits, all places of the bytes are those of the word or message
use mathlib.Core.Path.{◌≡◌, refl, sym, ap, ap₂, ◌∙◌, subst}
use mathlib.Core.Logic.{◌⊎◌, inl, inr}
use mathlib.Core.Bool.{true, false}
use mathlib.Core.List.{List}
use Prim.Native.Nat.{ℕ, ◌+◌, ◌-◌, ◌*◌, ◌/◌, ◌%◌, ◌^◌, ◌≤◌, ◌<◌}
use native.Mathlib.Nat.{zero-mul, lt_of_lt_of_le}
use native.Mathlib.Omega.{arith}
use lib.Bits.{bit_and, bit_or, and_mask}
use lib.Dec.{eqb}
use lib.ListN.{length, get_or, get_or-eq_default}
use lib.Pow.{shl_lt, shr_le, pow_mono}
use borrow.Author.Tests.{eqb-true}
use Rattle.algebra.proofs.Poly.{le_or_lt}
use Rattle.field.specs.Search.{up_to, every, total}
use Rattle.field.specs.Mask.{coefficient}
use Rattle.field.proofs.Search.{every_at}
use Rattle.field.proofs.Xor.{digit_lt, bit_ext}
use Rattle.cyclic.proofs.Places.{coefficient_zero}
use Rattle.document.specs.Layout.{word_weight, message_weight, bytes_for, mask_of, spare}
use Rattle.binary.proofs.Digits.{sum_at, sum_lt}
use Rattle.binary.proofs.Window.{window}
use Rattle.codeword.specs.Place.{lowest_first, turned, whole_mask}
use Rattle.codeword.proofs.Places.{Weights, word_weights, message_weights, mask_coefficient, mask_above, spare_none, place_is, for_le, lowest_lt, lowest_digit, lowest_is, lowest_none}

-- ---- a byte the other way round
apart : (i j : ℕ) → i < 8 → j < 8 → 7 - i ≡ 7 - j → i ≡ j
apart i j a b e = omega arith

digits : ℕ → ℕ → ℕ
digits b i = coefficient i b

digits_lt : (b i : ℕ) → digits b i < 2
unfolding digits
digits_lt b i = digit_lt (b / 2 ^ i)

pub turned_lt : (b : ℕ) → turned b < 256
unfolding turned digits
turned_lt b = sum_lt (λ i. 7 - i) (digits b) (digits_lt b) 8 8 apart (λ i h. omega arith)

pub turned_digit : (b t : ℕ) → t < 8 → coefficient (7 - t) (turned b) ≡ coefficient t b
unfolding turned digits
turned_digit b t h = sum_at (λ i. 7 - i) (digits b) (digits_lt b) 8 apart t h

copies : ℕ → ℕ
copies b = bit_or (bit_and (b * 2050) 139536) (bit_and (b * 32800) 558144)

turning_tried : every (λ b. eqb (bit_and (copies b * 65793 / 2 ^ 16) 255) (turned b)) (up_to 256) ≡ true
unfolding copies turned total every up_to
turning_tried = refl

pub turning : (b : ℕ) → b < 256 → bit_and (bit_or (bit_and (b * 2050) 139536) (bit_and (b * 32800) 558144) * 65793 / 2 ^ 16) 255 ≡ turned b
unfolding copies
turning b h =
    eqb-true (bit_and (copies b * 65793 / 2 ^ 16) 255) (turned b)
    (every_at (λ b. eqb (bit_and (copies b * 65793 / 2 ^ 16) 255) (turned b)) 256 turning_tried b h)

-- ---- a byte shifted up
pub shifted_lt : (b k : ℕ) → b < 256 → k ≤ 8 → b * 2 ^ k % 2 ^ 64 < 65536
shifted_lt b k h l =
    let lt : b * 2 ^ k < 2 ^ 16 = lt_of_lt_of_le (shl_lt 8 k h) (pow_mono {i = 8 + k} {j = 16} (omega arith)) in
    omega arith

-- ---- the places of a byte in order, by layout
pub turned_is : (b : ℕ) → turned b ≡ lowest_first word_weight b
turned_is b =
    lowest_is word_weights b (turned_lt b)
    (λ t h. let e : t ≡ 7 - (7 - t) = omega arith in ap (λ (x : ℕ). coefficient x (turned b)) e ∙ turned_digit b (7 - t) (omega arith))

pub unturned_is : (b : ℕ) → b < 256 → b ≡ lowest_first message_weight b
unturned_is b h = lowest_is message_weights b h (λ t k. refl)

-- ---- eight places
module _ {w : ℕ → ℕ} (W : Weights w) (l : List ℕ) where
  held : (q t : ℕ) → t < 8 → coefficient (q * 8 + t) (whole_mask w l) ≡ coefficient t (lowest_first w (get_or l q 0))
  held q t h = go (le_or_lt (length l) q)
    where
      go : (length l ≤ q) ⊎ (q < length l) → coefficient (q * 8 + t) (whole_mask w l) ≡ coefficient t (lowest_first w (get_or l q 0))
      go (inl k) =
          mask_above w (length l * 8) l (q * 8 + t) (omega arith)
          ∙ sym (ap (λ (x : ℕ). coefficient t (lowest_first w x)) (get_or-eq_default l 0 k) ∙ ap (coefficient t) (lowest_none W) ∙ coefficient_zero t)
      go (inr k) =
          let a : (q * 8 + t) % 8 ≡ t = omega arith in
          let b : (q * 8 + t) / 8 ≡ q = omega arith in
          mask_coefficient w (length l * 8) l (q * 8 + t) (omega arith) ∙ place_is W l (q * 8 + t)
          ∙ ap₂ (λ (x y : ℕ). coefficient (W.shift x) (get_or l y 0)) a b ∙ sym (lowest_digit W (get_or l q 0) t h)

  module _ (i : ℕ) where
    eight : whole_mask w l / 2 ^ i % 256
        ≡ (lowest_first w (get_or l (i / 8) 0) / 2 ^ (i % 8) + lowest_first w (get_or l (i / 8 + 1) 0) * 2 ^ (8 - i % 8)) % 256
    eight =
        let e : i ≡ i / 8 * 8 + i % 8 = omega arith in
        ap (λ (k : ℕ). whole_mask w l / 2 ^ k % 256) e
        ∙ window 8 (λ q. lowest_first w (get_or l q 0)) (λ q. lowest_lt W (get_or l q 0)) (whole_mask w l) held (omega arith) (i / 8) (i % 8) (omega arith)

    pub eight_sum : {x y : ℕ} → x ≡ lowest_first w (get_or l (i / 8) 0) → y ≡ lowest_first w (get_or l (i / 8 + 1) 0)
        → bit_and (x / 2 ^ (i % 8) + y * 2 ^ (8 - i % 8) % 2 ^ 64) 255 ≡ whole_mask w l / 2 ^ i % 256
    eight_sum {x} {y} ex ey =
        and_mask (x / 2 ^ (i % 8) + y * 2 ^ (8 - i % 8) % 2 ^ 64) 8 ∙ same (x / 2 ^ (i % 8)) (y * 2 ^ (8 - i % 8))
        ∙ ap₂ (λ (u v : ℕ). (u / 2 ^ (i % 8) + v * 2 ^ (8 - i % 8)) % 256) ex ey ∙ sym eight
      where
        same : (x y : ℕ) → (x + y % 2 ^ 64) % 256 ≡ (x + y) % 256
        same x y = omega arith

    pub eight_last : {x : ℕ} → x ≡ lowest_first w (get_or l (i / 8) 0) → i / 8 + 1 ≡ length l → x / 2 ^ (i % 8) ≡ whole_mask w l / 2 ^ i % 256
    eight_last {x} ex e =
        let z : lowest_first w (get_or l (i / 8 + 1) 0) ≡ 0 = ap (lowest_first w) (get_or-eq_default l 0 (omega arith)) ∙ lowest_none W in
        let s : x < 256 = subst (λ (y : ℕ). y < 256) (sym ex) (lowest_lt W (get_or l (i / 8) 0)) in
        let q : x / 2 ^ (i % 8) ≤ x = shr_le x (i % 8) in
        sym
        (eight ∙ ap₂ (λ (u v : ℕ). (u / 2 ^ (i % 8) + v) % 256) (sym ex) (ap (λ (u : ℕ). u * 2 ^ (8 - i % 8)) z ∙ zero-mul (2 ^ (8 - i % 8)))
        ∙ none_more (x / 2 ^ (i % 8)) (omega arith))
      where
        none_more : (x : ℕ) → x < 256 → (x + 0) % 256 ≡ x
        none_more x h = omega arith

-- ---- without spare bits
pub whole_is : (w : ℕ → ℕ) (n : ℕ) (l : List ℕ) → length l ≡ bytes_for n → spare w n l ≡ false → whole_mask w l ≡ mask_of w n l
whole_is w n l long none = bit_ext (λ i. go i (le_or_lt n i) (le_or_lt (length l * 8) i))
  where
    go : (i : ℕ) → (n ≤ i) ⊎ (i < n) → (length l * 8 ≤ i) ⊎ (i < length l * 8) → coefficient i (whole_mask w l) ≡ coefficient i (mask_of w n l)
    go i (inl a) (inl b) = mask_above w (length l * 8) l i b ∙ sym (mask_above w n l i a)
    go i (inl a) (inr b) = mask_coefficient w (length l * 8) l i b ∙ spare_none w n l none i a (omega arith) ∙ sym (mask_above w n l i a)
    go i (inr a) b =
        mask_coefficient w (length l * 8) l i (omega (arith, long, for_le n)) ∙ sym (mask_coefficient w n l i a)
