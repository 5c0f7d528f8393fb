-- Spare bits in the last byte.
--
--   last_byte, spare_bits    the last byte, and how many bits of it are spare
--   clear_iff              no spare bit is 1: the digits of the last byte that places from n on would take are 0, in any layout
--   word_clear_iff         a word's are the low digits
--   message_clear_iff      a message's are the high ones
--   some_byte, places_fit, spare_le    there is a last byte, and some places are in it
--   spare_tested      the code's test
use mathlib.Core.Path.{◌≡◌, refl, sym, ap, ap₂, ◌∙◌, subst}
use mathlib.Core.Logic.{◌↔◌}
use mathlib.Core.Bool.{Bool, true, false, not}
use mathlib.Core.List.{List}
use Prim.Native.Nat.{ℕ, ◌+◌, ◌-◌, ◌*◌, ◌/◌, ◌%◌, ◌^◌, ◌≤◌, ◌<◌}
use native.Mathlib.Nat.{mod-lt, mul-mod_left, div-eq_of_lt, add-zero, zero-mul, zero-div}
use native.Mathlib.Decide.{dec_lt}
use native.Mathlib.Omega.{arith}
use lib.Dec.{eqb}
use lib.ListN.{length, get_or}
use lib.Pow.{pow_pos, shl-shr, shr-shr, mod-pow-add}
use borrow.Author.Tests.{eq-eqb, ne_eqb}
use Rattle.field.specs.Mask.{coefficient}
use Rattle.field.proofs.Search.{true_ne_false}
use Rattle.cyclic.proofs.Places.{coefficient_zero, coefficient_above, same_places}
use Rattle.binary.proofs.Digits.{below_pow, digit_low}
use Rattle.document.specs.Layout.{word_weight, message_weight, bytes_for, place, spare}
use Rattle.codeword.specs.Place.{lowest_first}
use Rattle.codeword.proofs.Places.{Weights, word_weights, message_weights, place_is, spare_none, spare_clear, lowest_lt, lowest_digit}

abbrev pub last_byte : List ℕ → ℕ
last_byte l = get_or l (length l - 1) 0

abbrev pub spare_bits : ℕ → List ℕ → ℕ
spare_bits n l = 8 * length l - n

-- the low j digits of a number, moved up by k, are 0 exactly when they are
moved : (a j k : ℕ) → (a % 2 ^ j ≡ 0) ↔ (a * 2 ^ k % 2 ^ (j + k) ≡ 0)
moved a j k =
    let e : a * 2 ^ k % 2 ^ (j + k) ≡ (a % 2 ^ j) * 2 ^ k =
    mod-pow-add (a * 2 ^ k) j k ∙ ap₂ (λ (x y : ℕ). x % 2 ^ j * 2 ^ k + y) (shl-shr a k) (mul-mod_left a (2 ^ k))
    ∙ add-zero ((a % 2 ^ j) * 2 ^ k) in (
      λ h. e ∙ ap (λ (x : ℕ). x * 2 ^ k) h ∙ zero-mul (2 ^ k),
      λ h. sym (shl-shr (a % 2 ^ j) k) ∙ ap (λ (x : ℕ). x / 2 ^ k) (sym e ∙ h) ∙ zero-div (2 ^ k),
    )

module _ (n : ℕ) (l : List ℕ) (long : length l ≡ bytes_for n) (some : 1 ≤ n) where
  pub some_byte : 1 ≤ length l
  unfolding bytes_for
  some_byte = omega (arith, long)

  pub spare_le : spare_bits n l ≤ 7
  unfolding bytes_for
  spare_le = omega (arith, long)

  pub places_fit : n ≤ 8 * length l
  unfolding bytes_for
  places_fit = omega (arith, long)

  -- ---- by the digits of the last byte
  module _ {w : ℕ → ℕ} (W : Weights w) where
    last_place : (i : ℕ) → n ≤ i → i < bytes_for n * 8 → place w l i ≡ coefficient (W.shift (i % 8)) (last_byte l)
    unfolding bytes_for
    last_place i a b =
        let e : i / 8 ≡ length l - 1 = omega (arith, long) in
        place_is W l i ∙ ap (λ (k : ℕ). coefficient (W.shift (i % 8)) (get_or l k 0)) e

    pub clear_iff : (spare w n l ≡ false) ↔ ((r : ℕ) → 8 - spare_bits n l ≤ r → r < 8 → coefficient (W.shift r) (last_byte l) ≡ 0)
    unfolding bytes_for
    clear_iff = (
      λ h r a b.
          let q : (8 * (length l - 1) + r) % 8 ≡ r = omega arith in
          let from : n ≤ 8 * (length l - 1) + r = omega (arith, long) in
          let to : 8 * (length l - 1) + r < bytes_for n * 8 = omega (arith, long) in
          sym (last_place (8 * (length l - 1) + r) from to ∙ ap (λ (x : ℕ). coefficient (W.shift x) (last_byte l)) q)
          ∙ spare_none w n l h (8 * (length l - 1) + r) from to,
      λ h. spare_clear w n l (λ i a b. last_place i a b ∙ h (i % 8) (omega (arith, long)) (omega arith)),
    )

  pub word_clear_iff : (spare word_weight n l ≡ false) ↔ (last_byte l % 2 ^ spare_bits n l ≡ 0)
  word_clear_iff = (
    λ h. same_places {n = spare_bits n l} (mod-lt (last_byte l) (pow_pos (spare_bits n l))) (pow_pos (spare_bits n l))
        (λ e k. let q : e ≡ 7 - (7 - e) = omega (arith, spare_le) in
        digit_low e (spare_bits n l) (last_byte l) k
        ∙ ap (λ (x : ℕ). coefficient x (last_byte l)) q
        ∙ (clear_iff word_weights).0 h (7 - e) (omega (arith, spare_le)) (omega arith)
        ∙ sym (coefficient_zero e)),
    λ h. (clear_iff word_weights).1
        (λ r a b. sym (digit_low (7 - r) (spare_bits n l) (last_byte l) (omega (arith, spare_le))) ∙ ap (coefficient (7 - r)) h
        ∙ coefficient_zero (7 - r)),
  )

  pub message_clear_iff : last_byte l < 256 → (spare message_weight n l ≡ false) ↔ (last_byte l / 2 ^ (8 - spare_bits n l) ≡ 0)
  message_clear_iff small =
      let p : ℕ = 8 - spare_bits n l in (
        λ h. div-eq_of_lt
            (below_pow p (last_byte l)
            (λ i a. elim (dec_lt i 8) [
              | yes b ↦ (clear_iff message_weights).0 h i a b
              | no b ↦ coefficient_above {n = 8} small i (omega arith)
            ])),
        λ h. (clear_iff message_weights).1
            (λ r a b. let q : r ≡ p + (r - p) = omega arith in
            ap (λ (x : ℕ). last_byte l / 2 ^ x % 2) q ∙ ap (λ (x : ℕ). x % 2) (sym (shr-shr (last_byte l) p (r - p)))
            ∙ ap (coefficient (r - p)) h ∙ coefficient_zero (r - p)),
      )

  -- ---- as the code tests them
  tested : (b : Bool) (x : ℕ) → (b ≡ false) ↔ (x ≡ 0) → not (eqb x 0) ≡ b
  tested true x h = ap not (ne_eqb x 0 (λ e. true_ne_false refl (h.1 e)))
  tested false x h = ap not (eq-eqb x 0 (h.0 refl))

  pub spare_tested : {w : ℕ → ℕ} (W : Weights w) {x m : ℕ} → x ≡ lowest_first w (last_byte l) → m ≡ n - 8 * (length l - 1)
      → not (eqb (x / 2 ^ m) 0) ≡ spare w n l
  unfolding bytes_for
  spare_tested {w} W {x} {m} e em =
      let small : x < 256 = subst (λ (y : ℕ). y < 256) (sym e) (lowest_lt W (last_byte l)) in
      let is : m ≡ 8 - spare_bits n l = omega (arith, long, em) in
      let digit : (t : ℕ) → t < 8 → coefficient t x ≡ coefficient (W.shift t) (last_byte l) =
      λ t h. ap (coefficient t) e ∙ lowest_digit W (last_byte l) t h in
      tested (spare w n l) (x / 2 ^ m) (
        λ h. div-eq_of_lt
            (below_pow m x
            (λ i a. elim (dec_lt i 8) [
              | yes b ↦ digit i b ∙ (clear_iff W).0 h i (omega (arith, is)) b
              | no b ↦ coefficient_above {n = 8} small i (omega arith)
            ])),
        λ h. (clear_iff W).1
            (λ r a b. let q : r ≡ m + (r - m) = omega (arith, is) in
            sym (digit r b) ∙ ap (λ (y : ℕ). x / 2 ^ y % 2) q ∙ ap (λ (y : ℕ). y % 2) (sym (shr-shr x m (r - m)))
            ∙ ap (coefficient (r - m)) h ∙ coefficient_zero (r - m)),
      )
