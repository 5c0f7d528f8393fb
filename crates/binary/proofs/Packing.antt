-- What numbers of 64 places hold, whatever their number: a mask's coefficients, sums and products by x.
--
--   Numbers, joined_z, joined_s, joined_same, joined_lt      number by number
--   block_is, block_low, block_high, block_sum      two masks beside each other
--   coefficient_joined       coefficient j is digit j % 64 of number j / 64
--   joined_sum, joined_scale      sums, number by number, and 0 or 1 times a mask
--   carried, doubled, joined_double        times x: what leaves a number at the top comes into the next one
--   Words, packed_lt, coefficient_packed      so for slices
use mathlib.Core.Path.{◌≡◌, refl, sym, ap, ap₂, ◌∙◌, subst}
use mathlib.Core.List.{List}
use Prim.Native.Nat.{ℕ, zero, suc, ◌+◌, ◌*◌, ◌/◌, ◌%◌, ◌^◌, ◌<◌}
use native.Mathlib.Nat.{add_comm, mul_comm, mul_assoc, mul-zero, add-mul, mul-add, mod-lt}
use native.Mathlib.Decide.{dec_lt}
use native.Mathlib.Omega.{arith}
use lib.Arith.{digits_lt}
use lib.Bits.{xor_shifted, xor_block}
use lib.ListN.{length, get_or, get_or-eq_default}
use lib.Pow.{pow_pos, pow-add, split, high, low, mod-pow-add, shr-shr}
use Rattle.field.specs.Search.{total}
use Rattle.field.specs.Mask.{◌⊕◌, coefficient}
use Rattle.field.proofs.Search.{total_z, total_s, total_ext}
use Rattle.field.proofs.Xor.{⊕-zero-l, ⊕-zero-r, bit_⊕}
use Rattle.cyclic.proofs.Places.{coefficient_above, coefficient_zero}
use Rattle.binary.specs.Packed.{joined, packed, places_in}
use Rattle.binary.proofs.Digits.{shift_at, shift_low}

abbrev pub Numbers : ℕ → (ℕ → ℕ) → Type 0
Numbers n f = (i : ℕ) → i < n → f i < 2 ^ 64

fewer : (n : ℕ) (f : ℕ → ℕ) → Numbers (suc n) f → Numbers n f
fewer n f h i l = h i (omega arith)

-- ---- number by number
pub joined_z : (f : ℕ → ℕ) → joined 0 f ≡ 0
unfolding joined
joined_z f = total_z (λ i. f i * 2 ^ (64 * i))

pub joined_s : (n : ℕ) (f : ℕ → ℕ) → joined (suc n) f ≡ f n * 2 ^ (64 * n) + joined n f
unfolding joined
joined_s n f = total_s n (λ i. f i * 2 ^ (64 * i)) ∙ add_comm (total n (λ i. f i * 2 ^ (64 * i))) (f n * 2 ^ (64 * n))

pub joined_same : (n : ℕ) (f g : ℕ → ℕ) → ((i : ℕ) → i < n → f i ≡ g i) → joined n f ≡ joined n g
unfolding joined
joined_same n f g h = total_ext n _ _ (λ i l. ap (λ (x : ℕ). x * 2 ^ (64 * i)) (h i l))

above : (n : ℕ) → 2 ^ (64 * suc n) ≡ 2 ^ 64 * 2 ^ (64 * n)
above n = let e : 64 * suc n ≡ 64 + 64 * n = omega arith in ap (λ (k : ℕ). 2 ^ k) e ∙ pow-add 2 64 (64 * n)

pub joined_lt : (n : ℕ) (f : ℕ → ℕ) → Numbers n f → joined n f < 2 ^ (64 * n)
joined_lt zero f h = subst (λ (x : ℕ). x < 2 ^ (64 * 0)) (sym (joined_z f)) (pow_pos 0)
joined_lt (suc n) f h =
    subst (λ (x : ℕ). joined (suc n) f < x) (sym (above n))
    (subst (λ (x : ℕ). x < 2 ^ 64 * 2 ^ (64 * n)) (sym (joined_s n f)) (digits_lt (h n (omega arith)) (joined_lt n f (fewer n f h))))

-- ---- two masks beside each other
pub block_is : (x k c : ℕ) → c < 2 ^ k → x * 2 ^ k + c ≡ x * 2 ^ k ⊕ c
unfolding ◌⊕◌
block_is x k c h = sym (xor_shifted x k c h)

pub block_low : (x k c j : ℕ) → c < 2 ^ k → j < k → coefficient j (x * 2 ^ k + c) ≡ coefficient j c
block_low x k c j h l =
    ap (coefficient j) (block_is x k c h) ∙ bit_⊕ j (x * 2 ^ k) c ∙ ap (λ (y : ℕ). y ⊕ coefficient j c) (shift_low x k j l)
    ∙ ⊕-zero-l (coefficient j c)

pub block_high : (x k c j : ℕ) → c < 2 ^ k → coefficient (k + j) (x * 2 ^ k + c) ≡ coefficient j x
block_high x k c j h =
    ap (coefficient (k + j)) (block_is x k c h) ∙ bit_⊕ (k + j) (x * 2 ^ k) c
    ∙ ap₂ ◌⊕◌ (shift_at x k j) (coefficient_above h (k + j) (omega arith)) ∙ ⊕-zero-r (coefficient j x)

block_sum : (k a b r s : ℕ) → r < 2 ^ k → s < 2 ^ k → (a * 2 ^ k + r) ⊕ (b * 2 ^ k + s) ≡ (a ⊕ b) * 2 ^ k + (r ⊕ s)
unfolding ◌⊕◌
block_sum k a b r s h l = xor_block k a b r s h l

-- ---- coefficients
pub coefficient_joined : (n : ℕ) (f : ℕ → ℕ) → Numbers n f → (j : ℕ) → j < 64 * n → coefficient j (joined n f) ≡ coefficient (j % 64) (f (j / 64))
coefficient_joined zero f h j b = absurd (omega arith)
coefficient_joined (suc n) f h j b = ap (coefficient j) (joined_s n f) ∙ go (dec_lt j (64 * n)) (λ k. coefficient_joined n f (fewer n f h) j k)
  where
    go : Dec (j < 64 * n) → (j < 64 * n → coefficient j (joined n f) ≡ coefficient (j % 64) (f (j / 64)))
        → coefficient j (f n * 2 ^ (64 * n) + joined n f) ≡ coefficient (j % 64) (f (j / 64))
    go (yes k) ih = block_low (f n) (64 * n) (joined n f) j (joined_lt n f (fewer n f h)) k ∙ ih k
    go (no k) ih =
        let e : j ≡ 64 * n + j % 64 = omega arith in
        let q : n ≡ j / 64 = omega arith in
        ap (λ (x : ℕ). coefficient x (f n * 2 ^ (64 * n) + joined n f)) e
        ∙ block_high (f n) (64 * n) (joined n f) (j % 64) (joined_lt n f (fewer n f h))
        ∙ ap (λ (x : ℕ). coefficient (j % 64) (f x)) q

-- ---- sums
pub joined_sum : (n : ℕ) (f g : ℕ → ℕ) → Numbers n f → Numbers n g → joined n (λ i. f i ⊕ g i) ≡ joined n f ⊕ joined n g
joined_sum zero f g hf hg = joined_z (λ i. f i ⊕ g i) ∙ sym (ap₂ ◌⊕◌ (joined_z f) (joined_z g) ∙ ⊕-zero-l 0)
joined_sum (suc n) f g hf hg =
    joined_s n (λ i. f i ⊕ g i) ∙ ap (λ (x : ℕ). (f n ⊕ g n) * 2 ^ (64 * n) + x) (joined_sum n f g (fewer n f hf) (fewer n g hg))
    ∙ sym (block_sum (64 * n) (f n) (g n) (joined n f) (joined n g) (joined_lt n f (fewer n f hf)) (joined_lt n g (fewer n g hg)))
    ∙ sym (ap₂ ◌⊕◌ (joined_s n f) (joined_s n g))

pub joined_scale : (n b : ℕ) (f : ℕ → ℕ) → joined n (λ i. b * f i) ≡ b * joined n f
joined_scale zero b f = joined_z (λ i. b * f i) ∙ sym (ap (λ (x : ℕ). b * x) (joined_z f) ∙ mul-zero b)
joined_scale (suc n) b f =
    joined_s n (λ i. b * f i) ∙ ap₂ ◌+◌ (mul_assoc b (f n) (2 ^ (64 * n))) (joined_scale n b f)
    ∙ sym (mul-add b (f n * 2 ^ (64 * n)) (joined n f)) ∙ ap (λ (x : ℕ). b * x) (sym (joined_s n f))

-- ---- times x
unfoldable pub carried : (ℕ → ℕ) → ℕ → ℕ
carried f zero = 0
carried f (suc i) = f i / 2 ^ 63

pub carried_z : (f : ℕ → ℕ) → carried f 0 ≡ 0
unfolding carried
carried_z f = refl

pub carried_s : (f : ℕ → ℕ) (i : ℕ) → carried f (suc i) ≡ f i / 2 ^ 63
unfolding carried
carried_s f i = refl

abbrev pub doubled : (ℕ → ℕ) → ℕ → ℕ
doubled f i = f i * 2 % 2 ^ 64 + carried f i

pub carried_lt : (n : ℕ) (f : ℕ → ℕ) → Numbers n f → carried f n < 2
unfolding carried
carried_lt zero f h = omega arith
carried_lt (suc n) f h = omega (arith, h n (omega arith))

pub doubled_lt : (n : ℕ) (f : ℕ → ℕ) → Numbers n f → Numbers n (doubled f)
doubled_lt n f h i l = let c : carried f i < 2 = carried_lt i f (λ k m. h k (omega arith)) in omega arith

module _ (f : ℕ → ℕ) where
  -- one number more
  split_up : (n : ℕ) → joined n f * 2 / 2 ^ (64 * n) ≡ carried f n → joined (suc n) f * 2 ≡ (f n * 2 + carried f n) * 2 ^ (64 * n) + joined n f * 2 % 2 ^ (64 * n)
  split_up n o =
      let r : ℕ = joined n f * 2 % 2 ^ (64 * n) in
      let e : carried f n * 2 ^ (64 * n) + r ≡ joined n f * 2 =
      ap (λ (y : ℕ). y * 2 ^ (64 * n) + r) (sym o) ∙ split (joined n f * 2) (64 * n) in
      ap (λ (y : ℕ). y * 2) (joined_s n f) ∙ put (f n) (carried f n) (2 ^ (64 * n)) (joined n f) r e
    where
      put : (x c p l r : ℕ) → c * p + r ≡ l * 2 → (x * p + l) * 2 ≡ (x * 2 + c) * p + r
      put x c p l r e =
          let a : (x * 2 + c) * p ≡ x * 2 * p + c * p = add-mul (x * 2) c p in
          let b : x * 2 * p ≡ x * p * 2 = mul_assoc x 2 p ∙ ap (λ (y : ℕ). x * y) (mul_comm 2 p) ∙ sym (mul_assoc x p 2) in
          omega arith

  double_over : (n : ℕ) → Numbers n f → joined n f * 2 / 2 ^ (64 * n) ≡ carried f n
  double_over zero h = ap (λ (x : ℕ). x * 2 / 2 ^ (64 * 0)) (joined_z f) ∙ sym (carried_z f)
  double_over (suc n) h =
      let c : carried f n < 2 = carried_lt n f (fewer n f h) in
      let up : 64 * suc n ≡ 64 * n + 64 = omega arith in
      ap₂ (λ (y z : ℕ). y / 2 ^ z) (split_up n (double_over n (fewer n f h))) up
      ∙ sym (shr-shr ((f n * 2 + carried f n) * 2 ^ (64 * n) + joined n f * 2 % 2 ^ (64 * n)) (64 * n) 64)
      ∙ ap (λ (y : ℕ). y / 2 ^ 64) (high (f n * 2 + carried f n) (64 * n) (mod-lt (joined n f * 2) (pow_pos (64 * n))))
      ∙ over (f n) (carried f n) c ∙ sym (carried_s f n)
    where
      over : (x c : ℕ) → c < 2 → (x * 2 + c) / 2 ^ 64 ≡ x / 2 ^ 63
      over x c l = omega arith

  double_here : (n : ℕ) → Numbers n f → joined n f * 2 % 2 ^ (64 * n) ≡ joined n (doubled f)
  double_here zero h = ap (λ (x : ℕ). x * 2 % 2 ^ (64 * 0)) (joined_z f) ∙ sym (joined_z (doubled f))
  double_here (suc n) h =
      let c : carried f n < 2 = carried_lt n f (fewer n f h) in
      let up : 64 * suc n ≡ 64 + 64 * n = omega arith in
      let l = mod-lt (joined n f * 2) (pow_pos (64 * n)) in
      ap₂ (λ (y z : ℕ). y % 2 ^ z) (split_up n (double_over n (fewer n f h))) up
      ∙ mod-pow-add ((f n * 2 + carried f n) * 2 ^ (64 * n) + joined n f * 2 % 2 ^ (64 * n)) 64 (64 * n)
      ∙ ap₂ (λ (y z : ℕ). y % 2 ^ 64 * 2 ^ (64 * n) + z) (high (f n * 2 + carried f n) (64 * n) l) (low (f n * 2 + carried f n) (64 * n) l)
      ∙ ap₂ (λ (y z : ℕ). y * 2 ^ (64 * n) + z) (here (f n) (carried f n) c) (double_here n (fewer n f h))
      ∙ sym (joined_s n (doubled f))
    where
      here : (x c : ℕ) → c < 2 → (x * 2 + c) % 2 ^ 64 ≡ x * 2 % 2 ^ 64 + c
      here x c l = omega arith

  pub joined_double : (n : ℕ) → Numbers n f → joined n (doubled f) ≡ joined n f * 2 % 2 ^ (64 * n)
  joined_double n h = sym (double_here n h)

-- ---- slices
abbrev pub Words : List ℕ → Type 0
Words l = (i : ℕ) → get_or l i 0 < 2 ^ 64

pub packed_lt : (l : List ℕ) → Words l → packed l < 2 ^ places_in l
unfolding packed
packed_lt l h = joined_lt (length l) (λ i. get_or l i 0) (λ i b. h i)

pub coefficient_packed : (l : List ℕ) → Words l → (j : ℕ) → coefficient j (packed l) ≡ coefficient (j % 64) (get_or l (j / 64) 0)
unfolding packed
coefficient_packed l h j = go (dec_lt j (64 * length l))
  where
    go : Dec (j < 64 * length l) → coefficient j (joined (length l) (λ i. get_or l i 0)) ≡ coefficient (j % 64) (get_or l (j / 64) 0)
    go (yes k) = coefficient_joined (length l) (λ i. get_or l i 0) (λ i b. h i) j k
    go (no k) =
        coefficient_above (joined_lt (length l) (λ i. get_or l i 0) (λ i b. h i)) j (omega arith)
        ∙ sym (ap (coefficient (j % 64)) (get_or-eq_default l 0 (omega arith)) ∙ coefficient_zero (j % 64))
