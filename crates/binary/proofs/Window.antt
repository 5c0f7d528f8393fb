-- Eight places of a mask out of the two neighbouring numbers that hold them, whatever the numbers' width.
--
--   eight_same      numbers with the same low eight digits
--   window          eight places from place b of number q on
--   window_low, window_past, window_sum, sum_fits      so as the code takes them out of numbers of 64 places
use mathlib.Core.Path.{◌≡◌, sym, ap, ap₂, ◌∙◌, subst}
use mathlib.Core.Logic.{◌⊎◌, inl, inr}
use mathlib.Core.List.{List}
use Prim.Native.Nat.{ℕ, ◌+◌, ◌-◌, ◌*◌, ◌/◌, ◌%◌, ◌^◌, ◌≤◌, ◌<◌}
use native.Mathlib.Nat.{add_comm, suc-mul, mul_assoc, zero-mul}
use native.Mathlib.Omega.{arith}
use lib.Bits.{bit_and, and_mask}
use lib.ListN.{length, get_or, get_or-eq_default}
use lib.Pow.{pow-add, shr-shr, shr_lt}
use Rattle.algebra.proofs.Poly.{le_or_lt}
use Rattle.field.specs.Mask.{coefficient}
use Rattle.field.proofs.Xor.{bit_ext}
use Rattle.cyclic.proofs.Places.{coefficient_above}
use Rattle.binary.specs.Packed.{packed}
use Rattle.binary.proofs.Digits.{digit_low}
use Rattle.binary.proofs.Packing.{Words, block_low, block_high, coefficient_packed}

pub eight_same : (x y : ℕ) → ((t : ℕ) → t < 8 → coefficient t x ≡ coefficient t y) → x % 256 ≡ y % 256
eight_same x y f = bit_ext (λ t. go t (le_or_lt 8 t))
  where
    small : (z : ℕ) → z % 256 < 2 ^ 8
    small z = omega arith

    go : (t : ℕ) → (8 ≤ t) ⊎ (t < 8) → coefficient t (x % 256) ≡ coefficient t (y % 256)
    go t (inl h) = coefficient_above (small x) t h ∙ sym (coefficient_above (small y) t h)
    go t (inr h) = digit_low t 8 x h ∙ f t h ∙ sym (digit_low t 8 y h)

module _ (w : ℕ) (f : ℕ → ℕ) (small : (q : ℕ) → f q < 2 ^ w) (X : ℕ)
    (held : (q t : ℕ) → t < w → coefficient (q * w + t) X ≡ coefficient t (f q)) (wide : 8 ≤ w) where
  pub window : (q b : ℕ) → b < w → X / 2 ^ (q * w + b) % 256 ≡ (f q / 2 ^ b + f (q + 1) * 2 ^ (w - b)) % 256
  window q b h =
      eight_same (X / 2 ^ (q * w + b)) (f q / 2 ^ b + f (q + 1) * 2 ^ (w - b))
      (λ t l. ap (λ (x : ℕ). x % 2) (shr-shr X (q * w + b) t) ∙ go t l (le_or_lt w (b + t)) ∙ sym (ap (coefficient t) (add_comm (f q / 2 ^ b) (f (q + 1) * 2 ^ (w - b)))))
    where
      low_lt : f q / 2 ^ b < 2 ^ (w - b)
      low_lt = let e : w ≡ w - b + b = omega arith in shr_lt (w - b) b (subst (λ (k : ℕ). f q < 2 ^ k) e (small q))

      go : (t : ℕ) → t < 8 → (w ≤ b + t) ⊎ (b + t < w)
          → coefficient (q * w + b + t) X ≡ coefficient t (f (q + 1) * 2 ^ (w - b) + f q / 2 ^ b)
      go t l (inl k) =
          let e : q * w + b + t ≡ (q + 1) * w + (b + t - w) = (let s : (q + 1) * w ≡ q * w + w = ap (λ (x : ℕ). x * w) (native.Mathlib.Numerals.add-one q) ∙ suc-mul q w in omega arith) in
          let d : t ≡ w - b + (b + t - w) = omega arith in
          ap (λ (x : ℕ). coefficient x X) e ∙ held (q + 1) (b + t - w) (omega arith)
          ∙ sym (ap (λ (x : ℕ). coefficient x (f (q + 1) * 2 ^ (w - b) + f q / 2 ^ b)) d ∙ block_high (f (q + 1)) (w - b) (f q / 2 ^ b) (b + t - w) low_lt)
      go t l (inr k) =
          let e : q * w + b + t ≡ q * w + (b + t) = omega arith in
          ap (λ (x : ℕ). coefficient x X) e ∙ held q (b + t) k
          ∙ sym (block_low (f (q + 1)) (w - b) (f q / 2 ^ b) t low_lt (omega arith) ∙ ap (λ (x : ℕ). x % 2) (shr-shr (f q) b t))

-- ---- numbers of 64 places
module _ (l : List ℕ) (h : Words l) (i : ℕ) where
  held : (q t : ℕ) → t < 64 → coefficient (q * 64 + t) (packed l) ≡ coefficient t (get_or l q 0)
  held q t b =
      let e : (q * 64 + t) % 64 ≡ t = omega arith in
      let d : (q * 64 + t) / 64 ≡ q = omega arith in
      coefficient_packed l h (q * 64 + t) ∙ ap₂ (λ (x y : ℕ). coefficient x (get_or l y 0)) e d

  out_of : packed l / 2 ^ i % 256 ≡ (get_or l (i / 64) 0 / 2 ^ (i % 64) + get_or l (i / 64 + 1) 0 * 2 ^ (64 - i % 64)) % 256
  out_of =
      let e : i ≡ i / 64 * 64 + i % 64 = omega arith in
      ap (λ (k : ℕ). packed l / 2 ^ k % 256) e ∙ window 64 (λ q. get_or l q 0) h (packed l) held (omega arith) (i / 64) (i % 64) (omega arith)

  pub window_low : i % 64 ≤ 56 → bit_and (get_or l (i / 64) 0 / 2 ^ (i % 64)) 255 ≡ packed l / 2 ^ i % 256
  window_low b =
      let e : 64 - i % 64 ≡ 56 - i % 64 + 8 = omega arith in
      let m : get_or l (i / 64 + 1) 0 * 2 ^ (64 - i % 64) ≡ get_or l (i / 64 + 1) 0 * 2 ^ (56 - i % 64) * 256 =
      ap (λ (k : ℕ). get_or l (i / 64 + 1) 0 * 2 ^ k) e ∙ ap (λ (x : ℕ). get_or l (i / 64 + 1) 0 * x) (pow-add 2 (56 - i % 64) 8)
      ∙ sym (mul_assoc (get_or l (i / 64 + 1) 0) (2 ^ (56 - i % 64)) 256) in
      and_mask (get_or l (i / 64) 0 / 2 ^ (i % 64)) 8
      ∙ sym (out_of ∙ ap (λ (x : ℕ). (get_or l (i / 64) 0 / 2 ^ (i % 64) + x) % 256) m ∙ drop (get_or l (i / 64) 0 / 2 ^ (i % 64)) (get_or l (i / 64 + 1) 0 * 2 ^ (56 - i % 64)))
    where
      drop : (x y : ℕ) → (x + y * 256) % 256 ≡ x % 256
      drop x y = omega arith

  pub window_past : 56 < i % 64 → i / 64 + 1 ≡ length l → get_or l (i / 64) 0 / 2 ^ (i % 64) ≡ packed l / 2 ^ i % 256
  window_past b e =
      let z : get_or l (i / 64 + 1) 0 ≡ 0 = get_or-eq_default l 0 (omega arith) in
      let s : get_or l (i / 64) 0 / 2 ^ (i % 64) < 256 = small in
      sym (out_of ∙ ap (λ (x : ℕ). (get_or l (i / 64) 0 / 2 ^ (i % 64) + x) % 256) (ap (λ (x : ℕ). x * 2 ^ (64 - i % 64)) z ∙ zero-mul (2 ^ (64 - i % 64)))
      ∙ none (get_or l (i / 64) 0 / 2 ^ (i % 64)) s)
    where
      none : (x : ℕ) → x < 256 → (x + 0) % 256 ≡ x
      none x h = omega arith

      small : get_or l (i / 64) 0 / 2 ^ (i % 64) < 256
      small =
          let e : 64 ≡ 64 - i % 64 + i % 64 = omega arith in
          native.Mathlib.Nat.lt_of_lt_of_le (shr_lt (64 - i % 64) (i % 64) (subst (λ (k : ℕ). get_or l (i / 64) 0 < 2 ^ k) e (h (i / 64)))) (lib.Pow.pow_mono {i = 64 - i % 64} {j = 8} (omega arith))

  pub window_sum : bit_and (get_or l (i / 64) 0 / 2 ^ (i % 64) + get_or l (i / 64 + 1) 0 * 2 ^ (64 - i % 64) % 2 ^ 64) 255 ≡ packed l / 2 ^ i % 256
  window_sum =
      and_mask (get_or l (i / 64) 0 / 2 ^ (i % 64) + get_or l (i / 64 + 1) 0 * 2 ^ (64 - i % 64) % 2 ^ 64) 8
      ∙ same (get_or l (i / 64) 0 / 2 ^ (i % 64)) (get_or l (i / 64 + 1) 0 * 2 ^ (64 - i % 64)) ∙ sym out_of
    where
      same : (x y : ℕ) → (x + y % 2 ^ 64) % 256 ≡ (x + y) % 256
      same x y = omega arith

-- a sum that stays in its number
pub sum_fits : (x y b : ℕ) → x < 2 ^ 64 → b < 64 → x / 2 ^ b + y * 2 ^ (64 - b) % 2 ^ 64 < 2 ^ 64
sum_fits x y b h l =
    let e : 64 ≡ b + (64 - b) = omega arith in
    let q : y * 2 ^ (64 - b) % 2 ^ 64 ≡ y % 2 ^ b * 2 ^ (64 - b) =
    ap (λ (k : ℕ). y * 2 ^ (64 - b) % 2 ^ k) e ∙ lib.Pow.mod-pow-add (y * 2 ^ (64 - b)) b (64 - b)
    ∙ ap₂ (λ (u v : ℕ). u % 2 ^ b * 2 ^ (64 - b) + v) (lib.Pow.shl-shr y (64 - b)) (native.Mathlib.Nat.mul-mod_left y (2 ^ (64 - b))) ∙ native.Mathlib.Nat.add-zero _ in
    let d : 64 ≡ 64 - b + b = omega arith in
    let s : y % 2 ^ b * 2 ^ (64 - b) + x / 2 ^ b < 2 ^ b * 2 ^ (64 - b) =
    lib.Arith.digits_lt (native.Mathlib.Nat.mod-lt y (lib.Pow.pow_pos b)) (shr_lt (64 - b) b (subst (λ (k : ℕ). x < 2 ^ k) d h)) in
    subst (λ (z : ℕ). x / 2 ^ b + y * 2 ^ (64 - b) % 2 ^ 64 < z) (sym (pow-add 2 b (64 - b)) ∙ ap (λ (k : ℕ). 2 ^ k) (sym e))
    (subst (λ (z : ℕ). z < 2 ^ b * 2 ^ (64 - b)) (add_comm (y % 2 ^ b * 2 ^ (64 - b)) (x / 2 ^ b) ∙ ap (λ (z : ℕ). x / 2 ^ b + z) (sym q)) s)
