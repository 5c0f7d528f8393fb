-- The remainder by a mask p of degree s (`p / 2^s ≡ 1`). By Horner's rule over multiplication by x modulo p it is
-- additive and multiplicative; long division gives the same, since the remainder is unique.
--
--   xtime s p a           x a modulo p, for a below 2^s: xtime_add, xtime_lt, xtime_small
--   deg_of                the degree by bounds
--   quotient              a = p q + remainder; remainder_lt: which is below 2^s; remainder_unique: and nothing else is
--   remainder_clmul       a product's, acting on the second factor's
--   remainder_add, remainder_zero, remainder_small, remainder_dbl, remainder_multiple, remainder_mul_l, remainder_mul_r
use mathlib.Core.Path.{◌≡◌, sym, ap, ap₂, ◌∙◌, subst}
use Prim.Native.Nat.{ℕ, zero, suc, ◌+◌, ◌*◌, ◌/◌, ◌%◌, ◌^◌, ◌≤◌, ◌<◌}
use native.Mathlib.Nat.{div-eq_of_lt-le, div-lt_iff_lt-mul, div-eq_of_lt, mod-eq_of_lt, zero-div, one-mul, le_refl}
use native.Mathlib.Nat.{lt_of_lt_of_le, not-suc-le-zero, pow-succ', div-div-eq-div-mul, div-mul-le_self, lt_of_le_of_lt}
use native.Mathlib.Nat.{div-le_self, add-suc}
use native.Mathlib.Omega.{arith}
use lib.Arith.{bin_ind}
use lib.Pow.{pow_pos, pow_mono, shr-shr, shl-shr}
use Rattle.field.specs.Mask.{◌⊕◌, coefficient, size, clmul, divide_down, remainder}
use Rattle.field.proofs.Xor.{two_pos, digit_lt, ⊕-zero-l, ⊕-zero-r, ⊕-self, ⊕-norm, ⊕-odd, ⊕-shr}
use Rattle.field.proofs.Xor.{⊕-split, ⊕-swap4, Add, add_0, dbl_half, dbl_add, sel, sel_xor, sel_map, sel_one}
use Rattle.field.proofs.Horner.{horner, horner_step, horner_add, horner_dbl, horner_map, horner_vec}
use Rattle.field.proofs.MaskProduct.{size_lt, dbl, digit_mul, clmul_horner, clmul_add_r, clmul_comm}
use Rattle.field.proofs.MaskProduct.{clmul_zero_r, clmul_pow}

-- one shift, and p taken off where the coefficient of x^s came up
unfoldable pub xtime : ℕ → ℕ → ℕ → ℕ
xtime s p a = a * 2 ⊕ sel (a * 2 / 2 ^ s % 2) p

pub xtime_add : (s p : ℕ) → Add (xtime s p)
unfolding xtime
xtime_add s p a b =
    ap₂ ◌⊕◌ (dbl_add a b)
    (ap (λ (x : ℕ). sel x p) tops
    ∙ sel_xor p (a * 2 / 2 ^ s % 2) (digit_lt (a * 2 / 2 ^ s)) (b * 2 / 2 ^ s % 2) (digit_lt (b * 2 / 2 ^ s)))
    ∙ ⊕-swap4 (a * 2) (b * 2) (sel (a * 2 / 2 ^ s % 2) p) (sel (b * 2 / 2 ^ s % 2) p)
  where
    tops : (a ⊕ b) * 2 / 2 ^ s % 2 ≡ (a * 2 / 2 ^ s % 2) ⊕ (b * 2 / 2 ^ s % 2)
    tops =
        ap (λ (x : ℕ). x / 2 ^ s % 2) (dbl_add a b) ∙ ap (λ (x : ℕ). x % 2) (⊕-shr (a * 2) (b * 2) s)
        ∙ ⊕-odd (a * 2 / 2 ^ s) (b * 2 / 2 ^ s)

pub xtime_small : (s p a : ℕ) → a * 2 < 2 ^ s → xtime s p a ≡ a * 2
unfolding xtime
xtime_small s p a h = ap (λ (x : ℕ). (a * 2) ⊕ sel (x % 2) p) (div-eq_of_lt h) ∙ ⊕-zero-r (a * 2)

pub lt_of_high : {a : ℕ} (s : ℕ) → a / 2 ^ s ≡ 0 → a < 2 ^ s
lt_of_high {a} s e =
    subst (λ (x : ℕ). a < x) (one-mul (2 ^ s)) ((div-lt_iff_lt-mul (pow_pos s)).0 (subst (λ (x : ℕ). x < 1) (sym e) (le_refl 1)))

half_dbl_shr : (a s : ℕ) → 0 < s → a / 2 * 2 / 2 ^ s ≡ a / 2 ^ s
half_dbl_shr a zero h = absurd (not-suc-le-zero h)
half_dbl_shr a (suc k) h =
    ap (λ (x : ℕ). a / 2 * 2 / x) (pow-succ' 2 k) ∙ sym (div-div-eq-div-mul (a / 2 * 2) 2 (2 ^ k))
    ∙ ap (λ (x : ℕ). x / 2 ^ k) (dbl_half (a / 2)) ∙ div-div-eq-div-mul a 2 (2 ^ k) ∙ ap (λ (x : ℕ). a / x) (sym (pow-succ' 2 k))

pub deg_of : (s p : ℕ) → 2 ^ s ≤ p → p < 2 ^ suc s → p / 2 ^ s ≡ 1
deg_of s p h l = div-eq_of_lt-le (2 ^ s) (omega arith) (omega arith)

-- ---- by Horner's rule
module _ (s p : ℕ) where
  rem : ℕ → ℕ
  rem a = horner (xtime s p) a 1

  rem_add : Add rem
  unfolding rem
  rem_add = horner_add (xtime s p) (xtime_add s p) 1

  rem_zero : rem 0 ≡ 0
  rem_zero = add_0 rem rem_add

  rem_step : (a : ℕ) → rem a ≡ xtime s p (rem (a / 2)) ⊕ (a % 2)
  unfolding rem
  rem_step a =
      horner_step (xtime s p) (xtime_add s p) a 1 ∙ ap (λ (x : ℕ). xtime s p (rem (a / 2)) ⊕ x) (sel_one (a % 2) (digit_lt a))

  rem_small : (a : ℕ) → a < 2 ^ s → rem a ≡ a
  rem_small =
      bin_ind (λ a. a < 2 ^ s → rem a ≡ a) (λ h. rem_zero)
      (λ a ih h. rem_step a ∙ ap (λ (x : ℕ). xtime s p x ⊕ (a % 2)) (ih (lt_of_le_of_lt (div-le_self a 2) h))
      ∙ ap (λ (x : ℕ). x ⊕ (a % 2)) (xtime_small s p (a / 2) (lt_of_le_of_lt (div-mul-le_self a 2) h)) ∙ ⊕-split a)

  rem_clmul : (a b : ℕ) → rem (clmul a b) ≡ horner (xtime s p) a (rem b)
  unfolding rem
  rem_clmul a b =
      ap rem (clmul_horner a b)
      ∙ horner_map dbl (xtime s p) dbl_add (xtime_add s p) rem rem_add (λ x. horner_dbl (xtime s p) (xtime_add s p) x 1) a b

module _ (s p : ℕ) (pos : 0 < s) (deg : p / 2 ^ s ≡ 1) where
  pub xtime_lt : (a : ℕ) → a < 2 ^ s → xtime s p a < 2 ^ s
  unfolding xtime
  xtime_lt a h =
      lt_of_high s
      (⊕-shr (a * 2) (sel (t % 2) p) s
      ∙ ap (λ (x : ℕ). t ⊕ x)
      (sel_map (λ x. x / 2 ^ s) (zero-div (2 ^ s)) (t % 2) p ∙ ap₂ sel (mod-eq_of_lt t_lt) deg ∙ sel_one t t_lt)
      ∙ ⊕-self t)
    where
      t : ℕ
      t = a * 2 / 2 ^ s

      t_lt : t < 2
      t_lt = (div-lt_iff_lt-mul (pow_pos s)).1 (omega arith)

  rem_p : rem s p p ≡ 0
  unfolding xtime
  rem_p =
      rem_step s p p
      ∙ ap (λ (x : ℕ). xtime s p x ⊕ (p % 2)) (rem_small s p (p / 2) ((div-lt_iff_lt-mul two_pos).1 half))
      ∙ ap (λ (x : ℕ). ((p / 2 * 2) ⊕ sel (x % 2) p) ⊕ (p % 2)) (half_dbl_shr p s pos ∙ deg)
      ∙ sort (p / 2 * 2) (p % 2) (⊕-split p)
    where
      half : p < 2 ^ s * 2
      half = let h : p < 2 * 2 ^ s = (div-lt_iff_lt-mul (pow_pos s)).0 (omega arith) in omega arith

      sort : (u v : ℕ) → u ⊕ v ≡ p → (u ⊕ p) ⊕ v ≡ 0
      sort u v e = let g : (u ⊕ p) ⊕ v ≡ p ⊕ (u ⊕ v) = simp ⊕-norm in g ∙ ap (λ (x : ℕ). p ⊕ x) e ∙ ⊕-self p

  rem_multiple : (q : ℕ) → rem s p (clmul p q) ≡ 0
  rem_multiple q =
      ap (rem s p) (clmul_comm p q) ∙ rem_clmul s p q p ∙ ap (horner (xtime s p) q) rem_p
      ∙ add_0 (horner (xtime s p) q) (horner_vec (xtime s p) (xtime_add s p) q)

  rem_unique : (a q r : ℕ) → r < 2 ^ s → a ≡ clmul p q ⊕ r → r ≡ rem s p a
  rem_unique a q r h e =
      sym (rem_small s p r h) ∙ sym (⊕-zero-l (rem s p r)) ∙ ap (λ (x : ℕ). x ⊕ rem s p r) (sym (rem_multiple q))
      ∙ sym (rem_add s p (clmul p q) r) ∙ ap (rem s p) (sym e)

  -- ---- long division: a step strikes out the leading coefficient and takes off a multiple of p
  strike : (i a : ℕ) → a < 2 ^ (s + suc i) → a ⊕ coefficient (s + i) a * (p * 2 ^ i) < 2 ^ (s + i)
  strike i a h =
      lt_of_high (s + i)
      (⊕-shr a (coefficient (s + i) a * (p * 2 ^ i)) (s + i)
      ∙ ap (λ (x : ℕ). c ⊕ x)
      (ap (λ (x : ℕ). x / 2 ^ (s + i)) (digit_mul (p * 2 ^ i) (c % 2) (digit_lt c))
      ∙ sel_map (λ x. x / 2 ^ (s + i)) (zero-div (2 ^ (s + i))) (c % 2) (p * 2 ^ i)
      ∙ ap₂ sel (mod-eq_of_lt c_lt)
      (ap (λ (k : ℕ). p * 2 ^ i / 2 ^ k) swap ∙ sym (shr-shr (p * 2 ^ i) i s) ∙ ap (λ (x : ℕ). x / 2 ^ s) (shl-shr p i) ∙ deg)
      ∙ sel_one c c_lt)
      ∙ ⊕-self c)
    where
      c : ℕ
      c = a / 2 ^ (s + i)

      swap : s + i ≡ i + s
      swap = omega arith

      c_lt : c < 2
      c_lt =
          (div-lt_iff_lt-mul (pow_pos (s + i))).1
          (subst (λ (x : ℕ). a < x) (ap (λ (k : ℕ). 2 ^ k) (add-suc s i) ∙ pow-succ' 2 (s + i)) h)

  record Division (a r : ℕ) : Type 0 where
    quo : ℕ
    eq : a ≡ clmul p quo ⊕ r
    small : r < 2 ^ s

  division : (n a : ℕ) → a < 2 ^ (s + n) → Division a (divide_down s p n a)
  unfolding divide_down
  division zero a h =
      let e : s + 0 ≡ s = omega arith in
      record { quo = 0; eq = sym (ap (λ (x : ℕ). x ⊕ a) (clmul_zero_r p) ∙ ⊕-zero-l a); small = subst (λ (k : ℕ). a < 2 ^ k) e h }
  division (suc i) a h =
      let c : ℕ = coefficient (s + i) a in
      let d = division i (a ⊕ c * (p * 2 ^ i)) (strike i a h) in
      record {
        quo = d.quo ⊕ c * 2 ^ i;
        eq = put a (c * (p * 2 ^ i)) (clmul p d.quo) (divide_down s p i (a ⊕ c * (p * 2 ^ i))) d.eq
            ∙ ap (λ (x : ℕ). clmul p d.quo ⊕ x ⊕ divide_down s p i (a ⊕ c * (p * 2 ^ i)))
            (shifted i c (digit_lt (a / 2 ^ (s + i))))
            ∙ ap (λ (x : ℕ). x ⊕ divide_down s p i (a ⊕ c * (p * 2 ^ i))) (sym (clmul_add_r p d.quo (c * 2 ^ i)));
        small = d.small;
      }
    where
      put : (a m q r : ℕ) → a ⊕ m ≡ q ⊕ r → a ≡ q ⊕ m ⊕ r
      put a m q r e =
          let f : a ≡ a ⊕ m ⊕ m = simp ⊕-norm in let g : q ⊕ r ⊕ m ≡ q ⊕ m ⊕ r = simp ⊕-norm in f ∙ ap (λ (x : ℕ). x ⊕ m) e ∙ g

      shifted : (i c : ℕ) → c < 2 → c * (p * 2 ^ i) ≡ clmul p (c * 2 ^ i)
      shifted i c l =
          digit_mul (p * 2 ^ i) c l
          ∙ sym (ap (clmul p) (digit_mul (2 ^ i) c l) ∙ sel_map (clmul p) (clmul_zero_r p) c (2 ^ i) ∙ ap (sel c) (clmul_pow p i))

  whole : (a : ℕ) → Division a (remainder s p a)
  unfolding remainder
  whole a = division (size a) a (lt_of_lt_of_le (size_lt a) (pow_mono (omega arith)))

  -- ---- the laws of the remainder
  pub remainder_lt : (a : ℕ) → remainder s p a < 2 ^ s
  remainder_lt a = (whole a).small

  pub quotient : (a : ℕ) → (q : ℕ) × (a ≡ clmul p q ⊕ remainder s p a)
  quotient a = ((whole a).quo, (whole a).eq)

  is_rem : (a : ℕ) → remainder s p a ≡ rem s p a
  is_rem a = rem_unique a (whole a).quo (remainder s p a) (whole a).small (whole a).eq

  pub remainder_unique : (a q r : ℕ) → r < 2 ^ s → a ≡ clmul p q ⊕ r → r ≡ remainder s p a
  remainder_unique a q r h e = rem_unique a q r h e ∙ sym (is_rem a)

  pub remainder_add : Add (remainder s p)
  remainder_add a b = simp is_rem (rem_add s p a b)

  pub remainder_zero : remainder s p 0 ≡ 0
  remainder_zero = is_rem 0 ∙ rem_zero s p

  pub remainder_small : (a : ℕ) → a < 2 ^ s → remainder s p a ≡ a
  remainder_small a h = is_rem a ∙ rem_small s p a h

  pub remainder_dbl : (a : ℕ) → remainder s p (a * 2) ≡ xtime s p (remainder s p a)
  unfolding rem
  remainder_dbl a = simp is_rem (horner_dbl (xtime s p) (xtime_add s p) a 1)

  pub remainder_multiple : (q : ℕ) → remainder s p (clmul p q) ≡ 0
  remainder_multiple q = is_rem (clmul p q) ∙ rem_multiple q

  pub remainder_clmul : (a b : ℕ) → remainder s p (clmul a b) ≡ horner (xtime s p) a (remainder s p b)
  remainder_clmul a b = simp is_rem (rem_clmul s p a b)

  pub remainder_mul_r : (a b : ℕ) → remainder s p (clmul a (remainder s p b)) ≡ remainder s p (clmul a b)
  remainder_mul_r a b =
      remainder_clmul a (remainder s p b) ∙ ap (horner (xtime s p) a) (remainder_small (remainder s p b) (remainder_lt b))
      ∙ sym (remainder_clmul a b)

  pub remainder_mul_l : (a b : ℕ) → remainder s p (clmul (remainder s p a) b) ≡ remainder s p (clmul a b)
  remainder_mul_l a b =
      ap (remainder s p) (clmul_comm (remainder s p a) b) ∙ remainder_mul_r b a ∙ ap (remainder s p) (clmul_comm b a)
