-- What shifts and masks of the code do to elements.
--
--   times_set, times_clear, times_lt      x a by one shift, with and without the mask
--   product_start, product_set, product_clear      the product by the coefficients of a from i on
--   mask_degree, product_is, doubled_is      modulo the mask of a field
--   power_halves, power_start, power_turn, power_end      a power by squares, r x^e turn by turn
--   inverse_absent, quotient_absent, quotient_present      answers of inversion and division
--   no_quotient, quotient_back    a quotient is absent only with the inverse; it times the divisor is the dividend
--   factor_set, factor_clear      its factor for one digit of the exponent
use mathlib.Core.Path.{◌≡◌, refl, sym, ap, ap₂, ◌∙◌, subst}
use mathlib.Core.Logic.{◌≢◌}
use mathlib.Core.List.{List, [], ◌∷◌, map}
use Prim.Native.Nat.{ℕ, suc, ◌+◌, ◌-◌, ◌*◌, ◌/◌, ◌%◌, ◌^◌, ◌<◌}
use native.Mathlib.Nat.{div-eq_of_lt}
use native.Mathlib.Decide.{ℕ_discrete}
use native.Mathlib.Omega.{arith}
use lib.Bits.{bit_xor}
use lib.ListN.{length, get_or}
use lib.Pow.{shr-shr}
use Rattle.algebra.proofs.Power.{pow, pow-add, mul_pow}
use Rattle.field.specs.Mask.{◌⊕◌, clmul, remainder, HasDegree}
use Rattle.field.specs.Field.{mask, Degree, ω, field_multiply, field_power, inverses, quotients}
use Rattle.field.proofs.Xor.{digit_lt, ⊕-zero-r, sel}
use Rattle.field.proofs.Horner.{horner, horner_step}
use Rattle.field.proofs.MaskProduct.{clmul_two, clmul_zero_l}
use Rattle.field.proofs.Remainder.{xtime, xtime_add, remainder_lt, remainder_zero, remainder_small, remainder_dbl, remainder_clmul}
use Rattle.field.proofs.Primitive.{primitive}
use Rattle.field.proofs.Elements.{GF, el, el_mul, el_inj}
use Rattle.field.proofs.Numbers.{multiply_comm, multiply_assoc, multiply_one, product_lt, power_lt}
use Rattle.field.proofs.Numbers.{power_add, el_power, power_s, power_z, inverses_zero, inverses_of, inverse_is}

sel_clear : (x b : ℕ) → x < 2 → x ≢ 1 → sel x b ≡ 0
sel_clear x b h k = let e : x ≡ 0 = omega arith in ap (λ (y : ℕ). sel y b) e

module _ {s f : ℕ} (m : HasDegree s f) where
  by_x : (a : ℕ) → a < 2 ^ s → remainder s f (a * 2) ≡ xtime s f a
  by_x a h = remainder_dbl s f m.lo m.top a ∙ ap (xtime s f) (remainder_small s f m.lo m.top a h)

  pub times_set : (a : ℕ) → a < 2 ^ s → a * 2 / 2 ^ s % 2 ≡ 1 → bit_xor (a * 2) f ≡ remainder s f (a * 2)
  unfolding xtime ◌⊕◌
  times_set a h e = sym (by_x a h ∙ ap (λ (x : ℕ). a * 2 ⊕ sel x f) e)

  pub times_clear : (a : ℕ) → a < 2 ^ s → a * 2 / 2 ^ s % 2 ≢ 1 → a * 2 ≡ remainder s f (a * 2)
  unfolding xtime
  times_clear a h n =
      sym
      (by_x a h ∙ ap (λ (x : ℕ). a * 2 ⊕ x) (sel_clear (a * 2 / 2 ^ s % 2) f (digit_lt (a * 2 / 2 ^ s)) n)
      ∙ ⊕-zero-r (a * 2))

  pub times_lt : {x : ℕ} (a : ℕ) → x ≡ remainder s f a → x < 2 ^ s
  times_lt a e = subst (λ (y : ℕ). y < 2 ^ s) (sym e) (remainder_lt s f m.lo m.top a)

  -- ---- the product, by the lowest coefficient of a: (x h + c) b = x (h b) + c b
  lowest : (a b : ℕ) → b < 2 ^ s → remainder s f (clmul a b) ≡ remainder s f (remainder s f (clmul (a / 2) b) * 2) ⊕ sel (a % 2) b
  lowest a b h =
      let by_horner : (a : ℕ) → remainder s f (clmul a b) ≡ horner (xtime s f) a b =
      λ a. remainder_clmul s f m.lo m.top a b ∙ ap (horner (xtime s f) a) (remainder_small s f m.lo m.top b h) in
      by_horner a ∙ horner_step (xtime s f) (xtime_add s f) a b
      ∙ ap (λ (x : ℕ). xtime s f x ⊕ sel (a % 2) b) (sym (by_horner (a / 2)))
      ∙ ap (λ (x : ℕ). x ⊕ sel (a % 2) b) (sym (by_x (remainder s f (clmul (a / 2) b)) (times_lt (clmul (a / 2) b) refl)))

  pub product_start : (a b : ℕ) → a < 2 ^ s → 0 ≡ remainder s f (clmul (a / 2 ^ s) b)
  product_start a b h =
      sym (ap (λ (x : ℕ). remainder s f (clmul x b)) (div-eq_of_lt h) ∙ ap (remainder s f) (clmul_zero_l b) ∙ remainder_zero s f m.lo m.top)

  -- r is the product by the coefficients from i + 1 on, q is x r
  next : (a b r q i : ℕ) → b < 2 ^ s → 0 < i → r ≡ remainder s f (clmul (a / 2 ^ i) b) → q ≡ remainder s f (r * 2)
      → q ⊕ sel (a / 2 ^ (i - 1) % 2) b ≡ remainder s f (clmul (a / 2 ^ (i - 1)) b)
  next a b r q i h p e g =
      let k : i ≡ i - 1 + 1 = omega arith in
      ap (λ (x : ℕ). x ⊕ sel (a / 2 ^ (i - 1) % 2) b)
      (g ∙ ap (λ (x : ℕ). remainder s f (x * 2))
      (e ∙ ap (λ (x : ℕ). remainder s f (clmul x b)) (ap (λ (j : ℕ). a / 2 ^ j) k ∙ sym (shr-shr a (i - 1) 1))))
      ∙ sym (lowest (a / 2 ^ (i - 1)) b h)

  pub product_set : (a b r q i : ℕ) → b < 2 ^ s → 0 < i → r ≡ remainder s f (clmul (a / 2 ^ i) b) → q ≡ remainder s f (r * 2)
      → a / 2 ^ (i - 1) % 2 ≡ 1 → bit_xor q b ≡ remainder s f (clmul (a / 2 ^ (i - 1)) b)
  unfolding ◌⊕◌
  product_set a b r q i h p e g t = sym (ap (λ (x : ℕ). q ⊕ sel x b) t) ∙ next a b r q i h p e g

  pub product_clear : (a b r q i : ℕ) → b < 2 ^ s → 0 < i → r ≡ remainder s f (clmul (a / 2 ^ i) b) → q ≡ remainder s f (r * 2)
      → a / 2 ^ (i - 1) % 2 ≢ 1 → q ≡ remainder s f (clmul (a / 2 ^ (i - 1)) b)
  product_clear a b r q i h p e g t =
      sym
      (ap (λ (x : ℕ). q ⊕ x) (sel_clear (a / 2 ^ (i - 1) % 2) b (digit_lt (a / 2 ^ (i - 1))) t) ∙ ⊕-zero-r q)
      ∙ next a b r q i h p e g

-- a product of the field is that modulo its mask
pub product_is : (s : ℕ) {m : ℕ} (a b : ℕ) → m ≡ mask s → remainder s m (clmul a b) ≡ field_multiply s a b
unfolding field_multiply
product_is s a b e = ap (λ (x : ℕ). remainder s x (clmul a b)) e

-- ω a is x a
pub doubled_is : (s : ℕ) {m : ℕ} (a : ℕ) → m ≡ mask s → remainder s m (a * 2) ≡ field_multiply s ω a
unfolding field_multiply
doubled_is s a e = ap (λ (x : ℕ). remainder s x (a * 2)) e ∙ ap (remainder s (mask s)) (sym (clmul_two a))

module _ {s : ℕ} (d : Degree s) where
  pub mask_degree : {m : ℕ} → m ≡ mask s → HasDegree s m
  mask_degree e = let P = primitive d in record { lo = P.pos; hi = omega (arith, d.hi); top = ap (λ (x : ℕ). x / 2 ^ s) e ∙ P.deg }

  -- ---- a power by a square
  square : (x k : ℕ) → field_power s (field_multiply s x x) k ≡ field_power s x (k + k)
  square x k =
      el_inj d (power_lt d (field_multiply s x x) k) (power_lt d x (k + k))
      (el_power d (field_multiply s x x) k ∙ ap (λ y. pow (GF d) y k) (el_mul d x x)
      ∙ mul_pow (GF d) (el d x) (el d x) k ∙ sym (pow-add (GF d) (el d x) k k) ∙ sym (el_power d x (k + k)))

  pub power_halves : (x e : ℕ)
      → field_power s x e ≡ field_multiply s (field_power s x (e % 2)) (field_power s (field_multiply s x x) (e / 2))
  power_halves x e =
      let h : e ≡ e % 2 + (e / 2 + e / 2) = omega arith in
      ap (field_power s x) h ∙ sym (power_add d x (e % 2) (e / 2 + e / 2))
      ∙ ap (field_multiply s (field_power s x (e % 2))) (sym (square x (e / 2)))

  pub factor_set : (r x e : ℕ) → x < 2 ^ s → e % 2 ≡ 1 → field_multiply s r x ≡ field_multiply s r (field_power s x (e % 2))
  factor_set r x e h o =
      ap (field_multiply s r)
      (sym (ap (field_power s x) o ∙ power_s s x 0 ∙ ap (field_multiply s x) (power_z s x) ∙ multiply_one d x h))

  pub factor_clear : (r x e : ℕ) → r < 2 ^ s → e % 2 ≢ 1 → r ≡ field_multiply s r (field_power s x (e % 2))
  factor_clear r x e h n =
      let z : e % 2 ≡ 0 = omega arith in
      sym (ap (field_multiply s r) (ap (field_power s x) z ∙ power_z s x) ∙ multiply_one d r h)

  -- r x^e after a turn
  pub power_turn : (r x e y z : ℕ) → y ≡ field_multiply s r (field_power s x (e % 2)) → z ≡ field_multiply s x x
      → field_multiply s y (field_power s z (e / 2)) ≡ field_multiply s r (field_power s x e)
  power_turn r x e y z q w =
      ap₂ (λ (y z : ℕ). field_multiply s y (field_power s z (e / 2))) q w
      ∙ multiply_assoc d r (field_power s x (e % 2)) (field_power s (field_multiply s x x) (e / 2))
      ∙ ap (field_multiply s r) (sym (power_halves x e))

  pub power_start : (a k : ℕ) → field_multiply s 1 (field_power s a k) ≡ field_power s a k
  power_start a k = multiply_comm d 1 (field_power s a k) ∙ multiply_one d (field_power s a k) (power_lt d a k)

  pub power_end : (r x e : ℕ) → r < 2 ^ s → e ≡ 0 → field_multiply s r (field_power s x e) ≡ r
  power_end r x e h z = ap (field_multiply s r) (ap (field_power s x) z ∙ power_z s x) ∙ multiply_one d r h

  -- ---- inverses and quotients
  pub inverse_absent : (a : ℕ) → a ≡ 0 → [] ≡ inverses s a
  inverse_absent a e = sym (ap (inverses s) e ∙ inverses_zero d)

pub quotient_absent : (s a b : ℕ) → [] ≡ inverses s b → [] ≡ quotients s a b
unfolding quotients
quotient_absent s a b e = ap (map (field_multiply s a)) e

pub quotient_present : (s a b x y : ℕ) → x ∷ [] ≡ inverses s b → y ≡ field_multiply s a x → y ∷ [] ≡ quotients s a b
unfolding quotients
quotient_present s a b x y e f = ap (λ (z : ℕ). z ∷ []) f ∙ ap (map (field_multiply s a)) e

pub no_quotient : (s a b : ℕ) → [] ≡ quotients s a b → [] ≡ inverses s b
unfolding quotients
no_quotient s a b e = go (inverses s b) e
  where
    go : (l : List ℕ) → [] ≡ map (field_multiply s a) l → [] ≡ l
    go [] h = refl
    go (x ∷ l) h = let z : ◌≡◌ {A = ℕ} 0 (suc (length (map (field_multiply s a) l))) = ap length h in absurd (omega arith)

pub quotient_back : {s : ℕ} (d : Degree s) (a b x : ℕ) → b < 2 ^ s → b ≢ 0 → a < 2 ^ s → x ∷ [] ≡ quotients s a b
    → (x < 2 ^ s) × (field_multiply s x b ≡ a)
unfolding quotients
quotient_back {s} d a b x h n l e = (subst (λ (y : ℕ). y < 2 ^ s) (sym x_is) (product_lt d a inv refl), back)
  where
    inv : ℕ
    inv = field_power s b (2 ^ s - 2)

    x_is : x ≡ field_multiply s a inv
    x_is = ap (λ (l : List ℕ). get_or l 0 0) (e ∙ ap (map (field_multiply s a)) (inverses_of d b h n))

    back : field_multiply s x b ≡ a
    back =
        ap (λ (y : ℕ). field_multiply s y b) x_is ∙ multiply_assoc d a inv b
        ∙ ap (field_multiply s a) (multiply_comm d inv b ∙ inverse_is d b h n) ∙ multiply_one d a l

pub inverse_lt : {s : ℕ} (d : Degree s) (b x : ℕ) → b < 2 ^ s → x ∷ [] ≡ inverses s b → x < 2 ^ s
inverse_lt {s} d b x h e = go (ℕ_discrete b 0)
  where
    go : Dec (b ≡ 0) → x < 2 ^ s
    go (yes z) = let n : x ∷ [] ≡ [] = e ∙ sym (inverse_absent d b z) in let o : ◌≡◌ {A = ℕ} 0 1 = cc in absurd (omega arith)
    go (no k) =
        let q : x ∷ [] ≡ field_power s b (2 ^ s - 2) ∷ [] = e ∙ inverses_of d b h k in let r : x ≡ field_power s b (2 ^ s - 2) = cc in
        subst (λ (y : ℕ). y < 2 ^ s) (sym r) (power_lt d b (2 ^ s - 2))
