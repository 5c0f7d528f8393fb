-- The field on plain numbers: what callers of the code know of its results.
--
--   multiply_lt, product_lt, power_lt      results are elements
--   multiply_comm, multiply_assoc, multiply_add, add_multiply, multiply_zero, zero_multiply, multiply_one      of products
--   el_power, el_root, el_ne      a power is the power of the element, α is the theory's root, and only 0 is 0
--   power_z, power_s, power_add   of exponents
--   power_order, power_round      ω^(2^s - 1) = 1, and so round and round
--   power_inj, power_onto, power_ne      the powers of ω below that are different, and are all elements but 0
--   logarithm_of, logarithm_lt, logarithm_is, logarithm_zero      the exponent of an element, and 2^s - 1 for 0
--   inverses_zero, inverses_of, inverses_by, inverse_is      0 has no inverse; every other element has one: its power 2^s - 2
use mathlib.Core.Path.{◌≡◌, refl, sym, ap, ap₂, ◌∙◌, subst}
use mathlib.Core.Logic.{◌≢◌}
use mathlib.Core.List.{[], ◌∷◌}
use Prim.Native.Nat.{ℕ, zero, suc, ◌+◌, ◌-◌, ◌/◌, ◌^◌, ◌<◌}
use native.Mathlib.Omega.{arith}
use lib.Dec.{eqb}
use borrow.Author.Tests.{eqb-true, eq-eqb, ne_eqb}
use Rattle.algebra.proofs.Ring.{mul-one, mul_comm, mul_assoc, mul-zero}
use Rattle.algebra.proofs.Power.{pow, pow_z, pow_s, pow-add, pow_inj}
use Rattle.algebra.proofs.Field.{pow_ne}
use Rattle.field.specs.Mask.{◌⊕◌, clmul, remainder}
use Rattle.field.specs.Field.{mask, Degree, ω, field_multiply, field_power, α, logarithm, inverses}
use Rattle.field.proofs.Search.{Least, least_is, least_unique, keep_one, keep_none}
use Rattle.field.proofs.MaskProduct.{clmul_add_r}
use Rattle.field.proofs.Remainder.{remainder_lt, remainder_add}
use Rattle.field.proofs.Primitive.{primitive, Degree-bounds}
use Rattle.field.proofs.Elements.{GF, el, el_inj, el_zero, el_one, el_mul, gen}
use Rattle.field.proofs.Elements.{gen_order, log, mul_inverse, is_field, root}

pub power_z : (s a : ℕ) → field_power s a 0 ≡ 1
unfolding field_power
power_z s a = refl

pub power_s : (s a k : ℕ) → field_power s a (suc k) ≡ field_multiply s a (field_power s a k)
unfolding field_power
power_s s a k = refl

module _ {s : ℕ} (d : Degree s) where
  pub one_lt : 1 < 2 ^ s
  one_lt = omega (arith, (Degree-bounds d).0)

  pub multiply_lt : (a b : ℕ) → field_multiply s a b < 2 ^ s
  unfolding field_multiply
  multiply_lt a b = remainder_lt s (mask s) (primitive d).pos (primitive d).deg (clmul a b)

  pub product_lt : {x : ℕ} (a b : ℕ) → x ≡ field_multiply s a b → x < 2 ^ s
  product_lt a b e = subst (λ (y : ℕ). y < 2 ^ s) (sym e) (multiply_lt a b)

  pub power_lt : (a k : ℕ) → field_power s a k < 2 ^ s
  power_lt a zero = rw power_z one_lt
  power_lt a (suc k) = rw power_s (multiply_lt a (field_power s a k))

  -- what holds in the field holds of numbers
  by_el : {a b : ℕ} → a < 2 ^ s → b < 2 ^ s → el d a ≡ el d b → a ≡ b
  by_el = el_inj d

  pub multiply_comm : (a b : ℕ) → field_multiply s a b ≡ field_multiply s b a
  multiply_comm a b =
      by_el (multiply_lt a b) (multiply_lt b a) (el_mul d a b ∙ mul_comm (GF d) (el d a) (el d b) ∙ sym (el_mul d b a))

  pub multiply_assoc : (a b c : ℕ) → field_multiply s (field_multiply s a b) c ≡ field_multiply s a (field_multiply s b c)
  multiply_assoc a b c =
      by_el (multiply_lt (field_multiply s a b) c) (multiply_lt a (field_multiply s b c))
      (el_mul d (field_multiply s a b) c ∙ ap (λ x. (GF d).mul x (el d c)) (el_mul d a b)
      ∙ mul_assoc (GF d) (el d a) (el d b) (el d c)
      ∙ sym (el_mul d a (field_multiply s b c) ∙ ap (λ x. (GF d).mul (el d a) x) (el_mul d b c)))

  pub multiply_add : (x a b : ℕ) → field_multiply s x (a ⊕ b) ≡ field_multiply s x a ⊕ field_multiply s x b
  unfolding field_multiply
  multiply_add x a b =
      ap (remainder s (mask s)) (clmul_add_r x a b) ∙ remainder_add s (mask s) (primitive d).pos (primitive d).deg (clmul x a) (clmul x b)

  pub add_multiply : (a b x : ℕ) → field_multiply s (a ⊕ b) x ≡ field_multiply s a x ⊕ field_multiply s b x
  add_multiply a b x = multiply_comm (a ⊕ b) x ∙ multiply_add x a b ∙ ap₂ ◌⊕◌ (multiply_comm x a) (multiply_comm x b)

  pub multiply_one : (a : ℕ) → a < 2 ^ s → field_multiply s a 1 ≡ a
  multiply_one a h =
      by_el (multiply_lt a 1) h (el_mul d a 1 ∙ ap (λ x. (GF d).mul (el d a) x) (el_one d) ∙ mul-one (GF d) (el d a))

  pub multiply_zero : (a : ℕ) → field_multiply s a 0 ≡ 0
  multiply_zero a =
      by_el (multiply_lt a 0) (omega (arith, one_lt))
      (el_mul d a 0 ∙ ap (λ x. (GF d).mul (el d a) x) (el_zero d) ∙ mul-zero (GF d) (el d a) ∙ sym (el_zero d))

  pub zero_multiply : (a : ℕ) → field_multiply s 0 a ≡ 0
  zero_multiply a = multiply_comm 0 a ∙ multiply_zero a

  pub el_power : (a k : ℕ) → el d (field_power s a k) ≡ pow (GF d) (el d a) k
  el_power a zero = ap (el d) (power_z s a) ∙ el_one d ∙ sym (pow_z (GF d) (el d a))
  el_power a (suc k) =
      ap (el d) (power_s s a k) ∙ el_mul d a (field_power s a k) ∙ ap (λ x. (GF d).mul (el d a) x) (el_power a k)
      ∙ sym (pow_s (GF d) (el d a) k)

  pub power_add : (a i j : ℕ) → field_multiply s (field_power s a i) (field_power s a j) ≡ field_power s a (i + j)
  power_add a i j =
      by_el (multiply_lt (field_power s a i) (field_power s a j)) (power_lt a (i + j))
      (el_mul d (field_power s a i) (field_power s a j) ∙ ap₂ (GF d).mul (el_power a i) (el_power a j)
      ∙ sym (pow-add (GF d) (el d a) i j) ∙ sym (el_power a (i + j)))

  -- ---- powers of ω
  gen_is : (k : ℕ) → el d (field_power s ω k) ≡ pow (GF d) (gen d) k
  unfolding gen
  gen_is k = el_power ω k

  pub el_root : (n : ℕ) → el d (α s n) ≡ root d n
  unfolding root α
  el_root n = gen_is ((2 ^ s - 1) / n)

  pub power_order : field_power s ω (2 ^ s - 1) ≡ 1
  power_order = by_el (power_lt ω (2 ^ s - 1)) one_lt (gen_is (2 ^ s - 1) ∙ (gen_order d).one ∙ sym (el_one d))

  pub power_round : (k : ℕ) → field_power s ω (k + (2 ^ s - 1)) ≡ field_power s ω k
  power_round k =
      sym (power_add ω k (2 ^ s - 1)) ∙ ap (field_multiply s (field_power s ω k)) power_order
      ∙ multiply_one (field_power s ω k) (power_lt ω k)

  pub power_inj : (i j : ℕ) → i < 2 ^ s - 1 → j < 2 ^ s - 1 → field_power s ω i ≡ field_power s ω j → i ≡ j
  power_inj i j hi hj e = pow_inj (GF d) (gen d) (2 ^ s - 1) (gen_order d) i j hi hj (sym (gen_is i) ∙ ap (el d) e ∙ gen_is j)

  -- every element but 0 is one
  pub el_ne : (a : ℕ) → a < 2 ^ s → a ≢ 0 → el d a ≢ (GF d).𝟘
  el_ne a h n e = n (by_el h (omega (arith, one_lt)) (e ∙ sym (el_zero d)))

  pub power_onto : (a : ℕ) → a < 2 ^ s → a ≢ 0 → (k : ℕ) × (k < 2 ^ s - 1) × (field_power s ω k ≡ a)
  power_onto a h n =
      let l = log d (el d a) (el_ne a h n) in
      (l.0, l.1, by_el (power_lt ω l.0) h (gen_is l.0 ∙ l.2))

  pub power_ne : (k : ℕ) → field_power s ω k ≢ 0
  power_ne k e =
      pow_ne (GF d) (is_field d) (el d ω) (el_ne ω (omega (arith, (Degree-bounds d).0)) (λ z. omega arith)) k
      (sym (el_power ω k) ∙ ap (el d) e ∙ el_zero d)

  -- ---- logarithms
  is_log : (a : ℕ) → Least (λ k. eqb (field_power s ω k) a) (2 ^ s - 1) (logarithm s a)
  unfolding logarithm
  is_log a = least_is (λ k. eqb (field_power s ω k) a) (2 ^ s - 1)

  pub logarithm_of : (k : ℕ) → k < 2 ^ s - 1 → logarithm s (field_power s ω k) ≡ k
  logarithm_of k h =
      least_unique (is_log (field_power s ω k))
      (record {
        le = omega arith;
        before =
            λ j l. ne_eqb (field_power s ω j) (field_power s ω k) (λ e. let q : j ≡ k = power_inj j k (omega arith) h e in
            omega arith);
        passes = λ l. eq-eqb (field_power s ω k) (field_power s ω k) refl;
      })

  pub logarithm_lt : (a : ℕ) → a < 2 ^ s → a ≢ 0 → logarithm s a < 2 ^ s - 1
  logarithm_lt a h n =
      let l = power_onto a h n in
      subst (λ (k : ℕ). k < 2 ^ s - 1) (sym (logarithm_of l.0 l.1) ∙ ap (logarithm s) l.2) l.1

  pub logarithm_is : (a : ℕ) → a < 2 ^ s → a ≢ 0 → field_power s ω (logarithm s a) ≡ a
  logarithm_is a h n = eqb-true (field_power s ω (logarithm s a)) a ((is_log a).passes (logarithm_lt a h n))

  pub logarithm_zero : logarithm s 0 ≡ 2 ^ s - 1
  logarithm_zero =
      least_unique (is_log 0)
      (record { le = omega arith; before = λ k l. ne_eqb (field_power s ω k) 0 (power_ne k); passes = λ l. absurd (omega arith) })

  -- ---- inverses
  pub inverses_zero : inverses s 0 ≡ []
  unfolding inverses
  inverses_zero =
      keep_none (λ x. eqb (field_multiply s 0 x) 1) (2 ^ s)
      (λ k h. ne_eqb (field_multiply s 0 k) 1 (λ e. let z : field_multiply s 0 k ≡ 0 = zero_multiply k in omega arith))

  pub inverse_is : (a : ℕ) → a < 2 ^ s → a ≢ 0 → field_multiply s a (field_power s a (2 ^ s - 2)) ≡ 1
  inverse_is a h n =
      by_el (multiply_lt a (field_power s a (2 ^ s - 2))) one_lt
      (el_mul d a (field_power s a (2 ^ s - 2)) ∙ ap (λ x. (GF d).mul (el d a) x) (el_power a (2 ^ s - 2))
      ∙ mul_inverse d (el d a) (el_ne a h n) ∙ sym (el_one d))

  inverse_unique : (a x y : ℕ) → x < 2 ^ s → y < 2 ^ s → field_multiply s a x ≡ 1 → field_multiply s a y ≡ 1 → x ≡ y
  inverse_unique a x y hx hy p q =
      sym (multiply_one x hx) ∙ ap (field_multiply s x) (sym q) ∙ sym (multiply_assoc x a y)
      ∙ ap (λ (z : ℕ). field_multiply s z y) (multiply_comm x a ∙ p) ∙ multiply_comm 1 y ∙ multiply_one y hy

  pub inverses_of : (a : ℕ) → a < 2 ^ s → a ≢ 0 → inverses s a ≡ field_power s a (2 ^ s - 2) ∷ []
  unfolding inverses
  inverses_of a h n =
      let x : ℕ = field_power s a (2 ^ s - 2) in
      keep_one (λ x. eqb (field_multiply s a x) 1) (2 ^ s) x (power_lt a (2 ^ s - 2))
      (eq-eqb (field_multiply s a x) 1 (inverse_is a h n))
      (λ k l q. ne_eqb (field_multiply s a k) 1 (λ e. q (inverse_unique a k x l (power_lt a (2 ^ s - 2)) e (inverse_is a h n))))

  -- what gives 1 with a is the inverse
  pub inverses_by : (a x : ℕ) → a < 2 ^ s → a ≢ 0 → x < 2 ^ s → field_multiply s a x ≡ 1 → x ∷ [] ≡ inverses s a
  inverses_by a x h n l e =
      ap (λ (y : ℕ). y ∷ []) (inverse_unique a x (field_power s a (2 ^ s - 2)) l (power_lt a (2 ^ s - 2)) e (inverse_is a h n))
      ∙ sym (inverses_of a h n)
