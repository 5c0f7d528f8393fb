-- The field of 2^s elements as a field of the theory, for every degree of the table.
--
--   F s              the elements: the numbers below 2^s; F-eq: equal when the numbers are
--   GF d             the ring of the degree that d : Degree s vouches for; GF-add, GF-mul, GF-zero, GF-one: what it does
--   el d a           the element that a number leaves; el_add, el_mul, el_zero, el_one, el_value, el_of, el_inj, el_null
--   gen d            ω; gen_order: it has order 2^s - 1
--   log              every nonzero element is a power of ω
--   is_field          every nonzero element has an inverse, its power 2^s - 2
--   root d n         α; root_order: it has order exactly n, for every n that divides 2^s - 1
-- That squaring is additive, and that a² = a only for 0 and 1, are square_add and idempotent of the algebra at this field.
use mathlib.Core.Path.{◌≡◌, refl, sym, ap, ◌∙◌, subst}
use mathlib.Core.Logic.{◌≢◌}
use mathlib.Core.HLevel.{hedberg}
use Prim.Native.Nat.{ℕ, zero, suc, pred, ◌+◌, ◌-◌, ◌*◌, ◌/◌, ◌^◌, ◌<◌, ◌∣◌}
use native.Mathlib.Nat.{zero-mul, div-mul_cancel, pos_of_dvd_of_pos, mul_comm, pos_of_ne-zero, suc-ne-zero}
use native.Mathlib.Fin
use native.Mathlib.Decide.{Fin-discrete}
use native.Mathlib.Omega.{arith}
use lib.Pow.{pow_pos, pow_mono}
use Rattle.algebra.proofs.Ring.{Ring, zero-mul as 𝟘-mul}
use Rattle.algebra.proofs.Power.{pow, pow_z, pow_s, pow-suc, pow-add, pow_mul, one_pow, Order, pow_inj, order_pow}
use Rattle.algebra.proofs.Field.{Field}
use Rattle.field.specs.Mask.{◌⊕◌, clmul, remainder}
use Rattle.field.specs.Field.{mask, Degree, ω, field_multiply}
use Rattle.field.proofs.Xor.{⊕-zero-r, ⊕-self, ⊕-comm, ⊕-assoc, ⊕-lt}
use Rattle.field.proofs.MaskProduct.{clmul_add_r, clmul_dbl_r, clmul_one_r, clmul_comm, clmul_assoc}
use Rattle.field.proofs.Remainder.{xtime, remainder_lt, remainder_small, remainder_add, remainder_zero, remainder_dbl}
use Rattle.field.proofs.Remainder.{remainder_mul_l, remainder_mul_r}
use Rattle.field.proofs.Pigeonhole.{onto}
use Rattle.field.proofs.Primitive.{xpow, primitive, Degree-bounds}

abbrev pub F : ℕ → Type 0
F s = (a : ℕ) × (a < 2 ^ s)

pub F-eq : (s : ℕ) {a b : F s} → a.0 ≡ b.0 → a ≡ b
F-eq s {a} {b} e = Fin.val_path {n = 2 ^ s} {i = a} {j = b} e

-- by a name of its own, so that no goal shows what it is made of
F-set : (s : ℕ) → IsSet (F s)
F-set s = hedberg (Fin-discrete (2 ^ s))

-- ---- the operations and their laws
module _ (s : ℕ) where
  addF : F s → F s → F s
  addF a b = (a.0 ⊕ b.0, ⊕-lt s a.0 b.0 a.1 b.1)

  zeroF : F s
  zeroF = (0, pow_pos s)

  add_f_assoc : (a b c : F s) → addF (addF a b) c ≡ addF a (addF b c)
  unfolding addF
  add_f_assoc a b c = F-eq s (⊕-assoc a.0 b.0 c.0)

  add_f_comm : (a b : F s) → addF a b ≡ addF b a
  unfolding addF
  add_f_comm a b = F-eq s (⊕-comm a.0 b.0)

  add_f_zero : (a : F s) → addF a zeroF ≡ a
  unfolding addF zeroF
  add_f_zero a = F-eq s (⊕-zero-r a.0)

  add_f_self : (a : F s) → addF a a ≡ zeroF
  unfolding addF zeroF
  add_f_self a = F-eq s (⊕-self a.0)

module _ {s : ℕ} (d : Degree s) where
  pos : 0 < s
  pos = (primitive d).pos

  deg : mask s / 2 ^ s ≡ 1
  deg = (primitive d).deg

  pub el : ℕ → F s
  el a = (remainder s (mask s) a, remainder_lt s (mask s) pos deg a)

  mul_f : F s → F s → F s
  mul_f a b = el (clmul a.0 b.0)

  mul_f_assoc : (a b c : F s) → mul_f (mul_f a b) c ≡ mul_f a (mul_f b c)
  unfolding mul_f el
  mul_f_assoc a b c =
      F-eq s
      (remainder_mul_l s (mask s) pos deg (clmul a.0 b.0) c.0
      ∙ ap (remainder s (mask s)) (clmul_assoc a.0 b.0 c.0)
      ∙ sym (remainder_mul_r s (mask s) pos deg a.0 (clmul b.0 c.0)))

  mul_f_comm : (a b : F s) → mul_f a b ≡ mul_f b a
  unfolding mul_f
  mul_f_comm a b = ap el (clmul_comm a.0 b.0)

  small : {a : ℕ} → a < 2 ^ s → remainder s (mask s) a ≡ a
  small {a} h = remainder_small s (mask s) pos deg a h

  oneF : F s
  oneF = (1, pow_mono pos)

  mul_f_one : (a : F s) → mul_f a oneF ≡ a
  unfolding mul_f el oneF
  mul_f_one a = F-eq s (ap (remainder s (mask s)) (clmul_one_r a.0) ∙ small a.1)

  mul_f_add : (a b c : F s) → mul_f a (addF s b c) ≡ addF s (mul_f a b) (mul_f a c)
  unfolding mul_f el addF
  mul_f_add a b c =
      F-eq s
      (ap (remainder s (mask s)) (clmul_add_r a.0 b.0 c.0)
      ∙ remainder_add s (mask s) pos deg (clmul a.0 b.0) (clmul a.0 c.0))

  -- shut: a ring that computes its operations away shows no law its shape
  pub GF : Ring (F s)
  GF = record {
    is_set = F-set s;
    add = addF s;
    mul = mul_f;
    𝟘 = zeroF s;
    𝟙 = oneF;
    law_add_assoc = add_f_assoc s;
    law_add_comm = add_f_comm s;
    law_add_zero = add_f_zero s;
    law_add_self = add_f_self s;
    law_mul_assoc = mul_f_assoc;
    law_mul_comm = mul_f_comm;
    law_mul_one = mul_f_one;
    law_mul_add = mul_f_add;
  }

  -- what the operations do on numbers
  pub GF-add : (a b : F s) → (GF.add a b).0 ≡ a.0 ⊕ b.0
  unfolding GF addF
  GF-add a b = refl

  pub GF-mul : (a b : F s) → (GF.mul a b).0 ≡ field_multiply s a.0 b.0
  unfolding GF mul_f el field_multiply
  GF-mul a b = refl

  pub GF-zero : GF.𝟘.0 ≡ 0
  unfolding GF zeroF
  GF-zero = refl

  pub GF-one : GF.𝟙.0 ≡ 1
  unfolding GF oneF
  GF-one = refl

  -- ---- numbers as elements
  pub el_value : {a : ℕ} → a < 2 ^ s → (el a).0 ≡ a
  unfolding el
  el_value h = small h

  pub el_of : (a : F s) → el a.0 ≡ a
  el_of a = F-eq s (el_value a.1)

  pub el_inj : {a b : ℕ} → a < 2 ^ s → b < 2 ^ s → el a ≡ el b → a ≡ b
  el_inj h l e = sym (el_value h) ∙ ap (λ (x : F s). x.0) e ∙ el_value l

  pub el_zero : el 0 ≡ GF.𝟘
  unfolding el
  el_zero = F-eq s (remainder_zero s (mask s) pos deg ∙ sym GF-zero)

  pub el_one : el 1 ≡ GF.𝟙
  el_one = F-eq s (el_value (pow_mono pos) ∙ sym GF-one)

  pub el_null : {a : ℕ} → a < 2 ^ s → el a ≡ GF.𝟘 → a ≡ 0
  el_null h e = el_inj h (pow_pos s) (e ∙ sym el_zero)

  pub el_add : (a b : ℕ) → el (a ⊕ b) ≡ GF.add (el a) (el b)
  unfolding el
  el_add a b = F-eq s (remainder_add s (mask s) pos deg a b ∙ sym (GF-add (el a) (el b)))

  pub el_mul : (a b : ℕ) → el (field_multiply s a b) ≡ GF.mul (el a) (el b)
  unfolding el field_multiply
  el_mul a b =
      F-eq s
      (small (remainder_lt s (mask s) pos deg (clmul a b))
      ∙ sym
      (GF-mul (el a) (el b) ∙ remainder_mul_l s (mask s) pos deg a (remainder s (mask s) b)
      ∙ remainder_mul_r s (mask s) pos deg a b))

  -- ---- ω
  unfoldable pub gen : F s
  gen = el ω

  mul_gen : (a : F s) → (GF.mul a gen).0 ≡ xtime s (mask s) a.0
  unfolding GF mul_f el gen
  mul_gen a =
      remainder_mul_r s (mask s) pos deg a.0 2
      ∙ ap (remainder s (mask s)) (clmul_dbl_r a.0 1 ∙ ap (λ (x : ℕ). x * 2) (clmul_one_r a.0))
      ∙ remainder_dbl s (mask s) pos deg a.0 ∙ ap (xtime s (mask s)) (small a.1)

  gen_xpow : (k : ℕ) → (pow GF gen k).0 ≡ xpow s (mask s) k
  unfolding xpow
  gen_xpow zero = ap (λ (x : F s). x.0) (pow_z GF gen) ∙ GF-one
  gen_xpow (suc k) = ap (λ (x : F s). x.0) (pow-suc GF gen k) ∙ mul_gen (pow GF gen k) ∙ ap (xtime s (mask s)) (gen_xpow k)

  pub gen_order : Order GF gen (2 ^ s - 1)
  gen_order = record {
    pos = omega (arith, (Degree-bounds d).0);
    one = F-eq s (gen_xpow (2 ^ s - 1) ∙ (primitive d).one ∙ sym GF-one);
    least = λ k h l e. (primitive d).least k h l (sym (gen_xpow k) ∙ ap (λ (x : F s). x.0) e ∙ GF-one);
  }

  one_ne : GF.𝟙 ≢ GF.𝟘
  one_ne e = suc-ne-zero 0 (sym GF-one ∙ ap (λ (x : F s). x.0) e ∙ GF-zero)

  -- a power of ω that is 0 would make 1 = ω^(2^s - 1) zero
  gen_pow_ne : (k : ℕ) → k < 2 ^ s - 1 → pow GF gen k ≢ GF.𝟘
  gen_pow_ne k h e =
      let N : ℕ = 2 ^ s - 1 in
      let all : N ≡ k + (N - k) = omega arith in
      one_ne
      (sym gen_order.one ∙ ap (pow GF gen) all ∙ pow-add GF gen k (N - k) ∙ ap (λ x. GF.mul x (pow GF gen (N - k))) e
      ∙ 𝟘-mul GF (pow GF gen (N - k)))

  -- ---- the nonzero elements, counted from 0
  value_ne : (a : F s) → a ≢ GF.𝟘 → a.0 ≢ 0
  value_ne a h e = h (F-eq s (e ∙ sym GF-zero))

  pred_lt : (a : ℕ) → a < 2 ^ s → a ≢ 0 → pred a < 2 ^ s - 1
  pred_lt a h k = omega arith

  pred_eq : (a b : ℕ) → a ≢ 0 → b ≢ 0 → pred a ≡ pred b → a ≡ b
  pred_eq a b h k e = omega arith

  -- 2^s - 1 different powers of ω are all of them
  pub log : (a : F s) → a ≢ GF.𝟘 → (k : ℕ) × (k < 2 ^ s - 1) × (pow GF gen k ≡ a)
  log a h =
      let value : ℕ → ℕ = λ k. (pow GF gen k).0 in
      let ne : (k : ℕ) → k < 2 ^ s - 1 → value k ≢ 0 = λ k l. value_ne (pow GF gen k) (gen_pow_ne k l) in
      let c = onto (2 ^ s - 1) (λ k. pred (value k)) (λ k l. pred_lt (value k) (pow GF gen k).1 (ne k l))
      (λ i j hi hj e. pow_inj GF gen (2 ^ s - 1) gen_order i j hi hj (F-eq s (pred_eq (value i) (value j) (ne i hi) (ne j hj) e)))
      (pred a.0) (pred_lt a.0 a.1 (value_ne a h)) in
      (c.0, c.1, F-eq s (pred_eq (value c.0) a.0 (ne c.0 c.1) (value_ne a h) c.2))

  -- ---- inverses
  fermat : (a : F s) → a ≢ GF.𝟘 → pow GF a (2 ^ s - 1) ≡ GF.𝟙
  fermat a h =
      let l = log a h in
      let N : ℕ = 2 ^ s - 1 in
      ap (λ x. pow GF x N) (sym l.2) ∙ sym (pow_mul GF gen l.0 N) ∙ ap (pow GF gen) (mul_comm l.0 N)
      ∙ pow_mul GF gen N l.0 ∙ ap (λ x. pow GF x l.0) gen_order.one ∙ one_pow GF l.0

  pub mul_inverse : (a : F s) → a ≢ GF.𝟘 → GF.mul a (pow GF a (2 ^ s - 2)) ≡ GF.𝟙
  mul_inverse a h =
      let e : suc (2 ^ s - 2) ≡ 2 ^ s - 1 = omega (arith, (Degree-bounds d).0) in
      sym (pow_s GF a (2 ^ s - 2)) ∙ ap (pow GF a) e ∙ fermat a h

  pub is_field : Field GF
  is_field = record { inv = λ a. pow GF a (2 ^ s - 2); mul_inv = mul_inverse; one_ne = one_ne; discrete = Fin-discrete (2 ^ s) }

  -- ---- α
  unfoldable pub root : ℕ → F s
  root n = pow GF gen ((2 ^ s - 1) / n)

  pub root_order : (n : ℕ) → n ∣ 2 ^ s - 1 → Order GF (root n) n
  unfolding root
  root_order n h =
      let N : ℕ = 2 ^ s - 1 in
      let e : N / n * n ≡ N = div-mul_cancel n h in
      order_pow GF gen (N / n) n (subst (Order GF gen) (sym e) gen_order) (quotient_pos N e gen_order.pos)
      (pos_of_dvd_of_pos h gen_order.pos)
    where
      quotient_pos : (N : ℕ) → N / n * n ≡ N → 0 < N → 0 < N / n
      quotient_pos N e h =
          pos_of_ne-zero (λ z. let q : N ≡ 0 = sym e ∙ ap (λ (x : ℕ). x * n) z ∙ zero-mul n in omega arith)
