-- Codewords and encoding, in the words of the definitions alone: for each n of Length, and any representatives.
--
--   below_lt, value_is   a mask's value at an element (value_at of the definitions) is the theory's
--   value_zero           a mask's value at an element (value_at of the definitions) is 0 exactly where the theory's value is
--   codeword_iff, encode_is      codewords and encoding are the theory's
--   multiple_iff         a codeword is a multiple of the generator,
--   defining_iff         a mask that is 0 at α^i for each i of D,
--   representatives_iff  and one that is 0 at α^r for each representative r
--   raised_is            x^j times a mask is a codeword exactly where the mask is one
--   encode_is_codeword   what encoding gives is a codeword
--   encode_systematic    with the message in its high places; encode_checks: and the remainder in the low ones
--   encode_lt            of n places, where the message has k; message_lt: and back
--   encode_injective     distinct messages have distinct codewords
--   codeword_is_encoding each codeword is what encoding makes of its message
-- That the generator has coefficients 0 and 1 only, and degree n - k, are generator_binary and generator_degree of
-- GeneratorIs.antt.
use mathlib.Core.Path.{◌≡◌, sym, ap, ap₂, ◌∙◌, subst}
use mathlib.Core.Logic.{◌↔◌}
use mathlib.Core.Bool.{true}
use mathlib.Core.List.{List}
use Prim.Native.Nat.{ℕ, zero, suc, ◌+◌, ◌-◌, ◌*◌, ◌/◌, ◌%◌, ◌^◌, ◌<◌}
use native.Mathlib.Nat.{zero-mul, one-mul, mod-lt}
use native.Mathlib.Omega.{arith}
use lib.Pow.{pow_pos}
use borrow.Author.Tests.{eqb-true, eq-eqb}
use Rattle.algebra.proofs.Ring.{zero-mul as 𝟘-mul, one-mul as 𝟙-mul}
use Rattle.algebra.proofs.Power.{pow}
use Rattle.algebra.proofs.Lists.{All, all_map}
use Rattle.algebra.proofs.Sum.{sum, sum_z, sum_s}
use Rattle.algebra.proofs.Value.{ev_sum}
use Rattle.field.specs.Mask.{coefficient, size, clmul, remainder}
use Rattle.field.specs.Field.{Degree, field_power, order_of_two, α}
use Rattle.field.proofs.Xor.{digit, digit_lt, ⊕-lt}
use Rattle.field.proofs.MaskProduct.{size_lt}
use Rattle.field.proofs.Elements.{GF, el, el_zero, el_add, el_inj}
use Rattle.field.proofs.Value.{coef, coef_0, coef_1, value}
use Rattle.field.proofs.Numbers.{power_lt, el_power, el_root}
use Rattle.cyclic.proofs.Lift.{lift, lift_at, lift_value}
use Rattle.cyclic.proofs.Division.{◌∣ₘ◌, divides_iff}
use Rattle.cyclic.proofs.CyclicCode.{Code}
use Rattle.cyclic.proofs.Coset.{vanishes_iff}
use Rattle.cyclic.proofs.Generator as Generator
use Rattle.cyclic.proofs.Encode as Encode
use Rattle.document.specs.Coset.{in_set, dimension}
use Rattle.document.specs.Generator.{value_below, value_at, generator, is_codeword, encode_mask, message_of}
use Rattle.document.proofs.Theory.{Length, degree, T_of, of_T, represented, code_of, checks_are, dimension_is}
use Rattle.document.proofs.GeneratorIs.{generator_is, generator_degree}
use Rattle.document.proofs.Cosets.{bool_eq}

-- ---- values on plain numbers

module _ {s : ℕ} (d : Degree s) (a c : ℕ) where
  term_lt : (m : ℕ) → coefficient m c * field_power s a m < 2 ^ s
  term_lt m =
      digit (λ x. x * field_power s a m < 2 ^ s) (subst (λ (x : ℕ). x < 2 ^ s) (sym (zero-mul (field_power s a m))) (pow_pos s))
      (subst (λ (x : ℕ). x < 2 ^ s) (sym (one-mul (field_power s a m))) (power_lt d a m)) (coefficient m c)
      (digit_lt (c / 2 ^ m))

  pub below_lt : (m : ℕ) → value_below s a m c < 2 ^ s
  unfolding value_below
  below_lt zero = pow_pos s
  below_lt (suc m) = ⊕-lt s (value_below s a m c) _ (below_lt m) (term_lt m)

  term_is : (m : ℕ) → el d (coefficient m c * field_power s a m) ≡ (GF d).mul (lift (GF d) c m) (pow (GF d) (el d a) m)
  term_is m =
      digit (λ x. el d (x * field_power s a m) ≡ (GF d).mul (coef (GF d) x) (pow (GF d) (el d a) m))
      (ap (el d) (zero-mul (field_power s a m)) ∙ el_zero d
      ∙ sym (ap (λ x. (GF d).mul x (pow (GF d) (el d a) m)) (coef_0 (GF d)) ∙ 𝟘-mul (GF d) _))
      (ap (el d) (one-mul (field_power s a m)) ∙ el_power d a m
      ∙ sym (ap (λ x. (GF d).mul x (pow (GF d) (el d a) m)) (coef_1 (GF d)) ∙ 𝟙-mul (GF d) _))
      (coefficient m c) (digit_lt (c / 2 ^ m))
      ∙ ap (λ x. (GF d).mul x (pow (GF d) (el d a) m)) (sym (lift_at (GF d) m c))

  below_is : (m : ℕ) → el d (value_below s a m c) ≡ sum (GF d) m (λ i. (GF d).mul (lift (GF d) c i) (pow (GF d) (el d a) i))
  unfolding value_below
  below_is zero = el_zero d ∙ sym (sum_z (GF d) _)
  below_is (suc m) =
      el_add d (value_below s a m c) _ ∙ ap₂ (GF d).add (below_is m) (term_is m) ∙ sym (sum_s (GF d) m _)

  pub value_is : el d (value_at s a c) ≡ value (GF d) (el d a) c
  unfolding value_at
  value_is =
      below_is (size c) ∙ sym (ev_sum (GF d) (size c) (lift (GF d) c) (el d a))
      ∙ sym (lift_value (GF d) (size c) c (el d a) (size_lt c))

  pub value_zero : (value_at s a c ≡ 0) ↔ (value (GF d) (el d a) c ≡ (GF d).𝟘)
  unfolding value_at
  value_zero = (
    λ e. sym value_is ∙ ap (el d) e ∙ el_zero d,
    λ e. el_inj d (below_lt (size c)) (pow_pos s) (value_is ∙ e ∙ sym (el_zero d)),
  )

module _ {n : ℕ} (l : Length n) (reps : List ℕ) where
  abbrev s : ℕ
  s = order_of_two n

  abbrev k : ℕ
  k = dimension n reps

  abbrev m : ℕ
  m = n - k

  abbrev g : ℕ
  g = generator n reps

  abbrev C : Code (GF (degree l)) n
  C = code_of l reps

  -- the value at α^i
  abbrev pub value_at_α : ℕ → ℕ → ℕ
  value_at_α i c = value_at s (field_power s (α s n) i) c

  value_α : (i c : ℕ) → (value_at_α i c ≡ 0) ↔ (value (GF (degree l)) (pow (GF (degree l)) C.α i) c ≡ (GF (degree l)).𝟘)
  value_α i c =
      let d = degree l in
      subst (λ x. (value_at_α i c ≡ 0) ↔ (value (GF d) x c ≡ (GF d).𝟘))
      (el_power d (α s n) i ∙ ap (λ x. pow (GF d) x i) (el_root d n))
      (value_zero d (field_power s (α s n) i) c)

  -- ---- codewords
  pub multiple_iff : (c : ℕ) → (is_codeword m g c ≡ true) ↔ ((q : ℕ) × (c ≡ clmul g q))
  unfolding is_codeword
  multiple_iff c =
      let w = divides_iff m g (generator_degree l reps) c in
      (λ e. w.1 (eqb-true (remainder m g c) 0 e), λ q. eq-eqb (remainder m g c) 0 (w.0 q))

  pub codeword_iff : (c : ℕ) → (is_codeword m g c ≡ true) ↔ Generator.InCode C c
  codeword_iff c = subst (λ (x : ℕ). (is_codeword m g c ≡ true) ↔ (x ∣ₘ c)) (generator_is l reps) (multiple_iff c)

  pub raised_is : (j c : ℕ) → is_codeword m g (c * 2 ^ j) ≡ is_codeword m g c
  raised_is j c =
      let w = Generator.codeword_raised C j c in
      bool_eq (is_codeword m g (c * 2 ^ j)) (is_codeword m g c)
      (λ e. (codeword_iff c).1 (w.0 ((codeword_iff (c * 2 ^ j)).0 e)))
      (λ e. (codeword_iff (c * 2 ^ j)).1 (w.1 ((codeword_iff c).0 e)))

  pub defining_iff : (c : ℕ) → (is_codeword m g c ≡ true) ↔ ((i : ℕ) → in_set n reps i ≡ true → value_at_α i c ≡ 0)
  defining_iff c = (
    λ e i t. (value_α i c).1 ((Generator.codeword C c).0 ((codeword_iff c).0 e) i (below i t) (T_of t)),
    λ v. (codeword_iff c).1 ((Generator.codeword C c).1 (λ i h t. (value_α i c).0 (v i (of_T (in_set n reps i) t)))),
  )
    where
      below : (i : ℕ) → in_set n reps i ≡ true → i < n
      below i t =
          let w = (represented l reps).cover i (T_of t) in
          subst (λ (x : ℕ). x < n) w.3 (mod-lt (w.0 * 2 ^ w.1) (omega (arith, l.odd.least)))

  pub representatives_iff : (c : ℕ) → (is_codeword m g c ≡ true) ↔ All (λ r. value_at_α r c ≡ 0) reps
  representatives_iff c =
      let w = vanishes_iff C (represented l reps) c in (
        λ e. all_map (λ r. (value_α r c).1) (w.1 ((Generator.codeword C c).0 ((codeword_iff c).0 e))),
        λ v. (codeword_iff c).1 ((Generator.codeword C c).1 (w.0 (all_map (λ r. (value_α r c).0) v))),
      )

  -- ---- encoding
  pub encode_is : (message : ℕ) → encode_mask m g message ≡ Encode.encode C message
  unfolding encode_mask
  encode_is message =
      ap₂ (λ (x y : ℕ). message * 2 ^ x + remainder x y (message * 2 ^ x)) (sym (checks_are l reps)) (generator_is l reps)
      ∙ sym (Encode.encode_sum C message)

  pub encode_is_codeword : (message : ℕ) → is_codeword m g (encode_mask m g message) ≡ true
  encode_is_codeword message =
      (codeword_iff (encode_mask m g message)).1
      (subst (Generator.InCode C) (sym (encode_is message)) (Encode.encode_codeword C message))

  pub encode_systematic : (message : ℕ) → message_of m (encode_mask m g message) ≡ message
  unfolding message_of
  encode_systematic message =
      ap₂ (λ (x y : ℕ). x / 2 ^ y) (encode_is message) (sym (checks_are l reps)) ∙ Encode.encode_high C message

  pub encode_checks : (message : ℕ) → encode_mask m g message % 2 ^ m ≡ remainder m g (message * 2 ^ m)
  encode_checks message =
      ap₂ (λ (x y : ℕ). x % 2 ^ y) (encode_is message) (sym (checks_are l reps)) ∙ Encode.encode_low C message
      ∙ ap₂ (λ (x y : ℕ). remainder x y (message * 2 ^ x)) (checks_are l reps) (sym (generator_is l reps))

  pub encode_lt : (message : ℕ) → message < 2 ^ k → encode_mask m g message < 2 ^ n
  encode_lt message h =
      subst (λ (x : ℕ). x < 2 ^ n) (sym (encode_is message))
      (Encode.encode_lt C message (subst (λ (x : ℕ). message < 2 ^ x) (sym (dimension_is l reps)) h))

  pub encode_injective : (a b : ℕ) → encode_mask m g a ≡ encode_mask m g b → a ≡ b
  encode_injective a b e = sym (encode_systematic a) ∙ ap (message_of m) e ∙ encode_systematic b

  -- ---- reading out
  pub message_lt : (c : ℕ) → c < 2 ^ n → message_of m c < 2 ^ k
  unfolding message_of
  message_lt c h =
      subst (λ (x : ℕ). c / 2 ^ x < 2 ^ k) (checks_are l reps)
      (subst (λ (x : ℕ). c / 2 ^ Generator.checks C < 2 ^ x) (dimension_is l reps) (Encode.read_lt C c h))

  pub codeword_is_encoding : (c : ℕ) → is_codeword m g c ≡ true → encode_mask m g (message_of m c) ≡ c
  unfolding message_of
  codeword_is_encoding c e =
      encode_is (c / 2 ^ m) ∙ ap (λ (x : ℕ). Encode.encode C (c / 2 ^ x)) (sym (checks_are l reps))
      ∙ Encode.encode_onto C c ((codeword_iff c).0 e)
