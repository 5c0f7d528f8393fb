-- The generator of the definition is the generator of the theory.
--
--   times_at             the product with x - a, coefficient by coefficient
--   product_at           the product of x - a^i, coefficient by coefficient, is the theory's product
--   product_small        its coefficients are elements of the field
--   total_gather         a sum of weighted digits is the mask with those digits
--   generator_digit      the coefficients of the definition's polynomial are those of the theory's generator
--   generator_binary     so they are 0 and 1 only
--   generator_is         and the masks are the same
--   generator_degree     of degree n - k
use mathlib.Core.Path.{◌≡◌, refl, sym, ap, ap₂, ◌∙◌, subst}
use mathlib.Core.Logic.{◌⊎◌, inl, inr}
use mathlib.Core.List.{List, [], ◌∷◌, map}
use Prim.Native.Nat.{ℕ, zero, suc, ◌+◌, ◌-◌, ◌*◌, ◌/◌, ◌^◌, ◌≤◌, ◌<◌}
use native.Mathlib.Nat.{mul_assoc, mul-one, add_comm, add-mul, pow-suc}
use native.Mathlib.Omega.{arith}
use lib.ListN.{length, get_or, get_or-eq_default}
use Rattle.algebra.proofs.Ring.{zero-add, add_comm as ⊞-comm}
use Rattle.algebra.proofs.Power.{pow}
use Rattle.algebra.proofs.Lists.{prod_nil, prod_cons}
use Rattle.algebra.proofs.Series.{Ser, const, one_is}
use Rattle.algebra.proofs.Poly.{le_or_lt}
use Rattle.algebra.proofs.Value.{lin, lin_mul_z, lin_mul_s}
use Rattle.field.specs.Search.{total}
use Rattle.field.specs.Mask.{◌⊕◌, coefficient}
use Rattle.field.specs.Field.{Degree, field_multiply, field_power, order_of_two, α}
use Rattle.field.proofs.Search.{total_z, total_s}
use Rattle.field.proofs.Xor.{digit, digit_lt, ⊕-lt, bit_ext}
use Rattle.field.proofs.Elements.{F, GF, root, el, el_zero, el_one, el_add, el_mul, el_inj}
use Rattle.field.proofs.Value.{coef, coef_0, coef_1}
use Rattle.field.proofs.Numbers.{one_lt, multiply_lt, multiply_zero, el_power, el_root}
use Rattle.cyclic.proofs.Places.{gather, gather_at, gather_lt, coefficient_above}
use Rattle.cyclic.proofs.Monic.{Π}
use Rattle.cyclic.proofs.Generator as Generator
use Rattle.document.specs.Coset.{defining_set, dimension}
use Rattle.document.specs.Generator.{times_root, root_product, generator_poly, mask_of_poly, generator}
use Rattle.document.proofs.Sane.{add_at}
use Rattle.document.proofs.Theory.{Length, degree, code_of, members_are, checks_are}

-- ---- the product over the field
get_d_map : (f : ℕ → ℕ) → f 0 ≡ 0 → (p : List ℕ) (i : ℕ) → get_or (map f p) i 0 ≡ f (get_or p i 0)
get_d_map f h [] i = sym h
get_d_map f h (a ∷ p) zero = refl
get_d_map f h (a ∷ p) (suc i) = get_d_map f h p i

-- coefficient by coefficient: x p + a p
pub times_at : {s : ℕ} → Degree s → (b : ℕ) (p : List ℕ) (i : ℕ)
    → get_or (times_root s b p) i 0 ≡ get_or (0 ∷ p) i 0 ⊕ field_multiply s b (get_or p i 0)
unfolding times_root
times_at {s} d b p i =
    add_at (0 ∷ p) (map (field_multiply s b) p) i
    ∙ ap (λ (x : ℕ). get_or (0 ∷ p) i 0 ⊕ x) (get_d_map (field_multiply s b) (multiply_zero d b) p i)

module _ {s : ℕ} (d : Degree s) (a : ℕ) where
  pub product_small : (l : List ℕ) (i : ℕ) → get_or (root_product s a l) i 0 < 2 ^ s
  unfolding root_product
  product_small [] zero = one_lt d
  product_small [] (suc i) = omega (arith, one_lt d)
  product_small (j ∷ l) i =
      subst (λ (x : ℕ). x < 2 ^ s) (sym (times_at d (field_power s a j) (root_product s a l) i))
      (⊕-lt s _ _ (moved i (product_small l)) (multiply_lt d (field_power s a j) (get_or (root_product s a l) i 0)))
    where
      moved : (i : ℕ) → ((k : ℕ) → get_or (root_product s a l) k 0 < 2 ^ s) → get_or (0 ∷ root_product s a l) i 0 < 2 ^ s
      moved zero ih = omega (arith, one_lt d)
      moved (suc i) ih = ih i

  pub product_at : (l : List ℕ) (i : ℕ) → el d (get_or (root_product s a l) i 0) ≡ Π (GF d) (map (pow (GF d) (el d a)) l) i
  unfolding root_product
  product_at [] i = one i ∙ sym (ap (λ p. p i) (prod_nil (Ser (GF d)) (lin (GF d)) ∙ one_is (GF d)))
    where
      one : (i : ℕ) → el d (get_or (1 ∷ []) i 0) ≡ const (GF d) (GF d).𝟙 i
      one zero = el_one d
      one (suc i) = el_zero d
  product_at (j ∷ l) i =
      ap (el d) (times_at d b p i) ∙ el_add d (get_or (0 ∷ p) i 0) (field_multiply s b (get_or p i 0))
      ∙ ap ((GF d).add (el d (get_or (0 ∷ p) i 0))) (el_mul d b (get_or p i 0)) ∙ go i (product_at l)
      ∙ sym (ap (λ q. q i) (prod_cons (Ser (GF d)) (lin (GF d)) (pow (GF d) (el d a) j) (map (pow (GF d) (el d a)) l)))
    where
      p : List ℕ
      p = root_product s a l

      b : ℕ
      b = field_power s a j

      x : F s
      x = pow (GF d) (el d a) j

      q : ℕ → F s
      q = Π (GF d) (map (pow (GF d) (el d a)) l)

      go : (i : ℕ) → ((k : ℕ) → el d (get_or p k 0) ≡ q k)
          → (GF d).add (el d (get_or (0 ∷ p) i 0)) ((GF d).mul (el d b) (el d (get_or p i 0))) ≡ (Ser (GF d)).mul (lin (GF d) x) q i
      go zero ih =
          ap₂ (GF d).add (el_zero d) (ap₂ (GF d).mul (el_power d a j) (ih zero)) ∙ zero-add (GF d) _
          ∙ sym (lin_mul_z (GF d) x q)
      go (suc i) ih =
          ap₂ (GF d).add (ih i) (ap₂ (GF d).mul (el_power d a j) (ih (suc i))) ∙ ⊞-comm (GF d) _ _
          ∙ sym (lin_mul_s (GF d) x q i)

-- ---- digits with their weights
total_head : (n : ℕ) (f : ℕ → ℕ) → total (suc n) f ≡ f 0 + total n (λ i. f (suc i))
total_head zero f = omega (arith, total_s 0 f, total_z f, total_z (λ i. f (suc i)))
total_head (suc n) f = omega (arith, total_s (suc n) f, total_head n f, total_s n (λ i. f (suc i)))

total_double : (n : ℕ) (d : ℕ → ℕ) → total n (λ i. d i * 2 ^ suc i) ≡ total n (λ i. d i * 2 ^ i) * 2
total_double zero d = total_z _ ∙ sym (ap (λ (x : ℕ). x * 2) (total_z (λ i. d i * 2 ^ i)))
total_double (suc n) d =
    total_s n (λ i. d i * 2 ^ suc i)
    ∙ ap₂ ◌+◌ (total_double n d) (ap (λ (x : ℕ). d n * x) (pow-suc 2 n) ∙ sym (mul_assoc (d n) (2 ^ n) 2))
    ∙ sym (ap (λ (x : ℕ). x * 2) (total_s n (λ i. d i * 2 ^ i)) ∙ add-mul _ _ 2)

pub total_gather : (n : ℕ) (d : ℕ → ℕ) → total n (λ i. d i * 2 ^ i) ≡ gather n d
unfolding gather
total_gather zero d = total_z (λ i. d i * 2 ^ i)
total_gather (suc n) d =
    total_head n (λ i. d i * 2 ^ i)
    ∙ ap₂ ◌+◌ (mul-one (d 0)) (total_double n (λ i. d (suc i)) ∙ ap (λ (x : ℕ). x * 2) (total_gather n (λ i. d (suc i))))
    ∙ add_comm (d 0) _

-- ---- the generator
module _ {n : ℕ} (l : Length n) (reps : List ℕ) where
  abbrev s : ℕ
  s = order_of_two n

  abbrev d : Degree s
  d = degree l

  poly_at : (i : ℕ) → el d (get_or (generator_poly n reps) i 0) ≡ Generator.product (code_of l reps) i
  unfolding generator_poly Generator.zeros
  poly_at i =
      product_at d (α s n) (defining_set n reps) i
      ∙ ap (λ x. Π (GF d) (map (pow (GF d) x) (defining_set n reps)) i) (el_root d n)
      ∙ ap (λ m. Π (GF d) (map (pow (GF d) (root d n)) m) i) (sym (members_are l reps))

  poly_small : (i : ℕ) → get_or (generator_poly n reps) i 0 < 2 ^ s
  unfolding generator_poly
  poly_small = product_small d (α s n) (defining_set n reps)

  el_coef : (x : ℕ) → x < 2 → el d x ≡ coef (GF d) x
  el_coef = digit (λ x. el d x ≡ coef (GF d) x) (el_zero d ∙ sym (coef_0 (GF d))) (el_one d ∙ sym (coef_1 (GF d)))

  pub generator_digit : (i : ℕ) → get_or (generator_poly n reps) i 0 ≡ coefficient i (Generator.generator (code_of l reps))
  generator_digit i =
      let g : ℕ = Generator.generator (code_of l reps) in
      let b : coefficient i g < 2 = digit_lt (g / 2 ^ i) in
      el_inj d (poly_small i) (omega (arith, one_lt d))
      (poly_at i ∙ sym (el_coef (coefficient i g) b ∙ Generator.generator_coefficient (code_of l reps) i))

  digit_small : (i : ℕ) → get_or (generator_poly n reps) i 0 < 2
  digit_small i = subst (λ (x : ℕ). x < 2) (sym (generator_digit i)) (digit_lt (Generator.generator (code_of l reps) / 2 ^ i))

  pub generator_binary : (i : ℕ) → (get_or (generator_poly n reps) i 0 ≡ 0) ⊎ (get_or (generator_poly n reps) i 0 ≡ 1)
  generator_binary i = digit (λ x. (x ≡ 0) ⊎ (x ≡ 1)) (inl refl) (inr refl) (get_or (generator_poly n reps) i 0) (digit_small i)

  pub generator_is : generator n reps ≡ Generator.generator (code_of l reps)
  unfolding generator mask_of_poly
  generator_is =
      total_gather m digits ∙ bit_ext (λ i. go i (le_or_lt m i) ∙ generator_digit i)
    where
      digits : ℕ → ℕ
      digits i = get_or (generator_poly n reps) i 0

      m : ℕ
      m = length (generator_poly n reps)

      go : (i : ℕ) → (m ≤ i) ⊎ (i < m) → coefficient i (gather m digits) ≡ digits i
      go i (inl h) = coefficient_above (gather_lt m digits digit_small) i h ∙ sym (get_or-eq_default (generator_poly n reps) 0 h)
      go i (inr h) = gather_at m digits digit_small i h

  pub generator_degree : generator n reps / 2 ^ (n - dimension n reps) ≡ 1
  generator_degree =
      ap₂ (λ (g m : ℕ). g / 2 ^ m) generator_is (sym (checks_are l reps)) ∙ Generator.generator_degree (code_of l reps)
