-- The factor of a coset by its value at ω.
--
--   coset_value n s r m       the product of ω + α^i over the first m members: value_start, value_next, value_lt
--   value_zero_on            0 from a member on whose factor is 0
--   from_whole, from_short   the mask of a value: of degree s, and of a smaller degree
--   factored                 the mask of the value over all members is the factor
use mathlib.Core.Path.{◌≡◌, refl, sym, ap, ap₂, ◌∙◌, subst}
use mathlib.Core.Logic.{◌≢◌}
use mathlib.Core.List.{[], ◌∷◌}
use Prim.Native.Nat.{ℕ, zero, suc, ◌+◌, ◌*◌, ◌/◌, ◌%◌, ◌^◌, ◌≤◌, ◌<◌}
use native.Mathlib.Nat.{lt_of_lt_of_le}
use native.Mathlib.Numerals.{add-one}
use native.Mathlib.Decide.{ℕ_discrete}
use native.Mathlib.Omega.{arith}
use lib.Bits.{bit_xor}
use lib.Pow.{pow_mono}
use Rattle.field.specs.Mask.{◌⊕◌}
use Rattle.field.specs.Field.{mask, Degree, ω, field_multiply, field_power, α}
use Rattle.field.proofs.Xor.{⊕-comm, ⊕-self, ⊕-norm, ⊕-shr}
use Rattle.field.proofs.MaskProduct.{clmul_one_r}
use Rattle.field.proofs.Remainder.{lt_of_high, remainder_small, remainder_unique}
use Rattle.field.proofs.Primitive.{primitive}
use Rattle.field.proofs.Numbers.{one_lt, multiply_lt, multiply_zero}
use Rattle.cyclic.proofs.Lift.{lt_of_degree}
use Rattle.document.specs.Generator.{root_product, generator}
use Rattle.document.proofs.Sane.{set_size}
use Rattle.document.proofs.GeneratorIs.{generator_degree}
use Rattle.binary.proofs.Passing.{xor_is}
use Rattle.generator.specs.Coset.{CosetOf, CosetWalked, FromValue, Factored}
use Rattle.generator.proofs.AtOmega.{poly_value, poly_value_times, poly_value_one, poly_value_held}
use Rattle.generator.proofs.CosetWalk.{walk, length_stated, degree_of}
use Rattle.generator.proofs.Factor.{walked_size, walked_holds}

-- ---- the value
pub coset_value : ℕ → ℕ → ℕ → ℕ → ℕ
coset_value n s r m = poly_value s ω (root_product s (α s n) (walk n r m))

module _ {n s r : ℕ} (c : CosetOf n s r) where
  pub value_start : 1 ≡ coset_value n s r 0
  unfolding coset_value walk root_product
  value_start = sym (poly_value_one (degree_of c) ω)

  next : (m : ℕ) → coset_value n s r (suc m) ≡ field_multiply s (ω ⊕ field_power s (α s n) (r * 2 ^ m % n)) (coset_value n s r m)
  unfolding coset_value walk root_product
  next m = poly_value_times (degree_of c) ω (field_power s (α s n) (r * 2 ^ m % n)) (root_product s (α s n) (walk n r m))

  pub value_next : (m : ℕ) {x root : ℕ} → x ≡ r * 2 ^ m % n → root ≡ field_power s (α s n) x
      → field_multiply s (bit_xor root 2) (coset_value n s r m) ≡ coset_value n s r (m + 1)
  value_next m {x} {root} e f =
      ap (λ (y : ℕ). field_multiply s y (coset_value n s r m))
      (xor_is root 2 ∙ ⊕-comm root 2 ∙ ap (λ (y : ℕ). 2 ⊕ y) (f ∙ ap (field_power s (α s n)) e))
      ∙ sym (next m) ∙ ap (coset_value n s r) (sym (add-one m))

  pub value_lt : (m : ℕ) → coset_value n s r m < 2 ^ s
  value_lt zero = subst (λ (x : ℕ). x < 2 ^ s) value_start (one_lt (degree_of c))
  value_lt (suc m) = subst (λ (x : ℕ). x < 2 ^ s) (sym (next m)) (multiply_lt (degree_of c) _ _)

  pub value_zero_on : (m k : ℕ) → m ≤ k → coset_value n s r m ≡ 0 → coset_value n s r k ≡ 0
  value_zero_on m zero l h = let e : zero ≡ m = omega arith in ap (coset_value n s r) e ∙ h
  value_zero_on m (suc k) l h =
      elim (ℕ_discrete m (suc k)) [
        | yes e ↦ ap (coset_value n s r) (sym e) ∙ h
        | no e ↦ next k ∙ ap (field_multiply s (ω ⊕ field_power s (α s n) (r * 2 ^ k % n))) (value_zero_on m k (omega arith) h)
            ∙ multiply_zero (degree_of c) (ω ⊕ field_power s (α s n) (r * 2 ^ k % n))
      ]

-- ---- the mask of a value
module _ {s : ℕ} (d : Degree s) where
  pub from_short : (v : ℕ) {m : ℕ} → m ≢ s → FromValue s v m v m
  from_short v {m} h = record {
    mask_is = λ {a} l t e.
        let P = primitive d in
        let le : suc m ≤ s = omega (arith, l, h) in
        e ∙ remainder_small s (mask s) P.pos P.deg a (lt_of_lt_of_le (lt_of_degree a m t) (pow_mono le));
    degree_is = refl;
  }

  sort : (a b : ℕ) → a ≡ b ⊕ (a ⊕ b)
  sort a b = simp ⊕-norm

  back : (a b : ℕ) → (a ⊕ b) ⊕ b ≡ a
  back a b = simp ⊕-norm

  -- the quotient of a by the field's mask is 1
  pub from_whole : (v : ℕ) {m q : ℕ} → m ≡ s → q ≡ mask s → FromValue s v m (bit_xor v q) m
  from_whole v {m} {q} h f = record {
    mask_is = λ {a} l t e.
        let P = primitive d in
        let top : a / 2 ^ s ≡ 1 = ap (λ (k : ℕ). a / 2 ^ k) (sym h) ∙ t in
        let lt : a ⊕ mask s < 2 ^ s = lt_of_high s (⊕-shr a (mask s) s ∙ ap₂ ◌⊕◌ top P.deg ∙ ⊕-self 1) in
        let is : a ⊕ mask s ≡ v =
        remainder_unique s (mask s) P.pos P.deg a 1 (a ⊕ mask s) lt
        (sort a (mask s) ∙ ap (λ (y : ℕ). y ⊕ (a ⊕ mask s)) (sym (clmul_one_r (mask s))))
        ∙ sym e in
        xor_is v q ∙ ap₂ ◌⊕◌ (sym is) f ∙ back a (mask s);
    degree_is = refl;
  }

-- ---- all members
module _ {n s r : ℕ} (c : CosetOf n s r) where
  pub factored : {m v f k : ℕ} → CosetWalked n s r m → v ≡ coset_value n s r m → FromValue s v m f k → Factored n s r f k
  unfolding coset_value
  factored {m} {v} {f} {k} w e t =
      let size = walked_size c w in record {
        mask_is = t.mask_is w.most
            (ap (λ (i : ℕ). generator n (r ∷ []) / 2 ^ i) (size ∙ sym (set_size n (r ∷ []))) ∙ generator_degree (length_stated c) (r ∷ []))
            (e ∙ poly_value_held (degree_of c) (root_product s (α s n) (walk n r m)) (generator n (r ∷ [])) (walked_holds c w));
        degree_is = t.degree_is ∙ size;
        most = omega (arith, t.degree_is, w.most);
      }
