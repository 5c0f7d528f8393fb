-- The remainder of a locator by f, on numbers.
--
--   power_zero               x^0 is its own remainder
--   residue s f u l c j k    coefficient j of the remainder of l(ω^c x) by f, of the first k terms of l: residue_z, residue_s
--   residue_high             from u on there are none
--   divides_residues         f divides l(ω^c x) exactly where all are 0
use mathlib.Core.Path.{◌≡◌, refl, sym, ap, ap₂, ◌∙◌}
use mathlib.Core.Logic.{◌↔◌}
use mathlib.Core.List.{List}
use Prim.Native.Nat.{ℕ, zero, suc, ◌*◌, ◌/◌, ◌^◌, ◌≤◌, ◌<◌}
use native.Mathlib.Nat.{one-mul, zero-mul}
use native.Mathlib.Omega.{arith}
use lib.ListN.{get_or}
use lib.Pow.{pow_pos}
use Rattle.algebra.proofs.Ring.{Ring, mul_comm, mul-one, mul-zero}
use Rattle.algebra.proofs.Power.{pow, pow_mul}
use Rattle.algebra.proofs.Sum.{sum, sum_z, sum_s}
use Rattle.algebra.proofs.Coprime.{Divides}
use Rattle.algebra.proofs.Poly.{Below, Polys}
use Rattle.algebra.proofs.Substitute.{sub, sub_at, sub_below}
use Rattle.field.specs.Mask.{◌⊕◌, coefficient, remainder}
use Rattle.field.specs.Field.{Degree, ω, field_multiply, field_power}
use Rattle.field.proofs.Xor.{digit, digit_lt, ⊕-lt, ⊕-self}
use Rattle.field.proofs.Remainder.{remainder_lt, remainder_small}
use Rattle.field.proofs.Value.{coef, coef_0, coef_1}
use Rattle.field.proofs.Elements.{F, GF, el, el_add, el_mul, el_zero, el_inj, gen, is_field}
use Rattle.field.proofs.Numbers.{multiply_lt, el_power}
use Rattle.cyclic.proofs.Lift.{lift, lift_at}
use Rattle.cyclic.proofs.Places.{coefficient_above}
use Rattle.binary.specs.Factor.{Modulus}
use Rattle.binary.proofs.MaskPeriod.{modulus_top, modulus_two}
use Rattle.poly.specs.Slice.{Short, series}
use Rattle.locator.proofs.Reduction.{reduced, reduced_at, divides_reduced}

pub power_zero : {f u : ℕ} → Modulus f u → remainder u f (2 ^ 0) ≡ 1
power_zero {f} {u} m = remainder_small u f m.lo (modulus_top m) 1 (omega (arith, modulus_two m))

pub residue : (s f u : ℕ) → List ℕ → (c j k : ℕ) → ℕ
residue s f u l c j zero = 0
residue s f u l c j (suc k) =
    residue s f u l c j k ⊕ coefficient j (remainder u f (2 ^ k)) * field_multiply s (get_or l k 0) (field_power s ω (c * k))

pub residue_z : (s f u : ℕ) (l : List ℕ) (c j : ℕ) → residue s f u l c j 0 ≡ 0
unfolding residue
residue_z s f u l c j = refl

pub residue_s : (s f u : ℕ) (l : List ℕ) (c j k : ℕ)
    → residue s f u l c j (suc k)
    ≡ residue s f u l c j k ⊕ coefficient j (remainder u f (2 ^ k)) * field_multiply s (get_or l k 0) (field_power s ω (c * k))
unfolding residue
residue_s s f u l c j k = refl

pub residue_high : {f u : ℕ} → Modulus f u → (s : ℕ) (l : List ℕ) (c j k : ℕ) → u ≤ j → residue s f u l c j k ≡ 0
residue_high {f} {u} m s l c j zero h = residue_z s f u l c j
residue_high {f} {u} m s l c j (suc k) h =
    residue_s s f u l c j k
    ∙ ap₂ ◌⊕◌ (residue_high m s l c j k h)
    (ap (λ (x : ℕ). x * field_multiply s (get_or l k 0) (field_power s ω (c * k)))
    (coefficient_above (remainder_lt u f m.lo (modulus_top m) (2 ^ k)) j h)
    ∙ zero-mul _)
    ∙ ⊕-self 0

module _ {s : ℕ} (d : Degree s) where
  abbrev K : Ring (F s)
  K = GF d

  el_digit : (y x : ℕ) → x < 2 → el d (x * y) ≡ K.mul (el d y) (coef K x)
  el_digit y =
      digit (λ x. el d (x * y) ≡ K.mul (el d y) (coef K x))
      (ap (el d) (zero-mul y) ∙ el_zero d ∙ sym (ap (K.mul (el d y)) (coef_0 K) ∙ mul-zero K _))
      (ap (el d) (one-mul y) ∙ sym (ap (K.mul (el d y)) (coef_1 K) ∙ mul-one K _))

  digit_below : (y x : ℕ) → y < 2 ^ s → x < 2 → x * y < 2 ^ s
  digit_below y x l =
      digit (λ x. x * y < 2 ^ s) (let b : 0 < 2 ^ s = pow_pos s in omega (arith, zero-mul y)) (omega (arith, one-mul y)) x

  residue_lt : (f u : ℕ) (l : List ℕ) (c j k : ℕ) → residue s f u l c j k < 2 ^ s
  residue_lt f u l c j zero = rw residue_z (pow_pos s)
  residue_lt f u l c j (suc k) =
      rw residue_s
      (⊕-lt s _ _ (residue_lt f u l c j k)
      (digit_below _ (coefficient j (remainder u f (2 ^ k))) (multiply_lt d _ _) (digit_lt (remainder u f (2 ^ k) / 2 ^ j))))

  el_residue : (f u : ℕ) (l : List ℕ) (c j k : ℕ)
      → el d (residue s f u l c j k)
      ≡ sum K k (λ m. K.mul (sub K (pow K (gen d) c) (series d l) m) (lift K (remainder u f (2 ^ m)) j))
  unfolding series gen
  el_residue f u l c j zero = ap (el d) (residue_z s f u l c j) ∙ el_zero d ∙ sym (sum_z K _)
  el_residue f u l c j (suc k) =
      ap (el d) (residue_s s f u l c j k) ∙ el_add d _ _
      ∙ ap₂ K.add (el_residue f u l c j k)
      (el_digit _ (coefficient j (remainder u f (2 ^ k))) (digit_lt (remainder u f (2 ^ k) / 2 ^ j))
      ∙ ap₂ K.mul
      (el_mul d _ _ ∙ mul_comm K _ _
      ∙ ap (λ x. K.mul x (el d (get_or l k 0))) (el_power d ω (c * k) ∙ pow_mul K (gen d) c k)
      ∙ sym (sub_at K _ _ k))
      (sym (lift_at K j _)))
      ∙ sym (sum_s K k _)

  pub divides_residues : {f u : ℕ} → Modulus f u → (n c : ℕ) (l : List ℕ) → Short n l
      → Divides (Polys K) (lift K f) (sub K (pow K (gen d) c) (series d l)) ↔ ((j : ℕ) → j < u → residue s f u l c j n ≡ 0)
  unfolding series
  divides_residues {f} {u} m n c l h =
      let w = divides_reduced K f u m.lo (modulus_top m) (is_field d) (sub_below K (pow K (gen d) c) below) in (
        λ x j b. el_inj d (residue_lt f u l c j n) (pow_pos s) (is j ∙ w.0 x j b ∙ sym (el_zero d)),
        λ z. w.1 (λ j b. sym (is j) ∙ ap (el d) (z j b) ∙ el_zero d),
      )
    where
      below : Below K n (series d l)
      below = record { at = λ k b. ap (el d) (h.at k b) ∙ el_zero d }

      is : (j : ℕ) → el d (residue s f u l c j n)
          ≡ reduced K f u m.lo (modulus_top m) (sub K (pow K (gen d) c) (series d l)) n j
      is j = el_residue f u l c j n ∙ sym (reduced_at K f u m.lo (modulus_top m) _ n j)
