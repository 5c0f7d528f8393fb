-- Division of masks by any mask but 0. The field's laws ask for a degree above 0; these hold for the mask 1 as well.
--
--   a ∣ₘ b            b is a multiple of a: divides_add, divides_multiple
--   divide            quotient and remainder; remainder_is: there is but one remainder
--   divides_iff       p divides a exactly where the remainder is 0
--   size_le, degree_of      the degree of a mask by its size
use mathlib.Core.Path.{◌≡◌, sym, ap, ap₂, ◌∙◌, subst}
use mathlib.Core.Logic.{◌↔◌}
use Prim.Native.Nat.{ℕ, zero, suc, ◌*◌, ◌/◌, ◌%◌, ◌^◌, ◌≤◌, ◌<◌}
use native.Mathlib.Nat.{div-one, zero-add, one-mul, zero-lt-suc, mod-eq_of_lt, div-lt_iff_lt-mul, pow-succ'}
use native.Mathlib.Omega.{arith}
use lib.Dec.{ltb}
use lib.Pow.{pow_pos, shl-shr}
use borrow.Author.Tests.{ltb-false}
use Rattle.field.specs.Mask.{◌⊕◌, coefficient, size, clmul, divide_down, remainder}
use Rattle.field.proofs.Search.{least_is}
use Rattle.field.proofs.Xor.{⊕-zero-r, ⊕-self, ⊕-shr}
use Rattle.field.proofs.MaskProduct.{size_lt, clmul_add_r, clmul_one_l, clmul_comm, clmul_assoc}
use Rattle.field.proofs.Remainder.{deg_of, lt_of_high, remainder_lt, remainder_unique, quotient}

infix 50 ◌∣ₘ◌
abbrev pub ◌∣ₘ◌ : ℕ → ℕ → Type 0
◌∣ₘ◌ a b = (q : ℕ) × (b ≡ clmul a q)

pub divides_add : (d a b : ℕ) → d ∣ₘ a → d ∣ₘ b → d ∣ₘ a ⊕ b
divides_add d a b x y = (x.0 ⊕ y.0, ap₂ ◌⊕◌ x.1 y.1 ∙ sym (clmul_add_r d x.0 y.0))

pub divides_multiple : (d a b : ℕ) → d ∣ₘ a → d ∣ₘ clmul b a
divides_multiple d a b x =
    (clmul x.0 b, ap (clmul b) x.1 ∙ clmul_comm b (clmul d x.0) ∙ clmul_assoc d x.0 b)

-- ---- by the mask 1: every coefficient is struck out
strike : (i a : ℕ) → a < 2 ^ suc i → a ⊕ coefficient i a * (1 * 2 ^ i) < 2 ^ i
strike i a h =
    lt_of_high i
    (⊕-shr a (t % 2 * (1 * 2 ^ i)) i
    ∙ ap (λ (x : ℕ). t ⊕ x) (ap₂ (λ (x y : ℕ). x * y / 2 ^ i) (mod-eq_of_lt t_lt) (one-mul (2 ^ i)) ∙ shl-shr t i) ∙ ⊕-self t)
  where
    t : ℕ
    t = a / 2 ^ i

    t_lt : t < 2
    t_lt = (div-lt_iff_lt-mul (pow_pos i)).1 (subst (λ (x : ℕ). a < x) (pow-succ' 2 i) h)

by_one : (n a : ℕ) → a < 2 ^ n → divide_down 0 1 n a ≡ 0
unfolding divide_down
by_one zero a h = omega arith
by_one (suc i) a h =
    ap (λ (k : ℕ). divide_down 0 1 i (a ⊕ coefficient k a * (1 * 2 ^ i))) (zero-add i) ∙ by_one i _ (strike i a h)

remainder_one : (p : ℕ) → p / 2 ^ 0 ≡ 1 → (a : ℕ) → remainder 0 p a ≡ 0
unfolding remainder
remainder_one p e a =
    ap (λ (x : ℕ). divide_down 0 x (size a) a) (sym (div-one p) ∙ e) ∙ by_one (size a) a (size_lt a)

-- ---- by any mask p of degree s
pub record Division (s p a : ℕ) : Type 0 where
  pub quo : ℕ
  pub eq : a ≡ clmul p quo ⊕ remainder s p a
  pub small : remainder s p a < 2 ^ s

pub divide : (s p : ℕ) → p / 2 ^ s ≡ 1 → (a : ℕ) → Division s p a
divide zero p e a =
    let z : remainder 0 p a ≡ 0 = remainder_one p e a in
    record {
      quo = a;
      eq = sym (ap₂ (λ (x y : ℕ). clmul x a ⊕ y) (sym (div-one p) ∙ e) z ∙ ⊕-zero-r (clmul 1 a) ∙ clmul_one_l a);
      small = omega arith;
    }
divide (suc s) p e a =
    let w = quotient (suc s) p (zero-lt-suc s) e a in
    record { quo = w.0; eq = w.1; small = remainder_lt (suc s) p (zero-lt-suc s) e a }

pub remainder_is : (s p : ℕ) → p / 2 ^ s ≡ 1 → (a q r : ℕ) → r < 2 ^ s → a ≡ clmul p q ⊕ r → r ≡ remainder s p a
remainder_is zero p e a q r h w = let z : remainder 0 p a ≡ 0 = remainder_one p e a in omega arith
remainder_is (suc s) p e a q r h w = remainder_unique (suc s) p (zero-lt-suc s) e a q r h w

pub divides_iff : (s p : ℕ) → p / 2 ^ s ≡ 1 → (a : ℕ) → (p ∣ₘ a) ↔ (remainder s p a ≡ 0)
divides_iff s p e a = (
  λ w. sym (remainder_is s p e a w.0 0 (pow_pos s) (w.1 ∙ sym (⊕-zero-r _))),
  λ z. let w = divide s p e a in (w.quo, w.eq ∙ ap (λ (x : ℕ). clmul p w.quo ⊕ x) z ∙ ⊕-zero-r _),
)

pub size_le : (b k : ℕ) → k < size b → 2 ^ k ≤ b
unfolding size
size_le b k h = ltb-false b (2 ^ k) ((least_is (λ n. ltb b (2 ^ n)) b).before k h)

pub degree_of : (b n : ℕ) → size b ≡ suc n → b / 2 ^ n ≡ 1
degree_of b n e = deg_of n b (size_le b n (omega arith)) (subst (λ (k : ℕ). b < 2 ^ k) e (size_lt b))
