-- Euclid's algorithm on masks.
--
--   NoCommon f h      f and h have no common factor but 1
--   Comb f h a        a is a sum of multiples of f and of h
--   mask_gcd f h       the greatest common divisor; Gcd a b g: what that means; gcd_is: it is
--   divisor_le        a divisor of a mask that is not 0 is at most that mask; unit: a divisor of 1 is 1
--   gcd_one           it is 1 exactly where there is no common factor
--   bezout, no_common      and exactly where 1 is such a sum
--   lift_coprime      the polynomials over any ring are coprime then
use mathlib.Core.Path.{◌≡◌, refl, sym, ap, ap₂, ◌∙◌, subst}
use mathlib.Core.Logic.{◌≢◌, ◌↔◌}
use Prim.Native.Nat.{ℕ, zero, suc, ◌+◌, ◌-◌, ◌^◌, ◌≤◌, ◌<◌}
use native.Mathlib.Nat.{div-one}
use native.Mathlib.Decide.{dec_lt}
use native.Mathlib.Omega.{arith}
use lib.Dec.{lit≤}
use lib.Pow.{pow_mono}
use Rattle.algebra.proofs.Ring.{Ring}
use Rattle.algebra.proofs.Coprime.{Coprime}
use Rattle.algebra.proofs.Series.{Ser}
use Rattle.algebra.proofs.Poly.{Polys}
use Rattle.algebra.proofs.Divide.{Deg, Deg-mul}
use Rattle.field.specs.Mask.{◌⊕◌, size, clmul, remainder}
use Rattle.field.specs.Field.{Degree}
use Rattle.field.proofs.Xor.{⊕-zero-r, ⊕-norm}
use Rattle.field.proofs.MaskProduct.{size_lt, clmul_add_l, clmul_add_r, clmul_zero_l, clmul_zero_r}
use Rattle.field.proofs.MaskProduct.{clmul_one_l, clmul_one_r, clmul_comm, clmul_assoc}
use Rattle.field.proofs.Elements.{F, GF, is_field}
use Rattle.cyclic.proofs.Division.{◌∣ₘ◌, divides_add, divides_multiple, divide, size_le, degree_of}
use Rattle.cyclic.proofs.Monic.{monic_deg}
use Rattle.cyclic.proofs.Lift.{lift, lift_add, lift_mul, lift_one, lift_below, lift_poly, lift_monic}

abbrev pub NoCommon : ℕ → ℕ → Type 0
NoCommon f h = (d : ℕ) → d ∣ₘ f → d ∣ₘ h → d ≡ 1

abbrev pub Comb : ℕ → ℕ → ℕ → Type 0
Comb f h a = (u : ℕ) × (v : ℕ) × (clmul u f ⊕ clmul v h ≡ a)

-- ---- Euclid, in at most k rounds
unfoldable pub euclid : ℕ → ℕ → ℕ → ℕ
euclid zero a b = a
euclid (suc k) a zero = a
euclid (suc k) a (suc b) = euclid k (suc b) (remainder (size (suc b) - 1) (suc b) a)

unfoldable pub mask_gcd : ℕ → ℕ → ℕ
mask_gcd f h = euclid h f h

pub record Gcd (a b g : ℕ) : Type 0 where
  pub comb : Comb a b g
  pub div_a : g ∣ₘ a
  pub div_b : g ∣ₘ b

gcd_zero : (a : ℕ) → Gcd a 0 a
gcd_zero a = record {
  comb = (1, 0, ap₂ ◌⊕◌ (clmul_one_l a) (clmul_zero_l 0) ∙ ⊕-zero-r a);
  div_a = (1, sym (clmul_one_r a));
  div_b = (0, sym (clmul_zero_r a));
}

regroup : (u v q b r : ℕ) → clmul v (clmul b q ⊕ r) ⊕ clmul (u ⊕ clmul v q) b ≡ clmul u b ⊕ clmul v r
regroup u v q b r =
    ap₂ ◌⊕◌ (clmul_add_r v (clmul b q) r) (clmul_add_l b u (clmul v q))
    ∙ ap (λ (x : ℕ). x ⊕ clmul v r ⊕ (clmul u b ⊕ clmul (clmul v q) b)) (ap (clmul v) (clmul_comm b q) ∙ sym (clmul_assoc v q b))
    ∙ sort (clmul (clmul v q) b) (clmul v r) (clmul u b)
  where
    sort : (x y z : ℕ) → x ⊕ y ⊕ (z ⊕ x) ≡ z ⊕ y
    sort x y z = simp ⊕-norm

gcd_next : (a b q r g : ℕ) → a ≡ clmul b q ⊕ r → Gcd b r g → Gcd a b g
gcd_next a b q r g e z =
    let c = z.comb in
    record {
      comb = (
        c.1,
        c.0 ⊕ clmul c.1 q,
        ap (λ (x : ℕ). clmul c.1 x ⊕ clmul (c.0 ⊕ clmul c.1 q) b) e ∙ regroup c.0 c.1 q b r ∙ c.2,
      );
      div_a =
          subst (λ (x : ℕ). g ∣ₘ x) (sym (e ∙ ap (λ (x : ℕ). x ⊕ r) (clmul_comm b q)))
          (divides_add g (clmul q b) r (divides_multiple g b q z.div_a) z.div_b);
      div_b = z.div_a;
    }

euclid_is : (k a b : ℕ) → b ≤ k → Gcd a b (euclid k a b)
unfolding euclid
euclid_is zero a b h = let e : 0 ≡ b = omega arith in subst (λ (x : ℕ). Gcd a x a) e (gcd_zero a)
euclid_is (suc k) a zero h = gcd_zero a
euclid_is (suc k) a (suc b) h = go (size (suc b)) refl (euclid_is k (suc b))
  where
    go : (n : ℕ) → size (suc b) ≡ n → ((r : ℕ) → r ≤ k → Gcd (suc b) r (euclid k (suc b) r))
        → Gcd a (suc b) (euclid k (suc b) (remainder (n - 1) (suc b) a))
    go zero e ih = let l : suc b < 2 ^ 0 = subst (λ (m : ℕ). suc b < 2 ^ m) e (size_lt (suc b)) in absurd (omega arith)
    go (suc s) e ih =
        let w = divide s (suc b) (degree_of (suc b) s e) a in
        let q : suc s - 1 ≡ s = omega arith in
        rw q
        (gcd_next a (suc b) w.quo (remainder s (suc b) a) _ w.eq
        (ih (remainder s (suc b) a) (omega (arith, w.small, size_le (suc b) s (omega arith)))))

pub gcd_is : (f h : ℕ) → Gcd f h (mask_gcd f h)
unfolding mask_gcd
gcd_is f h = euclid_is h f h (omega arith)

-- ---- what a result of 1 says
-- looked at over any field: degrees add up, so a proper multiple is longer than its divisor
pub divisor_le : (d f : ℕ) → 0 < f → d ∣ₘ f → d ≤ f
divisor_le d f pos w = go (size w.0) refl (size d) refl
  where
    D : Degree 2
    D = record { lo = lit≤ tt; hi = lit≤ tt }

    R : Ring (F 2)
    R = GF D

    deg : (a n : ℕ) → size a ≡ suc n → Deg R n (lift R a)
    deg a n e = monic_deg R (is_field D) (lift_monic R a (degree_of a n e))

    none : (a : ℕ) → size a ≡ 0 → a ≡ 0
    none a e = let l : a < 2 ^ 0 = subst (λ (k : ℕ). a < 2 ^ k) e (size_lt a) in omega arith

    long : (a b : ℕ) → size d ≡ suc a → size w.0 ≡ suc b → 2 ^ (a + b) ≤ f
    long a b p q =
        elim (dec_lt f (2 ^ (a + b))) [
          | yes l ↦
              absurd
              ((Deg-mul R (is_field D) (deg d a p) (deg w.0 b q)).top
              (ap (λ s. s (a + b)) (sym (lift_mul R d w.0) ∙ ap (lift R) (sym w.1)) ∙ (lift_below R l).at (a + b) (omega arith)))
          | no l ↦ omega arith
        ]

    go : (n : ℕ) → size w.0 ≡ n → (m : ℕ) → size d ≡ m → d ≤ f
    go zero q m p =
        let z : f ≡ 0 = w.1 ∙ ap (clmul d) (none w.0 q) ∙ clmul_zero_r d in
        absurd (omega arith)
    go (suc zero) q m p =
        let e : f ≡ d = w.1 ∙ ap (clmul d) (sym (div-one w.0) ∙ degree_of w.0 0 q) ∙ clmul_one_r d in
        omega arith
    go (suc (suc b)) q zero p = let z : d ≡ 0 = none d p in omega arith
    go (suc (suc b)) q (suc a) p =
        let l : d < 2 ^ suc a = subst (λ (k : ℕ). d < 2 ^ k) p (size_lt d) in
        let k : 2 ^ suc a ≤ 2 ^ (a + suc b) = pow_mono (omega arith) in
        omega (arith, long a (suc b) p q)

pub unit : (a b : ℕ) → 1 ≡ clmul a b → a ≡ 1
unit a b e =
    let l : a ≤ 1 = divisor_le a 1 (omega arith) (b, e) in
    let n : a ≢ 0 = λ z. let o : ◌≡◌ {A = ℕ} 1 0 = e ∙ ap (λ (x : ℕ). clmul x b) z ∙ clmul_zero_l b in omega arith in
    omega arith

pub no_common : (f h : ℕ) → Comb f h 1 → NoCommon f h
no_common f h c d x y =
    let w : d ∣ₘ clmul c.0 f ⊕ clmul c.1 h =
    divides_add d (clmul c.0 f) (clmul c.1 h) (divides_multiple d f c.0 x) (divides_multiple d h c.1 y) in
    unit d w.0 (sym c.2 ∙ w.1)

pub gcd_one : (f h : ℕ) → (mask_gcd f h ≡ 1) ↔ NoCommon f h
gcd_one f h =
    let z = gcd_is f h in
    (λ e. no_common f h (subst (Comb f h) e z.comb), λ n. n (mask_gcd f h) z.div_a z.div_b)

pub bezout : (f h : ℕ) → NoCommon f h → Comb f h 1
bezout f h n = subst (Comb f h) ((gcd_one f h).1 n) (gcd_is f h).comb

module _ {A : Type 0} (R : Ring A) where
  pub lift_coprime : (f h : ℕ) → NoCommon f h → Coprime (Polys R) (lift R f) (lift R h)
  lift_coprime f h n =
      let c = bezout f h n in
      record {
        u = lift R c.0;
        v = lift R c.1;
        u_in = lift_poly R c.0;
        v_in = lift_poly R c.1;
        eq =
            ap₂ (Ser R).add (sym (lift_mul R c.0 f)) (sym (lift_mul R c.1 h)) ∙ sym (lift_add R _ _)
            ∙ ap (lift R) c.2 ∙ lift_one R;
      }
