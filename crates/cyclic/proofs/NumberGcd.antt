-- Euclid's algorithm on numbers, and powers of an element of order n: steps coprime to n.
--
--   gcd a b        the greatest common divisor, by `euclid` in at most b rounds
--   NoFactor a b   a and b are coprime: no number but 1 divides both
--   gcd_one        the gcd is 1 exactly where they are
--   pow_apart      where p is coprime to n, different powers of an element of order n stay different to the p-th
use mathlib.Core.Path.{◌≡◌, sym, ap, ap₂, ◌∙◌, subst}
use mathlib.Core.Logic.{◌↔◌}
use Prim.Native.Nat.{ℕ, zero, suc, ◌+◌ as ◌+ℕ◌, ◌-◌ as ◌-ℕ◌, ◌*◌ as ◌*ℕ◌, ◌/◌, ◌%◌, ◌≤◌, ◌<◌, ◌∣◌}
use native.Mathlib.Nat.{mod-lt, mod-add-div, zero-lt-suc, dvd_refl, dvd-zero, dvd-mod_iff, eq-one_of_dvd-one}
use native.Mathlib.Omega.{arith}
use Rattle.algebra.proofs.Ring.{Ring, mul-one, mul_assoc}
use Rattle.algebra.proofs.Power.{pow, pow_z, pow_1, pow-add, pow_mul, pow_comm, Order, pow_multiple, pow_inj}

-- in at most k rounds
unfoldable pub euclid : ℕ → ℕ → ℕ → ℕ
euclid zero a b = a
euclid (suc k) a zero = a
euclid (suc k) a (suc b) = euclid k (suc b) (a % suc b)

unfoldable pub gcd : ℕ → ℕ → ℕ
gcd a b = euclid b a b

abbrev pub NoFactor : ℕ → ℕ → Type 0
NoFactor a b = (d : ℕ) → d ∣ a → d ∣ b → d ≡ 1

common_divides : (d k a b : ℕ) → d ∣ a → d ∣ b → d ∣ euclid k a b
unfolding euclid
common_divides d zero a b x y = x
common_divides d (suc k) a zero x y = x
common_divides d (suc k) a (suc b) x y = common_divides d k (suc b) (a % suc b) y ((dvd-mod_iff d y).1 x)

divides_both : (k a b : ℕ) → b ≤ k → (euclid k a b ∣ a) × (euclid k a b ∣ b)
unfolding euclid
divides_both zero a b h = let e : b ≡ 0 = omega arith in (dvd_refl a, subst (λ (x : ℕ). a ∣ x) (sym e) (dvd-zero a))
divides_both (suc k) a zero h = (dvd_refl a, dvd-zero a)
divides_both (suc k) a (suc b) h =
    let l : a % suc b < suc b = mod-lt a (zero-lt-suc b) in
    let r = divides_both k (suc b) (a % suc b) (omega arith) in
    ((dvd-mod_iff (euclid k (suc b) (a % suc b)) r.0).0 r.1, r.0)

pub gcd_one : (a b : ℕ) → (gcd a b ≡ 1) ↔ NoFactor a b
unfolding gcd
gcd_one a b = (
  λ e d x y. eq-one_of_dvd-one (subst (λ (g : ℕ). d ∣ g) e (common_divides d b a b x y)),
  λ h. let r = divides_both b a b (omega arith) in h (gcd a b) r.0 r.1,
)

-- α^m is a power of α^p: true of n and of p, and kept by remainders, so true of their gcd
module _ {A : Type 0} (R : Ring A) (α : A) (n : ℕ) (o : Order R α n) (p : ℕ) where
  abbrev Hit : ℕ → Type 0
  Hit m = (x : ℕ) × (pow R (pow R α p) x ≡ pow R α m)

  -- a b⁻¹ with (n - 1)-st powers as inverses
  hit_mod : (a b : ℕ) → Hit a → Hit b → Hit (a % b)
  hit_mod a b s t = (
    s.0 +ℕ t.0 *ℕ q *ℕ (n -ℕ 1),
    pow-add R β s.0 (t.0 *ℕ q *ℕ (n -ℕ 1))
        ∙ ap₂ R.mul (s.1 ∙ ap (pow R α) (sym (mod-add-div a b)) ∙ pow-add R α (a % b) (b *ℕ q)) back
        ∙ mul_assoc R _ _ _
        ∙ ap (λ x. R.mul (pow R α (a % b)) x)
        (sym (pow-add R α (b *ℕ q) (b *ℕ q *ℕ (n -ℕ 1))) ∙ ap (pow R α) (up (b *ℕ q) n o.pos) ∙ pow_multiple R α n o (b *ℕ q))
        ∙ mul-one R _,
  )
    where
      q : ℕ
      q = a / b

      β : A
      β = pow R α p

      back : pow R β (t.0 *ℕ q *ℕ (n -ℕ 1)) ≡ pow R α (b *ℕ q *ℕ (n -ℕ 1))
      back =
          pow_mul R β (t.0 *ℕ q) (n -ℕ 1)
          ∙ ap (λ x. pow R x (n -ℕ 1)) (pow_mul R β t.0 q ∙ ap (λ x. pow R x q) t.1 ∙ sym (pow_mul R α b q))
          ∙ sym (pow_mul R α (b *ℕ q) (n -ℕ 1))

      up : (x m : ℕ) → 0 < m → x +ℕ x *ℕ (m -ℕ 1) ≡ m *ℕ x
      up x zero h = absurd (omega arith)
      up x (suc m) h = let e : suc m -ℕ 1 ≡ m = omega arith in rw e (omega arith)

  hit_euclid : (k a b : ℕ) → Hit a → Hit b → Hit (euclid k a b)
  unfolding euclid
  hit_euclid zero a b s t = s
  hit_euclid (suc k) a zero s t = s
  hit_euclid (suc k) a (suc b) s t = hit_euclid k (suc b) (a % suc b) t (hit_mod a (suc b) s t)

  pub pow_apart : NoFactor n p → (i j : ℕ) → i < n → j < n → pow R (pow R α i) p ≡ pow R (pow R α j) p → i ≡ j
  unfolding gcd
  pow_apart c i j hi hj q = pow_inj R α n o i j hi hj (back i ∙ ap (λ x. pow R x h.0) q ∙ sym (back j))
    where
      h : Hit 1
      h = subst Hit ((gcd_one n p).1 c) (hit_euclid p n p (0, pow_z R _ ∙ sym o.one) (1, pow_1 R _))

      back : (i : ℕ) → pow R α i ≡ pow R (pow R (pow R α i) p) h.0
      back i =
          ap (λ x. pow R x i) (sym (pow_1 R α) ∙ sym h.1) ∙ pow_comm R (pow R α p) h.0 i
          ∙ ap (λ x. pow R x h.0) (pow_comm R α p i)
