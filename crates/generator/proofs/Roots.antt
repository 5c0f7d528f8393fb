-- The roots α^x as powers of ω: α is ω to the power q = (2^s - 1) / n.
--
--   power_by         ω^(x q) is the x-th power of ω^q
--   index_lt         x q is below the order of ω, where x is below n
--   root_is          ω^(x q) is α^x
--   squared          the root of 2x modulo n is the square of that of x
use mathlib.Core.Path.{◌≡◌, sym, ap, ◌∙◌, subst}
use Prim.Native.Nat.{ℕ, zero, suc, ◌+◌, ◌-◌, ◌*◌, ◌/◌, ◌%◌, ◌^◌, ◌≤◌, ◌<◌}
use native.Mathlib.Nat.{add_comm, mul_comm, suc-mul, div-mul-le_self, mul-le-mul_right}
use native.Mathlib.Omega.{arith}
use Rattle.algebra.proofs.Power.{pow, pow_mul}
use Rattle.field.specs.Field.{Degree, ω, field_multiply, field_power, α}
use Rattle.field.proofs.Primitive.{Degree-bounds}
use Rattle.field.proofs.Elements.{GF, gen, el_inj}
use Rattle.field.proofs.Numbers.{power_add, power_lt, el_power}
use Rattle.document.proofs.Theory.{root_mod}
use Rattle.generator.specs.Coset.{CosetOf}
use Rattle.generator.proofs.CosetWalk.{length_stated, degree_of}

power_by : {s : ℕ} (d : Degree s) (q x : ℕ) → field_power s ω (x * q) ≡ field_power s (field_power s ω q) x
unfolding gen
power_by {s} d q x =
    el_inj d (power_lt d ω (x * q)) (power_lt d (field_power s ω q) x)
    (el_power d ω (x * q) ∙ ap (pow (GF d) (gen d)) (mul_comm x q) ∙ pow_mul (GF d) (gen d) q x
    ∙ sym (el_power d (field_power s ω q) x ∙ ap (λ y. pow (GF d) y x) (el_power d ω q)))

below : (x q n N : ℕ) → x < n → q * n ≤ N → 0 < N → x * q < N
below x zero n N h l p = let z : x * 0 ≡ 0 = omega arith in omega arith
below x (suc q) n N h l p =
    let a : suc x * suc q ≤ n * suc q = mul-le-mul_right (suc q) h in
    let b : n * suc q ≡ suc q * n = mul_comm n (suc q) in
    let c : suc x * suc q ≡ suc q + x * suc q = suc-mul x (suc q) ∙ add_comm (x * suc q) (suc q) in
    omega arith

module _ {s q : ℕ} (d : Degree s) (n : ℕ) (k : q ≡ (2 ^ s - 1) / n) where
  pub index_lt : (x : ℕ) → x < n → x * q < 2 ^ s - 1
  index_lt x l =
      below x q n (2 ^ s - 1) l (subst (λ (y : ℕ). y * n ≤ 2 ^ s - 1) (sym k) (div-mul-le_self (2 ^ s - 1) n))
      (omega (arith, (Degree-bounds d).0))

  pub root_is : (x : ℕ) → field_power s ω (x * q) ≡ field_power s (α s n) x
  unfolding α
  root_is x = power_by d q x ∙ ap (λ (y : ℕ). field_power s (field_power s ω y) x) k

module _ {n s r : ℕ} (c : CosetOf n s r) where
  root_at : (k : ℕ) → field_power s (α s n) (k % n) ≡ field_power s (α s n) k
  root_at =
      subst (λ (s : ℕ). (k : ℕ) → field_power s (α s n) (k % n) ≡ field_power s (α s n) k) (sym c.s_is) (root_mod (length_stated c))

  pub squared : (x : ℕ) {y root next : ℕ} → root ≡ field_power s (α s n) x → y ≡ x * 2 % n → next ≡ field_multiply s root root
      → next ≡ field_power s (α s n) y
  squared x {y} {root} {next} e f t =
      let double : x + x ≡ x * 2 = omega arith in
      t ∙ ap (λ (b : ℕ). field_multiply s b b) e ∙ power_add (degree_of c) (α s n) x x
      ∙ ap (field_power s (α s n)) double ∙ sym (root_at (x * 2)) ∙ ap (field_power s (α s n)) (sym f)
