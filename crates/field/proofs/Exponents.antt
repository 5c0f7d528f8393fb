-- Exponents of ω, which come round after 2^s - 1.
--
--   power_mod         an exponent may be replaced by its remainder, also under a factor
--   masked, folded_lt, power_folded      or by the sum of its low and its high part
--   exponent_lt       an exponent more than the product of two
--   looked, looked_next, looked_on      a power read off the table, that of the next place, and of the j-th after it
--   powered_of        the powers alone
use mathlib.Core.Path.{◌≡◌, sym, ap, ◌∙◌}
use mathlib.Core.List.{List}
use Prim.Native.Nat.{ℕ, zero, suc, ◌+◌, ◌-◌, ◌*◌, ◌/◌, ◌%◌, ◌^◌, ◌≤◌, ◌<◌}
use native.Mathlib.Nat.{add-mul, div-add-mod', div-lt_iff_lt-mul, mod-lt, mul-add, mul_assoc, mul-le-mul, mul-one, one-mul, suc-mul, zero-mul}
use native.Mathlib.Omega.{arith}
use lib.Bits.{bit_and, and_mask}
use lib.ListN.{get_or}
use lib.Pow.{pow_pos}
use Rattle.field.specs.Field.{Degree, ω, field_power}
use Rattle.field.proofs.Numbers.{power_round}
use Rattle.field.specs.Tables.{Powered, Tables}

module _ {s : ℕ} (d : Degree s) where
  power_rounds : (k b : ℕ) → field_power s ω (k + b * (2 ^ s - 1)) ≡ field_power s ω k
  power_rounds k zero = let e : k + 0 * (2 ^ s - 1) ≡ k = omega (arith, zero-mul (2 ^ s - 1)) in ap (field_power s ω) e
  power_rounds k (suc b) =
      let e : k + suc b * (2 ^ s - 1) ≡ k + b * (2 ^ s - 1) + (2 ^ s - 1) = omega (arith, suc-mul b (2 ^ s - 1)) in
      ap (field_power s ω) e ∙ power_round d (k + b * (2 ^ s - 1)) ∙ power_rounds k b

  pub power_mod : (l i m : ℕ) → field_power s ω (l + i * (m % (2 ^ s - 1))) ≡ field_power s ω (l + i * m)
  power_mod l i m =
      let N : ℕ = 2 ^ s - 1 in
      let whole : m / N * N + m % N ≡ m = div-add-mod' m N in
      let times : i * (m / N * N + m % N) ≡ i * (m / N * N) + i * (m % N) = mul-add i (m / N * N) (m % N) in
      let apart : i * (m / N * N) ≡ i * (m / N) * N = sym (mul_assoc i (m / N) N) in
      let e : l + i * (m / N * N + m % N) ≡ l + i * (m % N) + i * (m / N) * N = omega arith in
      sym
      (ap (λ (x : ℕ). field_power s ω (l + i * x)) (sym whole) ∙ ap (field_power s ω) e
      ∙ power_rounds (l + i * (m % N)) (i * (m / N)))

  -- ---- y = high 2^s + low is high + low, and high rounds
  pub power_folded : (l y : ℕ) → field_power s ω (l + (y % 2 ^ s + y / 2 ^ s)) ≡ field_power s ω (l + y)
  power_folded l y =
      let b : 0 < 2 ^ s = pow_pos s in
      let whole : y / 2 ^ s * 2 ^ s + y % 2 ^ s ≡ y = div-add-mod' y (2 ^ s) in
      let one : 2 ^ s ≡ 2 ^ s - 1 + 1 = omega arith in
      let high : y / 2 ^ s * 2 ^ s ≡ y / 2 ^ s * (2 ^ s - 1) + y / 2 ^ s =
      ap (λ (x : ℕ). y / 2 ^ s * x) one ∙ mul-add (y / 2 ^ s) (2 ^ s - 1) 1
      ∙ ap (λ (x : ℕ). y / 2 ^ s * (2 ^ s - 1) + x) (mul-one (y / 2 ^ s)) in
      let e : l + (y % 2 ^ s + y / 2 ^ s) + y / 2 ^ s * (2 ^ s - 1) ≡ l + y = omega arith in
      sym (power_rounds (l + (y % 2 ^ s + y / 2 ^ s)) (y / 2 ^ s)) ∙ ap (field_power s ω) e

pub masked : {end : ℕ} (s y : ℕ) → end ≡ 2 ^ s - 1 → bit_and y end ≡ y % 2 ^ s
masked s y o = ap (bit_and y) o ∙ and_mask y s

pub folded_lt : (s y : ℕ) → y < (2 ^ s - 1) * 2 ^ s → (y % 2 ^ s < 2 ^ s) × (y / 2 ^ s < 2 ^ s - 1)
folded_lt s y h = (mod-lt y (pow_pos s), (div-lt_iff_lt-mul (pow_pos s)).1 h)

pub exponent_lt : (s l i a : ℕ) → l < 2 ^ s - 1 → i < 2 ^ s - 1 → a < 2 ^ s - 1 → l + i * a < (2 ^ s - 1) * 2 ^ s
exponent_lt s l i a k h m =
    let q : i * a ≤ (2 ^ s - 1) * (2 ^ s - 1) = mul-le-mul (omega arith) (omega arith) in
    let one : 2 ^ s ≡ 2 ^ s - 1 + 1 = omega (arith, pow_pos s) in
    let e : (2 ^ s - 1) * 2 ^ s ≡ (2 ^ s - 1) * (2 ^ s - 1) + (2 ^ s - 1) =
    ap (λ (x : ℕ). (2 ^ s - 1) * x) one ∙ mul-add (2 ^ s - 1) (2 ^ s - 1) 1
    ∙ ap (λ (x : ℕ). (2 ^ s - 1) * (2 ^ s - 1) + x) (mul-one (2 ^ s - 1)) in
    omega arith

-- the j-th place after is j steps on
pub looked_on : {s y : ℕ} (l i a j : ℕ) {e : List ℕ} → Powered s e → y ≡ (l + i * a) % 2 ^ s + (l + i * a) / 2 ^ s → y < 2 * (2 ^ s - 1)
    → a < 2 ^ s - 1 → j ≤ 3 → get_or e (y + j * a) 0 ≡ field_power s ω (l + (i + j) * a)
looked_on {s} {y} l i a j {e} p q b h u =
    let x : ℕ = (l + i * a) % 2 ^ s + (l + i * a) / 2 ^ s in
    let le : j * a ≤ 3 * a = mul-le-mul {n₁ = j} {m₁ = a} {n₂ = 3} {m₂ = a} u (omega arith) in
    let m : y + j * a ≡ j * a + x = omega arith in
    let k : j * a + (l + i * a) ≡ l + (i + j) * a = omega (arith, add-mul i j a) in
    p.powers.at (y + j * a) (omega arith) ∙ ap (field_power s ω) m ∙ power_folded p.degree (j * a) (l + i * a)
    ∙ ap (field_power s ω) k

pub looked_next : {s y : ℕ} (l i a : ℕ) {e : List ℕ} → Powered s e → y ≡ (l + i * a) % 2 ^ s + (l + i * a) / 2 ^ s → y < 2 * (2 ^ s - 1)
    → a < 2 ^ s - 1 → get_or e (y + a) 0 ≡ field_power s ω (l + (i + 1) * a)
looked_next {y = y} l i a {e} p q b h =
    ap (λ (x : ℕ). get_or e (y + x) 0) (sym (one-mul a)) ∙ looked_on l i a 1 p q b h (omega arith)

pub looked : {s y : ℕ} (l i a : ℕ) {e : List ℕ} → Powered s e → y ≡ (l + i * a) % 2 ^ s + (l + i * a) / 2 ^ s → y < 2 * (2 ^ s - 1)
    → get_or e y 0 ≡ field_power s ω (l + i * a)
looked {s} {y} l i a p q b =
    let m : (l + i * a) % 2 ^ s + (l + i * a) / 2 ^ s ≡ 0 + ((l + i * a) % 2 ^ s + (l + i * a) / 2 ^ s) = omega arith in
    let k : 0 + (l + i * a) ≡ l + i * a = omega arith in
    p.powers.at y (omega arith) ∙ ap (field_power s ω) (q ∙ m) ∙ power_folded p.degree 0 (l + i * a) ∙ ap (field_power s ω) k

pub powered_of : {s : ℕ} {e g : List ℕ} → Tables s e g → Powered s e
powered_of t = record { degree = t.degree; e_long = t.e_long; powers = record { at = t.e_at } }
