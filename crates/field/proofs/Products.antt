-- What is read off the tables: products, and inverses.
--
--   log_lt                       bounds of logarithms
--   none_left, none_right        a product with 0 is 0
--   by_logs, by_log              any other is the power at the sum of the logarithms
--   by_back                      the inverse of an element is the power at the order less its logarithm
use mathlib.Core.Path.{◌≡◌, sym, ap, ap₂, ◌∙◌, subst}
use mathlib.Core.Logic.{◌≢◌}
use mathlib.Core.List.{List, [], ◌∷◌}
use Prim.Native.Nat.{ℕ, ◌+◌, ◌-◌, ◌*◌, ◌^◌, ◌≤◌, ◌<◌}
use native.Mathlib.Omega.{arith}
use lib.ListN.{get_or}
use Rattle.field.specs.Field.{ω, field_multiply, field_power, logarithm, inverses}
use Rattle.field.proofs.Numbers.{power_add, power_lt, power_order, logarithm_lt, logarithm_is, multiply_zero, zero_multiply, inverses_by}
use Rattle.field.specs.Tables.{Tables}

pub log_lt : {s : ℕ} {e g : List ℕ} {a i : ℕ} → Tables s e g → a < 2 ^ s → a ≢ 0 → i ≡ logarithm s a → i < 2 ^ s - 1
log_lt {s} {e} {g} {a} {i} t h n q = subst (λ (k : ℕ). k < 2 ^ s - 1) (sym q) (logarithm_lt t.degree a h n)

pub by_logs : {s : ℕ} {e g : List ℕ} {a b i j : ℕ} → Tables s e g → a < 2 ^ s → b < 2 ^ s → a ≢ 0 → b ≢ 0 → i ≡ logarithm s a
    → j ≡ logarithm s b → get_or e (i + j) 0 ≡ field_multiply s a b
by_logs {s} {e} {g} {a} {b} {i} {j} t ha hb na nb p q =
    let li : i < 2 ^ s - 1 = log_lt t ha na p in
    let lj : j < 2 ^ s - 1 = log_lt t hb nb q in
    t.e_at (i + j) (omega (arith, t.e_long)) ∙ sym (power_add t.degree ω i j)
    ∙ ap₂ (field_multiply s) (ap (field_power s ω) p ∙ logarithm_is t.degree a ha na)
    (ap (field_power s ω) q ∙ logarithm_is t.degree b hb nb)

pub none_left : {s : ℕ} {e g : List ℕ} {a : ℕ} (b : ℕ) → Tables s e g → a ≡ 0 → 0 ≡ field_multiply s a b
none_left {s} b t z = sym (ap (λ (x : ℕ). field_multiply s x b) z ∙ zero_multiply t.degree b)

pub none_right : {s : ℕ} {e g : List ℕ} (a : ℕ) {b : ℕ} → Tables s e g → b ≡ 0 → 0 ≡ field_multiply s a b
none_right {s} a t z = sym (ap (field_multiply s a) z ∙ multiply_zero t.degree a)

-- the sum of two logarithms is an index of the powers
pub by_log : {s : ℕ} {e g : List ℕ} {a k i : ℕ} → Tables s e g → k ≤ 2 * (2 ^ s - 1) → a < 2 ^ s → a ≢ 0 → i ≡ logarithm s a
    → get_or e (k + i) 0 ≡ field_multiply s (field_power s ω k) a
by_log {s} {e} {g} {a} {k} {i} t lk h n q =
    let li : i < 2 ^ s - 1 = log_lt t h n q in
    t.e_at (k + i) (omega (arith, t.e_long)) ∙ sym (power_add t.degree ω k i)
    ∙ ap (field_multiply s (field_power s ω k)) (ap (field_power s ω) q ∙ logarithm_is t.degree a h n)

pub by_back : {s : ℕ} {e g : List ℕ} {a i n : ℕ} → Tables s e g → a < 2 ^ s → a ≢ 0 → i ≡ logarithm s a → n ≡ 2 ^ s - 1
    → get_or e (n - i) 0 ∷ [] ≡ inverses s a
by_back {s} {e} {g} {a} {i} {n} t h z q o =
    let li : i < 2 ^ s - 1 = log_lt t h z q in
    let at : get_or e (n - i) 0 ≡ field_power s ω (n - i) = t.e_at (n - i) (omega (arith, t.e_long)) in
    let back : i + (n - i) ≡ 2 ^ s - 1 = omega arith in
    inverses_by t.degree a (get_or e (n - i) 0) h z (subst (λ (x : ℕ). x < 2 ^ s) (sym at) (power_lt t.degree ω (n - i)))
    (ap₂ (field_multiply s) (sym (logarithm_is t.degree a h z) ∙ ap (field_power s ω) (sym q)) at
    ∙ power_add t.degree ω i (n - i) ∙ ap (field_power s ω) back ∙ power_order t.degree)
