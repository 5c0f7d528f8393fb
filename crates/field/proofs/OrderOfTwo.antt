-- The order of 2 modulo an odd number n: it exists, and is below n.
--
--   mul_mod         a product modulo n by its first factor modulo n
--   halves          n odd: doubles are equal modulo n only where the numbers are
--   one_iff         2^k leaves 1 exactly when n divides 2^k - 1
--   order_pos, order_divides, order_mod, order_least, order_lt      n divides 2^s - 1 for s = order_of_two n, for no smaller s above 0, and s < n
--   count_start, count_on, count_more, count_lt, count_end      the count of the code
use mathlib.Core.Path.{◌≡◌, refl, sym, ap, ◌∙◌, subst}
use mathlib.Core.Logic.{◌≢◌, ◌↔◌}
use mathlib.Core.Bool.{Bool}
use Prim.Native.Nat.{ℕ, zero, suc, pred, ◌+◌, ◌-◌, ◌*◌, ◌/◌, ◌%◌, ◌^◌, ◌≤◌, ◌<◌, ◌∣◌}
use native.Mathlib.Nat.{mod-lt, mod-eq_of_lt, mod-add-div, add-mul, add-mul-mod_self_left, mul_assoc, mul_comm}
use native.Mathlib.Nat.{mul-add-mod_self_left, mul-mod_right, div-add-mod, dvd_of_mod-eq-zero, pow-suc, zero-mod}
use native.Mathlib.Nat.{one-mul}
use native.Mathlib.Decide.{dec_lt}
use native.Mathlib.Numerals.{add-one}
use native.Mathlib.Omega.{arith}
use lib.Dec.{eqb}
use lib.Pow.{pow_pos}
use borrow.Author.Tests.{eqb-true, eqb-false, eq-eqb}
use Rattle.field.specs.Search.{least}
use Rattle.field.specs.Field.{OddLength, order_of_two}
use Rattle.field.proofs.Search.{least_is, least_most}
use Rattle.field.proofs.Pigeonhole.{collision}

pub mul_mod : (a b n : ℕ) → a % n * b % n ≡ a * b % n
mul_mod a b n =
    sym
    (ap (λ (x : ℕ). x * b % n) (sym (mod-add-div a n))
    ∙ ap (λ (x : ℕ). x % n) (add-mul (a % n) (n * (a / n)) b ∙ ap (λ (x : ℕ). a % n * b + x) (mul_assoc n (a / n) b))
    ∙ add-mul-mod_self_left (a % n * b) n (a / n * b))

module _ {n : ℕ} (o : OddLength n) where
  -- (n + 1) / 2 is the inverse of 2
  undouble : (x : ℕ) → x * 2 % n * ((n + 1) / 2) % n ≡ x % n
  undouble x =
      let h : 2 * ((n + 1) / 2) ≡ n + 1 = omega (arith, o.odd) in
      mul_mod (x * 2) ((n + 1) / 2) n ∙ ap (λ (y : ℕ). y % n) (mul_assoc x 2 ((n + 1) / 2) ∙ ap (λ (y : ℕ). x * y) h ∙ split)
      ∙ mul-add-mod_self_left n x x
    where
      split : x * (n + 1) ≡ n * x + x
      split = mul_comm x (n + 1) ∙ add-mul n 1 x ∙ ap (λ (y : ℕ). n * x + y) (one-mul x)

  pub halves : (x y : ℕ) → x * 2 % n ≡ y * 2 % n → x % n ≡ y % n
  halves x y e = sym (undouble x) ∙ ap (λ (z : ℕ). z * ((n + 1) / 2) % n) e ∙ undouble y

  one_mod : 1 % n ≡ 1
  one_mod = mod-eq_of_lt (omega (arith, o.least))

  pow_ne : (k : ℕ) → 2 ^ k % n ≢ 0
  pow_ne zero e = let q : 1 % n ≡ 1 = one_mod in let z : 1 % n ≡ 0 = e in omega arith
  pow_ne (suc k) e = pow_ne k (halves (2 ^ k) 0 (ap (λ (x : ℕ). x % n) (sym (pow-suc 2 k)) ∙ e ∙ sym (zero-mod n)) ∙ zero-mod n)

  -- powers that meet differ by one that leaves 1
  differ : (j k : ℕ) → 2 ^ j % n ≡ 2 ^ (j + k) % n → 2 ^ k % n ≡ 1
  differ zero k e = let z : 0 + k ≡ k = omega arith in ap (λ (i : ℕ). 2 ^ i % n) (sym z) ∙ sym e ∙ one_mod
  differ (suc j) k e =
      let z : suc j + k ≡ suc (j + k) = omega arith in
      differ j k
      (halves (2 ^ j) (2 ^ (j + k))
      (ap (λ (x : ℕ). x % n) (sym (pow-suc 2 j)) ∙ e ∙ ap (λ (i : ℕ). 2 ^ i % n) z ∙ ap (λ (x : ℕ). x % n) (pow-suc 2 (j + k))))

  -- n powers leave at most n - 1 different numbers
  exists : (k : ℕ) × (0 < k) × (k < n) × (2 ^ k % n ≡ 1)
  exists =
      let three : 3 ≤ n = o.least in
      let below : (i : ℕ) → 2 ^ i % n < n = λ i. mod-lt (2 ^ i) (omega arith) in
      let c = collision (n - 1) (λ i. pred (2 ^ i % n)) (λ i h. omega (arith, below i, pow_ne i)) in
      let i : ℕ = c.0 in
      let j : ℕ = c.1 in
      let k : j + (i - j) ≡ i = omega (arith, c.2) in
      let same : 2 ^ j % n ≡ 2 ^ i % n = omega (arith, c.4, pow_ne i, pow_ne j) in
      (i - j, omega (arith, c.2), omega (arith, c.3), differ j (i - j) (same ∙ ap (λ (x : ℕ). 2 ^ x % n) (sym k)))

  pub one_iff : (k : ℕ) → (2 ^ k % n ≡ 1) ↔ ((2 ^ k - 1) % n ≡ 0)
  one_iff k = (there, back)
    where
      pos : 0 < 2 ^ k
      pos = pow_pos k

      there : 2 ^ k % n ≡ 1 → (2 ^ k - 1) % n ≡ 0
      there e =
          let p : 0 < 2 ^ k = pos in
          let q : n * (2 ^ k / n) + 2 ^ k % n ≡ 2 ^ k = div-add-mod (2 ^ k) n in
          let r : 2 ^ k - 1 ≡ n * (2 ^ k / n) = omega arith in
          ap (λ (x : ℕ). x % n) r ∙ mul-mod_right n (2 ^ k / n)

      back : (2 ^ k - 1) % n ≡ 0 → 2 ^ k % n ≡ 1
      back e =
          let p : 0 < 2 ^ k = pos in
          let m : ℕ = 2 ^ k - 1 in
          let q : n * (m / n) + m % n ≡ m = div-add-mod m n in
          let r : 2 ^ k ≡ n * (m / n) + 1 = omega arith in
          ap (λ (x : ℕ). x % n) r ∙ mul-add-mod_self_left n (m / n) 1 ∙ one_mod

  -- ---- the search
  test : ℕ → Bool
  test j = eqb ((2 ^ suc j - 1) % n) 0

  order_is : order_of_two n ≡ suc (least test n)
  unfolding test order_of_two
  order_is = refl

  pub order_lt : order_of_two n < n
  unfolding test
  order_lt =
      let x = exists in
      let k : suc (x.0 - 1) ≡ x.0 = omega (arith, x.1) in
      let m : least test n ≤ x.0 - 1 =
      least_most test n (x.0 - 1)
      (eq-eqb ((2 ^ suc (x.0 - 1) - 1) % n) 0 (ap (λ (i : ℕ). (2 ^ i - 1) % n) k ∙ (one_iff x.0).0 x.3)) in
      omega (arith, order_is, x.2)

  pub order_mod : (2 ^ order_of_two n - 1) % n ≡ 0
  unfolding test
  order_mod =
      ap (λ (k : ℕ). (2 ^ k - 1) % n) order_is
      ∙ eqb-true ((2 ^ suc (least test n) - 1) % n) 0 ((least_is test n).passes (omega (arith, order_lt, order_is)))

  pub order_divides : n ∣ 2 ^ order_of_two n - 1
  order_divides = dvd_of_mod-eq-zero n order_mod

  pub order_least : (k : ℕ) → 0 < k → k < order_of_two n → (2 ^ k - 1) % n ≢ 0
  unfolding test
  order_least k h l e =
      let j : suc (k - 1) ≡ k = omega arith in
      eqb-false ((2 ^ suc (k - 1) - 1) % n) 0 ((least_is test n).before (k - 1) (omega (arith, order_is)))
      (ap (λ (i : ℕ). (2 ^ i - 1) % n) j ∙ e)

  -- ---- the count of the code: x is 2^s modulo n, and s is not past the order
  pub count_on : (s x : ℕ) → x ≡ 2 ^ s % n → s ≤ order_of_two n → x ≢ 1 → s < order_of_two n
  count_on s x e h k = go (dec_lt s (order_of_two n))
    where
      go : Dec (s < order_of_two n) → s < order_of_two n
      go (yes l) = l
      go (no l) =
          let q : s ≡ order_of_two n = omega arith in
          absurd (k (e ∙ ap (λ (i : ℕ). 2 ^ i % n) q ∙ (one_iff (order_of_two n)).1 order_mod))

  pub count_end : (s x : ℕ) → x ≡ 2 ^ s % n → 0 < s → s ≤ order_of_two n → x ≡ 1 → s ≡ order_of_two n
  count_end s x e p h k = go (dec_lt s (order_of_two n))
    where
      go : Dec (s < order_of_two n) → s ≡ order_of_two n
      go (yes l) = absurd (order_least s p l ((one_iff s).0 (sym e ∙ k)))
      go (no l) = omega arith

  pub count_more : (s x y : ℕ) → x ≡ 2 ^ s % n → y ≡ x * 2 % n → y ≡ 2 ^ (s + 1) % n
  count_more s x y e q =
      q ∙ ap (λ (z : ℕ). z * 2 % n) e ∙ mul_mod (2 ^ s) 2 n
      ∙ ap (λ (z : ℕ). z % n) (sym (pow-suc 2 s) ∙ ap (λ (i : ℕ). 2 ^ i) (sym (add-one s)))

  pub count_lt : (x y : ℕ) → y ≡ x * 2 % n → y < n
  count_lt x y e = subst (λ (z : ℕ). z < n) (sym e) (mod-lt (x * 2) (omega (arith, o.least)))

  pub count_start : 2 ≡ 2 ^ 1 % n
  count_start = sym (mod-eq_of_lt (omega (arith, o.least)))

pub order_pos : (n : ℕ) → 0 < order_of_two n
unfolding order_of_two
order_pos n = omega arith

-- 2 x modulo n by one comparison
