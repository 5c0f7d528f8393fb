-- Powers of an element, and its order.
--
--   pow R a k      a to the k-th: pow_z, pow_s, and pow-suc with the factor on the right
--   pow_1, one_pow, pow-add, pow_mul, pow_comm, mul_pow     the laws of exponents
--   Order R a n    n is the least number above 0 with a ^ n = 1
--   pow_mod, pow_inj, pow_eq      powers of an element of order n are equal exactly when the exponents are modulo n
--   order_pow      a ^ m has order n where a has order m n
--   square_add     squaring is additive
use mathlib.Core.Path.{◌≡◌, refl, sym, ap, ◌∙◌}
use mathlib.Core.Logic.{◌≢◌, ◌↔◌}
use Prim.Native.Nat.{ℕ, zero, suc, ◌+◌, ◌-◌, ◌*◌, ◌/◌, ◌%◌, ◌<◌}
use native.Mathlib.Nat.{zero-add as zero_addℕ, suc-add as suc_addℕ, mul-suc, mul-zero as mul_zeroℕ, mod-lt, mod-add-div}
use native.Mathlib.Nat.{mul_comm as mul_commℕ, mul-lt-mul_of_pos_left, mul-pos}
use native.Mathlib.Decide.{dec_lt}
use native.Mathlib.Omega.{arith}
use Rattle.algebra.proofs.Ring.{Ring, ring, one-mul, mul-one, mul_comm, mul_assoc}

module _ {A : Type 0} (R : Ring A) where
  open R use {add as ◌⊞◌, mul as ◌⊠◌, 𝟘, 𝟙}

  infixl 65 ◌⊞◌
  infixl 70 ◌⊠◌
  unfoldable pub pow : A → ℕ → A
  pow a zero = 𝟙
  pow a (suc k) = a ⊠ pow a k

  pub pow_z : (a : A) → pow a zero ≡ 𝟙
  unfolding pow
  pow_z a = refl

  pub pow_s : (a : A) (k : ℕ) → pow a (suc k) ≡ a ⊠ pow a k
  unfolding pow
  pow_s a k = refl

  pub pow-suc : (a : A) (k : ℕ) → pow a (suc k) ≡ pow a k ⊠ a
  pow-suc a k = pow_s a k ∙ mul_comm R a (pow a k)

  pub pow_1 : (a : A) → pow a 1 ≡ a
  pow_1 a = pow_s a 0 ∙ ap (λ x. a ⊠ x) (pow_z a) ∙ mul-one R a

  pub one_pow : (k : ℕ) → pow 𝟙 k ≡ 𝟙
  one_pow zero = pow_z 𝟙
  one_pow (suc k) = pow_s 𝟙 k ∙ one-mul R (pow 𝟙 k) ∙ one_pow k

  pub pow-add : (a : A) (n m : ℕ) → pow a (n + m) ≡ pow a n ⊠ pow a m
  pow-add a zero m = rw (zero_addℕ, pow_z) (sym (one-mul R (pow a m)))
  pow-add a (suc n) m =
      rw (suc_addℕ, pow_s a (n + m), pow-add a n m, pow_s a n) (sym (mul_assoc R a (pow a n) (pow a m)))

  pub pow_mul : (a : A) (n m : ℕ) → pow a (n * m) ≡ pow (pow a n) m
  pow_mul a n zero = rw mul_zeroℕ (pow_z a ∙ sym (pow_z (pow a n)))
  pow_mul a n (suc m) =
      rw mul-suc (pow-add a (n * m) n ∙ ap (λ x. x ⊠ pow a n) (pow_mul a n m) ∙ sym (pow-suc (pow a n) m))

  pub pow_comm : (a : A) (n m : ℕ) → pow (pow a n) m ≡ pow (pow a m) n
  pow_comm a n m = sym (pow_mul a n m) ∙ ap (pow a) (mul_commℕ n m) ∙ pow_mul a m n

  pub mul_pow : (a b : A) (k : ℕ) → pow (a ⊠ b) k ≡ pow a k ⊠ pow b k
  mul_pow a b zero = rw (pow_z (a ⊠ b), pow_z a, pow_z b) (sym (mul-one R 𝟙))
  mul_pow a b (suc k) = rw (pow_s (a ⊠ b) k, pow_s a k, pow_s b k, mul_pow a b k) (swap (pow a k) (pow b k))
    where
      swap : (x y : A) → a ⊠ b ⊠ (x ⊠ y) ≡ a ⊠ x ⊠ (b ⊠ y)
      swap x y = simp ring

  pub record Order (a : A) (n : ℕ) : Type 0 where
    pub pos : 0 < n
    pub one : pow a n ≡ 𝟙
    pub least : (k : ℕ) → 0 < k → k < n → pow a k ≢ 𝟙

  module _ (a : A) (n : ℕ) (o : Order a n) where
    pub pow_multiple : (k : ℕ) → pow a (n * k) ≡ 𝟙
    pow_multiple k = pow_mul a n k ∙ ap (λ x. pow x k) o.one ∙ one_pow k

    pub pow_mod : (k : ℕ) → pow a k ≡ pow a (k % n)
    pow_mod k =
        ap (pow a) (sym (mod-add-div k n)) ∙ pow-add a (k % n) (n * (k / n))
        ∙ ap (λ x. pow a (k % n) ⊠ x) (pow_multiple (k / n)) ∙ mul-one R (pow a (k % n))

    -- else a ^ (j - i) would be 1
    no_repeat : (i j : ℕ) → i < j → j < n → pow a i ≢ pow a j
    no_repeat i j h l e =
        let there : (j - i) + n ≡ j + (n - i) = omega arith in
        let back : i + (n - i) ≡ n = omega arith in
        o.least (j - i) (omega arith) (omega arith)
        (sym (mul-one R (pow a (j - i))) ∙ ap (λ x. pow a (j - i) ⊠ x) (sym o.one) ∙ sym (pow-add a (j - i) n)
        ∙ ap (pow a) there ∙ pow-add a j (n - i) ∙ ap (λ x. x ⊠ pow a (n - i)) (sym e) ∙ sym (pow-add a i (n - i))
        ∙ ap (pow a) back ∙ o.one)

    pub pow_inj : (i j : ℕ) → i < n → j < n → pow a i ≡ pow a j → i ≡ j
    pow_inj i j hi hj e = go (dec_lt i j) (dec_lt j i)
      where
        go : Dec (i < j) → Dec (j < i) → i ≡ j
        go (yes h) d = absurd (no_repeat i j h hj e)
        go (no h) (yes k) = absurd (no_repeat j i k hi (sym e))
        go (no h) (no k) = omega arith

    pub pow_eq : (i j : ℕ) → (pow a i ≡ pow a j) ↔ (i % n ≡ j % n)
    pow_eq i j = (
      λ e. pow_inj (i % n) (j % n) (mod-lt i o.pos) (mod-lt j o.pos) (sym (pow_mod i) ∙ e ∙ pow_mod j),
      λ e. pow_mod i ∙ ap (pow a) e ∙ sym (pow_mod j),
    )

  pub order_pow : (a : A) (m n : ℕ) → Order a (m * n) → 0 < m → 0 < n → Order (pow a m) n
  order_pow a m n o hm hn = record {
    pos = hn;
    one = sym (pow_mul a m n) ∙ o.one;
    least = λ k h l e. o.least (m * k) (mul-pos hm h) (mul-lt-mul_of_pos_left l hm) (pow_mul a m k ∙ e);
  }

  pub square_add : (a b : A) → (a ⊞ b) ⊠ (a ⊞ b) ≡ a ⊠ a ⊞ b ⊠ b
  square_add a b = simp ring
