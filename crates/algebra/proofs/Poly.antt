-- Polynomials: series whose coefficients are 0 from some place on.
--
--   Below R n p     the coefficients from n on are 0, that is, p has degree below n
--   Above R n p     those below n are 0, that is, x ^ n divides p
--   Below-weaken, ·drop, ·tl, ·const, ·one, ·zero, ·add, ·mul, ·deg, Above-add, ·mul     how bounds combine
--   below_0, below_1, below_above      p is 0 where it is below 0, constant where below 1, 0 where below and above n
--   mul_top         the top coefficient of a product
--   IsPoly R p      there is such a bound: is_poly, const_poly, mono_poly
--   Polys R         the polynomials are a subring of the series
--   mono R k c      c x ^ k: mono_below, -above, -top; mono_mul_at, -mul-low: the coefficients of a multiple
--   row_add         a row changed in place is the row plus a monomial times another row
--   above_divides   division by x ^ n
--   le_or_lt        comparison of two numbers
use mathlib.Core.Path.{◌≡◌, refl, sym, ◌∙◌, ap, fun_ext}
use mathlib.Core.Logic.{◌⊎◌, inl, inr}
use Prim.Native.Nat.{ℕ, zero, suc, ◌+◌ as ◌+ℕ◌, ◌-◌ as ◌-ℕ◌, ◌≤◌, ◌<◌}
use native.Mathlib.Nat.{zero-add as zero_addℕ, suc-add, eq-or-lt_of_le}
use native.Mathlib.Omega.{arith}
use Rattle.algebra.proofs.Ring.{Ring, ring, add-zero, zero-add, add_self, mul-zero, zero-mul, one-mul, mul_comm, follows}
use Rattle.algebra.proofs.Coprime.{Sub, Divides}
use Rattle.algebra.proofs.Series.{Ser, tl, const, add_at, zero_at, one_is, mul_z, mul_s, const_mul_at, zero_mul_at}

pub le_or_lt : (n k : ℕ) → (n ≤ k) ⊎ (k < n)
le_or_lt zero k = inl (omega arith)
le_or_lt (suc n) zero = inr (omega arith)
le_or_lt (suc n) (suc k) = elim (le_or_lt n k) [ inl h ↦ inl (omega arith) | inr h ↦ inr (omega arith) ]

module _ {A : Type 0} (R : Ring A) where
  open R use {add as ◌+◌, mul as ◌*◌, 𝟘, 𝟙}

  infixl 65 ◌+◌
  infixl 70 ◌*◌
  open Ser R use {add as ◌⊕◌, mul as ◌⊗◌, 𝟘 as 0ₛ, 𝟙 as 1ₛ}

  infixl 65 ◌⊕◌
  infixl 70 ◌⊗◌
  pub record Below (n : ℕ) (p : ℕ → A) : Type 0 where
    pub at : (k : ℕ) → n ≤ k → p k ≡ 𝟘

  pub record Above (n : ℕ) (p : ℕ → A) : Type 0 where
    pub at : (k : ℕ) → k < n → p k ≡ 𝟘

  pub Below-weaken : {n m : ℕ} {p : ℕ → A} → n ≤ m → Below n p → Below m p
  Below-weaken h b = record { at = λ k l. b.at k (omega arith) }

  pub Below-drop : {n : ℕ} {p : ℕ → A} → Below (suc n) p → p n ≡ 𝟘 → Below n p
  Below-drop {n} {p} b e = record { at = λ k h. go k (eq-or-lt_of_le h) }
    where
      go : (k : ℕ) → (n ≡ k) ⊎ (n < k) → p k ≡ 𝟘
      go k (inl q) = rw (← q) e
      go k (inr h) = b.at k h

  pub Below-tl : {n : ℕ} {p : ℕ → A} → Below (suc n) p → Below n (tl p)
  Below-tl b = record { at = λ k l. b.at (suc k) (omega arith) }

  pub Below-const : (c : A) → Below 1 (const R c)
  Below-const c = record { at = go }
    where
      go : (k : ℕ) → 1 ≤ k → const R c k ≡ 𝟘
      go zero h = absurd (omega arith)
      go (suc k) h = refl

  pub Below-one : Below 1 1ₛ
  Below-one = rw one_is (Below-const 𝟙)

  pub Below-zero : (n : ℕ) → Below n 0ₛ
  Below-zero n = record { at = λ k h. zero_at R k }

  pub below_0 : {p : ℕ → A} → Below 0 p → p ≡ 0ₛ
  below_0 b = fun_ext (λ k. b.at k (omega arith) ∙ sym (zero_at R k))

  pub below_1 : {p : ℕ → A} → Below 1 p → p ≡ const R (p zero)
  below_1 {p} b = fun_ext go
    where
      go : (k : ℕ) → p k ≡ const R (p zero) k
      go zero = refl
      go (suc k) = b.at (suc k) (omega arith)

  pub below_above : {n : ℕ} {p : ℕ → A} → Below n p → Above n p → p ≡ 0ₛ
  below_above {n} {p} b a = fun_ext (λ k. go k (le_or_lt n k) ∙ sym (zero_at R k))
    where
      go : (k : ℕ) → (n ≤ k) ⊎ (k < n) → p k ≡ 𝟘
      go k (inl h) = b.at k h
      go k (inr h) = a.at k h

  pub Below-add : {n : ℕ} {p q : ℕ → A} → Below n p → Below n q → Below n (p ⊕ q)
  Below-add {n} {p} {q} b c = record { at = λ k h. rw (add_at, b.at k h, c.at k h, add-zero) }

  pub Above-add : {n : ℕ} {p q : ℕ → A} → Above n p → Above n q → Above n (p ⊕ q)
  Above-add {n} {p} {q} b c = record { at = λ k h. rw (add_at, b.at k h, c.at k h, add-zero) }

  pub Below-mul : {n m : ℕ} {p q : ℕ → A} → Below n p → Below (suc m) q → Below (n +ℕ m) (p ⊗ q)
  Below-mul {n} {m} {p} {q} b c = record { at = go n p b }
    where
      go : (n : ℕ) (p : ℕ → A) → Below n p → (k : ℕ) → n +ℕ m ≤ k → (p ⊗ q) k ≡ 𝟘
      go zero p b k h = zero_mul_at R p q (λ i. b.at i (omega arith)) k
      go (suc n) p b zero h = absurd (omega arith)
      go (suc n) p b (suc k) h =
          rw (mul_s, c.at (suc k) (omega arith), go n (tl p) (Below-tl b) k (omega arith)) (simp ring)

  -- degrees add up
  pub Below-deg : {n m : ℕ} {p q : ℕ → A} → Below (suc n) p → Below (suc m) q → Below (suc (n +ℕ m)) (p ⊗ q)
  Below-deg b c = Below-weaken (omega arith) (Below-mul b c)

  pub Above-mul : {n : ℕ} {q : ℕ → A} (p : ℕ → A) → Above n q → Above n (p ⊗ q)
  Above-mul {n} {q} p b = record { at = go p }
    where
      go : (p : ℕ → A) (k : ℕ) → k < n → (p ⊗ q) k ≡ 𝟘
      go p zero h = rw (mul_z, b.at zero h, mul-zero)
      go p (suc k) h = rw (mul_s, b.at (suc k) h, go (tl p) k (omega arith)) (simp ring)

  pub mul_top : {n m : ℕ} {p q : ℕ → A} → Below (suc n) p → Below (suc m) q → (p ⊗ q) (n +ℕ m) ≡ p n * q m
  mul_top {n} {m} {p} {q} b c = go n p b
    where
      go : (n : ℕ) (p : ℕ → A) → Below (suc n) p → (p ⊗ q) (n +ℕ m) ≡ p n * q m
      go zero p b = rw zero_addℕ (ap (λ x. (x ⊗ q) m) (below_1 b) ∙ const_mul_at R (p zero) q m)
      go (suc n) p b =
          rw (suc-add, mul_s, c.at (suc (n +ℕ m)) (omega arith), go n (tl p) (Below-tl b)) (simp ring)

  pub record IsPoly (p : ℕ → A) : Type 0 where
    pub size : ℕ
    pub below : Below size p

  pub is_poly : {n : ℕ} {p : ℕ → A} → Below n p → IsPoly p
  is_poly {n} b = record { size = n; below = b }

  pub Polys : Sub (Ser R) IsPoly
  Polys = record {
    has_one = is_poly Below-one;
    has_add =
        λ {a} {b} p q. record {
          size = p.size +ℕ q.size;
          below = Below-add (Below-weaken (omega arith) p.below) (Below-weaken (omega arith) q.below);
        };
    has_mul =
        λ {a} {b} p q. record {
          size = p.size +ℕ q.size;
          below = Below-mul p.below (Below-weaken (omega arith) q.below);
        };
  }

  pub const_poly : (c : A) → IsPoly (const R c)
  const_poly c = is_poly (Below-const c)

  unfoldable pub mono : ℕ → A → ℕ → A
  mono zero c i = const R c i
  mono (suc k) c zero = 𝟘
  mono (suc k) c (suc i) = mono k c i

  pub mono_below : (k : ℕ) (c : A) → Below (suc k) (mono k c)
  unfolding mono
  mono_below k c = record { at = go k }
    where
      go : (k i : ℕ) → suc k ≤ i → mono k c i ≡ 𝟘
      go zero i h = (Below-const c).at i h
      go (suc k) zero h = absurd (omega arith)
      go (suc k) (suc i) h = go k i (omega arith)

  pub mono_above : (k : ℕ) (c : A) → Above k (mono k c)
  unfolding mono
  mono_above k c = record { at = go k }
    where
      go : (k i : ℕ) → i < k → mono k c i ≡ 𝟘
      go zero i h = absurd (omega arith)
      go (suc k) zero h = refl
      go (suc k) (suc i) h = go k i (omega arith)

  pub mono_top : (k : ℕ) (c : A) → mono k c k ≡ c
  unfolding mono
  mono_top zero c = refl
  mono_top (suc k) c = mono_top k c

  pub mono_poly : (k : ℕ) (c : A) → IsPoly (mono k c)
  mono_poly k c = is_poly (mono_below k c)

  pub mono_mul_at : (k : ℕ) (c : A) (p : ℕ → A) (i : ℕ) → (mono k c ⊗ p) (k +ℕ i) ≡ c * p i
  unfolding mono
  mono_mul_at zero c p i = rw zero_addℕ (const_mul_at R c p i)
  mono_mul_at (suc k) c p i = rw suc-add (mul_s R _ p (k +ℕ i) ∙ rw (zero-mul, zero-add) (mono_mul_at k c p i))

  pub mono_mul_low : (k : ℕ) (c : A) (p : ℕ → A) (i : ℕ) → i < k → (mono k c ⊗ p) i ≡ 𝟘
  mono_mul_low k c p i h = ap (λ q. q i) (mul_comm (Ser R) _ p) ∙ (Above-mul p (mono_above k c)).at i h

  -- what has the coefficients of c p, moved up by k places, is c x ^ k p
  mono_mul_is : (k : ℕ) (c : A) (p q : ℕ → A) → ((i : ℕ) → i < k → q i ≡ 𝟘) → ((i : ℕ) → q (k +ℕ i) ≡ c * p i)
      → mono k c ⊗ p ≡ q
  mono_mul_is k c p q low high = fun_ext (λ i. go i (le_or_lt k i))
    where
      go : (i : ℕ) → (k ≤ i) ⊎ (i < k) → (mono k c ⊗ p) i ≡ q i
      go i (inl h) =
          let e : i ≡ k +ℕ (i -ℕ k) = omega arith in
          ap (mono k c ⊗ p) e ∙ mono_mul_at k c p (i -ℕ k) ∙ sym (high (i -ℕ k)) ∙ ap q (sym e)
      go i (inr h) = mono_mul_low k c p i h ∙ sym (low i h)

  pub row_add : (k : ℕ) (c : A) (r p q : ℕ → A) → ((i : ℕ) → i < k → q i ≡ r i)
      → ((i : ℕ) → q (k +ℕ i) ≡ r (k +ℕ i) + c * p i) → q ≡ r ⊕ mono k c ⊗ p
  row_add k c r p q low high =
      follows (Ser R) 1ₛ
      (mono_mul_is k c p (q ⊕ r) (λ i h. add_at R q r i ∙ rw (low i h) (add_self R (r i)))
      (λ i. add_at R q r (k +ℕ i) ∙ follows R 𝟙 (high i) (simp ring)))
      (simp ring)

  pub above_divides : {n : ℕ} {p : ℕ → A} → IsPoly p → Above n p → Divides Polys (mono n 𝟙) p
  above_divides {n} {p} h a = record {
    by = λ k. p (n +ℕ k);
    by_in = record { size = h.size; below = record { at = λ k l. h.below.at (n +ℕ k) (omega arith) } };
    eq = mono_mul_is n 𝟙 (λ k. p (n +ℕ k)) p a.at (λ i. sym (one-mul R _));
  }
