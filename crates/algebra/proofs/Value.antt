-- The value of a polynomial at a point, and its roots.
--
--   ev R n p a     the value at a of p, of which only the coefficients below n count: ev_z, ev_s (Horner's rule)
--   ev_sum         the same as a sum of p i a ^ i
--   ev_zero, ev_add, ev_scale, ev_more, ev_mul     values of sums and products; any bound of p will do for n
--   lin R a        x + a: lin_poly, lin_mul_z, lin_mul_s
--   lin_divides    x + a divides p if a is a root (the factor theorem)
--   lin_coprime    factors of distinct roots are coprime
--   roots          so their product divides p
use mathlib.Core.Path.{◌≡◌, refl, sym, ◌∙◌, ap, ap₂, fun_ext}
use mathlib.Core.Logic.{◌≢◌}
use mathlib.Core.List.{List, [], ◌∷◌}
use Prim.Native.Nat.{ℕ, zero, suc, ◌+◌ as ◌+ℕ◌, ◌≤◌}
use native.Mathlib.Nat.{suc-add}
use native.Mathlib.Omega.{arith}
use Rattle.algebra.proofs.Ring.{Ring, ring, add-zero, add_self, add-mul, eq_of_add}
use Rattle.algebra.proofs.Ring.{mul_assoc, mul-one, one-mul, zero-mul, mul_left_comm}
use Rattle.algebra.proofs.Power.{pow, pow_z, pow_s}
use Rattle.algebra.proofs.Field.{Field}
use Rattle.algebra.proofs.Lists.{All, none, more, all_map, Distinct, d_nil, d_cons, prod}
use Rattle.algebra.proofs.Coprime.{Divides, Coprime, coprime_both, coprime_prod}
use Rattle.algebra.proofs.Sum.{sum, sum_z, sum_head, sum_ext, sum_zero, sum_add, sum_scale}
use Rattle.algebra.proofs.Series.{Ser, tl, const, add_at, one_is, mul_z, mul_s, tl_mul, const_mul_at, zero_mul_at}
use Rattle.algebra.proofs.Poly.{Below, Below-tl, IsPoly, Polys, is_poly, const_poly}

module _ {A : Type 0} (R : Ring A) where
  open R use {add as ◌+◌, mul as ◌*◌, 𝟘, 𝟙}

  infixl 65 ◌+◌
  infixl 70 ◌*◌
  open Ser R use {add as ◌⊕◌, mul as ◌⊗◌}

  infixl 65 ◌⊕◌
  infixl 70 ◌⊗◌
  pub ev : ℕ → (ℕ → A) → A → A
  ev zero p a = 𝟘
  ev (suc n) p a = p zero + a * ev n (tl p) a

  pub ev_z : (p : ℕ → A) (a : A) → ev zero p a ≡ 𝟘
  unfolding ev
  ev_z p a = refl

  pub ev_s : (n : ℕ) (p : ℕ → A) (a : A) → ev (suc n) p a ≡ p zero + a * ev n (tl p) a
  unfolding ev
  ev_s n p a = refl

  pub ev_sum : (n : ℕ) (p : ℕ → A) (a : A) → ev n p a ≡ sum R n (λ i. p i * pow R a i)
  ev_sum zero p a = ev_z p a ∙ sym (sum_z R _)
  ev_sum (suc n) p a =
      rw (ev_s, sum_head R n, pow_z, mul-one, ev_sum n (tl p) a, ← sum_scale R n a)
      (ap (λ x. p zero + x) (sum_ext R n _ _ (λ i l. rw pow_s (mul_left_comm R a (p (suc i)) (pow R a i)))))

  pub ev_zero : (n : ℕ) (p : ℕ → A) (a : A) → ((k : ℕ) → p k ≡ 𝟘) → ev n p a ≡ 𝟘
  ev_zero n p a h = ev_sum n p a ∙ sum_zero R n _ (λ i l. rw (h i) (zero-mul R _))

  pub ev_add : (n : ℕ) (p q : ℕ → A) (a : A) → ev n (p ⊕ q) a ≡ ev n p a + ev n q a
  ev_add n p q a =
      ev_sum n (p ⊕ q) a ∙ sum_ext R n _ _ (λ i l. simp (add_at, add-mul)) ∙ sum_add R n _ _
      ∙ sym (ap₂ ◌+◌ (ev_sum n p a) (ev_sum n q a))

  pub ev_scale : (n : ℕ) (c : A) (p : ℕ → A) (a : A) → ev n (const R c ⊗ p) a ≡ c * ev n p a
  ev_scale n c p a =
      ev_sum n (const R c ⊗ p) a ∙ sum_ext R n _ _ (λ i l. simp (const_mul_at, mul_assoc)) ∙ sum_scale R n c _
      ∙ ap (λ x. c * x) (sym (ev_sum n p a))

  pub ev_more : (n m : ℕ) (p : ℕ → A) (a : A) → Below R n p → n ≤ m → ev m p a ≡ ev n p a
  ev_more zero m p a b h = ev_zero m p a (λ k. b.at k (omega arith)) ∙ sym (ev_z p a)
  ev_more (suc n) zero p a b h = absurd (omega arith)
  ev_more (suc n) (suc m) p a b h = rw (ev_s m p, ev_s n p, ev_more n m (tl p) a (Below-tl R b) (omega arith))

  pub ev_mul : (n m : ℕ) (p q : ℕ → A) (a : A) → Below R n p → Below R m q → ev (n +ℕ m) (p ⊗ q) a ≡ ev n p a * ev m q a
  ev_mul zero m p q a b c =
      ev_zero _ (p ⊗ q) a (zero_mul_at R p q (λ k. b.at k (omega arith))) ∙ rw (ev_z, zero-mul)
  ev_mul (suc n) m p q a b c =
      rw (
        suc-add,
        ev_s (n +ℕ m) (p ⊗ q),
        mul_z,
        tl_mul,
        ev_add (n +ℕ m),
        ev_scale (n +ℕ m) (p zero) (tl q) a,
        ev_mul n m (tl p) q a (Below-tl R b) c,
        ← ev_more m (suc (n +ℕ m)) q a c (omega arith),
        ev_s (n +ℕ m) q,
        ev_s n p,
      )
      (regroup (p zero) (q zero) (ev (n +ℕ m) (tl q) a) (ev n (tl p) a))
    where
      regroup : (p₀ q₀ x y : A) → p₀ * q₀ + a * (p₀ * x + y * (q₀ + a * x)) ≡ (p₀ + a * y) * (q₀ + a * x)
      regroup p₀ q₀ x y = simp ring

  unfoldable pub lin : A → ℕ → A
  lin a zero = a
  lin a (suc k) = const R 𝟙 k

  pub lin_poly : (a : A) → IsPoly R (lin a)
  unfolding lin
  lin_poly a = record { size = 2; below = record { at = go } }
    where
      go : (k : ℕ) → 2 ≤ k → lin a k ≡ 𝟘
      go zero h = absurd (omega arith)
      go (suc zero) h = absurd (omega arith)
      go (suc (suc k)) h = refl

  pub lin_mul_z : (a : A) (q : ℕ → A) → (lin a ⊗ q) zero ≡ a * q zero
  unfolding lin
  lin_mul_z a q = mul_z R (lin a) q

  pub lin_mul_s : (a : A) (q : ℕ → A) (k : ℕ) → (lin a ⊗ q) (suc k) ≡ a * q (suc k) + q k
  unfolding lin
  lin_mul_s a q k =
      mul_s R (lin a) q k ∙ ap (λ x. a * q (suc k) + x) (const_mul_at R 𝟙 q k ∙ one-mul R (q k))

  -- p divided by x + a: Horner's rule writes down the quotient, and leaves the value as remainder
  quo : ℕ → (ℕ → A) → A → ℕ → A
  quo zero p a k = 𝟘
  quo (suc n) p a zero = ev n (tl p) a
  quo (suc n) p a (suc k) = quo n (tl p) a k

  quo_below : (n : ℕ) (p : ℕ → A) (a : A) (k : ℕ) → n ≤ k → quo n p a k ≡ 𝟘
  unfolding quo
  quo_below zero p a k h = refl
  quo_below (suc n) p a zero h = absurd (omega arith)
  quo_below (suc n) p a (suc k) h = quo_below n (tl p) a k (omega arith)

  horner_z : (n : ℕ) (p : ℕ → A) (a : A) → Below R n p → a * quo n p a zero + ev n p a ≡ p zero
  unfolding quo ev
  horner_z zero p a b = rw (b.at zero (omega arith)) (simp ring)
  horner_z (suc n) p a b = simp ring

  horner_s : (n : ℕ) (p : ℕ → A) (a : A) → Below R n p → (k : ℕ) → a * quo n p a (suc k) + quo n p a k ≡ p (suc k)
  unfolding quo
  horner_s zero p a b k = rw (b.at (suc k) (omega arith)) (simp ring)
  horner_s (suc n) p a b zero = horner_z n (tl p) a (Below-tl R b)
  horner_s (suc n) p a b (suc k) = horner_s n (tl p) a (Below-tl R b) k

  pub lin_divides : {n : ℕ} {p : ℕ → A} (a : A) → Below R n p → ev n p a ≡ 𝟘 → Divides (Polys R) (lin a) p
  lin_divides {n} {p} a b e = record {
    by = quo n p a;
    by_in = record { size = n; below = record { at = quo_below n p a } };
    eq = fun_ext go;
  }
    where
      go : (k : ℕ) → (lin a ⊗ quo n p a) k ≡ p k
      go zero =
          lin_mul_z a _ ∙ sym (add-zero R _) ∙ ap (λ x. a * quo n p a zero + x) (sym e) ∙ horner_z n p a b
      go (suc k) = lin_mul_s a _ k ∙ horner_s n p a b k

module _ {A : Type 0} (R : Ring A) (K : Field R) where
  open R use {add as ◌+◌, mul as ◌*◌, 𝟘, 𝟙}

  infixl 65 ◌+◌
  infixl 70 ◌*◌
  open Ser R use {add as ◌⊕◌, mul as ◌⊗◌}

  infixl 65 ◌⊕◌
  infixl 70 ◌⊗◌
  -- the sum of the two factors is the constant a + b
  pub lin_coprime : (a b : A) → a ≢ b → Coprime (Polys R) (lin R a) (lin R b)
  unfolding lin
  lin_coprime a b h = record {
    u = const R i;
    v = const R i;
    u_in = const_poly R i;
    v_in = const_poly R i;
    eq = rw one_is (fun_ext go);
  }
    where
      i : A
      i = K.inv (a + b)

      fold : (c : A) → c * a + c * b ≡ (a + b) * c
      fold c = simp ring

      go : (k : ℕ) → (const R i ⊗ lin R a ⊕ const R i ⊗ lin R b) k ≡ const R 𝟙 k
      go zero =
          rw (add_at, const_mul_at R i (lin R a), const_mul_at R i (lin R b))
          (fold i ∙ K.mul_inv (a + b) (λ e. h (eq_of_add R a b e)))
      go (suc k) = rw (add_at, const_mul_at R i (lin R a), const_mul_at R i (lin R b)) (add_self R _)

  pub roots : {n : ℕ} {p : ℕ → A} → Below R n p → (l : List A) → Distinct l → All (λ a. ev R n p a ≡ 𝟘) l
      → Divides (Polys R) (prod (Ser R) (lin R) l) p
  unfolding prod
  roots {n} {p} b [] d_nil none = record { by = p; by_in = is_poly R b; eq = one-mul (Ser R) p }
  roots {n} {p} b (a ∷ l) (d_cons ne d) (more h hs) =
      coprime_both (Polys R)
      (coprime_prod (Polys R) (lin R) (lin_poly R) (lin_poly R a) (all_map (λ c. lin_coprime a c) ne))
      (lin_divides R a b h) (roots b l d hs)
