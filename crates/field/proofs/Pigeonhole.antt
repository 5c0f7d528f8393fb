-- The pigeonhole principle for native numbers.
--
--   InjOn f n     f takes the numbers below n to different ones
--   pigeonhole    no map of the numbers below n + 1 to those below n does
--   collision     so two of them meet
--   onto          such a map of the numbers below n into themselves reaches each
use mathlib.Core.Path.{◌≡◌, refl, sym, ap, ◌∙◌}
use mathlib.Core.Logic.{◌≢◌, ◌⊎◌, inl, inr, ite}
use Prim.Native.Nat.{ℕ, zero, suc, pred, ◌≤◌, ◌<◌}
use native.Mathlib.Nat.{not-suc-le-zero, zero-lt-suc}
use native.Mathlib.Decide.{dec_lt, ℕ_discrete}
use native.Mathlib.Omega.{arith}

abbrev pub InjOn : (ℕ → ℕ) → ℕ → Type 0
InjOn f n = (i j : ℕ) → i < n → j < n → f i ≡ f j → i ≡ j

-- the numbers but v, closed up
out : ℕ → ℕ → ℕ
out v x = ite (dec_lt v x) (pred x) x

out_cases : (v x : ℕ) → x ≢ v → ((v < x) × (out v x ≡ pred x)) ⊎ ((x < v) × (out v x ≡ x))
unfolding out
out_cases v x h = go (dec_lt v x)
  where
    go : (d : Dec (v < x)) → ((v < x) × (ite d (pred x) x ≡ pred x)) ⊎ ((x < v) × (ite d (pred x) x ≡ x))
    go (yes l) = inl (l, refl)
    go (no l) = inr (omega arith, refl)

out_lt : (v x n : ℕ) → x ≢ v → v ≤ n → x < suc n → out v x < n
out_lt v x n h k l = go (out_cases v x h)
  where
    go : ((v < x) × (out v x ≡ pred x)) ⊎ ((x < v) × (out v x ≡ x)) → out v x < n
    go (inl c) = omega arith
    go (inr c) = omega arith

out_inj : (v x y : ℕ) → x ≢ v → y ≢ v → out v x ≡ out v y → x ≡ y
out_inj v x y h k e = go (out_cases v x h) (out_cases v y k)
  where
    go : ((v < x) × (out v x ≡ pred x)) ⊎ ((x < v) × (out v x ≡ x)) → ((v < y) × (out v y ≡ pred y)) ⊎ ((y < v) × (out v y ≡ y))
        → x ≡ y
    go (inl c) (inl d) = omega arith
    go (inl c) (inr d) = omega arith
    go (inr c) (inl d) = omega arith
    go (inr c) (inr d) = omega arith

pub pigeonhole : (n : ℕ) (f : ℕ → ℕ) → ((i : ℕ) → i < suc n → f i < n) → InjOn f (suc n) → ⊥
pigeonhole zero f b inj = not-suc-le-zero (b 0 (zero-lt-suc 0))
pigeonhole (suc n) f b inj =
    pigeonhole n (λ i. out (f (suc n)) (f i))
    (λ i h. out_lt (f (suc n)) (f i) n (other i h) (omega (arith, b (suc n) (omega arith))) (b i (omega arith)))
    (λ i j hi hj e. inj i j (omega arith) (omega arith) (out_inj (f (suc n)) (f i) (f j) (other i hi) (other j hj) e))
  where
    other : (i : ℕ) → i < suc n → f i ≢ f (suc n)
    other i h e = let q : i ≡ suc n = inj i (suc n) (omega arith) (omega arith) e in omega arith

-- a preimage, or none
find : (n : ℕ) (f : ℕ → ℕ) (y : ℕ) → ((i : ℕ) × (i < n) × (f i ≡ y)) ⊎ ((i : ℕ) → i < n → f i ≢ y)
find zero f y = inr (λ i h e. not-suc-le-zero h)
find (suc n) f y = go (find n f y) (ℕ_discrete (f n) y)
  where
    go : ((i : ℕ) × (i < n) × (f i ≡ y)) ⊎ ((i : ℕ) → i < n → f i ≢ y) → Dec (f n ≡ y)
        → ((i : ℕ) × (i < suc n) × (f i ≡ y)) ⊎ ((i : ℕ) → i < suc n → f i ≢ y)
    go (inl c) d = inl (c.0, omega arith, c.2)
    go (inr c) (yes e) = inl (n, omega arith, e)
    go (inr c) (no k) = inr (λ i h e. last i h e (ℕ_discrete i n))
      where
        last : (i : ℕ) → i < suc n → f i ≡ y → Dec (i ≡ n) → ⊥
        last i h e (yes q) = k (ap f (sym q) ∙ e)
        last i h e (no q) = c i (omega arith) e

pub onto : (n : ℕ) (f : ℕ → ℕ) → ((i : ℕ) → i < n → f i < n) → InjOn f n → (y : ℕ) → y < n → (i : ℕ) × (i < n) × (f i ≡ y)
onto zero f b inj y h = absurd (not-suc-le-zero h)
onto (suc n) f b inj y h = go (find (suc n) f y)
  where
    go : ((i : ℕ) × (i < suc n) × (f i ≡ y)) ⊎ ((i : ℕ) → i < suc n → f i ≢ y) → (i : ℕ) × (i < suc n) × (f i ≡ y)
    go (inl c) = c
    go (inr c) =
        absurd (pigeonhole n (λ i. out y (f i)) (λ i k. out_lt y (f i) n (c i k) (omega arith) (b i k))
        (λ i j hi hj e. inj i j hi hj (out_inj y (f i) (f j) (c i hi) (c j hj) e)))

-- the numbers below n are told apart by f, or two of them are not
apart : (f : ℕ → ℕ) (n : ℕ) → ((i : ℕ) × (j : ℕ) × (j < i) × (i < n) × (f j ≡ f i)) ⊎ InjOn f n
apart f zero = inr (λ i j hi hj e. absurd (not-suc-le-zero hi))
apart f (suc n) = go (apart f n) (find n f (f n))
  where
    go : ((i : ℕ) × (j : ℕ) × (j < i) × (i < n) × (f j ≡ f i)) ⊎ InjOn f n
        → ((j : ℕ) × (j < n) × (f j ≡ f n)) ⊎ ((j : ℕ) → j < n → f j ≢ f n)
        → ((i : ℕ) × (j : ℕ) × (j < i) × (i < suc n) × (f j ≡ f i)) ⊎ InjOn f (suc n)
    go (inl c) d = inl (c.0, c.1, c.2, omega (arith, c.3), c.4)
    go (inr c) (inl d) = inl (n, d.0, d.1, omega arith, d.2)
    go (inr c) (inr d) = inr (λ i j hi hj e. both i j hi hj e (ℕ_discrete i n) (ℕ_discrete j n))
      where
        both : (i j : ℕ) → i < suc n → j < suc n → f i ≡ f j → Dec (i ≡ n) → Dec (j ≡ n) → i ≡ j
        both i j hi hj e (yes p) (yes q) = p ∙ sym q
        both i j hi hj e (yes p) (no q) = absurd (d j (omega arith) (sym e ∙ ap f p))
        both i j hi hj e (no p) (yes q) = absurd (d i (omega arith) (e ∙ ap f q))
        both i j hi hj e (no p) (no q) = c i j (omega arith) (omega arith) e

pub collision : (n : ℕ) (f : ℕ → ℕ) → ((i : ℕ) → i < suc n → f i < n)
    → (i : ℕ) × (j : ℕ) × (j < i) × (i < suc n) × (f j ≡ f i)
collision n f b = elim (apart f (suc n)) [ inl c ↦ c | inr c ↦ absurd (pigeonhole n f b c) ]
