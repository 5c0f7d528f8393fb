-- The power series h/f by a register: the lowest coefficient is the next term, and f times it is taken off before the shift.
--
--   register f h j             h less the first j terms times f, shifted down j places
--   register_z, register_s     step by step
--   register_lt                it stays below 2^u for f of degree u
--   register_eq                h = f·(the first j terms) + x^j·register
--   term_is                    its lowest coefficient is the term that makes coefficient j of f·a that of h
--   length_terms, terms_at      n terms; term j is the register's lowest coefficient
use mathlib.Core.Path.{◌≡◌, refl, sym, ap, ap₂, ◌∙◌, subst}
use mathlib.Core.List.{[], ◌∷◌, ◌++◌}
use Prim.Native.Nat.{ℕ, zero, suc, ◌+◌, ◌-◌, ◌*◌, ◌/◌, ◌%◌, ◌^◌, ◌<◌}
use native.Mathlib.Nat.{mul-one, mul_assoc, pow-suc, pow-succ', div-lt_iff_lt-mul, zero-mul, one-mul, div-one, mod-eq_of_lt}
use native.Mathlib.Decide.{ℕ_discrete}
use native.Mathlib.Numerals.{add-one}
use native.Mathlib.Omega.{arith}
use lib.ListN.{length, get_or, length-append, get_or-append}
use lib.Pow.{pow_pos}
use lib.Seq.{get_or_at}
use Rattle.field.specs.Search.{total}
use Rattle.field.specs.Mask.{◌⊕◌, coefficient}
use Rattle.field.proofs.Search.{total_ext}
use Rattle.field.proofs.Xor.{two_pos, digit, digit_lt, ⊕-zero-l, ⊕-self, ⊕-assoc, ⊕-norm, ⊕-lt, ⊕-odd, bit_⊕, Add}
use Rattle.field.proofs.MaskProduct.{clmul_add_l, clmul_pow}
use Rattle.binary.specs.Factor.{terms}
use Rattle.binary.proofs.Coefficient.{sum_two, coefficient_shift, combine, combine_z, combine_s, coefficient_combine}

unfoldable pub register : ℕ → ℕ → ℕ → ℕ
register f h zero = h
register f h (suc j) = (register f h j ⊕ (register f h j % 2) * f) / 2

pub register_z : (f h : ℕ) → register f h 0 ≡ h
unfolding register
register_z f h = refl

pub register_s : (f h j : ℕ) → register f h (suc j) ≡ (register f h j ⊕ (register f h j % 2) * f) / 2
unfolding register
register_s f h j = refl

shift_lt : (f r u : ℕ) → f < 2 ^ suc u → r < 2 ^ u → (r ⊕ (r % 2) * f) / 2 < 2 ^ u
shift_lt f r u hf hr =
    (div-lt_iff_lt-mul two_pos).1
    (subst (λ (x : ℕ). r ⊕ (r % 2) * f < x) (pow-suc 2 u) (⊕-lt (suc u) r ((r % 2) * f) wide (taken (r % 2) (digit_lt r))))
  where
    wide : r < 2 ^ suc u
    wide = rw (pow-suc 2 u) (omega arith)

    taken : (d : ℕ) → d < 2 → d * f < 2 ^ suc u
    taken =
        digit (λ d. d * f < 2 ^ suc u) (subst (λ (x : ℕ). x < 2 ^ suc u) (sym (zero-mul f)) (pow_pos (suc u)))
        (subst (λ (x : ℕ). x < 2 ^ suc u) (sym (one-mul f)) hf)

pub register_lt : (f h u j : ℕ) → f < 2 ^ suc u → h < 2 ^ u → register f h j < 2 ^ u
register_lt f h u zero hf hh = subst (λ (x : ℕ). x < 2 ^ u) (sym (register_z f h)) hh
register_lt f h u (suc j) hf hh =
    subst (λ (x : ℕ). x < 2 ^ u) (sym (register_s f h j)) (shift_lt f (register f h j) u hf (register_lt f h u j hf hh))

-- x^j (a + b)
shift_add : (j : ℕ) → Add (λ a. a * 2 ^ j)
shift_add j a b =
    sym (clmul_pow (a ⊕ b) j) ∙ clmul_add_l (2 ^ j) a b ∙ ap₂ ◌⊕◌ (clmul_pow a j) (clmul_pow b j)

terms_s : (f h n : ℕ)
    → terms f h (suc n)
    ≡ terms f h n ++ ((coefficient n h + total n (λ i. coefficient (n - i) f * get_or (terms f h n) i 0)) % 2 ∷ [])
unfolding terms
terms_s f h n = refl

pub length_terms : (f h n : ℕ) → length (terms f h n) ≡ n
unfolding terms
length_terms f h zero = refl
length_terms f h (suc n) =
    ap length (terms_s f h n) ∙ (simp length-append) ∙ ap (λ (x : ℕ). x + 1) (length_terms f h n) ∙ add-one n

module _ (f h : ℕ) (odd : f % 2 ≡ 1) where
  out : ℕ → ℕ
  out i = register f h i % 2

  out_lt : (i : ℕ) → out i < 2
  unfolding out
  out_lt i = digit_lt (register f h i)

  -- f's constant term 1 makes the lowest coefficient 0 before the shift, so nothing is lost
  even : (r : ℕ) → (r ⊕ (r % 2) * f) % 2 ≡ 0
  even r = ⊕-odd r ((r % 2) * f) ∙ ap (λ (x : ℕ). (r % 2) ⊕ x) (lowest (r % 2) (digit_lt r)) ∙ ⊕-self (r % 2)
    where
      lowest : (d : ℕ) → d < 2 → d * f % 2 ≡ d
      lowest = digit (λ d. d * f % 2 ≡ d) (ap (λ (x : ℕ). x % 2) (zero-mul f)) (ap (λ (x : ℕ). x % 2) (one-mul f) ∙ odd)

  step : (j : ℕ) → register f h j ≡ out j * f ⊕ register f h (suc j) * 2
  unfolding out
  step j =
      let r : ℕ = register f h j in
      let w : ℕ = r ⊕ (r % 2) * f in
      let e : w % 2 ≡ 0 = even r in
      let q : w / 2 * 2 ≡ w = omega arith in
      sym (sort r ((r % 2) * f)) ∙ ap (λ (x : ℕ). (r % 2) * f ⊕ x) (sym q ∙ ap (λ (x : ℕ). x * 2) (sym (register_s f h j)))
    where
      sort : (r m : ℕ) → m ⊕ (r ⊕ m) ≡ r
      sort r m = simp ⊕-norm

  pub register_eq : (j : ℕ) → h ≡ combine (λ i. register f h i % 2) f j ⊕ register f h j * 2 ^ j
  unfolding out
  register_eq zero =
      sym
      (ap₂ (λ (x y : ℕ). x ⊕ y * 1) (combine_z out f) (register_z f h) ∙ ⊕-zero-l (h * 1) ∙ mul-one h)
  register_eq (suc j) =
      let c : ℕ = combine out f j in
      let s : ℕ = register f h (suc j) in
      register_eq j
      ∙ ap (λ (x : ℕ). c ⊕ x)
      (ap (λ (x : ℕ). x * 2 ^ j) (step j) ∙ shift_add j (out j * f) (s * 2) ∙ ap₂ ◌⊕◌ (mul_assoc (out j) f (2 ^ j)) (up s))
      ∙ sym (⊕-assoc c (out j * (f * 2 ^ j)) (s * 2 ^ suc j))
      ∙ ap (λ (x : ℕ). x ⊕ s * 2 ^ suc j) (sym (combine_s out f j))
    where
      up : (s : ℕ) → s * 2 * 2 ^ j ≡ s * 2 ^ suc j
      up s = mul_assoc s 2 (2 ^ j) ∙ ap (λ (x : ℕ). s * x) (sym (pow-succ' 2 j))

  -- coefficient j of that equation
  pub term_is : (j : ℕ) → (coefficient j h + total j (λ i. coefficient (j - i) f * (register f h i % 2))) % 2 ≡ register f h j % 2
  unfolding out
  term_is j =
      let r : ℕ = register f h j in
      let s : ℕ = total j (λ i. coefficient (j - i) f * out i) in
      let z : j - j ≡ 0 = omega arith in
      let c : coefficient j h ≡ (s % 2) ⊕ out j =
      ap (λ (x : ℕ). coefficient j x) (register_eq j) ∙ bit_⊕ j (combine out f j) (r * 2 ^ j)
      ∙ ap₂ ◌⊕◌ (coefficient_combine out out_lt f j j (omega arith))
      (coefficient_shift j j r (omega arith) ∙ ap (λ (k : ℕ). r / 2 ^ k % 2) z ∙ ap (λ (x : ℕ). x % 2) (div-one r)) in
      sym (sum_two (coefficient j h) s)
      ∙ ap (λ (x : ℕ). x ⊕ (s % 2)) (mod-eq_of_lt (digit_lt (h / 2 ^ j)) ∙ c)
      ∙ strike (s % 2) (out j)
    where
      strike : (a b : ℕ) → a ⊕ b ⊕ a ≡ b
      strike a b = simp ⊕-norm

  pub terms_at : (n j : ℕ) → j < n → get_or (terms f h n) j 0 ≡ register f h j % 2
  unfolding out
  terms_at zero j l = absurd (omega arith)
  terms_at (suc n) j l = ap (λ s. get_or s j 0) (terms_s f h n) ∙ go (terms_at n) (ℕ_discrete j n)
    where
      next : ℕ
      next = (coefficient n h + total n (λ i. coefficient (n - i) f * get_or (terms f h n) i 0)) % 2

      go : ((j : ℕ) → j < n → get_or (terms f h n) j 0 ≡ register f h j % 2) → Dec (j ≡ n)
          → get_or (terms f h n ++ (next ∷ [])) j 0 ≡ register f h j % 2
      go ih (yes q) =
          get_or_at (terms f h n) next [] 0 j (length_terms f h n ∙ sym q)
          ∙ ap (λ (x : ℕ). (coefficient n h + x) % 2)
          (total_ext n (λ i. coefficient (n - i) f * get_or (terms f h n) i 0) (λ i. coefficient (n - i) f * out i)
          (λ i k. ap (λ (x : ℕ). coefficient (n - i) f * x) (ih i k)))
          ∙ term_is n ∙ ap (λ (k : ℕ). register f h k % 2) (sym q)
      go ih (no q) =
          get_or-append (terms f h n) (next ∷ []) 0 j (subst (λ (k : ℕ). j < k) (sym (length_terms f h n)) (omega arith))
          ∙ ih j (omega arith)
