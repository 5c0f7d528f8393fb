-- The sum of masks, with no side condition on any law.
--
--   ⊕-zero-l, ⊕-zero-r, ⊕-self, ⊕-comm, ⊕-assoc, ⊕-left-comm, ⊕-cancel, ⊕-swap4, ⊕-eq      the sum's laws
--   ⊕-norm        sums sorted, with equal terms struck out: `simp ⊕-norm`
--   ⊕-lt, ⊕-shr, ⊕-half, ⊕-odd, ⊕-split     size, high part, half and lowest coefficient
--   by_digit, bit_ext      masks are equal when their halves and lowest coefficients are, or all coefficients
--   digit, digit_lt        a fact of a coefficient is a fact of 0 and of 1
--   Add f         f is additive; dbl_add: doubling, which is multiplication by x, is
--   sel x b       b where the coefficient x is 1, else 0
use mathlib.Core.Path.{◌≡◌, refl, sym, ap, ap₂, ◌∙◌}
use Prim.Native.Nat.{ℕ, zero, suc, ◌+◌, ◌*◌, ◌/◌, ◌%◌, ◌^◌, ◌<◌}
use native.Mathlib.Nat.{mod-lt, zero-lt-suc, div-add-mod', not-suc-le-zero, le_of_suc-le-suc, mul-div_cancel, mul-mod_left, div-one}
use native.Mathlib.Numerals.{one-add}
use lib.Pow.{shr-shr}
use lib.Arith.{bin_ind}
use lib.Bits.{xor_zero_r, xor_comm, xor_self, xor_lt, xor_shr, xor_mod, xor_shifted}
use Rattle.field.specs.Mask.{◌⊕◌, coefficient}

pub two_pos : zero < 2
two_pos = zero-lt-suc 1

pub digit_lt : (a : ℕ) → a % 2 < 2
digit_lt a = mod-lt a two_pos

-- a fact of a digit is a fact of 0 and of 1
pub digit {ℓ} : (P : ℕ → Type ℓ) → P 0 → P 1 → (x : ℕ) → x < 2 → P x
digit P p q zero h = p
digit P p q (suc zero) h = q
digit P p q (suc (suc x)) h = absurd (not-suc-le-zero (le_of_suc-le-suc (le_of_suc-le-suc h)))

pub ⊕-zero-l : (a : ℕ) → 0 ⊕ a ≡ a
unfolding ◌⊕◌
⊕-zero-l a = refl

pub ⊕-zero-r : (a : ℕ) → a ⊕ 0 ≡ a
unfolding ◌⊕◌
⊕-zero-r = xor_zero_r

pub ⊕-self : (a : ℕ) → a ⊕ a ≡ 0
unfolding ◌⊕◌
⊕-self = xor_self

pub ⊕-comm : (a b : ℕ) → a ⊕ b ≡ b ⊕ a
unfolding ◌⊕◌
⊕-comm = xor_comm

pub ⊕-lt : (k a b : ℕ) → a < 2 ^ k → b < 2 ^ k → a ⊕ b < 2 ^ k
unfolding ◌⊕◌
⊕-lt = xor_lt

pub ⊕-shr : (a b k : ℕ) → (a ⊕ b) / 2 ^ k ≡ (a / 2 ^ k) ⊕ (b / 2 ^ k)
unfolding ◌⊕◌
⊕-shr = xor_shr

pub ⊕-half : (a b : ℕ) → (a ⊕ b) / 2 ≡ (a / 2) ⊕ (b / 2)
⊕-half a b = ⊕-shr a b 1

pub ⊕-odd : (a b : ℕ) → (a ⊕ b) % 2 ≡ (a % 2) ⊕ (b % 2)
unfolding ◌⊕◌
⊕-odd a b = xor_mod a b 1

-- a number by its lowest digit
pub ⊕-split : (a : ℕ) → (a / 2 * 2) ⊕ (a % 2) ≡ a
unfolding ◌⊕◌
⊕-split a = xor_shifted (a / 2) 1 (a % 2) (digit_lt a) ∙ div-add-mod' a 2

-- two numbers are equal when their halves and their lowest digits are
pub by_digit : {a b : ℕ} → a / 2 ≡ b / 2 → a % 2 ≡ b % 2 → a ≡ b
by_digit {a} {b} p q = sym (div-add-mod' a 2) ∙ ap₂ (λ (x y : ℕ). x * 2 + y) p q ∙ div-add-mod' b 2

assoc_digit : (x : ℕ) → x < 2 → (y : ℕ) → y < 2 → (z : ℕ) → z < 2 → (x ⊕ y) ⊕ z ≡ x ⊕ (y ⊕ z)
unfolding ◌⊕◌
assoc_digit =
    digit (λ x. (y : ℕ) → y < 2 → (z : ℕ) → z < 2 → (x ⊕ y) ⊕ z ≡ x ⊕ (y ⊕ z)) (λ y hy z hz. refl)
    (digit (λ y. (z : ℕ) → z < 2 → (1 ⊕ y) ⊕ z ≡ 1 ⊕ (y ⊕ z)) (λ z hz. refl) (digit (λ z. (1 ⊕ 1) ⊕ z ≡ 1 ⊕ (1 ⊕ z)) refl refl))

pub ⊕-assoc : (a b c : ℕ) → (a ⊕ b) ⊕ c ≡ a ⊕ (b ⊕ c)
⊕-assoc =
    bin_ind (λ a. (b c : ℕ) → (a ⊕ b) ⊕ c ≡ a ⊕ (b ⊕ c)) (λ b c. ap (λ (x : ℕ). x ⊕ c) (⊕-zero-l b) ∙ sym (⊕-zero-l (b ⊕ c)))
    (λ a ih b c. by_digit (simp ⊕-half (ih (b / 2) (c / 2)))
    (simp ⊕-odd (assoc_digit (a % 2) (digit_lt a) (b % 2) (digit_lt b) (c % 2) (digit_lt c))))

pub ⊕-left-comm : (a b c : ℕ) → a ⊕ (b ⊕ c) ≡ b ⊕ (a ⊕ c)
⊕-left-comm a b c = sym (⊕-assoc a b c) ∙ ap (λ (x : ℕ). x ⊕ c) (⊕-comm a b) ∙ ⊕-assoc b a c

pub ⊕-cancel : (a b : ℕ) → a ⊕ (a ⊕ b) ≡ b
⊕-cancel a b = sym (⊕-assoc a a b) ∙ ap (λ (x : ℕ). x ⊕ b) (⊕-self a) ∙ ⊕-zero-l b

-- sums sorted, with equal terms struck out
pub ruleset ⊕-norm = (⊕-assoc, ⊕-comm, ⊕-left-comm, ⊕-self, ⊕-cancel, ⊕-zero-l, ⊕-zero-r)

pub ⊕-swap4 : (a b c d : ℕ) → (a ⊕ b) ⊕ (c ⊕ d) ≡ (a ⊕ c) ⊕ (b ⊕ d)
⊕-swap4 a b c d = simp ⊕-norm

pub ⊕-eq : {a b : ℕ} → a ⊕ b ≡ 0 → a ≡ b
⊕-eq {a} {b} h = sym (⊕-zero-r a) ∙ ap (λ (x : ℕ). a ⊕ x) (sym h) ∙ ⊕-cancel a b

-- additive maps
abbrev pub Add : (ℕ → ℕ) → Type 0
Add f = (a b : ℕ) → f (a ⊕ b) ≡ f a ⊕ f b

pub add_0 : (f : ℕ → ℕ) → Add f → f 0 ≡ 0
add_0 f h = ap f (sym (⊕-self 0)) ∙ h 0 0 ∙ ⊕-self (f 0)

-- twice a number
pub dbl_half : (a : ℕ) → a * 2 / 2 ≡ a
dbl_half a = mul-div_cancel a two_pos

pub dbl_odd : (a : ℕ) → a * 2 % 2 ≡ 0
dbl_odd a = mul-mod_left a 2

pub dbl_add : Add (λ a. a * 2)
dbl_add a b = by_digit (simp (⊕-half, dbl_half)) (simp (⊕-odd, dbl_odd, ⊕-self))

-- b where the digit is set
abbrev pub sel : ℕ → ℕ → ℕ
sel zero b = zero
sel (suc x) b = b

pub sel_xor : (b x : ℕ) → x < 2 → (y : ℕ) → y < 2 → sel (x ⊕ y) b ≡ sel x b ⊕ sel y b
unfolding ◌⊕◌
sel_xor b =
    digit (λ x. (y : ℕ) → y < 2 → sel (x ⊕ y) b ≡ sel x b ⊕ sel y b) (λ y hy. refl)
    (digit (λ y. sel (1 ⊕ y) b ≡ b ⊕ sel y b) (sym (⊕-zero-r b)) (sym (⊕-self b)))

pub sel_map : (f : ℕ → ℕ) → f 0 ≡ 0 → (x b : ℕ) → f (sel x b) ≡ sel x (f b)
sel_map f h zero b = h
sel_map f h (suc x) b = refl

pub sel_one : (x : ℕ) → x < 2 → sel x 1 ≡ x
sel_one = digit (λ x. sel x 1 ≡ x) refl refl

-- ---- a mask by its bits
pub bit_⊕ : (i a b : ℕ) → coefficient i (a ⊕ b) ≡ coefficient i a ⊕ coefficient i b
bit_⊕ i a b = ap (λ (x : ℕ). x % 2) (⊕-shr a b i) ∙ ⊕-odd (a / 2 ^ i) (b / 2 ^ i)

zero_bits : (a : ℕ) → ((i : ℕ) → coefficient i a ≡ 0) → a ≡ 0
zero_bits =
    bin_ind (λ a. ((i : ℕ) → coefficient i a ≡ 0) → a ≡ 0) (λ h. refl)
    (λ a ih h. by_digit (ih (λ i. ap (λ (x : ℕ). x % 2) (shr-shr a 1 i ∙ ap (λ (k : ℕ). a / 2 ^ k) (one-add i)) ∙ h (suc i)))
    (ap (λ (x : ℕ). x % 2) (sym (div-one a)) ∙ h 0))

pub bit_ext : {a b : ℕ} → ((i : ℕ) → coefficient i a ≡ coefficient i b) → a ≡ b
bit_ext {a} {b} h =
    ⊕-eq (zero_bits (a ⊕ b) (λ i. bit_⊕ i a b ∙ ap (λ (x : ℕ). x ⊕ coefficient i b) (h i) ∙ ⊕-self (coefficient i b)))
