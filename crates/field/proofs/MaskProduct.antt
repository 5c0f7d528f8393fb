-- The product of masks: Horner's rule over doubling, and so a commutative ring with ⊕, on all numbers.
--
--   size_lt                    a is below 2^(size a)
--   clmul_horner               the product by Horner's rule
--   clmul_add_l, clmul_add_r, clmul_zero_l, clmul_zero_r, clmul_one_l, clmul_one_r, clmul_comm, clmul_assoc
--   clmul_dbl_l, clmul_dbl_r, clmul_two, clmul_pow      by x, and by x^i
--   product_enough             more coefficients of a than there are change nothing
--   clmul_degree               degrees add up
use mathlib.Core.Path.{◌≡◌, refl, sym, ap, ap₂, ◌∙◌, subst}
use mathlib.Core.Logic.{◌⊎◌, inl, inr}
use Prim.Native.Nat.{ℕ, zero, suc, ◌+◌, ◌*◌, ◌/◌, ◌%◌, ◌^◌, ◌<◌}
use native.Mathlib.Nat.{eq-or-lt_of_le, zero-add, zero-div, div-one, mul-one, zero-mul, one-mul, mul_assoc, pow-suc, div-lt_iff_lt-mul}
use native.Mathlib.Numerals.{one-add}
use native.Mathlib.Omega.{arith}
use lib.Pow.{shr-shr, pow_pos}
use borrow.Author.Tests.{ltb-true}
use Rattle.field.specs.Mask.{◌⊕◌, coefficient, size, product_below, clmul}
use Rattle.field.proofs.Search.{Least, least_is}
use Rattle.field.proofs.Xor.{two_pos, digit, digit_lt, ⊕-zero-r, ⊕-shr, ⊕-norm, Add, add_0, dbl_half, dbl_add, sel}
use Rattle.field.proofs.Horner.{horner, lin_ext, horner_0, horner_step, horner_add, horner_dbl, horner_1, horner_map}
use Rattle.field.proofs.Horner.{horner_vec}

lt_pow : (a : ℕ) → a < 2 ^ a
lt_pow zero = pow_pos 0
lt_pow (suc a) = let h : a < 2 ^ a = lt_pow a in rw (pow-suc 2 a) (omega arith)

pub size_lt : (a : ℕ) → a < 2 ^ size a
unfolding size
size_lt a = go (eq-or-lt_of_le l.le)
  where
    l : Least (λ n. lib.Dec.ltb a (2 ^ n)) a (size a)
    l = least_is (λ n. lib.Dec.ltb a (2 ^ n)) a

    go : (size a ≡ a) ⊎ (size a < a) → a < 2 ^ size a
    go (inl e) = subst (λ (n : ℕ). a < 2 ^ n) (sym e) (lt_pow a)
    go (inr h) = ltb-true a (2 ^ size a) (l.passes h)

-- multiplication by x
abbrev pub dbl : ℕ → ℕ
dbl a = a * 2

pub digit_mul : (b x : ℕ) → x < 2 → x * b ≡ sel x b
digit_mul b = digit (λ x. x * b ≡ sel x b) (zero-mul b) (one-mul b)

coefficient_suc : (i a : ℕ) → coefficient (suc i) a ≡ coefficient i (a / 2)
coefficient_suc i a = sym (ap (λ (x : ℕ). x % 2) (shr-shr a 1 i ∙ ap (λ (k : ℕ). a / 2 ^ k) (one-add i)))

product_step : (n a b : ℕ) → product_below (suc n) a b ≡ product_below n (a / 2) b * 2 ⊕ sel (a % 2) b
unfolding product_below
product_step zero a b =
    ap₂ (λ (x y : ℕ). 0 ⊕ x % 2 * y) (div-one a) (mul-one b) ∙ ap (λ (y : ℕ). 0 ⊕ y) (digit_mul b (a % 2) (digit_lt a))
product_step (suc n) a b =
    let c : ℕ = coefficient n (a / 2) in
    let p : ℕ = product_below n (a / 2) b in
    let shift : c * (b * 2 ^ suc n) ≡ c * (b * 2 ^ n) * 2 =
    ap (λ (y : ℕ). c * (b * y)) (pow-suc 2 n) ∙ ap (λ (y : ℕ). c * y) (sym (mul_assoc b (2 ^ n) 2))
    ∙ sym (mul_assoc c (b * 2 ^ n) 2) in
    ap₂ ◌⊕◌ (product_step n a b) (ap (λ (x : ℕ). x * (b * 2 ^ suc n)) (coefficient_suc n a) ∙ shift)
    ∙ sort (p * 2) (sel (a % 2) b) (c * (b * 2 ^ n) * 2) ∙ ap (λ (y : ℕ). y ⊕ sel (a % 2) b) (sym (dbl_add p (c * (b * 2 ^ n))))
  where
    sort : (x y z : ℕ) → x ⊕ y ⊕ z ≡ x ⊕ z ⊕ y
    sort x y z = simp ⊕-norm

product_horner : (n a b : ℕ) → a < 2 ^ n → product_below n a b ≡ horner dbl a b
unfolding product_below
product_horner zero a b h = let e : a ≡ 0 = omega arith in sym (ap (λ (x : ℕ). horner dbl x b) e ∙ horner_0 dbl b)
product_horner (suc n) a b h =
    product_step n a b
    ∙ ap (λ (x : ℕ). x * 2 ⊕ sel (a % 2) b) (product_horner n (a / 2) b ((div-lt_iff_lt-mul two_pos).1 (rw pow-suc at h)))
    ∙ sym (horner_step dbl dbl_add a b)

pub clmul_horner : (a b : ℕ) → clmul a b ≡ horner dbl a b
unfolding clmul
clmul_horner a b = product_horner (size a) a b (size_lt a)

pub product_enough : (n a b : ℕ) → a < 2 ^ n → product_below n a b ≡ clmul a b
product_enough n a b h = product_horner n a b h ∙ sym (clmul_horner a b)

pub clmul_add_l : (b : ℕ) → Add (λ a. clmul a b)
clmul_add_l b x y = simp clmul_horner (horner_add dbl dbl_add b x y)

pub clmul_add_r : (a : ℕ) → Add (clmul a)
clmul_add_r a x y = simp clmul_horner (horner_vec dbl dbl_add a x y)

pub clmul_dbl_l : (a b : ℕ) → clmul (a * 2) b ≡ clmul a b * 2
clmul_dbl_l a b = simp clmul_horner (horner_dbl dbl dbl_add a b)

pub clmul_dbl_r : (a b : ℕ) → clmul a (b * 2) ≡ clmul a b * 2
clmul_dbl_r a b = simp clmul_horner (sym (horner_map dbl dbl dbl_add dbl_add dbl dbl_add (λ x. refl) a b))

pub clmul_one_l : (a : ℕ) → clmul 1 a ≡ a
clmul_one_l a = clmul_horner 1 a ∙ horner_1 dbl dbl_add a

pub clmul_one_r : (a : ℕ) → clmul a 1 ≡ a
clmul_one_r = lin_ext dbl (λ a. clmul a 1) (λ a. a) (clmul_add_l 1) (λ a b. refl) (λ a. clmul_dbl_l a 1) (λ a. refl) (clmul_one_l 1)

pub clmul_comm : (a b : ℕ) → clmul a b ≡ clmul b a
clmul_comm a b =
    lin_ext dbl (λ x. clmul x b) (clmul b) (clmul_add_l b) (clmul_add_r b) (λ x. clmul_dbl_l x b) (λ x. clmul_dbl_r b x)
    (clmul_one_l b ∙ sym (clmul_one_r b)) a

pub clmul_assoc : (a b c : ℕ) → clmul (clmul a b) c ≡ clmul a (clmul b c)
clmul_assoc a b c =
    ap (λ (x : ℕ). clmul x c) (clmul_horner a b)
    ∙ horner_map dbl dbl dbl_add dbl_add (λ x. clmul x c) (clmul_add_l c) (λ x. clmul_dbl_l x c) a b
    ∙ sym (clmul_horner a (clmul b c))

pub clmul_zero_l : (a : ℕ) → clmul 0 a ≡ 0
clmul_zero_l a = add_0 (λ x. clmul x a) (clmul_add_l a)

pub clmul_zero_r : (a : ℕ) → clmul a 0 ≡ 0
clmul_zero_r a = add_0 (clmul a) (clmul_add_r a)

pub clmul_two : (a : ℕ) → clmul 2 a ≡ a * 2
clmul_two a = clmul_dbl_l 1 a ∙ ap dbl (clmul_one_l a)

pub clmul_pow : (a i : ℕ) → clmul a (2 ^ i) ≡ a * 2 ^ i
clmul_pow a zero = clmul_one_r a ∙ sym (mul-one a)
clmul_pow a (suc i) =
    ap (clmul a) (pow-suc 2 i) ∙ clmul_dbl_r a (2 ^ i) ∙ ap dbl (clmul_pow a i) ∙ mul_assoc a (2 ^ i) 2
    ∙ ap (λ (x : ℕ). a * x) (sym (pow-suc 2 i))

shr_suc : (m w : ℕ) → m / 2 / 2 ^ w ≡ m / 2 ^ suc w
shr_suc m w = shr-shr m 1 w ∙ ap (λ (i : ℕ). m / 2 ^ i) (one-add w)

clmul_step : (a b : ℕ) → clmul a b ≡ clmul (a / 2) b * 2 ⊕ sel (a % 2) b
clmul_step a b =
    clmul_horner a b ∙ horner_step dbl dbl_add a b ∙ ap (λ (m : ℕ). m * 2 ⊕ sel (a % 2) b) (sym (clmul_horner (a / 2) b))

-- a mask of degree y has nothing from x^(z + 1) on, where z is at least y
above_degree : (x y b : ℕ) → b / 2 ^ y ≡ 1 → b / 2 ^ suc (x + y) ≡ 0
above_degree x y b k =
    let e : suc (x + y) ≡ y + suc x = omega arith in
    ap (λ (i : ℕ). b / 2 ^ i) e ∙ sym (shr-shr b y (suc x)) ∙ ap (λ (m : ℕ). m / 2 ^ suc x) k ∙ sym (shr_suc 1 x) ∙ zero-div (2 ^ x)

pub clmul_degree : (x y a b : ℕ) → a / 2 ^ x ≡ 1 → b / 2 ^ y ≡ 1 → clmul a b / 2 ^ (x + y) ≡ 1
clmul_degree zero y a b h k =
    ap₂ (λ (c z : ℕ). c / 2 ^ z) (ap (λ (c : ℕ). clmul c b) (sym (div-one a) ∙ h) ∙ clmul_one_l b) (zero-add y) ∙ k
clmul_degree (suc x) y a b h k =
    let e : suc x + y ≡ suc (x + y) = omega arith in
    let c : ℕ = clmul (a / 2) b in
    ap₂ (λ (m w : ℕ). m / 2 ^ w) (clmul_step a b) e ∙ ⊕-shr (c * 2) (sel (a % 2) b) (suc (x + y))
    ∙ ap₂ ◌⊕◌
    (sym (shr_suc (c * 2) (x + y)) ∙ ap (λ (m : ℕ). m / 2 ^ (x + y)) (dbl_half c)
    ∙ clmul_degree x y (a / 2) b (shr_suc a x ∙ h) k)
    (digit (λ d. sel d b / 2 ^ suc (x + y) ≡ 0) (zero-div (2 ^ suc (x + y))) (above_degree x y b k) (a % 2) (digit_lt a))
    ∙ ⊕-zero-r 1
