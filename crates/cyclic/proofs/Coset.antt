-- Defining sets by representatives.
--
--   Representatives n D reps      D is the union of the whole cosets of reps
--   closed                such a set is closed under doubling; coset_code: so it is that of a code over a field of the table
--   round                 the powers of 2 come round after s doublings, where n divides 2^s - 1
--   value_square          the value of a mask at a square is the square of its value
--   vanishes_iff          a mask vanishes at the representatives exactly where it vanishes on D
use mathlib.Core.Path.{◌≡◌, sym, ap, ◌∙◌, subst}
use mathlib.Core.Logic.{◌↔◌}
use mathlib.Core.Bool.{Bool}
use mathlib.Core.List.{List}
use lib.Dec.{T}
use lib.Pow.{pow_pos, pow-add as pow_addℕ}
use Prim.Native.Nat.{ℕ, zero, suc, ◌+◌, ◌-◌, ◌*◌, ◌/◌, ◌%◌, ◌^◌, ◌<◌, ◌∣◌}
use native.Mathlib.Nat.{mod-lt, mod-add-div, mod-eq-zero_of_dvd, mod-add-mod, zero-mod, zero-add}
use native.Mathlib.Nat.{mul-one, mul-suc, mul-zero, mul_assoc, zero-mul as zero_mulℕ}
use native.Mathlib.Omega.{arith}
use Rattle.algebra.proofs.Ring.{Ring, mul-one as ⊠-one, mul-zero as ⊠-zero}
use Rattle.algebra.proofs.Power.{pow, pow-add, pow_mod, square_add}
use Rattle.algebra.proofs.Lists.{All, In, all_of, all_at}
use Rattle.field.specs.Field.{Degree}
use Rattle.field.proofs.Elements.{GF}
use Rattle.field.proofs.OrderOfTwo.{mul_mod}
use Rattle.field.proofs.Value.{value, ext, value_add, value_dbl, value_zero, value_one}
use Rattle.cyclic.proofs.Monic.{sq, sq_mul}
use Rattle.cyclic.proofs.CyclicCode.{Closed, Code, table_code, Vanishes}

pub record Representatives (n : ℕ) (D : ℕ → Bool) (reps : List ℕ) : Type 0 where
  pub inside : {r : ℕ} → In r reps → (j : ℕ) → T (D (r * 2 ^ j % n))
  pub cover : (i : ℕ) → T (D i) → (r : ℕ) × (j : ℕ) × In r reps × (r * 2 ^ j % n ≡ i)

pow_double : (r j : ℕ) → r * 2 ^ suc j ≡ r * 2 ^ j * 2
pow_double r j =
    let e : 2 ^ suc j ≡ 2 * 2 ^ j = omega arith in
    let d : (x : ℕ) → r * (2 * x) ≡ r * x * 2 = λ x. omega arith in
    ap (λ (x : ℕ). r * x) e ∙ d (2 ^ j)

pub closed : {n : ℕ} {D : ℕ → Bool} {reps : List ℕ} → Representatives n D reps → Closed n D
closed {n} {D} W i h t =
    let w = W.cover i t in
    subst (λ (x : ℕ). T (D x))
    (sym
    (ap (λ (x : ℕ). x * 2 % n) (sym w.3) ∙ mul_mod (w.0 * 2 ^ w.1) 2 n
    ∙ ap (λ (x : ℕ). x % n) (sym (pow_double w.0 w.1))))
    (W.inside w.2 (suc w.1))

abbrev pub coset_code : {s : ℕ} (d : Degree s) {n : ℕ} → n ∣ 2 ^ s - 1 → {D : ℕ → Bool} {reps : List ℕ}
    → Representatives n D reps → Code (GF d) n
coset_code d h {D = D} W = table_code d h D (closed W)

module _ (n s : ℕ) (h : n ∣ 2 ^ s - 1) where
  once : (r : ℕ) → r * 2 ^ s % n ≡ r % n
  once r =
      ap (λ (x : ℕ). x % n) (split (2 ^ s) (pow_pos s)) ∙ sym (mod-add-mod ((2 ^ s - 1) * r) n r)
      ∙ ap (λ (x : ℕ). (x + r) % n)
      (sym (mul_mod (2 ^ s - 1) r n) ∙ ap (λ (x : ℕ). x * r % n) (mod-eq-zero_of_dvd n h)
      ∙ ap (λ (x : ℕ). x % n) (zero_mulℕ r) ∙ zero-mod n)
      ∙ ap (λ (x : ℕ). x % n) (zero-add r)
    where
      split : (x : ℕ) → 0 < x → r * x ≡ (x - 1) * r + r
      split zero p = absurd (omega arith)
      split (suc x) p = let e : suc x - 1 ≡ x = omega arith in rw e (omega arith)

  times : (r q : ℕ) → r * 2 ^ (s * q) % n ≡ r % n
  times r zero = ap (λ (k : ℕ). r * 2 ^ k % n) (mul-zero s) ∙ ap (λ (x : ℕ). x % n) (mul-one r)
  times r (suc q) =
      ap (λ (k : ℕ). r * 2 ^ k % n) (mul-suc s q)
      ∙ ap (λ (x : ℕ). r * x % n) (pow_addℕ 2 (s * q) s)
      ∙ ap (λ (x : ℕ). x % n) (sym (mul_assoc r (2 ^ (s * q)) (2 ^ s)))
      ∙ once (r * 2 ^ (s * q)) ∙ times r q

  pub round : (r j : ℕ) → r * 2 ^ j % n ≡ r * 2 ^ (j % s) % n
  round r j =
      ap (λ (k : ℕ). r * 2 ^ k % n) (sym (mod-add-div j s))
      ∙ ap (λ (x : ℕ). r * x % n) (pow_addℕ 2 (j % s) (s * (j / s)))
      ∙ ap (λ (x : ℕ). x % n) (sym (mul_assoc r (2 ^ (j % s)) (2 ^ (s * (j / s)))))
      ∙ times (r * 2 ^ (j % s)) (j / s)

-- ---- values
module _ {A : Type 0} (R : Ring A) where
  pub value_square : (x : A) (c : ℕ) → value R (sq R x) c ≡ sq R (value R x c)
  value_square x =
      ext R (λ y. R.mul y (sq R x)) (value R (sq R x)) (λ c. sq R (value R x c)) (value_add R (sq R x))
      (λ a b. ap (sq R) (value_add R x a b) ∙ square_add R _ _) (value_dbl R (sq R x))
      (λ a. ap (sq R) (value_dbl R x a) ∙ sq_mul R (value R x a) x)
      (value_zero R _ ∙ sym (ap (sq R) (value_zero R x) ∙ ⊠-zero R _))
      (value_one R _ ∙ sym (ap (sq R) (value_one R x) ∙ ⊠-one R _))

module _ {A : Type 0} {R : Ring A} {n : ℕ} (C : Code R n) where
  open R use {𝟘}
  open C use {α, order, D}

  value_coset : (r j c : ℕ) → value R (pow R α r) c ≡ 𝟘 → value R (pow R α (r * 2 ^ j)) c ≡ 𝟘
  value_coset r zero c e = let q : r * 2 ^ 0 ≡ r = mul-one r in rw q e
  value_coset r (suc j) c e =
      let m : (x : ℕ) → x * 2 ≡ x + x = λ x. omega arith in
      let q : r * 2 ^ suc j ≡ r * 2 ^ j + r * 2 ^ j = pow_double r j ∙ m (r * 2 ^ j) in
      ap (λ (k : ℕ). value R (pow R α k) c) q ∙ ap (λ x. value R x c) (pow-add R α (r * 2 ^ j) (r * 2 ^ j))
      ∙ value_square R (pow R α (r * 2 ^ j)) c ∙ ap (sq R) (value_coset r j c e) ∙ ⊠-zero R 𝟘

  pub vanishes_iff : {reps : List ℕ} → Representatives n D reps → (c : ℕ)
      → All (λ r. value R (pow R α r) c ≡ 𝟘) reps ↔ Vanishes C c
  vanishes_iff {reps} W c = (
    λ a i h t. let w = W.cover i t in
        ap (λ (k : ℕ). value R (pow R α k) c) (sym w.3) ∙ ap (λ x. value R x c) (sym (pow_mod R α n order _))
        ∙ value_coset w.0 w.1 c (all_at a w.2),
    λ v. all_of reps (λ r m. ap (λ x. value R x c) (pow_mod R α n order r)
        ∙ v (r % n) (mod-lt r order.pos) (subst (λ (x : ℕ). T (D (x % n))) (mul-one r) (W.inside m 0))),
  )
