-- The exact test of rule 3 on masks: what `independent` says, and the laws of the code that tests it.
--
--   denominator            a Modulus is a Denominator of the theory
--   value_modulo_lem           Horner's rule gives P(x^n) modulo f
--   independent_is         `independent` says what the theory's Independent does
--   power_start, power_even, power_odd      a power of x modulo f
--   HeldUpTo, held_start, held_room, held_shift, held_more      the rows of powers
--   powers_free            their rows are free exactly where Independent holds
--   FreeFrom, free_start, pivot, free_more, free_fails, free_ends      the elimination
use mathlib.Core.Path.{◌≡◌, refl, sym, ap, ap₂, ◌∙◌, subst}
use mathlib.Core.Logic.Iff
use mathlib.Core.Logic.{◌≢◌, ◌↔◌}
use mathlib.Core.Bool.{Bool, true, false, not}
use Prim.Native.Nat.{ℕ, zero, suc, ◌+◌, ◌-◌, ◌*◌, ◌/◌, ◌%◌, ◌^◌, ◌≤◌, ◌<◌}
use native.Mathlib.Nat.{zero-mul, one-mul, mul-zero, mul-one, mul_assoc, mod-eq_of_lt, pow-suc, sub-zero}
use native.Mathlib.Numerals.{add-one}
use native.Mathlib.Omega.{arith}
use native.Mathlib.Decide.{ℕ_discrete}
use lib.Dec.{eqb}
use lib.Pow.{pow_mono, pow-add, shr-shr}
use borrow.Author.Tests.{eqb-true, eqb-false}
use Rattle.field.specs.Search.{up_to, every}
use Rattle.field.proofs.Search.{every_at, every_of, true_ne_false}
use Rattle.field.specs.Mask.{◌⊕◌, coefficient, clmul, remainder}
use Rattle.field.proofs.Xor.{digit, digit_lt, ⊕-comm}
use Rattle.field.proofs.MaskProduct.{clmul_pow}
use Rattle.field.proofs.Remainder.{remainder_zero, remainder_small, remainder_add, remainder_mul_l, remainder_mul_r}
use Rattle.cyclic.proofs.Division.{divides_iff}
use Rattle.cyclic.proofs.Spread.{spread, spread_zero, spread_step}
use Rattle.cyclic.proofs.Period.{Denominator}
use Rattle.cyclic.proofs.Independent.{Independent}
use Rattle.binary.specs.Factor.{degree, Modulus}
use Rattle.binary.specs.Independence.{value_modulo, independent, row_at, PowersHeld, RowsStruck}
use Rattle.binary.proofs.Degree.{degree_top, degree_le}
use Rattle.binary.proofs.MaskPeriod.{modulus_top, modulus_two, modulus_cap, times_lt}
use Rattle.binary.proofs.Feeding.{raised_sum}
use Rattle.binary.proofs.Elimination.{row_sum, row_sum_ext, Free, struck, free_none, free_zero, free_ext, free_struck}
use Rattle.binary.proofs.RowsHeld.{row_first, row_kept, row_put, rows_lt}

pub denominator : {f u : ℕ} → Modulus f u → Denominator u f
denominator m = record { pos = m.lo; degree = modulus_top m; odd = m.odd }

-- ---- what `independent` says
module _ (n : ℕ) {u f : ℕ} (d : Denominator u f) where
  -- a remainder may be struck before the shift
  shifted : (a : ℕ) → remainder u f (remainder u f a * 2 ^ n) ≡ remainder u f (a * 2 ^ n)
  shifted a =
      ap (remainder u f) (sym (clmul_pow (remainder u f a) n)) ∙ remainder_mul_l u f d.pos d.degree a (2 ^ n)
      ∙ ap (remainder u f) (clmul_pow a n)

  pub value_modulo_lem : (k P : ℕ) → P < 2 ^ k → value_modulo u f n k P ≡ remainder u f (spread n P)
  unfolding value_modulo
  value_modulo_lem zero P h =
      let z : P ≡ 0 = omega arith in
      sym (ap (λ (x : ℕ). remainder u f (spread n x)) z ∙ ap (remainder u f) (spread_zero n) ∙ remainder_zero u f d.pos d.degree)
  value_modulo_lem (suc k) P h =
      let two : 2 ^ 1 ≤ 2 ^ u = pow_mono d.pos in
      let low : P % 2 < 2 = digit_lt P in
      ap₂ ◌⊕◌
      (ap (λ (x : ℕ). remainder u f (x * 2 ^ n)) (value_modulo_lem k (P / 2) (omega arith)) ∙ shifted (spread n (P / 2)))
      (sym (remainder_small u f d.pos d.degree (P % 2) (omega arith)))
      ∙ sym (ap (remainder u f) (spread_step n P) ∙ remainder_add u f d.pos d.degree _ _)

  not-true : (b : Bool) → not b ≡ true → b ≡ false
  not-true true e = absurd (true_ne_false e refl)
  not-true false e = refl

  pub independent_is : (independent n u f ≡ true) ↔ Independent n u f
  unfolding independent
  independent_is = (there, back)
    where
      value : ℕ → ℕ
      value P = value_modulo u f n u P

      there : every (λ P. not (eqb (value (suc P)) 0)) (up_to (2 ^ u - 1)) ≡ true → Independent n u f
      there e zero h w = refl
      there e (suc P) h w =
          absurd
          (eqb-false (value (suc P)) 0 (not-true _ (every_at _ _ e P (omega arith)))
          (value_modulo_lem u (suc P) h ∙ (divides_iff u f d.degree _).0 w))

      back : Independent n u f → every (λ P. not (eqb (value (suc P)) 0)) (up_to (2 ^ u - 1)) ≡ true
      back free = every_of _ _ (λ P l. go P l (ℕ_discrete (value (suc P)) 0))
        where
          go : (P : ℕ) → P < 2 ^ u - 1 → Dec (value (suc P) ≡ 0) → not (eqb (value (suc P)) 0) ≡ true
          go P l (yes e) =
              let z : suc P ≡ 0 =
              free (suc P) (omega arith)
              ((divides_iff u f d.degree _).1 (sym (value_modulo_lem u (suc P) (omega arith)) ∙ e)) in
              absurd (omega arith)
          go P l (no e) = flip (eqb (value (suc P)) 0) refl
            where
              flip : (b : Bool) → eqb (value (suc P)) 0 ≡ b → not b ≡ true
              flip true q = absurd (e (eqb-true (value (suc P)) 0 q))
              flip false q = refl

-- ---- what the loops keep: the rows below i and the last of them; and what is left of the rows after i turns
pub record HeldUpTo (u f n i w a : ℕ) : Type 0 where
  pub rows : PowersHeld u f n i w
  pub below : w < 2 ^ (8 * i)
  pub some : 0 < i
  pub last : a ≡ remainder u f (2 ^ (n * (i - 1)))

pub record FreeFrom (u f n i w : ℕ) : Type 0 where
  pub within : i ≤ u
  pub free : Independent n u f ↔ Free (row_at w) (u - i)

module _ {f u : ℕ} (m : Modulus f u) where
  rem : ℕ → ℕ
  rem a = remainder u f a

  add : (a b : ℕ) → rem (a ⊕ b) ≡ rem a ⊕ rem b
  unfolding rem
  add = remainder_add u f m.lo (modulus_top m)

  small : (a : ℕ) → a < 2 ^ u → rem a ≡ a
  unfolding rem
  small = remainder_small u f m.lo (modulus_top m)

  left : (a b : ℕ) → rem (clmul (rem a) b) ≡ rem (clmul a b)
  unfolding rem
  left = remainder_mul_l u f m.lo (modulus_top m)

  right : (a b : ℕ) → rem (clmul a (rem b)) ≡ rem (clmul a b)
  unfolding rem
  right = remainder_mul_r u f m.lo (modulus_top m)

  zero_is : rem 0 ≡ 0
  unfolding rem
  zero_is = remainder_zero u f m.lo (modulus_top m)

  -- x times a remainder
  doubled : (a : ℕ) → rem (rem a * 2) ≡ rem (a * 2)
  doubled a = ap rem (sym (clmul_pow (rem a) 1)) ∙ left a 2 ∙ ap rem (clmul_pow a 1)

  -- ---- x^n, by the digits of n from the highest down
  pub power_start : (n i x : ℕ) → 0 < n → i ≡ degree n → x ≡ remainder u f (1 * 2) → x ≡ remainder u f (2 ^ (n / 2 ^ i))
  power_start n i x h d e = e ∙ ap (λ (k : ℕ). remainder u f (2 ^ k)) (sym (ap (λ (k : ℕ). n / 2 ^ k) d ∙ degree_top n h))

  squared : (a k : ℕ) → a ≡ remainder u f (2 ^ k) → remainder u f (clmul a a) ≡ remainder u f (2 ^ (k + k))
  unfolding rem
  squared a k e =
      ap₂ (λ (x y : ℕ). rem (clmul x y)) e e ∙ left (2 ^ k) (rem (2 ^ k)) ∙ right (2 ^ k) (2 ^ k)
      ∙ ap rem (clmul_pow (2 ^ k) k ∙ sym (pow-add 2 k k))

  halves : (n i : ℕ) → 0 < i → n / 2 ^ (i - 1) ≡ n / 2 ^ i + n / 2 ^ i + n / 2 ^ (i - 1) % 2
  halves n i p =
      let j : i - 1 + 1 ≡ i = omega arith in
      let q : n / 2 ^ i ≡ n / 2 ^ (i - 1) / 2 = ap (λ (k : ℕ). n / 2 ^ k) (sym j) ∙ sym (shr-shr n (i - 1) 1) in
      omega arith

  pub power_even : (n i x y : ℕ) → 0 < i → x ≡ remainder u f (2 ^ (n / 2 ^ i)) → y ≡ remainder u f (clmul x x)
      → n / 2 ^ (i - 1) % 2 ≢ 1 → y ≡ remainder u f (2 ^ (n / 2 ^ (i - 1)))
  power_even n i x y p ex ey ne =
      let e : n / 2 ^ i + n / 2 ^ i ≡ n / 2 ^ (i - 1) = omega (arith, halves n i p, digit_lt (n / 2 ^ (i - 1))) in
      ey ∙ squared x (n / 2 ^ i) ex ∙ ap (λ (k : ℕ). remainder u f (2 ^ k)) e

  pub power_odd : (n i x y z : ℕ) → 0 < i → x ≡ remainder u f (2 ^ (n / 2 ^ i)) → y ≡ remainder u f (clmul x x)
      → z ≡ remainder u f (y * 2) → n / 2 ^ (i - 1) % 2 ≡ 1 → z ≡ remainder u f (2 ^ (n / 2 ^ (i - 1)))
  unfolding rem
  power_odd n i x y z p ex ey ez o =
      let k : ℕ = n / 2 ^ i + n / 2 ^ i in
      let e : suc k ≡ n / 2 ^ (i - 1) = omega (arith, halves n i p, o) in
      ez ∙ ap (λ (v : ℕ). rem (v * 2)) (ey ∙ squared x (n / 2 ^ i) ex) ∙ doubled (2 ^ k)
      ∙ ap rem (sym (pow-suc 2 k)) ∙ ap (λ (j : ℕ). rem (2 ^ j)) e

  -- ---- the rows
  pub held_start : (n : ℕ) → HeldUpTo u f n 1 1 1
  unfolding rem row_at
  held_start n =
      let one : 1 ≡ rem (2 ^ (n * 0)) = sym (ap (λ (k : ℕ). rem (2 ^ k)) (mul-zero n) ∙ small 1 (omega (arith, modulus_two m))) in
      record {
        rows = record { is = λ i l. let z : i ≡ 0 = omega arith in ap (row_at 1) z ∙ one ∙ ap (λ (k : ℕ). rem (2 ^ (n * k))) (sym z) };
        below = omega arith;
        some = omega arith;
        last = one;
      }

  -- the next power
  held_next : {n i w a : ℕ} (y b : ℕ) → HeldUpTo u f n i w a → y ≡ remainder u f (2 ^ n) → b ≡ remainder u f (clmul a y)
      → b ≡ remainder u f (2 ^ (n * i))
  unfolding rem
  held_next {n} {i} y b h ey eb =
      let k : ℕ = i - 1 in
      let s : i ≡ k + 1 = omega (arith, h.some) in
      let e : n * k + n ≡ n * (k + 1) = omega arith in
      eb ∙ ap₂ (λ (v z : ℕ). rem (clmul v z)) h.last ey ∙ left (2 ^ (n * k)) (rem (2 ^ n)) ∙ right (2 ^ (n * k)) (2 ^ n)
      ∙ ap rem (clmul_pow (2 ^ (n * k)) n ∙ sym (pow-add 2 (n * k) n)) ∙ ap (λ (j : ℕ). rem (2 ^ j)) e
      ∙ ap (λ (j : ℕ). rem (2 ^ (n * j))) (sym s)

  next_lt : {b : ℕ} (a : ℕ) → b ≡ remainder u f a → b < 256
  next_lt a e = omega (arith, times_lt m a e, modulus_cap m)

  pub held_room : {n i w a b : ℕ} → HeldUpTo u f n i w a → i < u → b < 2 ^ u → w + b * 2 ^ (8 * i) < 2 ^ 64
  held_room {n} {i} {w} {a} {b} h l e =
      let k : 8 * suc i ≤ 64 = omega (arith, m.hi) in
      let p : 2 ^ (8 * suc i) ≤ 2 ^ 64 = pow_mono k in
      omega (arith, rows_lt i w b h.below (omega (arith, e, modulus_cap m)))

  -- no bit of the row is lost
  pub held_shift : {n i w a b : ℕ} → HeldUpTo u f n i w a → i < u → b < 2 ^ u → b * 2 ^ (8 * i) % 2 ^ 64 ≡ b * 2 ^ (8 * i)
  held_shift h l e = mod-eq_of_lt (omega (arith, held_room h l e))

  pub held_more : (n i w a y b : ℕ) → HeldUpTo u f n i w a → y ≡ remainder u f (2 ^ n) → b ≡ remainder u f (clmul a y)
      → HeldUpTo u f n (i + 1) (w + b * 2 ^ (8 * i)) b
  unfolding rem
  held_more n i w a y b h ey eb = record {
    rows = record { is = λ j l. go j l (ℕ_discrete j i) };
    below = subst (λ (k : ℕ). w + b * 2 ^ (8 * i) < 2 ^ (8 * k)) (sym (add-one i)) (rows_lt i w b h.below (next_lt (clmul a y) eb));
    some = omega arith;
    last = let z : i + 1 - 1 ≡ i = omega arith in held_next y b h ey eb ∙ ap (λ (k : ℕ). rem (2 ^ (n * k))) (sym z);
  }
    where
      go : (j : ℕ) → j < i + 1 → Dec (j ≡ i) → row_at (w + b * 2 ^ (8 * i)) j ≡ rem (2 ^ (n * j))
      go j l (yes e) =
          ap (row_at (w + b * 2 ^ (8 * i))) e ∙ row_put i w b h.below (next_lt (clmul a y) eb) ∙ held_next y b h ey eb
          ∙ ap (λ (k : ℕ). rem (2 ^ (n * k))) (sym e)
      go j l (no e) = row_kept i w b j (omega arith) ∙ h.rows.is j (omega arith)

  -- ---- combinations of the powers
  combined : (n k i P : ℕ) → P < 2 ^ k
      → row_sum (λ j. remainder u f (2 ^ (n * (i + j)))) k P ≡ remainder u f (spread n P * 2 ^ (n * i))
  unfolding row_sum rem
  combined n zero i P h =
      let z : P ≡ 0 = omega arith in
      sym (ap (λ (x : ℕ). rem (x * 2 ^ (n * i))) (ap (spread n) z ∙ spread_zero n) ∙ ap rem (zero-mul (2 ^ (n * i))) ∙ zero_is)
  combined n (suc k) i P h =
      let z : i + 0 ≡ i = omega arith in
      let more : n + n * i ≡ n * suc i = omega arith in
      let S : ℕ = spread n (P / 2) in
      ap₂ ◌⊕◌
      (ap (λ (j : ℕ). (P % 2) * rem (2 ^ (n * j))) z ∙ one (2 ^ (n * i)) (P % 2) (digit_lt P))
      (row_sum_ext (λ j. rem (2 ^ (n * (i + suc j)))) (λ j. rem (2 ^ (n * (suc i + j)))) k
      (λ j l. let e : i + suc j ≡ suc i + j = omega arith in ap (λ (x : ℕ). rem (2 ^ (n * x))) e) (P / 2)
      ∙ combined n k (suc i) (P / 2) (omega arith)
      ∙ ap rem (ap (λ (x : ℕ). S * 2 ^ x) (sym more) ∙ ap (λ (x : ℕ). S * x) (pow-add 2 n (n * i)) ∙ sym (mul_assoc S (2 ^ n) (2 ^ (n * i)))))
      ∙ ⊕-comm _ _ ∙ sym (add _ _) ∙ ap rem (sym (raised_sum (S * 2 ^ n) (P % 2) (n * i)))
      ∙ ap (λ (x : ℕ). rem (x * 2 ^ (n * i))) (sym (spread_step n P))
    where
      one : (a b : ℕ) → b < 2 → b * rem a ≡ rem (b * a)
      one a =
          digit (λ b. b * rem a ≡ rem (b * a)) (zero-mul (rem a) ∙ sym (ap rem (zero-mul a) ∙ zero_is))
          (one-mul (rem a) ∙ sym (ap rem (one-mul a)))

  pub powers_free : {n w : ℕ} → PowersHeld u f n u w → Independent n u f ↔ Free (row_at w) u
  unfolding rem
  powers_free {n} {w} h = (
    λ free P l e. free P l ((divides_iff u f (modulus_top m) _).1 (sym (is P l) ∙ e)),
    λ free P l d. free P l (is P l ∙ (divides_iff u f (modulus_top m) _).0 d),
  )
    where
      is : (P : ℕ) → P < 2 ^ u → row_sum (row_at w) u P ≡ rem (spread n P)
      is P l =
          row_sum_ext (row_at w) (λ j. rem (2 ^ (n * (0 + j)))) u
          (λ j k. let e : 0 + j ≡ j = omega arith in h.is j k ∙ ap (λ (x : ℕ). rem (2 ^ (n * x))) (sym e)) P
          ∙ combined n u 0 P l
          ∙ ap (λ (x : ℕ). rem (spread n P * 2 ^ x)) (mul-zero n) ∙ ap rem (mul-one (spread n P))

  -- ---- the elimination
  pub free_start : {n w : ℕ} → PowersHeld u f n u w → FreeFrom u f n 0 w
  free_start {n} {w} h = record { within = omega arith; free = subst (λ (k : ℕ). Independent n u f ↔ Free (row_at w) k) (sym (sub-zero u)) (powers_free h) }

  -- the highest coefficient of a row
  pub pivot : (v t : ℕ) → v ≢ 0 → v < 256 → t ≡ degree v → (t < 8) × (coefficient t v ≡ 1)
  pivot v t ne l e =
      let top : v / 2 ^ t ≡ 1 = ap (λ (k : ℕ). v / 2 ^ k) e ∙ degree_top v (omega arith) in
      (omega (arith, e, degree_le v 7 (omega arith) l), ap (λ (x : ℕ). x % 2) top)

  pub free_more : (n i w t r : ℕ) → FreeFrom u f n i w → i < u → w % 256 ≢ 0 → t ≡ degree (w % 256) → RowsStruck t w r → FreeFrom u f n (i + 1) r
  free_more n i w t r s l ne e st =
      let p = pivot (w % 256) t ne (omega arith) e in
      let k : ℕ = u - (i + 1) in
      let sk : u - i ≡ suc k = omega arith in
      let rows : (j : ℕ) → j < k → row_at r j ≡ struck t (row_at w 0) (λ j. row_at w (suc j)) j =
      λ j q. st.is j (omega (arith, m.hi)) in
      record {
        within = omega arith;
        free =
            Iff.trans s.free
            (subst (λ (x : ℕ). Free (row_at w) x ↔ Free (row_at r) k) (sym sk)
            (Iff.trans (free_struck t (row_at w) k (ap (coefficient t) (row_first w) ∙ p.1)) (
              free_ext (struck t (row_at w 0) (λ j. row_at w (suc j))) (row_at r) k (λ j q. sym (rows j q)),
              free_ext (row_at r) (struck t (row_at w 0) (λ j. row_at w (suc j))) k rows,
            )));
      }

  not_all : (b : Bool) → ¬ (b ≡ true) → false ≡ b
  not_all true h = absurd (h refl)
  not_all false h = refl

  pub free_fails : (n i w : ℕ) → FreeFrom u f n i w → i < u → w % 256 ≡ 0 → false ≡ independent n u f
  free_fails n i w s l z =
      let sk : u - i ≡ suc (u - i - 1) = omega arith in
      not_all (independent n u f)
      (λ e. free_zero (row_at w) (u - i - 1) (row_first w ∙ z)
      (subst (Free (row_at w)) sk (s.free.0 ((independent_is n (denominator m)).0 e))))

  pub free_ends : (n i w : ℕ) → FreeFrom u f n i w → u ≤ i → true ≡ independent n u f
  free_ends n i w s l =
      let z : 0 ≡ u - i = omega (arith, s.within) in
      sym ((independent_is n (denominator m)).1 (s.free.1 (subst (Free (row_at w)) z (free_none (row_at w)))))
