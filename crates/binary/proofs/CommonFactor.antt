-- Euclid on masks: a turn keeps the common divisors of degree 1 or more.
--
--   strike s p i a             a step of long division: x^i p taken off where the coefficient of x^(s + i) is 1
--   strike_set, strike_clear   what it does to a
--   down_all                   the remainder by any number of steps that reaches a's size
--   down_start, down_turn, down_end      before, in and after the loop of the code
--   some_not                   no number below n passes where each does not
--   remainder_bound            the remainder is below the divisor
--   SameFactors f h x y        f and h have the divisors in common that x and y have
--   factors_start, ratio_bounds, factors_turn, factors_end      before, in and after the loop
use mathlib.Core.Path.{◌≡◌, refl, sym, ap, ap₂, ◌∙◌, subst}
use mathlib.Core.Logic.{◌≢◌}
use mathlib.Core.Bool.{Bool, true, false, ◌&&◌}
use Prim.Native.Nat.{ℕ, suc, ◌+◌, ◌-◌, ◌*◌, ◌/◌, ◌%◌, ◌^◌, ◌≤◌, ◌<◌}
use native.Mathlib.Nat.{div-eq_of_lt, zero-mul, one-mul, lt_of_lt_of_le}
use native.Mathlib.Decide.{dec_lt, le_ind}
use native.Mathlib.Omega.{arith}
use lib.Bits.{bit_xor}
use lib.Dec.{eqb}
use lib.Pow.{pow_mono}
use borrow.Author.Tests.{eqb-true, eq-eqb, ne_eqb}
use Rattle.field.specs.Search.{up_to, some}
use Rattle.field.specs.Mask.{◌⊕◌, coefficient, size, clmul, divide_down, remainder}
use Rattle.field.proofs.Search.{true_ne_false, some_at, some_of}
use Rattle.field.proofs.Xor.{digit_lt, ⊕-zero-l, ⊕-zero-r}
use Rattle.field.proofs.MaskProduct.{size_lt, clmul_one_r, clmul_zero_l}
use Rattle.field.proofs.Remainder.{remainder_lt, quotient, remainder_add, remainder_zero, remainder_small, remainder_multiple}
use Rattle.field.proofs.Remainder.{remainder_mul_l}
use Rattle.binary.specs.Factor.{degree, divides, common, Ratio}
use Rattle.binary.proofs.Degree.{degree_low, degree_top, degree_le, degree_pos}
use Rattle.binary.proofs.Coprime.{and_turn}

-- ---- long division
abbrev pub strike : ℕ → ℕ → ℕ → ℕ → ℕ
strike s p i a = a ⊕ coefficient (s + i) a * (p * 2 ^ i)

pub strike_set : (s p i a m : ℕ) → m ≡ p * 2 ^ i → a / 2 ^ (s + i) % 2 ≡ 1 → bit_xor a m ≡ strike s p i a
unfolding ◌⊕◌
strike_set s p i a m q e = ap (λ (x : ℕ). a ⊕ x) (q ∙ sym (ap (λ (c : ℕ). c * (p * 2 ^ i)) e ∙ one-mul (p * 2 ^ i)))

strike_none : (s p i a : ℕ) → a / 2 ^ (s + i) % 2 ≡ 0 → strike s p i a ≡ a
strike_none s p i a e = ap (λ (c : ℕ). a ⊕ c * (p * 2 ^ i)) e ∙ ap (λ (x : ℕ). a ⊕ x) (zero-mul (p * 2 ^ i)) ∙ ⊕-zero-r a

pub strike_clear : (s p i a : ℕ) → a / 2 ^ (s + i) % 2 ≢ 1 → a ≡ strike s p i a
strike_clear s p i a n =
    let d : a / 2 ^ (s + i) % 2 < 2 = digit_lt (a / 2 ^ (s + i)) in
    let z : a / 2 ^ (s + i) % 2 ≡ 0 = omega arith in sym (strike_none s p i a z)

down_z : (s p a : ℕ) → divide_down s p 0 a ≡ a
unfolding divide_down
down_z s p a = refl

down_s : (s p i a : ℕ) → divide_down s p (suc i) a ≡ divide_down s p i (strike s p i a)
unfolding divide_down
down_s s p i a = refl

-- steps above a's size do nothing
high : (s p a n m : ℕ) → a < 2 ^ (s + n) → n ≤ m → divide_down s p m a ≡ divide_down s p n a
high s p a n m h l =
    le_ind (λ (m : ℕ). divide_down s p m a ≡ divide_down s p n a) refl
    (λ m k e. down_s s p m a
    ∙ ap (divide_down s p m) (strike_none s p m a (ap (λ (x : ℕ). x % 2) (above m k))) ∙ e) m l
  where
    more : (m : ℕ) → n ≤ m → s + n ≤ s + m
    more m k = omega arith

    above : (m : ℕ) → n ≤ m → a / 2 ^ (s + m) ≡ 0
    above m k = div-eq_of_lt (lt_of_lt_of_le h (pow_mono (more m k)))

pub down_all : (s p a n : ℕ) → a < 2 ^ (s + n) → divide_down s p n a ≡ remainder s p a
unfolding remainder
down_all s p a n h = go (dec_lt n (size a))
  where
    go : Dec (n < size a) → divide_down s p n a ≡ divide_down s p (size a) a
    go (yes l) = sym (high s p a n (size a) h (omega arith))
    go (no l) = high s p a (size a) n (lt_of_lt_of_le (size_lt a) (pow_mono (le (size a)))) (omega arith)
      where
        le : (k : ℕ) → k ≤ s + k
        le k = omega arith

pub down_start : (a b s : ℕ) → a < 512 → 2 ≤ b → b < 512 → s ≡ degree b
    → (s ≤ 8) × (divide_down s b (9 - s) a ≡ remainder (degree b) b a)
down_start a b s ha two hb e =
    let l : degree b ≤ 8 = degree_le b 8 (omega arith) hb in
    let n : s + (9 - s) ≡ 9 = omega arith in
    (omega arith, down_all s b a (9 - s) (subst (λ (k : ℕ). a < 2 ^ k) (sym n) ha) ∙ ap (λ (k : ℕ). remainder k b a) e)

pub down_turn : (s p i r y z : ℕ) → 0 < i → y ≡ strike s p (i - 1) r → divide_down s p i r ≡ z → divide_down s p (i - 1) y ≡ z
down_turn s p i r y z h e v =
    let k : suc (i - 1) ≡ i = omega arith in
    ap (divide_down s p (i - 1)) e ∙ sym (down_s s p (i - 1) r) ∙ ap (λ (n : ℕ). divide_down s p n r) k ∙ v

pub down_end : (s p i r z : ℕ) → i ≡ 0 → divide_down s p i r ≡ z → r ≡ z
down_end s p i r z e v = sym (ap (λ (n : ℕ). divide_down s p n r) e ∙ down_z s p r) ∙ v

-- ---- divisors of degree 1 or more
module _ (d : ℕ) (h : 2 ≤ d) where
  pos : 0 < d
  pos = omega arith

  ps : 0 < degree d
  ps = degree_pos d h

  tp : d / 2 ^ degree d ≡ 1
  tp = degree_top d pos

  pub remainder_bound : {r : ℕ} (a : ℕ) → r ≡ remainder (degree d) d a → r < d
  remainder_bound a e =
      subst (λ (x : ℕ). x < d) (sym e) (lt_of_lt_of_le (remainder_lt (degree d) d ps tp a) (degree_low d pos))

  divides_zero : divides d 0 ≡ true
  unfolding divides
  divides_zero = eq-eqb (remainder (degree d) d 0) 0 (remainder_zero (degree d) d ps tp)

  divides_one : divides d 1 ≡ false
  unfolding divides
  divides_one =
      let b : 2 ≤ 2 ^ degree d = pow_mono ps in
      let e : remainder (degree d) d 1 ≡ 1 = remainder_small (degree d) d ps tp 1 (omega arith) in
      ne_eqb (remainder (degree d) d 1) 0 (λ z. omega arith)

  divides_self : divides d d ≡ true
  unfolding divides
  divides_self =
      eq-eqb (remainder (degree d) d d) 0
      (ap (remainder (degree d) d) (sym (clmul_one_r d)) ∙ remainder_multiple (degree d) d ps tp 1)

  -- d divides y: it divides x exactly when it divides x less a multiple of y
  divides_less : (x y q r : ℕ) → x ≡ clmul y q ⊕ r → divides d y ≡ true → divides d x ≡ divides d r
  unfolding divides
  divides_less x y q r e t =
      ap (λ (z : ℕ). eqb z 0)
      (ap rem e ∙ remainder_add (degree d) d ps tp (clmul y q) r ∙ ap (λ (z : ℕ). z ⊕ rem r) multiple ∙ ⊕-zero-l (rem r))
    where
      rem : ℕ → ℕ
      rem a = remainder (degree d) d a

      multiple : rem (clmul y q) ≡ 0
      multiple =
          sym (remainder_mul_l (degree d) d ps tp y q) ∙ ap (λ (z : ℕ). rem (clmul z q)) (eqb-true (rem y) 0 t)
          ∙ ap rem (clmul_zero_l q) ∙ remainder_zero (degree d) d ps tp

pub record SameFactors (f h x y : ℕ) : Type 0 where
  pub same : (d : ℕ) → 2 ≤ d → divides d f && divides d h ≡ divides d x && divides d y

pub factors_start : (f h : ℕ) → SameFactors f h f h
factors_start f h = record { same = λ d l. refl }

pub ratio_bounds : {f h : ℕ} → Ratio f h → (h < f) × (f < 2 ^ size f)
ratio_bounds {f} {h} r = (lt_of_lt_of_le r.proper (degree_low f (omega (arith, r.two))), size_lt f)

pub factors_turn : {f h x y r : ℕ} → 2 ≤ y → r ≡ remainder (degree y) y x → SameFactors f h x y → SameFactors f h y r
factors_turn {f} {h} {x} {y} {r} two e v =
    let q = quotient (degree y) y (ps y two) (tp y two) x in
    record {
      same = λ d l. v.same d l
          ∙ and_turn (divides d x) (divides d y) (divides d r)
          (divides_less d l x y q.0 r (q.1 ∙ ap (λ (z : ℕ). clmul y q.0 ⊕ z) (sym e)));
    }

pub some_not : (test : ℕ → Bool) (n : ℕ) → ((k : ℕ) → k < n → test k ≡ false) → some test (up_to n) ≡ false
some_not test n h = go (some test (up_to n)) refl
  where
    go : (b : Bool) → some test (up_to n) ≡ b → some test (up_to n) ≡ false
    go true q = let k = some_at test n q in absurd (true_ne_false k.2 (h k.0 k.1))
    go false q = q

and_false : (p : Bool) → p && false ≡ false
and_false true = refl
and_false false = refl

pub factors_end : {f h x y : ℕ} → y ≤ 1 → 2 ≤ x → x < 2 ^ size f → SameFactors f h x y → eqb y 0 ≡ common f h
unfolding common
factors_end {f} {h} {x} {y} l two lt v = go (dec_lt y 1)
  where
    test : ℕ → Bool
    test d = divides (d + 2) f && divides (d + 2) h

    go : Dec (y < 1) → eqb y 0 ≡ some test (up_to (2 ^ size f - 2))
    go (yes k) =
        let z : y ≡ 0 = omega arith in
        let i : x - 2 + 2 ≡ x = omega arith in
        eq-eqb y 0 z
        ∙ sym (some_of test (2 ^ size f - 2) (x - 2) (omega arith)
        (ap (λ (d : ℕ). divides d f && divides d h) i ∙ v.same x two
        ∙ ap₂ ◌&&◌ (divides_self x two) (ap (divides x) z ∙ divides_zero x two)))
    go (no k) =
        let o : y ≡ 1 = omega arith in
        ne_eqb y 0 (λ z. omega arith)
        ∙ sym (some_not test (2 ^ size f - 2) (λ k m. at (k + 2) (omega arith) o))
      where
        at : (d : ℕ) → 2 ≤ d → y ≡ 1 → divides d f && divides d h ≡ false
        at d t o = v.same d t ∙ ap (λ b. divides d x && b) (ap (divides d) o ∙ divides_one d t) ∙ and_false (divides d x)
