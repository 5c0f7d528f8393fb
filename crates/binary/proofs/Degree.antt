-- The degree of a mask by bounds: 2^degree is the highest power of 2 that the mask holds.
--
--   size_of, degree_of        the size and the degree of a mask from 2^j to below 2^(j + 1)
--   degree_low, degree_high   so lies a mask that is not 0; degree_top: its leading coefficient is 1
--   degree_zero, degree_pos, degree_le, degree_eq      degree of 0, bounds
--   degree_none               of 0
use mathlib.Core.Path.{◌≡◌, sym, ap, ◌∙◌, subst}
use Prim.Native.Nat.{ℕ, zero, suc, ◌/◌, ◌^◌, ◌≤◌, ◌<◌}
use native.Mathlib.Nat.{pow-suc, le_trans}
use native.Mathlib.Decide.{dec_lt}
use native.Mathlib.Omega.{arith}
use lib.Count.{leading_top}
use lib.Dec.{ltb}
use lib.Pow.{pow_pos, pow_mono}
use borrow.Author.Tests.{lt-ltb, le-ltb}
use Rattle.field.specs.Search.{least}
use Rattle.field.specs.Mask.{size}
use Rattle.field.proofs.Search.{least_is, least_unique}
use Rattle.field.proofs.Remainder.{deg_of}
use Rattle.binary.specs.Factor.{degree}

lt_pow : (a : ℕ) → a < 2 ^ a
lt_pow zero = pow_pos 0
lt_pow (suc a) = let h : a < 2 ^ a = lt_pow a in rw (pow-suc 2 a) (omega arith)

pub size_of : (f j : ℕ) → 2 ^ j ≤ f → f < 2 ^ suc j → size f ≡ suc j
unfolding size
size_of f j h l =
    least_unique (least_is (λ n. ltb f (2 ^ n)) f)
    (record {
      le = omega (arith, lt_pow j);
      before = λ k m. le-ltb f (2 ^ k) (le_trans (pow_mono (le_of k m)) h);
      passes = λ m. lt-ltb f (2 ^ suc j) l;
    })
  where
    le_of : (k : ℕ) → k < suc j → k ≤ j
    le_of k m = omega arith

pub degree_of : (f j : ℕ) → 2 ^ j ≤ f → f < 2 ^ suc j → degree f ≡ j
unfolding degree
degree_of f j h l = let e : size f ≡ suc j = size_of f j h l in omega arith

pub degree_zero : degree 0 ≡ 0
unfolding degree size
degree_zero = let e : least (λ n. ltb 0 (2 ^ n)) 0 ≤ 0 = (least_is (λ n. ltb 0 (2 ^ n)) 0).le in omega arith

-- the place of the highest coefficient
top : (f : ℕ) → 0 < f → (j : ℕ) × (2 ^ j ≤ f) × (f < 2 ^ suc j)
top f p = let t = leading_top f f p (lt_pow f) in (t.0, t.2, t.3)

pub degree_low : (f : ℕ) → 0 < f → 2 ^ degree f ≤ f
degree_low f p = let t = top f p in subst (λ (j : ℕ). 2 ^ j ≤ f) (sym (degree_of f t.0 t.1 t.2)) t.1

pub degree_high : (f : ℕ) → 0 < f → f < 2 ^ suc (degree f)
degree_high f p = let t = top f p in subst (λ (j : ℕ). f < 2 ^ suc j) (sym (degree_of f t.0 t.1 t.2)) t.2

pub degree_top : (f : ℕ) → 0 < f → f / 2 ^ degree f ≡ 1
degree_top f p = deg_of (degree f) f (degree_low f p) (degree_high f p)

pub degree_le : (f k : ℕ) → 0 < f → f < 2 ^ suc k → degree f ≤ k
degree_le f k p h = go (dec_lt k (degree f))
  where
    go : Dec (k < degree f) → degree f ≤ k
    go (yes l) = let m : 2 ^ suc k ≤ 2 ^ degree f = pow_mono l in let n : 2 ^ degree f ≤ f = degree_low f p in absurd (omega arith)
    go (no l) = omega arith

pub degree_pos : (f : ℕ) → 2 ≤ f → 0 < degree f
degree_pos f h = go (degree f) (degree_high f (omega arith))
  where
    go : (d : ℕ) → f < 2 ^ suc d → 0 < d
    go zero l = let m : f < 2 = l in absurd (omega arith)
    go (suc d) l = omega arith

-- a mask whose degree is not 0 is not 0
pub degree_eq : (f u : ℕ) → u ≡ degree f → 0 < u → 0 < f
degree_eq zero u e h = let z : degree 0 ≡ 0 = degree_zero in absurd (omega arith)
degree_eq (suc f) u e h = omega arith

pub degree_none : (f : ℕ) → f ≡ 0 → 0 ≡ degree f
degree_none f e = sym (ap degree e ∙ degree_zero)
