-- The two rows of Euclid's algorithm in four slices: (a, w), the longer, and (b, v).
--
--   State s l S a b v w la lb lv lw      they are rows on x^l and S; a and b have the lengths la and lb, and w and v
--                     at most lw and lv coefficients
--   state_start       the rows x^l with 0, and S with 1
--   cofactors_fit, reducible   their lengths are such that the first can be divided by the second
--   state_turn        it is divided, and they change places
--   solved            the cofactor of a remainder that is short enough is the solution
--   solved_as         so in a slice that holds the same
use mathlib.Core.Path.{◌≡◌, refl, sym, ap, ◌∙◌, subst}
use mathlib.Core.List.{List}
use Prim.Native.Nat.{ℕ, suc, ◌+◌, ◌-◌, ◌≤◌, ◌<◌, max}
use native.Mathlib.Omega.{arith}
use lib.ListN.{length, set, length-set}
use Rattle.algebra.proofs.Series.{Ser, one_is, const}
use Rattle.algebra.proofs.Poly.{Below, below_0, below_1, mono_below, mono_top}
use Rattle.algebra.proofs.Rows.{Rows, begin, swap, lower, step}
use Rattle.field.specs.Field.{Degree}
use Rattle.field.proofs.Elements.{GF}
use Rattle.field.proofs.Numbers.{one_lt}
use Rattle.poly.specs.Slice.{Small, Short, series}
use Rattle.poly.specs.Division.{LengthOf, Reducible, Reduced}
use Rattle.poly.specs.Key.{Solvable, Solved}
use Rattle.poly.proofs.Slices.{below_of, short_of, one_here, else_zero, small_one, series_one}

pub record State (s l : ℕ) (S a b v w : List ℕ) (la lb lv lw : ℕ) : Type 0 where
  pub degree : Degree s
  pub a_small : Small s a
  pub b_small : Small s b
  pub v_small : Small s v
  pub w_small : Small s w
  pub a_long : l < length a
  pub b_long : l < length b
  pub v_long : l < length v
  pub w_long : l < length w
  pub a_length : LengthOf a la
  pub b_length : LengthOf b lb
  pub a_most : la ≤ l + 1
  pub b_shorter : lb ≤ la
  pub w_shorter : lw ≤ lv
  pub v_pos : 0 < lv
  pub rows : (d : Degree s)
      → Rows (GF d) l (series d S) (series d a) (series d w) (series d b) (series d v) la (lw - 1) lb (lv - 1)

module _ {s l la lb lv lw : ℕ} {S a b v w : List ℕ} (z : State s l S a b v w la lb lv lw) where
  v_short : Short lv v
  v_short =
      let d : Degree s = z.degree in
      let q : suc (lv - 1) ≡ lv = omega (arith, z.v_pos) in
      short_of d z.v_small (subst (λ (n : ℕ). Below (GF d) n (series d v)) q (z.rows d).t₁_below)

  pub cofactors_fit : lv + la ≤ l + 2
  cofactors_fit = omega (arith, (z.rows z.degree).fit₁, z.v_pos)

  pub reducible : 0 < lb → Reducible s la lb lv a b w v
  reducible h = record {
    a_small = z.a_small;
    b_small = z.b_small;
    w_small = z.w_small;
    v_small = z.v_small;
    a_length = z.a_length;
    b_length = z.b_length;
    b_pos = h;
    v_short = v_short;
    a_long = omega (arith, z.a_most, z.a_long);
    b_long = omega (arith, z.a_most, z.b_shorter, z.b_long);
    v_long = omega (arith, cofactors_fit, z.b_shorter, z.v_long);
    w_long = omega (arith, cofactors_fit, z.b_shorter, z.w_long);
  }

  pub state_turn : {r lw' : ℕ} {a' w' : List ℕ} → r < lb → length a' ≡ length a → length w' ≡ length w → lw' ≡ lv + la - lb
      → Reduced s (la - lb) a b w v a' w' r → State s l S b a' w' v lb r lw' lv
  state_turn {r} {lw'} {a'} {w'} q x y i t = record {
    degree = z.degree;
    a_small = z.b_small;
    b_small = t.a_small;
    v_small = t.w_small;
    w_small = z.v_small;
    a_long = z.b_long;
    b_long = omega (arith, z.a_long, x);
    v_long = omega (arith, z.w_long, y);
    w_long = z.v_long;
    a_length = z.b_length;
    b_length = t.a_length;
    a_most = omega (arith, z.a_most, z.b_shorter);
    b_shorter = omega arith;
    w_shorter = omega (arith, z.b_shorter, i);
    v_pos = omega (arith, z.v_pos, z.b_shorter, i);
    rows = rows;
  }
    where
      rows : (d : Degree s)
          → Rows (GF d) l (series d S) (series d b) (series d v) (series d a') (series d w') lb (lv - 1) r (lw' - 1)
      rows d =
          let u = t.division d in
          let m : max (lw - 1) (la - lb + (lv - 1)) ≡ lw' - 1 = omega (arith, z.v_pos, z.b_shorter, z.w_shorter, i) in
          let less : r ≤ la = omega (arith, z.b_shorter) in
          let fits : la - lb + lb ≤ la = omega (arith, z.b_shorter) in
          swap (GF d)
          (lower (GF d) less (below_of d (omega arith) t.a_length.short)
          (rw (u.a_is, u.w_is, ← m) (step (GF d) (la - lb) u.quotient_below (omega arith) fits (z.rows d))))

  pub solved : {stop : ℕ} → lb ≤ stop → stop < la → Solved s l stop S v lv
  solved lo hi = record {
    small = z.v_small;
    short = v_short;
    pos = z.v_pos;
    long = omega (arith, cofactors_fit, z.v_long);
    key = λ d. record {
      done = record { t = _; r = _; t' = _; r' = _; n' = _; e' = _; n = _; e = _; rows = z.rows d; short = lo; long = hi };
      is = refl;
      size = omega (arith, z.v_pos);
    };
  }

pub state_start : {s l stop lb : ℕ} {a b v w : List ℕ} → Degree s → Solvable s l stop a b v w → lb ≤ l → LengthOf b lb
    → State s l b (set a l 1) b (set v 0 1) w (l + 1) lb 1 1
state_start {s} {l} {stop} {lb} {a} {b} {v} {w} d z h y = record {
  degree = d;
  a_small = small_one a l z.a_long z.a_zero d;
  b_small = z.b_small;
  v_small = small_one v 0 v_pos z.v_zero d;
  w_small = record { at = λ i. omega (arith, z.w_zero.at i (omega arith), one_lt d) };
  a_long = simp length-set z.a_long;
  b_long = z.b_long;
  v_long = simp length-set z.v_long;
  w_long = z.w_long;
  a_length = record {
    short = record { at = λ i q. else_zero a l z.a_long z.a_zero (λ o. omega arith) };
    leading = λ q o. omega (arith, o, one_here a l z.a_long z.a_zero {j = l + 1 - 1} (omega arith));
  };
  b_length = y;
  a_most = omega arith;
  b_shorter = omega arith;
  w_shorter = omega arith;
  v_pos = omega arith;
  rows = rows;
}
  where
    v_pos : 0 < length v
    v_pos = omega (arith, z.v_long)

    rows : (d : Degree s)
        → Rows (GF d) l (series d b) (series d (set a l 1)) (series d w) (series d b) (series d (set v 0 1)) (l + 1) 0 lb 0
    rows d =
        let a_is = series_one a l z.a_long z.a_zero d in
        let v_is : series d (set v 0 1) ≡ (Ser (GF d)).𝟙 =
        series_one v 0 v_pos z.v_zero d ∙ below_1 (GF d) (mono_below (GF d) 0 (GF d).𝟙)
        ∙ ap (const (GF d)) (mono_top (GF d) 0 (GF d).𝟙) ∙ sym (one_is (GF d)) in
        let w_is : series d w ≡ (Ser (GF d)).𝟘 = below_0 (GF d) (below_of d (omega arith) z.w_zero) in
        let n : suc l ≡ l + 1 = omega arith in
        rw (a_is, v_is, w_is, ← n)
        (swap (GF d)
        (lower (GF d) h (below_of d (omega arith) y.short)
        (swap (GF d) (begin (GF d) l (series d b) (below_of d (omega arith) z.b_short)))))

pub solved_as : {s l stop n : ℕ} {S t t' : List ℕ} → t ≡ t' → Solved s l stop S t n → Solved s l stop S t' n
solved_as {s} {l} {stop} {n} {S} e z = subst (λ (x : List ℕ). Solved s l stop S x n) e z
