-- The numbers of a certificate with L terms and the degrees v < u of numerator and denominator: plain arithmetic.
--
--   distance_of L u v     (L - v) / u + 1, rounded up; 1 where L is at most v
--   radius_for d           (d - 1) / 2, rounded down: twice_radius
--   stop_of L u v         Euclid stops as soon as a remainder is at most so long: stop_le
--   distance_pos         the distance is not 0
--   distance_le          w is at least the distance where L + u ≤ w u + v
--   rows_fit, fits           of w places within the radius, the evaluator is shorter than the stop, and the locator fits beside it
use mathlib.Core.Path.{◌≡◌, ap, ◌∙◌}
use mathlib.Core.Logic.{◌⊎◌, inl, inr}
use Prim.Native.Nat.{ℕ, zero, suc, ◌+◌, ◌-◌, ◌*◌, ◌/◌, ◌≤◌, ◌<◌}
use native.Mathlib.Nat.{div-lt_iff_lt-mul, div-mul-le_self, mul-le-mul_right, eq-zero-or-pos, zero-mul}
use native.Mathlib.Omega.{arith}

unfoldable pub distance_of : ℕ → ℕ → ℕ → ℕ
distance_of L u v = (L - v + (u - 1)) / u + 1

unfoldable pub radius_for : ℕ → ℕ
radius_for d = (d - 1) / 2

unfoldable pub stop_of : ℕ → ℕ → ℕ → ℕ
stop_of L u v = L - radius_for (distance_of L u v) * u

pub twice_radius : (d : ℕ) → 0 < d → radius_for d + radius_for d < d
unfolding radius_for
twice_radius d h = omega arith

pub distance_pos : (L u v : ℕ) → 0 < distance_of L u v
unfolding distance_of
distance_pos L u v = omega arith

pub stop_le : (L u v : ℕ) → stop_of L u v ≤ L
unfolding stop_of
stop_le L u v = omega arith

module _ (L u v : ℕ) (less : v < u) where
  pub distance_le : (w : ℕ) → L + u ≤ w * u + v → distance_of L u v ≤ w
  unfolding distance_of
  distance_le zero h = absurd (omega arith)
  distance_le (suc w) h =
      let p : 0 < u = omega arith in
      let x : L - v + (u - 1) < suc w * u = omega arith in
      let q : (L - v + (u - 1)) / u < suc w = (div-lt_iff_lt-mul p).1 x in
      omega arith

  t : ℕ
  t = radius_for (distance_of L u v)

  -- what the distance says of the radius: (2 t - 1) u + v < L
  inside : 0 < t → t * u + t * u + v < L + u
  unfolding t radius_for distance_of
  inside h =
      let N : ℕ = L - v + (u - 1) in
      let d : N / u * u ≤ N = div-mul-le_self N u in
      let b : t + t ≤ N / u = omega arith in
      let c : (t + t) * u ≤ N / u * u = mul-le-mul_right u b in
      let e : 1 * u ≤ t * u = mul-le-mul_right u h in
      omega arith

  module _ (w : ℕ) (h : w ≤ radius_for (distance_of L u v)) where
    times : w * u ≤ t * u
    unfolding t
    times = mul-le-mul_right u h

    pub rows_fit : 0 < w → w * u + v < stop_of L u v + u
    unfolding stop_of t
    rows_fit p =
        let q : t * u + t * u + v < L + u = inside (omega arith) in
        let s : w * u ≤ t * u = times in
        omega arith

    pub fits : w * u + stop_of L u v ≤ L
    unfolding stop_of t
    fits = go (eq-zero-or-pos t)
      where
        go : (t ≡ 0) ⊎ (0 < t) → w * u + (L - t * u) ≤ L
        go (inl e) =
            let k : t * u ≡ 0 = ap (λ (x : ℕ). x * u) e ∙ zero-mul u in
            let s : w * u ≤ t * u = times in
            omega arith
        go (inr p) =
            let q : t * u + t * u + v < L + u = inside p in
            let s : w * u ≤ t * u = times in
            let k : 1 * u ≤ t * u = mul-le-mul_right u p in
            omega arith
