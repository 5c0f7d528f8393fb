-- Slices as polynomials.
--
--   below_of, short_of         a short slice is a polynomial of that degree, and back
--   short_whole                there is nothing beyond a slice's end
--   series_cut, small_cut, length_cut      its first n entries, where it holds 0 beyond them
--   one_here, else_zero, small_one, series_one      1 stored at place k of a slice that held 0: it is x^k
use mathlib.Core.Path.{◌≡◌, sym, ap, ◌∙◌, fun_ext}
use mathlib.Core.Logic.{◌≢◌}
use mathlib.Core.List.{List}
use Prim.Native.Nat.{ℕ, ◌-◌, ◌^◌, ◌≤◌, ◌<◌}
use native.Mathlib.Decide.{ℕ_discrete, dec_lt}
use native.Mathlib.Omega.{arith}
use lib.ListN.{length, get_or, set, take}
use lib.Seq.{get_or-set_same, get_or-set_other, get_or-take, length-take-le}
use Rattle.std.proofs.lemmas.List.{get_or_past}
use Rattle.algebra.proofs.Poly.{Below, mono, mono_below, mono_above, mono_top}
use Rattle.field.specs.Field.{Degree}
use Rattle.field.proofs.Elements.{GF, el, el_zero, el_one, el_inj}
use Rattle.field.proofs.Numbers.{one_lt}
use Rattle.poly.specs.Slice.{Small, Short, series}
use Rattle.poly.specs.Division.{LengthOf}

pub below_of : {s n m : ℕ} {a : List ℕ} (d : Degree s) → n ≤ m → Short n a → Below (GF d) m (series d a)
unfolding series
below_of d l h = record { at = λ j q. ap (el d) (h.at j (omega arith)) ∙ el_zero d }

pub short_of : {s n : ℕ} {a : List ℕ} (d : Degree s) → Small s a → Below (GF d) n (series d a) → Short n a
unfolding series
short_of d h b = record {
  at = λ j l. el_inj d (h.at j) (omega (arith, one_lt d)) (b.at j l ∙ sym (el_zero d));
}

-- ---- the first n entries of a slice that holds 0 beyond them
pub short_whole : (a : List ℕ) → Short (length a) a
short_whole a = record { at = λ j l. get_or_past a j 0 l }

module _ {a : List ℕ} {n : ℕ} (h : n ≤ length a) (q : Short n a) where
  cut_long : length (take n a) ≡ n
  cut_long = length-take-le n a h

  cut_at : (j : ℕ) → get_or (take n a) j 0 ≡ get_or a j 0
  cut_at j = go (dec_lt j n)
    where
      go : Dec (j < n) → get_or (take n a) j 0 ≡ get_or a j 0
      go (yes l) = get_or-take n a j 0 l
      go (no l) = get_or_past (take n a) j 0 (omega (arith, cut_long)) ∙ sym (q.at j (omega arith))

  pub series_cut : {s : ℕ} (d : Degree s) → series d (take n a) ≡ series d a
  unfolding series
  series_cut d = fun_ext (λ j. ap (el d) (cut_at j))

  pub small_cut : {s : ℕ} → Small s a → Small s (take n a)
  small_cut z = record { at = λ j. omega (arith, cut_at j, z.at j) }

  pub length_cut : {r : ℕ} → LengthOf (take n a) r → (r ≤ n) × LengthOf a r
  length_cut {r} z = (
    go (dec_lt n r),
    record {
      short = record { at = λ j l. sym (cut_at j) ∙ z.short.at j l };
      leading = λ l e. z.leading l (cut_at (r - 1) ∙ e);
    },
  )
    where
      go : Dec (n < r) → r ≤ n
      go (yes l) = absurd (z.leading (omega arith) (get_or_past (take n a) (r - 1) 0 (omega (arith, cut_long))))
      go (no l) = omega arith

-- ---- x^k where a slice held 0
module _ (a : List ℕ) (k : ℕ) (h : k < length a) (z : Short 0 a) where
  pub one_here : {j : ℕ} → j ≡ k → get_or (set a k 1) j 0 ≡ 1
  one_here q = ap (λ (i : ℕ). get_or (set a k 1) i 0) q ∙ get_or-set_same a k 1 0 h

  pub else_zero : {j : ℕ} → j ≢ k → get_or (set a k 1) j 0 ≡ 0
  else_zero {j} q = get_or-set_other a k j 1 0 q ∙ z.at j (omega arith)

  pub series_one : {s : ℕ} (d : Degree s) → series d (set a k 1) ≡ mono (GF d) k (GF d).𝟙
  unfolding series
  series_one d = fun_ext (λ j. go j (ℕ_discrete j k) (dec_lt j k))
    where
      go : (j : ℕ) → Dec (j ≡ k) → Dec (j < k) → el d (get_or (set a k 1) j 0) ≡ mono (GF d) k (GF d).𝟙 j
      go j (yes q) l =
          ap (el d) (one_here q) ∙ el_one d ∙ sym (ap (mono (GF d) k (GF d).𝟙) q ∙ mono_top (GF d) k (GF d).𝟙)
      go j (no q) (yes l) = ap (el d) (else_zero q) ∙ el_zero d ∙ sym ((mono_above (GF d) k (GF d).𝟙).at j l)
      go j (no q) (no l) = ap (el d) (else_zero q) ∙ el_zero d ∙ sym ((mono_below (GF d) k (GF d).𝟙).at j (omega arith))

  pub small_one : {s : ℕ} → Degree s → Small s (set a k 1)
  small_one {s} d = record { at = λ j. go j (ℕ_discrete j k) }
    where
      go : (j : ℕ) → Dec (j ≡ k) → get_or (set a k 1) j 0 < 2 ^ s
      go j (yes q) = omega (arith, one_here q, one_lt d)
      go j (no q) = omega (arith, else_zero q, one_lt d)
