-- The arrays as they are made.
--
--   cleared      an array of 0 has no coefficients
--   lodged       a word of a code of n places and fewer than k terms, in arrays of a columns, m values and k coefficients
--   degree_of    s is a degree of the table
--   cleared_tables      arrays for the tables of a degree
--   table_room   what the tables of a degree up to m take
use mathlib.Core.Path.{◌≡◌, sym, subst}
use mathlib.Core.Logic.{◌⊎◌, inl, inr}
use mathlib.Core.List.{List}
use Prim.Native.Nat.{ℕ, ◌+◌, ◌*◌, ◌/◌, ◌^◌, ◌≤◌, ◌<◌}
use native.Mathlib.Omega.{arith}
use lib.ListN.{length, get_or, replicate, length-replicate, get_or-replicate, get_or-eq_default}
use lib.Pow.{pow_mono}
use Rattle.algebra.proofs.Poly.{le_or_lt}
use Rattle.field.specs.Field.{Degree}
use Rattle.field.specs.Tables as Tables
use Rattle.document.proofs.Theory.{degree}
use Rattle.sheet.specs.declared.types.Certificate.{Certificate as CodeCertificate}
use Rattle.poly.specs.Slice.{Short}
use Rattle.locator.specs.declared.terms.Term.{Term}
use Rattle.locator.specs.declared.terms.Lanes.{Lanes}
use Rattle.decoder.specs.Correct.{Given, Workspace, Held, Correctable}

abbrev pub zeros : ℕ → List ℕ
zeros m = replicate m 0

cleared : (m : ℕ) → Short 0 (zeros m)
cleared m = record { at = λ i h. go i (le_or_lt m i) }
  where
    go : (i : ℕ) → (m ≤ i) ⊎ (i < m) → ◌≡◌ {A = ℕ} (get_or (zeros m) i 0) 0
    go i (inl h) = get_or-eq_default (zeros m) 0 (omega (arith, length-replicate {A = ℕ} m 0))
    go i (inr h) = get_or-replicate {A = ℕ} m i 0 0 h

space : {n L a m k : ℕ} {list : List ℕ} {terms : List Term} {lanes : List Lanes} → n ≤ length list → L < k → (n + 7) / 8 * 2 ≤ a → n ≤ m
    → k ≤ length terms → k ≤ length lanes
    → Workspace n L (zeros a) (zeros m) (zeros k) (zeros k) (zeros k) (zeros k) terms lanes list
space {n} {L} {a} {m} {k} {terms = terms} {lanes} l h ha hm ht hl =
    let z : length (zeros k) ≡ k = length-replicate {A = ℕ} k 0 in
    let y : L < length (zeros k) = omega (arith, z) in
    let x : length (zeros k) ≤ length terms = omega (arith, z) in
    let w : length (zeros k) ≤ length lanes = omega (arith, z) in
    record {
      columns_long = omega (arith, length-replicate {A = ℕ} a 0);
      places_long = l;
      values_long = omega (arith, length-replicate {A = ℕ} m 0);
      upper_long = y;
      lower_long = y;
      lower_cofactor_long = y;
      upper_cofactor_long = y;
      terms_long = (x, x);
      lanes_long = (w, w);
      upper_zero = cleared k;
      lower_zero = cleared k;
      lower_cofactor_zero = cleared k;
      upper_cofactor_zero = cleared k;
    }

pub lodged : {n : ℕ} {c : CodeCertificate} {list w : List ℕ} (a m k : ℕ) (term : Term) (lane : Lanes) → Held n w → n ≤ length list
    → c.terms < k → (n + 7) / 8 * 2 ≤ a → n ≤ m
    → Correctable n c (zeros a) (zeros m) (zeros k) (zeros k) (zeros k) (zeros k) (replicate k term) (replicate k lane) list w
lodged a m k term lane h l few ha hm = record {
  space = space l few ha hm (omega (arith, length-replicate k term)) (omega (arith, length-replicate k lane));
  held = h;
}

pub degree_of : {n s t : ℕ} {c : CodeCertificate} {reps : List ℕ} → Given n s t c reps → Degree s
degree_of p = subst Degree (sym p.s_is) (degree p.length_stated)

pub cleared_tables : {s : ℕ} (powers logs : ℕ) → Degree s → 5 * 2 ^ s ≤ powers → 2 ^ s ≤ logs → Tables.Fillable s (replicate powers 0) (replicate logs 0)
cleared_tables powers logs d h k = record {
  degree = d;
  e_long = omega (arith, h, length-replicate {A = ℕ} powers 0);
  g_long = omega (arith, k, length-replicate {A = ℕ} logs 0);
}

-- what the tables of a degree up to m take
pub table_room : {s : ℕ} (m : ℕ) → s ≤ m → (5 * 2 ^ s ≤ 5 * 2 ^ m) × (2 ^ s ≤ 2 ^ m)
table_room {s} m h = let b : 2 ^ s ≤ 2 ^ m = pow_mono h in (omega (arith, b), b)
