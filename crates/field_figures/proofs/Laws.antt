-- What the calls of the field's code ask for.
--
--   tables_fit             the arrays are long enough for the tables of every degree
--   order_odd        2^s - 1 is an odd length
use mathlib.Core.Path.{◌≡◌}
use mathlib.Core.List.{List}
use Prim.Native.Nat.{ℕ, suc, ◌-◌, ◌*◌, ◌^◌, ◌≤◌}
use native.Mathlib.Nat.{pow-suc}
use native.Mathlib.Omega.{arith}
use lib.ListN.{length}
use Rattle.field.specs.Field.{Degree, OddLength}
use Rattle.field.specs.Tables.{Fillable}
use Rattle.field.proofs.Primitive.{Degree-bounds}

pub tables_fit : {s : ℕ} {e g : List ℕ} → Degree s → 20475 ≤ length e → 4096 ≤ length g → Fillable s e g
tables_fit {s} d h k =
    let b : 2 ^ s ≤ 4096 = (Degree-bounds d).1 in record { degree = d; e_long = omega arith; g_long = omega arith }

pub order_odd : {s n : ℕ} → Degree s → n ≡ 2 ^ s - 1 → OddLength n
order_odd {s} {n} d e =
    let b = Degree-bounds d in
    let k : suc (s - 1) ≡ s = omega (arith, d.lo) in
    let t : 2 ^ s ≡ 2 ^ (s - 1) * 2 = rw k at (pow-suc 2 (s - 1)) in
    record { least = omega arith; most = omega arith; odd = omega arith }
