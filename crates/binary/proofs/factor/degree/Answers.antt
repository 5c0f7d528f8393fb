-- `binary::factor::degree` meets its contract: 2^degree is the highest power of 2 that the mask holds.
use native.Mathlib.Omega.{arith}
use native.Mathlib.Nat.{pow-suc}
use mathlib.Core.Path.{sym}
use Rattle.binary.proofs.Degree.{degree_none, degree_of}
use Rattle.binary.proofs.factor.degree.Goals as goal

pub returns-then-f-eq0 : goal.returns-then-f-eq0
returns-then-f-eq0 c = degree_none _ c.if-f-eq0.true

pub returns-else-f-eq0 : goal.returns-else-f-eq0
returns-else-f-eq0 c = let e = c.ilog2.ensures in sym (degree_of _ _ e.power_le (rw (pow-suc 2 c.ilog2.result) (omega (arith, e.next_power_gt))))
