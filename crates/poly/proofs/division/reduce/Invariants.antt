-- `poly::division::reduce` meets its contract: terms of the quotient are added until the remainder is shorter than the divisor.
use Prim.Native.Nat.{◌≤◌}
use Rattle.poly.specs.Division.{RowReduced, Kept}
use Rattle.poly.proofs.division.reduce.Given as goal

abbrev pub invariant-loop-dividend : goal.invariant-loop-dividend
invariant-loop-dividend l =
    Kept l.initial.dividend l.dividend × (l.dividend.len ≤ l.initial.dividend.len) × RowReduced l.tables.s l.initial.dividend l.divisor l.dividend

abbrev pub decreases-loop-dividend : goal.decreases-loop-dividend
decreases-loop-dividend l = l.dividend.len
