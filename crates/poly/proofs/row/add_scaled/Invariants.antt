-- `poly::row::add_scaled` meets its contract: j coefficients are added.
use Rattle.poly.proofs.Adding.{Adding, multiple}
use Rattle.poly.proofs.row.add_scaled.Given as goal

abbrev pub invariant-loop-j : goal.invariant-loop-j
invariant-loop-j l = Adding l.tables.s l.i (multiple l.tables.s l.k l.addend) l.j l.initial.sum l.sum
