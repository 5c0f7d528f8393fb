-- `poly::row::add_two` meets its contract: j coefficients of either multiple are added but the one that waits.
use Rattle.poly.proofs.Adding.{AddingTwo}
use Rattle.poly.proofs.row.add_two.Given as goal

abbrev pub invariant-loop-j : goal.invariant-loop-j
invariant-loop-j l = AddingTwo l.tables.s l.i l.k0 l.k1 l.addend l.j l.initial.sum l.sum l.last
