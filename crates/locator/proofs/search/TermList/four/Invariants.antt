-- `locator::search::TermList::four` meets its contract: the first m terms are in all four sums.
use Prim.Native.Nat.{◌≤◌}
use lib.ListN.{length}
use Rattle.locator.specs.Terms.{exponents_of, steps_of}
use Rattle.locator.proofs.Neighbours.{Neighbours}
use Rattle.locator.proofs.search.TermList.four.Given as goal

abbrev pub invariant-loop-term : goal.invariant-loop-term
invariant-loop-term l =
    (l.term-index ≤ length l.self.terms.now) × Neighbours l.self.power_table.s l.i (exponents_of l.self.terms.now) (steps_of l.self.terms.now) l.term-index l.first l.second l.third l.fourth
