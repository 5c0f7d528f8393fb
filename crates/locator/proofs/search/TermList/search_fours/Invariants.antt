-- `locator::search::TermList::search_fours` meets its contract: the places below n of the first i are searched, and at most t of them found.
use lib.ListN.{length}
use Rattle.locator.specs.Terms.{exponents_of, steps_of}
use Rattle.locator.proofs.Neighbours.{Fours}
use Rattle.locator.proofs.search.TermList.search_fours.Given as goal

abbrev pub invariant-loop-i : goal.invariant-loop-i
invariant-loop-i l = Fours l.n l.t l.self.power_table.s l.self.constant (length l.self.terms.now) (exponents_of l.self.terms.now) (steps_of l.self.terms.now) l.initial.places l.places l.c l.i
