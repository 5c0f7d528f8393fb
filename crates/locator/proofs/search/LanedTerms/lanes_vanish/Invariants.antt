-- `locator::search::LanedTerms::lanes_vanish` meets its contract: the first m terms are in the two sums.
use Prim.Native.Nat.{◌≤◌}
use lib.ListN.{length}
use Rattle.locator.specs.Terms.{exponents_of, steps_of, low_of, high_of}
use Rattle.locator.proofs.TermSums.{Both}
use Rattle.locator.proofs.search.LanedTerms.lanes_vanish.Given as goal

abbrev pub invariant-loop-m : goal.invariant-loop-m
invariant-loop-m l =
    (l.m ≤ length l.self.list.terms.now) × Both l.self.list.power_table.s l.self.list.constant (exponents_of l.self.list.terms.now) (steps_of l.self.list.terms.now) (low_of l.self.lanes.now) (high_of l.self.lanes.now) l.i l.m l.a l.b
