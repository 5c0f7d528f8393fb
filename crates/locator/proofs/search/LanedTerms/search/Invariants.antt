-- `locator::search::LanedTerms::search` meets its contract: the first i places are searched, and at most t of them found.
use mathlib.Core.Path.{◌≡◌}
use Prim.Native.Nat.{◌≤◌}
use lib.ListN.{length}
use Rattle.locator.specs.Terms.{exponents_of, steps_of, low_of, high_of, vanishes}
use Rattle.locator.proofs.Finding.{Finding}
use Rattle.locator.proofs.search.LanedTerms.search.Given as goal

abbrev pub invariant-loop-i : goal.invariant-loop-i
invariant-loop-i l =
    (length l.places ≡ length l.initial.places) × Finding l.n (vanishes l.self.list.power_table.s l.self.list.constant (length l.self.list.terms.now) (exponents_of l.self.list.terms.now) (steps_of l.self.list.terms.now) (low_of l.self.lanes.now) (high_of l.self.lanes.now)) l.i l.c l.places × (l.c ≤ l.t) × (l.i ≤ l.n)
