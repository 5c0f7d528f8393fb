-- `syndrome::syndromes::syndromes` meets its contract: num is the register, at its place, and the syndromes before are written.
use mathlib.Core.Path.{◌≡◌}
use Prim.Native.Nat.{◌≤◌}
use lib.ListN.{length}
use Rattle.certificate.specs.Rules.{Walkable}
use Rattle.certificate.proofs.Terms.{At}
use Rattle.syndrome.proofs.Terms.{Writing}
use Rattle.syndrome.proofs.syndromes.syndromes.Given as goal

abbrev pub invariant-loop-j : goal.invariant-loop-j
invariant-loop-j l = Walkable l.n l.c l.values × (l.c.terms ≤ length l.initial.out) × (length l.out ≡ length l.initial.out) × At l.n l.c l.j l.num l.at × (l.j ≤ l.c.terms) × Writing l.n l.c l.j l.values l.initial.out l.out
