-- `poly::euclid::euclid` meets its contract: the rows stay rows on x^l and S, and the first one is longer than stop.
use mathlib.Core.Path.{◌≡◌}
use Prim.Native.Nat.{◌<◌}
use Rattle.poly.proofs.State.{State}
use Rattle.poly.proofs.euclid.euclid.Given as goal

abbrev pub invariant-loop-lower : goal.invariant-loop-lower
invariant-loop-lower l =
    State l.tables.s l.l l.fn.lower l.upper.remainder.now l.lower.remainder.now l.lower.cofactor.now l.upper.cofactor.now l.upper.len l.lower.len l.lower.cofactor_len l.upper.cofactor_len × (l.stop < l.upper.len)
    × (l.upper.remainder.ghost_name ≡ l.initial.upper.remainder.ghost_name) × (l.upper.cofactor.ghost_name ≡ l.initial.upper.cofactor.ghost_name)
    × (l.lower.remainder.ghost_name ≡ l.initial.lower.remainder.ghost_name) × (l.lower.cofactor.ghost_name ≡ l.initial.lower.cofactor.ghost_name)

abbrev pub decreases-loop-lower : goal.decreases-loop-lower
decreases-loop-lower l = l.lower.len
