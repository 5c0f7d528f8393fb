-- `decoder::repair::flip` meets its contract: the places of the list so far are changed.
use Prim.Native.Nat.{◌≤◌}
use mathlib.Core.Path.{◌≡◌}
use lib.ListN.{length}
use Rattle.decoder.specs.Repair.{Repaired}
use Rattle.decoder.proofs.repair.flip.Given as goal

abbrev pub invariant-loop-place : goal.invariant-loop-place
invariant-loop-place l = (length l.out ≡ length l.initial.out) × (l.place-index ≤ length l.places) × Repaired l.initial.out l.places l.place-index l.out
