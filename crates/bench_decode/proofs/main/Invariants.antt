-- `bench_decode::main` meets its contract: no more words are right than were tried.
use Prim.Native.Nat.{◌≤◌}
use Rattle.bench_decode.proofs.main.Given as goal

abbrev pub invariant-loop-i : goal.invariant-loop-i
invariant-loop-i l = l.right ≤ l.i
