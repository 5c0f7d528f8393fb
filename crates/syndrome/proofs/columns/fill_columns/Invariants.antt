-- `syndrome::columns::fill_columns` meets its contract: the first i columns are written, i even.
use mathlib.Core.Path.{◌≡◌}
use Prim.Native.Nat.{◌%◌, ◌≤◌}
use lib.ListN.{length}
use Rattle.codeword.specs.Place.{places_of}
use Rattle.syndrome.specs.Columns.{Columnable}
use Rattle.syndrome.proofs.Columning.{Columning}
use Rattle.syndrome.proofs.columns.fill_columns.Given as goal

abbrev pub invariant-loop-i : goal.invariant-loop-i
invariant-loop-i l = Columnable (length l.initial.columns) (places_of l.word) × (l.i ≤ length l.initial.columns) × (l.i % 2 ≡ 0) × Columning l.i (places_of l.word) l.columns
