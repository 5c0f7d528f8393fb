-- `sheet::read::read_representatives` meets its contract: the first i bytes from byte 10 on are copied.
use mathlib.Core.Path.{◌≡◌}
use lib.ListN.{length}
use Rattle.document.specs.Short.{short}
use Rattle.sheet.proofs.Reading.{RepresentativesTo}
use Rattle.sheet.proofs.read.read_representatives.Given as goal

abbrev pub invariant-loop-i : goal.invariant-loop-i
invariant-loop-i l = (length l.r-items ≡ l.count) × RepresentativesTo short l.sheet l.i l.r-items
