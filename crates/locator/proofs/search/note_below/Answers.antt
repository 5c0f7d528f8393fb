-- `locator::search::note_below` meets its contract: a place past the last is none, and nothing is written.
use native.Mathlib.Omega.{arith}
use mathlib.Core.Path.{refl}
use Rattle.locator.proofs.search.note_below.Goals as goal

pub returns-then-i-n : goal.returns-then-i-n
returns-then-i-n c = record { inside = λ h. c.note.ensures; outside = λ h. absurd (omega (arith, c.if-i-n.true)) }

pub returns-else-i-n : goal.returns-else-i-n
returns-else-i-n c = record { inside = λ h. absurd (omega (arith, c.if-i-n.false)); outside = λ h. (refl, refl) }
