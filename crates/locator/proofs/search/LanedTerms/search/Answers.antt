-- `locator::search::LanedTerms::search` meets its contract: the first i places are searched, and at most t of them found.
use native.Mathlib.Omega.{arith}
use mathlib.Core.Path.{refl}
use Rattle.locator.proofs.Finding.{noted_le, finding_start, finding_more, finding_all, finding_many}
use Rattle.locator.proofs.search.LanedTerms.search.Goals as goal

pub loop-i-init : goal.loop-i-init
loop-i-init c = (refl, finding_start c.requires.1, omega arith, omega arith)

pub lanes_vanish-requires : goal.lanes_vanish-requires
lanes_vanish-requires c = omega (arith, c.requires.0)

pub note-c-requires : goal.note-c-requires
note-c-requires c = let v = c.loop-i.invariant in (omega (arith, v.1.listed.le, v.1.long), omega (arith, c.requires.2))

pub overflow_add-c : goal.overflow_add-c
overflow_add-c c = let v = c.loop-i.invariant in omega (arith, c.requires.2, v.1.listed.le, noted_le c.note-c.ensures)

pub shape_of-places-then-t-c : goal.shape_of-places-then-t-c
shape_of-places-then-t-c c = omega (arith, c.loop-i.invariant.0, c.note-c.auto.places)

pub returns-then-t-c : goal.returns-then-t-c
returns-then-t-c c = finding_many (omega arith) c.if-t-c.true (finding_more c.loop-i-test.true c.lanes_vanish.ensures c.note-c.ensures c.loop-i.invariant.1)

pub loop-i-preserved : goal.loop-i-preserved
loop-i-preserved c = let v = c.loop-i.invariant in
    (omega (arith, v.0, c.note-c.auto.places), finding_more c.loop-i-test.true c.lanes_vanish.ensures c.note-c.ensures v.1, c.if-t-c.false, omega arith)

pub shape_of-places : goal.shape_of-places
shape_of-places c = c.loop-i.invariant.0

pub returns : goal.returns
returns c = let v = c.loop-i.invariant in finding_all (omega (arith, v.3)) v.2 v.1
