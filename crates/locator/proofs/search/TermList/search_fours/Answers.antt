-- `locator::search::TermList::search_fours` meets its contract: the places below n of the first i are searched, and at most t of them found.
use native.Mathlib.Omega.{arith}
use Rattle.locator.proofs.Finding.{noted_below_le}
use Rattle.locator.proofs.Neighbours.{fours_start, fours_length, fours_more, fours_many, fours_all}
use Rattle.locator.proofs.search.TermList.search_fours.Goals as goal

pub loop-i-init : goal.loop-i-init
loop-i-init c = fours_start c.requires.1

pub four-requires : goal.four-requires
four-requires c = omega (arith, c.requires.0)

pub note_below-c-requires : goal.note_below-c-requires
note_below-c-requires c = let v = c.loop-i.invariant in (v.below.finding.long, c.requires.2, v.c_i)

pub overflow_add-c : goal.overflow_add-c
overflow_add-c c = let v = c.loop-i.invariant in omega (arith, v.c_i, c.requires.2, noted_below_le c.note_below-c.ensures)

pub overflow_add-i : goal.overflow_add-i
overflow_add-i c = omega (arith, c.requires.2)

pub note_below-c-requires-in-loop-i : goal.note_below-c-requires-in-loop-i
note_below-c-requires-in-loop-i c = let v = c.loop-i.invariant in (omega (arith, v.below.finding.long, c.note_below-c.auto.places), c.requires.2, omega (arith, v.c_i, noted_below_le c.note_below-c.ensures))

pub overflow_add-c-in-loop-i : goal.overflow_add-c-in-loop-i
overflow_add-c-in-loop-i c = let v = c.loop-i.invariant in omega (arith, v.c_i, c.requires.2, noted_below_le c.note_below-c.ensures, noted_below_le c.note_below-c-in-loop-i.ensures)

pub overflow_add-i-in-loop-i : goal.overflow_add-i-in-loop-i
overflow_add-i-in-loop-i c = omega (arith, c.requires.2)

pub note_below-c-requires-in-loop-i-2 : goal.note_below-c-requires-in-loop-i-2
note_below-c-requires-in-loop-i-2 c = let v = c.loop-i.invariant in (omega (arith, v.below.finding.long, c.note_below-c.auto.places, c.note_below-c-in-loop-i.auto.places), c.requires.2, omega (arith, v.c_i, noted_below_le c.note_below-c.ensures, noted_below_le c.note_below-c-in-loop-i.ensures))

pub overflow_add-c-in-loop-i-2 : goal.overflow_add-c-in-loop-i-2
overflow_add-c-in-loop-i-2 c = let v = c.loop-i.invariant in omega (arith, v.c_i, c.requires.2, noted_below_le c.note_below-c.ensures, noted_below_le c.note_below-c-in-loop-i.ensures, noted_below_le c.note_below-c-in-loop-i-2.ensures)

pub overflow_add-i-in-loop-i-2 : goal.overflow_add-i-in-loop-i-2
overflow_add-i-in-loop-i-2 c = omega (arith, c.requires.2)

pub note_below-c-requires-in-loop-i-3 : goal.note_below-c-requires-in-loop-i-3
note_below-c-requires-in-loop-i-3 c = let v = c.loop-i.invariant in (omega (arith, v.below.finding.long, c.note_below-c.auto.places, c.note_below-c-in-loop-i.auto.places, c.note_below-c-in-loop-i-2.auto.places), c.requires.2, omega (arith, v.c_i, noted_below_le c.note_below-c.ensures, noted_below_le c.note_below-c-in-loop-i.ensures, noted_below_le c.note_below-c-in-loop-i-2.ensures))

pub overflow_add-c-in-loop-i-3 : goal.overflow_add-c-in-loop-i-3
overflow_add-c-in-loop-i-3 c = let v = c.loop-i.invariant in omega (arith, v.c_i, c.requires.2, noted_below_le c.note_below-c.ensures, noted_below_le c.note_below-c-in-loop-i.ensures, noted_below_le c.note_below-c-in-loop-i-2.ensures, noted_below_le c.note_below-c-in-loop-i-3.ensures)

pub shape_of-places-then-t-c : goal.shape_of-places-then-t-c
shape_of-places-then-t-c c = fours_length c.four.ensures c.note_below-c.ensures c.note_below-c-in-loop-i.ensures c.note_below-c-in-loop-i-2.ensures c.note_below-c-in-loop-i-3.ensures c.loop-i.invariant

pub returns-then-t-c : goal.returns-then-t-c
returns-then-t-c c = fours_many c.four.ensures c.note_below-c.ensures c.note_below-c-in-loop-i.ensures c.note_below-c-in-loop-i-2.ensures c.note_below-c-in-loop-i-3.ensures c.loop-i.invariant c.if-t-c.true

pub loop-i-preserved : goal.loop-i-preserved
loop-i-preserved c = fours_more c.four.ensures c.note_below-c.ensures c.note_below-c-in-loop-i.ensures c.note_below-c-in-loop-i-2.ensures c.note_below-c-in-loop-i-3.ensures c.loop-i.invariant c.if-t-c.false

pub shape_of-places : goal.shape_of-places
shape_of-places c = c.loop-i.invariant.kept

pub returns : goal.returns
returns c = fours_all c.loop-i-test.false c.loop-i.invariant

pub returns-else-t-c : goal.returns-else-t-c
returns-else-t-c c = fours_all (omega arith) (fours_more c.four.ensures c.note_below-c.ensures c.note_below-c-in-loop-i.ensures c.note_below-c-in-loop-i-2.ensures c.note_below-c-in-loop-i-3.ensures c.loop-i.invariant c.if-t-c.false)
