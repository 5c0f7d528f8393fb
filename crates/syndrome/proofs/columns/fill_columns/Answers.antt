-- `syndrome::columns::fill_columns` meets its contract: the first i columns are written, i even.
use native.Mathlib.Omega.{arith}
use Prim.Native.Nat.{◌+◌}
use lib.ListN.{length-set}
use Rattle.syndrome.proofs.Columning.{places_in, columning_two, columning_end}
use Rattle.syndrome.proofs.columns.fill_columns.Goals as goal

pub four_word_places-requires : goal.four_word_places-requires
four_word_places-requires c = let v = c.loop-i.invariant in (places_in c.args.word.now v.0 c.loop-i-test.true, omega arith)

pub four_word_places-requires-in-loop-i : goal.four_word_places-requires-in-loop-i
four_word_places-requires-in-loop-i c = let v = c.loop-i.invariant in
    let t = c.loop-i-test.true in
    (omega (arith, places_in {i = c.loop-i.i + 1} c.args.word.now v.0 (omega (arith, v.0.even, v.2, t))), omega arith)

pub loop-i-preserved : goal.loop-i-preserved
loop-i-preserved c = let v = c.loop-i.invariant in
    let t = c.loop-i-test.true in (
      v.0,
      omega (arith, v.0.even, v.2, t),
      omega (arith, v.2),
      columning_two c.args.word.now v.0 (omega (arith, v.0.even, v.2, t)) (omega (arith, v.0.even, v.2, t)) c.four_word_places.ensures c.four_word_places-in-loop-i.ensures v.3,
    )

pub returns-2 : goal.returns-2
returns-2 c = let v = c.loop-i.invariant in
    let t = c.loop-i-test.true in
    columning_end v.0.bits (simp length-set (omega arith))
    (columning_two c.args.word.now v.0 (omega (arith, v.0.even, v.2, t)) (omega (arith, v.0.even, v.2, t)) c.four_word_places.ensures c.four_word_places-in-loop-i.ensures v.3)
