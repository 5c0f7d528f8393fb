-- `syndrome::columns::lane_sums` meets its contract: the first i columns are in the sums, i even.
use native.Mathlib.Omega.{arith}
use mathlib.Core.Path.{refl, ◌∙◌}
use Prim.Native.Nat.{◌+◌, ◌*◌}
use Rattle.field.proofs.Exponents.{looked, powered_of}
use Rattle.syndrome.proofs.Columning.{summing_start, summing_two, summing_end, looked_four, power_fits}
use Rattle.syndrome.proofs.columns.lane_sums.Goals as goal

pub loop-i-init : goal.loop-i-init
loop-i-init c = (c.fold-next.ensures.0, c.fold-next.ensures.1, omega arith, refl, summing_start)

pub overflow_mul-a : goal.overflow_mul-a
overflow_mul-a c = let f = c.index-y.ensures in
    let p = powered_of c.args.tables.now.filled in
    record { fits = power_fits (0 + 4 * c.loop-i.i * c.args.by) p.degree c.requires c.loop-i-test.true c.from.ensures (looked 0 (4 * c.loop-i.i) c.args.by p f.0 f.1) }

pub overflow_mul-a-in-loop-i : goal.overflow_mul-a-in-loop-i
overflow_mul-a-in-loop-i c = let v = c.loop-i.invariant in
    let f = c.index-y.ensures in
    let p = powered_of c.args.tables.now.filled in
    record { fits = power_fits (0 + (4 * c.loop-i.i + 4) * c.args.by) p.degree c.requires (omega (arith, c.requires.even, v.3, c.loop-i-test.true)) c.from-in-loop-i.ensures (looked_four c.loop-i.i c.args.by p f.0 f.1 v.0 v.1) }

pub loop-i-preserved : goal.loop-i-preserved
loop-i-preserved c = let v = c.loop-i.invariant in
    let f = c.index-y.ensures in
    let p = powered_of c.args.tables.now.filled in
    let t = c.loop-i-test.true in (
      v.0,
      v.1,
      omega (arith, c.requires.even, v.3, t),
      omega (arith, v.3),
      summing_two p.degree (omega (arith, c.requires.even, v.3, t)) (c.from.ensures ∙ looked 0 (4 * c.loop-i.i) c.args.by p f.0 f.1) (c.from-in-loop-i.ensures ∙ looked_four c.loop-i.i c.args.by p f.0 f.1 v.0 v.1) v.4,
    )

pub returns-2 : goal.returns-2
returns-2 c = let v = c.loop-i.invariant in
    let f = c.index-y.ensures in
    let p = powered_of c.args.tables.now.filled in
    let t = c.loop-i-test.true in
    summing_end (omega (arith, c.requires.even, v.3))
    (summing_two p.degree (omega (arith, c.requires.even, v.3, t)) (c.from.ensures ∙ looked 0 (4 * c.loop-i.i) c.args.by p f.0 f.1) (c.from-in-loop-i.ensures ∙ looked_four c.loop-i.i c.args.by p f.0 f.1 v.0 v.1) v.4)
