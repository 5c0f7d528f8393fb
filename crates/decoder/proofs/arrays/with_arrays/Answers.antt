-- `decoder::arrays::with_arrays` meets its contract: arrays of TERMS hold up to TERMS - 1 terms, and all of them are 0.
use native.Mathlib.Omega.{arith}
use mathlib.Core.Path.{sym, ap}
use Prim.Native.Nat.{◌≤◌}
use lib.ListN.{length}
use lib.Seq.{length-take-le}
use Rattle.decoder.specs.Correct.{corrected_as}
use Rattle.decoder.proofs.Cleared.{lodged}
use Rattle.decoder.proofs.Repairing.{reached_front, repairable_front, repaired_front}
use Rattle.decoder.proofs.Exits.{received_held, received_far, received_listed, received_beyond, received_repairable, received_done, decoded_told}
use Rattle.decoder.proofs.arrays.with_arrays.Goals as goal

pub correct-requires : goal.correct-requires
correct-requires g c = let p = c.requires in
    (p.0, lodged 32 128 g.row.TERMS _ _ (received_held p.1) (omega (arith, p.4)) p.2 (omega (arith, p.4)) (omega (arith, p.4)))

pub returns-in_err-m : goal.returns-in_err-m
returns-in_err-m g c =
    decoded_told _ (sym c.from_residual.ensures) (received_far c.requires.1 c.correct.ensures (ap corrected_as c.in_err-m.was))

pub slice_bounds-places-end : goal.slice_bounds-places-end
slice_bounds-places-end g c = let p = c.requires in
    received_listed p.1 c.correct.ensures (ap corrected_as c.in_ok-m.was) (omega (arith, p.4, c.correct.auto.places))

pub slice_bounds-changed-end : goal.slice_bounds-changed-end
slice_bounds-changed-end g c = let p = c.requires in
    sym (length-take-le _ _ (received_listed p.1 c.correct.ensures (ap corrected_as c.in_ok-m.was) (omega (arith, p.4, c.correct.auto.places))))

pub returns-then-reaches : goal.returns-then-reaches
returns-then-reaches g c = let p = c.requires in
    let l = received_listed p.1 c.correct.ensures (ap corrected_as c.in_ok-m.was) (omega (arith, p.4, c.correct.auto.places)) in
    received_beyond p.1 c.correct.ensures (ap corrected_as c.in_ok-m.was) (reached_front _ _ l c.reaches.ensures) c.if-reaches.true

pub repair-requires : goal.repair-requires
repair-requires g c = let p = c.requires in
    let n : c.args.code.now.n ≤ length c.correct.new.places = omega (arith, p.4, c.correct.auto.places) in
    let l = received_listed p.1 c.correct.ensures (ap corrected_as c.in_ok-m.was) n in
    repairable_front _ _ l
    (received_repairable p.1 c.correct.ensures (ap corrected_as c.in_ok-m.was) (reached_front _ _ l c.reaches.ensures) c.if-reaches.false n)

pub returns : goal.returns
returns g c = let p = c.requires in
    let l = received_listed p.1 c.correct.ensures (ap corrected_as c.in_ok-m.was) (omega (arith, p.4, c.correct.auto.places)) in
    received_done p.1 c.correct.ensures (ap corrected_as c.in_ok-m.was) (reached_front _ _ l c.reaches.ensures) c.if-reaches.false
    (repaired_front _ _ l c.repair.ensures) c.repair.auto.out (λ i. omega (arith, c.type_inv.out i))

pub overflow_cast-result : goal.overflow_cast-result
overflow_cast-result g c = let p = c.requires in
    omega (arith, p.4, c.correct.auto.places, received_listed p.1 c.correct.ensures (ap corrected_as c.in_ok-m.was) (omega (arith, p.4, c.correct.auto.places)))
