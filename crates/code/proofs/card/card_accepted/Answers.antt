-- `code::card::card_accepted` meets its contract: generator, marks and record, written.
use native.Mathlib.Omega.{arith}
use mathlib.Core.Path.{sym, ap}
use Prim.Native.Nat.{ℕ, ◌*◌}
use lib.ListN.{length-replicate}
use lib.Seq.{length-take-le}
use Rattle.codeword.proofs.Words.{lengths_of, fresh, tables_room}
use Rattle.generator.proofs.Assembly.{multiplied_one}
use Rattle.code.proofs.Accepted.{short_limits}
use Rattle.code.proofs.Ready.{ready}
use Rattle.code.proofs.Listed.{none_marked, listable, lists}
use Rattle.code.proofs.card.card_accepted.Goals as goal

pub read_certificates-count-requires : goal.read_certificates-count-requires
read_certificates-count-requires c = ((ready short_limits c.args.accepted.now.accepted).counts, omega arith)

pub power_of_x-requires : goal.power_of_x-requires
power_of_x-requires c = let r = ready short_limits c.args.accepted.now.accepted in (fresh {n = c.args.accepted.now.numbers.n} 2 (omega (arith, r.usable.k_pos, r.usable.k_le)) (omega (arith, r.most)) (omega arith)).none

pub times_generator-requires : goal.times_generator-requires
times_generator-requires c = let r = ready short_limits c.args.accepted.now.accepted in
    (lengths_of r.usable.coded, r.usable.coded.rising, sym c.power_of_x.auto.w, (fresh {n = c.args.accepted.now.numbers.n} 2 (omega (arith, r.usable.k_pos, r.usable.k_le)) (omega (arith, r.most)) (omega arith)).empty, tables_room 255 256 r.usable.coded (omega arith) (omega arith))

pub mark_set-requires : goal.mark_set-requires
mark_set-requires c = let r = ready short_limits c.args.accepted.now.accepted in (r.usable.coded, none_marked 128 (omega (arith, r.most)))

pub write_accepted-requires : goal.write_accepted-requires
write_accepted-requires c = let r = ready short_limits c.args.accepted.now.accepted in let y = c.read_certificates-count.ensures in (
  listable r y r.most c.mark_set.ensures (omega (arith, r.most, c.times_generator.auto.product, c.power_of_x.auto.w, length-replicate {A = ℕ} 2 0)),
  omega (arith, r.most, y.few, c.requires, length-take-le _ _ y.fits),
)

pub returns : goal.returns
returns c = let r = ready short_limits c.args.accepted.now.accepted in
    c.write_accepted.ensures.is _ (lists r c.read_certificates-count.ensures c.mark_set.ensures (multiplied_one c.args.accepted.now.representatives.now r.usable.coded.length_stated (omega (arith, r.most, length-replicate {A = ℕ} 2 0)) (ap (λ (x : ℕ). 64 * x) (sym c.power_of_x.auto.w)) c.power_of_x.ensures c.times_generator.ensures))
