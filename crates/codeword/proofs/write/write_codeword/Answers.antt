-- `codeword::write::write_codeword` meets its contract: the message above its remainder.
use native.Mathlib.Omega.{arith}
use mathlib.Core.Path.{refl, ap}
use Prim.Native.Nat.{ℕ, ◌+◌, ◌-◌}
use lib.ListN.{length-replicate}
use Rattle.codeword.proofs.Places.{for_le}
use Rattle.codeword.proofs.Words.{for_most, fresh, encoded_bytes}
use Rattle.codeword.proofs.write.write_codeword.Goals as goal

pub make_feedback-requires : goal.make_feedback-requires
make_feedback-requires g c = let p = c.requires in let u = c.args.code.now.usable in
    (u.coded, ap (λ (x : ℕ). c.args.code.now.n - x) u.k_is, fresh g.row.W (omega (arith, u.k_pos, u.k_le)) p.0 p.1)

pub take_places-requires : goal.take_places-requires
take_places-requires g c = let p = c.requires in let u = c.args.code.now.usable in let k = c.make_feedback.auto in let e = length-replicate {A = ℕ} g.row.W 0 in
    (omega (arith, p.4.message_long, for_le c.args.bits), omega (arith, p.0, u.k_pos, u.k_le, k.register, e), omega (arith, k.register, k.feedback, e), c.make_feedback.ensures.empty)

pub write_places-requires : goal.write_places-requires
write_places-requires g c = let p = c.requires in let a = c.args in let u = a.code.now.usable in let x = a.code.now.n - a.code.now.k + a.bits in
    let t = c.take_places.auto.register in let k = c.make_feedback.auto.register in let e = length-replicate {A = ℕ} g.row.W 0 in (
      omega (arith, t, k, e, p.0),
      omega (arith, t, k, e, p.1),
      omega (arith, p.4.out_long, p.4.message_long, for_most x, for_le a.bits),
      omega (arith, p.4.out_long, for_most x, p.0, p.1, p.3, u.k_le),
      omega (arith, p.4.message_long, for_le a.bits, p.2),
    )

pub returns : goal.returns
returns g c = let p = c.requires in encoded_bytes c.args.code.now.usable p.4 refl c.make_feedback.ensures c.take_places.ensures c.write_places.ensures c.write_places.auto.out (λ i. omega (arith, c.type_inv.out i))
