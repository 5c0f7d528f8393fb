-- `codeword::test::no_codeword` meets its contract: x^m times a word has remainder 0 exactly where the word has.
use native.Mathlib.Omega.{arith}
use mathlib.Core.Path.{ap}
use Prim.Native.Nat.{ℕ, ◌-◌}
use lib.ListN.{length-replicate}
use Rattle.codeword.proofs.Places.{for_le}
use Rattle.codeword.proofs.Words.{fresh, tested}
use Rattle.codeword.proofs.test.no_codeword.Goals as goal

pub make_feedback-requires : goal.make_feedback-requires
make_feedback-requires g c = let p = c.requires in let u = c.args.code.now.usable in
    (u.coded, ap (λ (x : ℕ). c.args.code.now.n - x) u.k_is, fresh g.row.W (omega (arith, u.k_pos, u.k_le)) p.0 p.1)

pub take_places-requires : goal.take_places-requires
take_places-requires g c = let p = c.requires in let u = c.args.code.now.usable in let k = c.make_feedback.auto in let e = length-replicate {A = ℕ} g.row.W 0 in
    (omega (arith, p.3, for_le c.args.sent), omega (arith, p.0, u.k_pos, u.k_le, k.register, e), omega (arith, k.register, k.feedback, e), c.make_feedback.ensures.empty)

pub returns : goal.returns
returns g c = tested c.args.code.now.usable.coded.length_stated c.make_feedback.ensures c.take_places.ensures c.is_zero.ensures
