-- `field::exponent::fold` meets its contract: the high part of an exponent counts 2^s - 1 each, which ω does not see.
use native.Mathlib.Omega.{arith}
use mathlib.Core.Path.{ap}
use Prim.Native.Nat.{ℕ, ◌+◌, ◌/◌, ◌^◌}
use Rattle.field.proofs.Exponents.{masked, folded_lt}
use Rattle.field.proofs.exponent.fold.Goals as goal

pub returns : goal.returns
returns c = let a = c in
    let f = folded_lt a.args.s a.args.y a.requires.1 in
    let m = masked a.args.s a.args.y c.order.ensures in
    (ap (λ (x : ℕ). x + a.args.y / 2 ^ a.args.s) m, omega (arith, m, f.0, f.1))
