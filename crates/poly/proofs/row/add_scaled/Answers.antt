-- `poly::row::add_scaled` meets its contract: j coefficients are added.
use native.Mathlib.Omega.{arith}
use Rattle.field.proofs.Numbers.{product_lt}
use Rattle.poly.proofs.Slices.{short_whole}
use Rattle.poly.proofs.Adding.{adding_more, adding_end}
use Rattle.poly.proofs.row.add_scaled.Goals as goal

pub loop-j-preserved : goal.loop-j-preserved
loop-j-preserved c = let y = c.scaled.ensures in
    adding_more _ _ (omega (arith, c.requires.a_long)) c.loop-j.invariant (product_lt c.args.tables.now.filled.degree _ _ y) y

pub returns : goal.returns
returns c = adding_end (short_whole c.args.addend.now) (omega arith) c.loop-j.invariant
