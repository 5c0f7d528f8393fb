-- `poly::row::add_two` meets its contract: j coefficients of either multiple are added but the one that waits.
use native.Mathlib.Omega.{arith}
use Rattle.poly.proofs.Slices.{short_whole}
use Rattle.poly.proofs.Adding.{adding_two_start, adding_two_more, adding_two_end}
use Rattle.poly.proofs.row.add_two.Goals as goal

pub loop-j-init : goal.loop-j-init
loop-j-init c = adding_two_start c.requires.0.a_small

pub loop-j-preserved : goal.loop-j-preserved
loop-j-preserved c =
    adding_two_more c.args.tables.now.filled.degree _ _ _ (omega (arith, c.requires.0.a_long)) c.loop-j.invariant c.scaled.ensures c.scaled-last.ensures

pub returns : goal.returns
returns c =
    adding_two_end c.args.tables.now.filled.degree (short_whole c.args.addend.now) (omega arith) (omega (arith, c.requires.0.a_long)) c.loop-j.invariant
