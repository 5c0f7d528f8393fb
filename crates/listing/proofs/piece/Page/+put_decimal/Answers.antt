-- `listing::piece::Page::put_decimal` meets its contract: x / 10 has one digit less.
use native.Mathlib.Omega.{arith}
use mathlib.Core.Path.{sym}
use Rattle.listing.proofs.Writing.{adds_is, then}
use Rattle.listing.proofs.Decimals.{decimal_small, decimal_large, small_length, large_length}
use Rattle.listing.proofs.piece.Page.+put_decimal.Goals as goal

pub put-requires : goal.put-requires
put-requires t c = omega (arith, small_length c.args.x c.if-x-lt10.true, c.requires)

pub returns-then-x-lt10 : goal.returns-then-x-lt10
returns-then-x-lt10 t c = adds_is (sym (decimal_small c.args.x c.if-x-lt10.true)) c.put.ensures

pub put_decimal-requires : goal.put_decimal-requires
put_decimal-requires t c = (omega arith, omega (arith, large_length c.args.x (omega arith), c.requires))

pub put-requires-else-x-lt10 : goal.put-requires-else-x-lt10
put-requires-else-x-lt10 t c = let w = c.put_decimal.ensures in
    omega (arith, w.wrote.end_is, w.long, large_length c.args.x (omega arith), c.requires)

pub returns-else-x-lt10 : goal.returns-else-x-lt10
returns-else-x-lt10 t c = adds_is (sym (decimal_large c.args.x (omega arith))) (then c.put_decimal.ensures c.put-else-x-lt10.ensures)
