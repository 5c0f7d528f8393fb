-- `listing::piece::Page::put_spaced` meets its contract: a space and at most four digits.
use native.Mathlib.Omega.{arith}
use Rattle.listing.proofs.Writing.{then}
use Rattle.listing.proofs.Decimals.{decimal_length}
use Rattle.listing.proofs.piece.Page.put_spaced.Goals as goal

pub put_decimal-requires : goal.put_decimal-requires
put_decimal-requires c = let p = c.requires in let w = c.put.ensures in
    omega (arith, decimal_length c.args.x p.1, p.0, w.wrote.end_is, w.long)

pub returns : goal.returns
returns c = let w = c.put.ensures in let d = c.put_decimal.ensures in
    (then w d, omega (arith, decimal_length c.args.x c.requires.1, w.wrote.end_is, d.wrote.end_is))
