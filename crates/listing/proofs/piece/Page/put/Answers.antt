-- `listing::piece::Page::put` meets its contract: one store.
use mathlib.Core.Path.{refl}
use lib.ListN.{length-set}
use Rattle.listing.proofs.Writing.{wrote_one}
use Rattle.listing.proofs.piece.Page.put.Goals as goal

pub returns : goal.returns
returns c = let page = c.args.self.now in record { same = refl; long = length-set page.out.now page.end c.args.byte; wrote = wrote_one c.requires }
