-- `listing::page::write_refused` meets its contract: one piece after the other.
use Rattle.std.proofs.Common.{rules}
use Rattle.document.specs.Card.{refused_line}
use Rattle.listing.proofs.Writing.{then}
use Rattle.listing.proofs.page.write_refused.Goals as goal

pub returns : goal.returns
unfolding refused_line
returns c = let w = then c.put_field.ensures.0 c.put.ensures in search (rules, w)
