-- `listing::page::write_accepted` meets its contract: one line after the other.
use Rattle.std.proofs.Common.{rules}
use Rattle.listing.proofs.Writing.{then}
use Rattle.listing.proofs.Whole.{listed}
use Rattle.listing.proofs.page.write_accepted.Goals as goal

pub returns : goal.returns
returns c = let w = then (then c.code_lines.ensures.0 c.certificate_lines.ensures.0) c.radius_line.ensures.0 in listed (search (rules, w))
