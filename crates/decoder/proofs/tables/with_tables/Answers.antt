-- `decoder::tables::with_tables` meets its contract: the arrays hold the tables of the degree.
use Rattle.decoder.proofs.Cleared.{degree_of, cleared_tables}
use Rattle.decoder.proofs.tables.with_tables.Goals as goal

pub fill-tables-requires : goal.fill-tables-requires
fill-tables-requires g c = let p = c.requires in cleared_tables g.row.POWERS g.row.LOGS (degree_of c.args.code.now.given) p.1 p.2
