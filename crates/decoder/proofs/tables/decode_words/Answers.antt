-- `decoder::tables::decode_words` meets its contract: tables for the field's degree.
use native.Mathlib.Omega.{arith}
use Rattle.decoder.proofs.Cleared.{degree_of, table_room}
use Rattle.decoder.proofs.tables.decode_words.Goals as goal

pub with_tables-requires : goal.with_tables-requires
with_tables-requires c = let p = c.requires in let r = table_room 6 c.if-code-le6.true in (p.0, r.0, r.1, omega arith, omega arith, p.1, p.2)

pub with_tables-requires-else-code-le8 : goal.with_tables-requires-else-code-le8
with_tables-requires-else-code-le8 c = let p = c.requires in let r = table_room 12 (degree_of c.args.code.now.given).hi in (p.0, r.0, r.1, omega arith, omega arith, p.1, p.2)
