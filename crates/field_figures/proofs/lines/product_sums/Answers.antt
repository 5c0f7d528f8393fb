-- `field_figures::lines::product_sums` meets its contract: the arrays are long enough for the tables of every degree.
use native.Mathlib.Omega.{arith}
use Rattle.field_figures.proofs.Laws.{tables_fit}
use Rattle.field_figures.proofs.lines.product_sums.Goals as goal

pub fill-tables-requires : goal.fill-tables-requires
fill-tables-requires c = tables_fit c.requires (omega arith) (omega arith)
