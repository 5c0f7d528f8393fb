-- `generator::coset::logarithm` meets its contract: the table's entry is the exponent that gives the element as a power of ω.
use native.Mathlib.Omega.{arith}
use Rattle.generator.proofs.ByLogarithms.{log_lt, log_power}
use Rattle.generator.proofs.coset.logarithm.Goals as goal

pub bounds-tables-element : goal.bounds-tables-element
bounds-tables-element c = omega (arith, c.requires, c.args.tables.now.filled.g_long)

pub returns-clause-power : goal.returns-clause-power
returns-clause-power c =
    let o = c.args.tables.now.filled in (log_lt o c.requires c.if-element-eq0.false, log_power o c.requires c.if-element-eq0.false)
