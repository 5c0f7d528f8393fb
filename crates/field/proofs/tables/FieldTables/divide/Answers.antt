-- `field::tables::FieldTables::divide` meets its contract: by the case of the inverse's answer.
use mathlib.Core.Path.{sym, ap, ◌∙◌}
use Rattle.field.specs.Field.{values_of}
use Rattle.field.proofs.Shifts.{quotient_absent, quotient_present, inverse_lt}
use Rattle.field.proofs.tables.FieldTables.divide.Goals as goal

pub returns-in_default : goal.returns-in_default
returns-in_default c = quotient_absent _ _ _ (sym (ap values_of c.in_default.is) ∙ c.inverse.ensures)

pub multiply-requires : goal.multiply-requires
multiply-requires c =
    (c.requires.0, inverse_lt c.args.self.now.filled.degree _ _ c.requires.1 (sym (ap values_of c.in-Some.is) ∙ c.inverse.ensures))

pub returns : goal.returns
returns c = quotient_present _ _ _ _ _ (sym (ap values_of c.in-Some.is) ∙ c.inverse.ensures) c.multiply.ensures
