-- `poly::division::cancel_leading` meets its contract: the term added is the quotient of the leading coefficients.
use native.Mathlib.Omega.{arith}
use Rattle.field.proofs.Shifts.{quotient_back}
use Rattle.poly.proofs.Reducing.{only_term, quotient_there, addable_a, addable_w, cancelled, reduced_one}
use Rattle.poly.proofs.division.cancel_leading.Goals as goal

pub returns-in_default-clause-shorter : goal.returns-in_default-clause-shorter
returns-in_default-clause-shorter c = let p = c.requires in absurd (quotient_there c.args.tables.now.filled.degree p.0 p.1 c.in_default.ensures)

pub returns-in_default-clause-reduced : goal.returns-in_default-clause-reduced
returns-in_default-clause-reduced c = let p = c.requires in absurd (quotient_there c.args.tables.now.filled.degree p.0 p.1 c.in_default.ensures)

pub log-q-requires : goal.log-q-requires
log-q-requires c = let p = c.requires.0 in
    (quotient_back c.args.tables.now.filled.degree _ _ _ (p.b_small.at _) (p.b_length.leading p.b_pos) (p.a_small.at _) c.in-Some.ensures).0

pub add_scaled-requires : goal.add_scaled-requires
add_scaled-requires c = let p = c.requires in let d = c.args.tables.now.filled.degree in addable_a d p.0 p.1 (only_term d p.0 p.1 c.in-Some.ensures c.log-q.ensures)

pub add_scaled-requires-2 : goal.add_scaled-requires-2
add_scaled-requires-2 c = let p = c.requires in let d = c.args.tables.now.filled.degree in addable_w d p.0 p.1 (only_term d p.0 p.1 c.in-Some.ensures c.log-q.ensures)

pub length_below-dividend-requires : goal.length_below-dividend-requires
length_below-dividend-requires c = let p = c.requires in
    let d = c.args.tables.now.filled.degree in
    (omega (arith, c.add_scaled.auto.sum, p.0.a_long), cancelled d p.0 p.1 (only_term d p.0 p.1 c.in-Some.ensures c.log-q.ensures) c.add_scaled.ensures)

pub returns-clause-reduced : goal.returns-clause-reduced
returns-clause-reduced c = let p = c.requires in
    let d = c.args.tables.now.filled.degree in
    reduced_one d p.0 p.1 (only_term d p.0 p.1 c.in-Some.ensures c.log-q.ensures) c.add_scaled.ensures c.add_scaled-2.ensures c.length_below-dividend.ensures.1
