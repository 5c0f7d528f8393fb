-- `poly::division::cancel_terms` meets its contract: two terms, where the second is that of what the first leaves.
use native.Mathlib.Omega.{arith}
use Rattle.poly.proofs.Reducing.{first_term}
use Rattle.poly.proofs.TwoTerms.{second_lt, second_log_lt, two_addable_a, two_addable_w, cancelled_two, reduced_two}
use Rattle.poly.proofs.division.cancel_terms.Goals as goal

pub overflow_add-k1 : goal.overflow_add-k1
overflow_add-k1 c = let p = c.requires in let o = c.args.tables.now.filled in omega (arith, (first_term o.degree p.0 p.1 p.2 c.log.ensures).most, o.cap)

pub second_leading-y-requires : goal.second_leading-y-requires
second_leading-y-requires c = let p = c.requires in (p.0, p.1, (first_term c.args.tables.now.filled.degree p.0 p.1 p.2 c.log.ensures).most)

pub log-requires-2 : goal.log-requires-2
log-requires-2 c = let p = c.requires in second_lt c.args.tables.now.filled.degree p.0 p.1 p.2 c.log.ensures (c.second_leading-y.ensures c.if-y-eq0.false)

pub overflow_add-k0 : goal.overflow_add-k0
overflow_add-k0 c = let p = c.requires in
    let o = c.args.tables.now.filled in
    let t = c.second_leading-y.ensures c.if-y-eq0.false in
    omega (arith, second_log_lt o.degree p.0 p.1 p.2 c.log.ensures t c.if-y-eq0.false c.log-2.ensures, o.cap)

pub add_two-requires : goal.add_two-requires
add_two-requires c = let p = c.requires in
    let d = c.args.tables.now.filled.degree in
    let t = c.second_leading-y.ensures c.if-y-eq0.false in
    (two_addable_a d p.0 p.1 p.2 c.log.ensures t, second_log_lt d p.0 p.1 p.2 c.log.ensures t c.if-y-eq0.false c.log-2.ensures)

pub add_two-requires-2 : goal.add_two-requires-2
add_two-requires-2 c = let p = c.requires in
    let d = c.args.tables.now.filled.degree in
    let t = c.second_leading-y.ensures c.if-y-eq0.false in
    (two_addable_w d p.0 p.1 p.2 c.log.ensures t, second_log_lt d p.0 p.1 p.2 c.log.ensures t c.if-y-eq0.false c.log-2.ensures)

pub length_below-dividend-requires : goal.length_below-dividend-requires
length_below-dividend-requires c = let p = c.requires in
    let d = c.args.tables.now.filled.degree in
    let t = c.second_leading-y.ensures c.if-y-eq0.false in
    (omega (arith, c.add_two.auto.sum, p.0.a_long), cancelled_two d p.0 p.1 p.2 c.log.ensures t c.if-y-eq0.false c.log-2.ensures c.add_two.ensures)

pub returns-clause-reduced : goal.returns-clause-reduced
returns-clause-reduced c = let p = c.requires in
    let t = c.second_leading-y.ensures c.if-y-eq0.false in
    reduced_two c.args.tables.now.filled.degree p.0 p.1 p.2 c.log.ensures t c.add_two.ensures c.add_two-2.ensures c.length_below-dividend.ensures.1
