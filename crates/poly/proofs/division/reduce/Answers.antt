-- `poly::division::reduce` meets its contract: terms of the quotient are added until the remainder is shorter than the divisor.
use native.Mathlib.Omega.{arith}
use Rattle.field.proofs.Shifts.{inverse_lt}
use Rattle.poly.proofs.Reducing.{inverse_there, inverse_at, reduced_none, reduced_more, reducible_on, kept_all, kept_more}
use Rattle.poly.proofs.division.reduce.Goals as goal

pub returns-in_default-clause-shorter : goal.returns-in_default-clause-shorter
returns-in_default-clause-shorter c = let p = c.requires in
    absurd (inverse_there c.args.tables.now.filled.degree (p.b_small.at _) (p.b_length.leading p.b_pos) c.in_default.ensures)

pub returns-in_default-clause-reduced : goal.returns-in_default-clause-reduced
returns-in_default-clause-reduced c = reduced_none c.requires

pub log-k-requires : goal.log-k-requires
log-k-requires c = inverse_lt c.args.tables.now.filled.degree _ _ (c.requires.b_small.at _) c.in-Some.ensures

pub loop-dividend-init : goal.loop-dividend-init
loop-dividend-init c = (kept_all, omega arith, reduced_none c.requires)

pub cancel_terms-requires : goal.cancel_terms-requires
cancel_terms-requires c = let p = c.requires in
    let i = c.loop-dividend.invariant in
    let d = c.args.tables.now.filled.degree in
    let divisor = p.b_small.at _ in
    let x = c.in-Some.ensures in (
      reducible_on p i.1 i.0.remainder_long i.0.cofactor_long i.2,
      omega (arith, c.loop-dividend-test.true),
      inverse_at d divisor (p.b_length.leading p.b_pos) (inverse_lt d _ _ divisor x) x c.log-k.ensures,
    )

pub loop-dividend-preserved : goal.loop-dividend-preserved
loop-dividend-preserved c = let i = c.loop-dividend.invariant in
    let t = c.cancel_terms.ensures in (kept_more t.kept i.0, omega (arith, t.shorter, i.1), reduced_more (omega (arith, i.1)) i.2 t.reduced)
