-- `decoder::correct::correct` meets its contract: values, syndromes, rows, places, verdict.
use Prim.Native.Nat.{◌-◌, ◌*◌}
use mathlib.Core.Path.{refl, ◌∙◌}
use Rattle.field.proofs.Exponents.{powered_of}
use Rattle.decoder.proofs.Reception.{known}
use Rattle.decoder.proofs.Correcting.{for_tables, choosable, computable, extendable, walkable, comparable, solvable, search, stop_fits, stop_word, f_small, lower_enough, corrected, corrected_clean}
use Rattle.decoder.proofs.correct.correct.Goals as goal

pub evaluate-requires : goal.evaluate-requires
evaluate-requires c = computable (for_tables c.requires.0 c.args.code.now.given) c.requires.1

pub returns-then-evaluate : goal.returns-then-evaluate
returns-then-evaluate c = corrected_clean c.evaluate.ensures.1 c.if-evaluate.true

pub extend-requires : goal.extend-requires
extend-requires c = extendable (for_tables c.requires.0 c.args.code.now.given) c.requires.1 c.evaluate.auto.values c.evaluate.ensures.0

pub syndromes-requires : goal.syndromes-requires
syndromes-requires c = let p = c.requires.1 in (walkable c.args.code.now.given p (c.extend.auto.values ∙ c.evaluate.auto.values), lower_enough c.args.code.now.given p)

pub degree-u-requires : goal.degree-u-requires
degree-u-requires c = f_small c.args.code.now.given c.requires.1

pub overflow_mul-stop : goal.overflow_mul-stop
overflow_mul-stop c = stop_word c.args.code.now.given c.degree-u.ensures

pub overflow_sub-stop : goal.overflow_sub-stop
overflow_sub-stop c = stop_fits c.args.code.now.given c.degree-u.ensures

pub euclid-found-requires : goal.euclid-found-requires
euclid-found-requires c = solvable (for_tables c.requires.0 c.args.code.now.given) c.requires.1 c.degree-u.ensures (known c.evaluate.ensures.0 c.extend.ensures) c.syndromes.ensures c.syndromes.auto.out

pub holder-locator-requires : goal.holder-locator-requires
holder-locator-requires c =
    choosable c.args.tables.now.s c.args.code.now.certificate.terms (c.args.code.now.certificate.terms - c.args.code.now.t * c.degree-u.result) c.syndromes.new.out
    c.euclid-found.new.lower_cofactor c.euclid-found.new.upper_cofactor c.euclid-found.result c.euclid-found.ensures

pub locate-m-requires : goal.locate-m-requires
locate-m-requires c =
    search (for_tables c.requires.0 c.args.code.now.given) c.requires.1 (c.args.code.now.certificate.terms - c.args.code.now.t * c.degree-u.result) c.syndromes.new.out
    c.euclid-found.new.lower_cofactor c.euclid-found.new.upper_cofactor c.holder-locator.result.now c.euclid-found.result c.degree-u.ensures c.euclid-found.ensures
    c.holder-locator.ensures c.euclid-found.auto.lower_cofactor c.euclid-found.auto.upper_cofactor

pub verdict-requires : goal.verdict-requires
verdict-requires c = λ h.
    let y = comparable (for_tables c.requires.0 c.args.code.now.given) c.requires.1 c.locate-m.ensures c.locate-m.auto.places (c.extend.auto.values ∙ c.evaluate.auto.values) h in
    (powered_of c.args.tables.now.filled, y.0, y.1)

pub returns : goal.returns
returns c =
    let p = c.requires.1 in
    corrected (for_tables c.requires.0 c.args.code.now.given) c.euclid-found.new.lower_cofactor
    c.euclid-found.new.upper_cofactor c.holder-locator.result.now c.euclid-found.result (known c.evaluate.ensures.0 c.extend.ensures) c.syndromes.ensures
    p.space.lower_zero c.degree-u.ensures refl c.euclid-found.ensures c.holder-locator.ensures c.locate-m.ensures
    c.verdict.ensures
