-- `binary::packed::is_zero` meets its contract: every number is 0.
use Rattle.std.proofs.Common.{rules, tests, eqb, ◌∙◌}
use Rattle.std.proofs.lemmas.Iterator.{YieldsList-from_slice}
use Rattle.std.proofs.lemmas.Iterator.Search.{all_from_yields_List}
use Rattle.binary.proofs.Passing.{none_is}
use Rattle.binary.proofs.packed.is_zero.Goals as goal

pub returns : goal.returns
returns c = all_from_yields_List (λ x. eqb x 0) _ _ _ c.all.ensures.ran (YieldsList-from_slice c.args.w.now cc) (λ x b q k. search (rules, tests)) ∙ none_is c.args.w.now
