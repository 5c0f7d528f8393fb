-- `code::card::mark_set` meets its contract: where no refusal 5 is drawn, D is marked.
use Rattle.code.proofs.Listed.{marked}
use Rattle.code.proofs.card.mark_set.Goals as goal

pub returns : goal.returns
returns c = marked c.requires.0 c.wrong_representative.ensures
