-- `code::card::card` meets its contract: judging says which listing.
use native.Mathlib.Omega.{arith}
use mathlib.Core.Path.{sym, subst, ◌∙◌}
use mathlib.Core.List.{List}
use Prim.Native.Nat.{ℕ}
use Rattle.document.specs.Card.{accepted_lines}
use Rattle.document.specs.Short.{short, stated}
use Rattle.listing.specs.Wrote.{Wrote}
use Rattle.listing.proofs.Cards.{card_size, card_accepted, card_refused}
use Rattle.judging.proofs.Weighing.{number_pos}
use Rattle.code.proofs.Ready.{first_is}
use Rattle.code.proofs.card.card.Goals as goal

pub returns-then-out-ne1024 : goal.returns-then-out-ne1024
returns-then-out-ne1024 c = card_size _ _ _ _ c.if-out-ne1024.true

pub returns-in-Err : goal.returns-in-Err
returns-in-Err c = card_refused 1024 _ _ c.if-out-ne1024.false _ (omega (arith, c.refusal_number.ensures, number_pos c.in-Err.r))
    (first_is short _ c.in-Err.ensures.refused ∙ sym c.refusal_number.ensures)
    c.write_refused.ensures

pub returns-in-Ok : goal.returns-in-Ok
returns-in-Ok c =
    card_accepted 1024 _ _ c.if-out-ne1024.false c.in-Ok.ensures.accepted.zero
    (subst (λ (sheet : List ℕ). Wrote (accepted_lines (stated sheet)) 0 c.args.out.now c.card_accepted.new.out c.card_accepted.result) c.in-Ok.ensures.sheet c.card_accepted.ensures)
