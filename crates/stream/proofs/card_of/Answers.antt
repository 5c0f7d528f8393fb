-- `stream::card_of` meets its contract: of a longer stream no more is needed than goes in.
use native.Mathlib.Omega.{arith}
use mathlib.Core.Path.{sym, ap, ◌∙◌}
use mathlib.Core.List.{List}
use Prim.Native.Nat.{ℕ}
use Rattle.document.specs.Short.{card_of}
use Rattle.stream.specs.declared.TheConstants.{ROOM}
use Rattle.stream.proofs.Streams.{read_enough}
use Rattle.stream.proofs.card_of.Goals as goal

pub returns : goal.returns
returns c stream e =
    c.card.ensures ∙ ap (λ (x : List ℕ). card_of x c.args.out.now) (sym e)
    ∙ read_enough ROOM (omega arith) stream c.args.out.now
