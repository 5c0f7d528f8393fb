-- `decoder::decode::decode_accepted` meets its contract: one law for each exit.
use mathlib.Core.Path.{sym, ◌∙◌}
use Rattle.decoder.proofs.Exits.{decode_word, decode_out, decode_spare}
use Rattle.decoder.proofs.decode.decode_accepted.Goals as goal

pub returns-then-word-bytes_for : goal.returns-then-word-bytes_for
returns-then-word-bytes_for c = decode_word _ _ (λ e. c.if-word-bytes_for.true (e ∙ sym c.bytes_for.ensures))

pub returns-then-out-bytes_for : goal.returns-then-out-bytes_for
returns-then-out-bytes_for c = decode_out _ _ (c.if-word-bytes_for.false ∙ c.bytes_for.ensures) (λ e. c.if-out-bytes_for.true (e ∙ sym c.bytes_for-2.ensures))

pub returns-then-spare : goal.returns-then-spare
returns-then-spare c = decode_spare _ _ (c.if-word-bytes_for.false ∙ c.bytes_for.ensures) (c.if-out-bytes_for.false ∙ c.bytes_for-2.ensures) (sym c.spare.ensures ∙ c.if-spare.true)
