-- `code::encode::encode_accepted` meets its contract: one law for each exit.
use mathlib.Core.Path.{sym, ◌∙◌}
use Rattle.code.proofs.Entries.{encode_message, encode_out, encode_spare, encode_done}
use Rattle.code.proofs.encode.encode_accepted.Goals as goal

pub returns-then-message-bytes_for : goal.returns-then-message-bytes_for
returns-then-message-bytes_for c = encode_message c.args.code.now.usable c.requires.1 _ _ (λ e. c.if-message-bytes_for.true (e ∙ sym c.bytes_for.ensures))

pub returns-then-out-bytes_for : goal.returns-then-out-bytes_for
returns-then-out-bytes_for c = encode_out c.args.code.now.usable c.requires.1 _ _ (c.if-message-bytes_for.false ∙ c.bytes_for.ensures) (λ e. c.if-out-bytes_for.true (e ∙ sym c.bytes_for-2.ensures))

pub returns-then-spare : goal.returns-then-spare
returns-then-spare c = encode_spare c.args.code.now.usable c.requires.1 _ _ (c.if-message-bytes_for.false ∙ c.bytes_for.ensures) (c.if-out-bytes_for.false ∙ c.bytes_for-2.ensures) (sym c.spare.ensures ∙ c.if-spare.true)

pub returns : goal.returns
returns c = encode_done c.args.code.now.usable c.requires.1 _ _ (c.if-message-bytes_for.false ∙ c.bytes_for.ensures) (c.if-out-bytes_for.false ∙ c.bytes_for-2.ensures) (sym c.spare.ensures ∙ c.if-spare.false) c.write_codeword.ensures
