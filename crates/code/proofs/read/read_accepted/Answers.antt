-- `code::read::read_accepted` meets its contract: one law for each exit.
use mathlib.Core.Path.{sym, ◌∙◌}
use Rattle.code.proofs.Entries.{read_word, read_out, read_spare, read_none, read_done}
use Rattle.code.proofs.read.read_accepted.Goals as goal

pub returns-then-word-bytes_for : goal.returns-then-word-bytes_for
returns-then-word-bytes_for c = read_word c.args.code.now.usable c.requires.1 _ _ (λ e. c.if-word-bytes_for.true (e ∙ sym c.bytes_for.ensures))

pub returns-then-out-bytes_for : goal.returns-then-out-bytes_for
returns-then-out-bytes_for c = read_out c.args.code.now.usable c.requires.1 _ _ (c.if-word-bytes_for.false ∙ c.bytes_for.ensures) (λ e. c.if-out-bytes_for.true (e ∙ sym c.bytes_for-2.ensures))

pub returns-then-spare : goal.returns-then-spare
returns-then-spare c = read_spare c.args.code.now.usable c.requires.1 _ _ (c.if-word-bytes_for.false ∙ c.bytes_for.ensures) (c.if-out-bytes_for.false ∙ c.bytes_for-2.ensures) (sym c.spare.ensures ∙ c.if-spare.true)

pub returns-then-no_codeword : goal.returns-then-no_codeword
returns-then-no_codeword c = read_none c.args.code.now.usable c.requires.1 _ _ (c.if-word-bytes_for.false ∙ c.bytes_for.ensures) (c.if-out-bytes_for.false ∙ c.bytes_for-2.ensures) (sym c.spare.ensures ∙ c.if-spare.false) c.no_codeword.ensures c.if-no_codeword.true

pub returns : goal.returns
returns c = read_done c.args.code.now.usable c.requires.1 _ _ (c.if-word-bytes_for.false ∙ c.bytes_for.ensures) (c.if-out-bytes_for.false ∙ c.bytes_for-2.ensures) (sym c.spare.ensures ∙ c.if-spare.false) c.no_codeword.ensures c.if-no_codeword.false c.write_message.ensures
