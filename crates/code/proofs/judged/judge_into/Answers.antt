-- `code::judged::judge_into` meets its contract: refusals 1 to 4 in turn, and what follows on what the sheet states.
use native.Mathlib.Omega.{arith}
use mathlib.Core.Path.{sym, ◌∙◌}
use Rattle.document.specs.Short.{short}
use Rattle.sheet.proofs.Headed.{long_enough}
use Rattle.code.proofs.Accepted.{short_limits}
use Rattle.code.proofs.Judging.{into_1, into_2, odd, into_3, into_4, header_passed, into_pass}
use Rattle.code.proofs.judged.judge_into.Goals as goal

pub returns-then-wrong_length : goal.returns-then-wrong_length
returns-then-wrong_length c = into_1 (sym c.if-wrong_length.true ∙ c.wrong_length.ensures)

pub code_length-n-requires : goal.code_length-n-requires
code_length-n-requires c = long_enough short _ (sym c.wrong_length.ensures ∙ c.if-wrong_length.false)

pub returns-then-wrong_code_length : goal.returns-then-wrong_code_length
returns-then-wrong_code_length c = into_2 short_limits _ _ (sym c.wrong_length.ensures ∙ c.if-wrong_length.false) c.code_length-n.ensures.0 (sym c.if-wrong_code_length.true ∙ c.wrong_code_length.ensures)

pub order_of_two-s-requires : goal.order_of_two-s-requires
order_of_two-s-requires c = odd short_limits _ c.args.sheet.now (sym c.wrong_length.ensures ∙ c.if-wrong_length.false) c.code_length-n.ensures.0 (sym c.wrong_code_length.ensures ∙ c.if-wrong_code_length.false)

pub returns-then-s-gt12 : goal.returns-then-s-gt12
returns-then-s-gt12 c = into_3 short_limits _ _ (sym c.wrong_length.ensures ∙ c.if-wrong_length.false) c.code_length-n.ensures.0 (sym c.wrong_code_length.ensures ∙ c.if-wrong_code_length.false) c.order_of_two-s.ensures c.if-s-gt12.true

pub wrong_header-requires : goal.wrong_header-requires
wrong_header-requires c = long_enough short _ (sym c.wrong_length.ensures ∙ c.if-wrong_length.false)

pub returns-then-wrong_header : goal.returns-then-wrong_header
returns-then-wrong_header c = into_4 short_limits _ _ (sym c.wrong_length.ensures ∙ c.if-wrong_length.false) c.code_length-n.ensures.0 (sym c.wrong_code_length.ensures ∙ c.if-wrong_code_length.false) c.order_of_two-s.ensures (omega arith) (sym c.if-wrong_header.true ∙ c.wrong_header.ensures)

pub judge_stated-requires : goal.judge_stated-requires
judge_stated-requires c = (
  header_passed short_limits _ c.args.sheet.now (sym c.wrong_length.ensures ∙ c.if-wrong_length.false) c.code_length-n.ensures.0 (sym c.wrong_code_length.ensures ∙ c.if-wrong_code_length.false) c.order_of_two-s.ensures (omega arith) (sym c.wrong_header.ensures ∙ c.if-wrong_header.false),
  c.requires,
)

pub returns : goal.returns
returns c = into_pass short_limits _ _ (sym c.wrong_length.ensures ∙ c.if-wrong_length.false) c.code_length-n.ensures.0 (sym c.wrong_code_length.ensures ∙ c.if-wrong_code_length.false) c.order_of_two-s.ensures (omega arith) (sym c.wrong_header.ensures ∙ c.if-wrong_header.false) c.judge_stated.ensures
