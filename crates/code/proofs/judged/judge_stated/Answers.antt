-- `code::judged::judge_stated` meets its contract: what was read is what the sheet states.
use native.Mathlib.Omega.{arith}
use Rattle.document.specs.Short.{short}
use Rattle.document.proofs.Stated.{representatives_length}
use Rattle.judging.proofs.Judging.{no_marks}
use Rattle.code.proofs.Accepted.{short_limits}
use Rattle.code.proofs.Judging.{judgeable, code_judged}
use Rattle.code.proofs.judged.judge_stated.Goals as goal

pub read_representatives-requires : goal.read_representatives-requires
read_representatives-requires c = let r = c.requires.0 in (r.counted, omega (arith, representatives_length short c.args.sheet.now, r.counted.few, c.requires.1))

pub judge_code-requires : goal.judge_code-requires
judge_code-requires c = let r = c.requires.0 in (
  judgeable short_limits r c.read_certificates-certificate_count.ensures,
  no_marks _ 128 (omega (arith, r.most)),
)

pub returns : goal.returns
returns c = code_judged c.requires.0 c.read_representatives.ensures c.representative_count-count.ensures.0 c.read_certificates-certificate_count.ensures c.judge_code.ensures
