-- `code::judged::AcceptedSheet::stated_code` meets its contract: the certificate at work of an accepted sheet keeps rules 1 to 4.
use native.Mathlib.Omega.{arith}
use Rattle.code.proofs.Accepted.{short_limits}
use Rattle.code.proofs.Ready.{ready, within, given, terms_few}
use Rattle.code.proofs.judged.AcceptedSheet.stated_code.Goals as goal

pub read_certificate-requires : goal.read_certificate-requires
read_certificate-requires c = let r = ready short_limits c.args.self.now.accepted in (r.counts, within r)

pub invariant_of-result : goal.invariant_of-result
invariant_of-result c = record { given = given (ready short_limits c.args.self.now.accepted) c.read_certificate.ensures }

pub returns-clause-terms : goal.returns-clause-terms
returns-clause-terms c = omega (arith, terms_few (ready short_limits c.args.self.now.accepted) c.read_certificate.ensures)
