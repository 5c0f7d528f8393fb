-- `code::judged::AcceptedSheet::code` meets its contract: an accepted sheet's numbers are those of a code.
use Rattle.code.proofs.Accepted.{short_limits}
use Rattle.code.proofs.Ready.{ready}
use Rattle.code.proofs.judged.AcceptedSheet.code.Goals as goal

pub invariant_of-result : goal.invariant_of-result
invariant_of-result c = record { usable = (ready short_limits c.args.self.now.accepted).usable }
