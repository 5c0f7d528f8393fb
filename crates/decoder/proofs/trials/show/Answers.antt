-- `decoder::trials::show` meets its contract: one law for each exit.
use Prim.Native.Nat.{◌-◌}
use native.Mathlib.Omega.{arith}
use mathlib.Core.Path.{ap}
use lib.ListN.{length}
use Rattle.decoder.specs.Marked.{measured_as}
use Rattle.decoder.proofs.Showing.{zeros_found}
use Rattle.decoder.proofs.trials.show.Goals as goal

pub returns : goal.returns
returns c = zeros_found c.args.word.now c.args.marks.now c.args.decoded.now c.args.zeros.now c.args.ones.now c.args.d c.measure.ensures (length c.args.decoded.now - length c.args.word.now) (omega (arith, c.requires.decoded_long)) (ap measured_as c.in-Some.is) c.copy.ensures c.copy-2.ensures
