-- `decoder::trials::show_ones` meets its contract: one law for each exit.
use Prim.Native.Nat.{◌-◌}
use native.Mathlib.Omega.{arith}
use mathlib.Core.Path.{ap}
use lib.ListN.{length}
use Rattle.decoder.specs.Marked.{measured_as}
use Rattle.decoder.proofs.Showing.{ones_found}
use Rattle.decoder.proofs.trials.show_ones.Goals as goal

pub returns : goal.returns
returns c = ones_found c.args.word.now c.args.marks.now c.args.decoded.now c.args.zeros.now c.args.ones.now c.args.d (length c.args.decoded.now - length c.args.word.now) (omega (arith, c.requires.0.decoded_long)) c.measure.ensures (ap measured_as c.in-Some.is) c.copy.ensures c.copy-2.ensures
