-- `decoder::block::deinterleave` meets its contract: one word more at each turn.
use native.Mathlib.Omega.{arith}
use Prim.Native.Nat.{◌+◌, ◌-◌, ◌*◌}
use lib.ListN.{length}
use Rattle.decoder.proofs.Parts.{within}
use Rattle.decoder.proofs.Interleaved.{taken_more}
use Rattle.decoder.proofs.block.deinterleave.Goals as goal

pub loop-i-preserved : goal.loop-i-preserved
loop-i-preserved c = (taken_more c.args.size (within c.loop-i.i c.args.m c.args.size (length c.args.words.now) (omega arith) c.requires.2) c.loop-i.invariant.0 (c.loop-i.i * c.args.size + c.args.size - c.loop-i.i * c.args.size) (omega arith) _ c.deinterleave_word.auto.word c.deinterleave_word.ensures, omega arith)
