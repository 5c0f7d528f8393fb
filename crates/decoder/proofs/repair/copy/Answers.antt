-- `decoder::repair::copy` meets its contract: byte by byte.
use native.Mathlib.Omega.{arith}
use mathlib.Core.Path.{refl}
use Rattle.decoder.proofs.Repairing.{copying_start, copying_more, copying_end}
use Rattle.decoder.proofs.repair.copy.Goals as goal

pub loop-i-init : goal.loop-i-init
loop-i-init c = copying_start c.requires

pub bounds-to-i : goal.bounds-to-i
bounds-to-i c = omega (arith, c.loop-i.invariant.long)

pub loop-i-preserved : goal.loop-i-preserved
loop-i-preserved c = copying_more (omega arith) refl c.loop-i.invariant

pub returns : goal.returns
returns c = copying_end (omega arith) c.loop-i.invariant
