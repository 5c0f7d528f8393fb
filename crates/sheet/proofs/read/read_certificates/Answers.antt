-- `sheet::read::read_certificates` meets its contract: the first i certificates are copied.
use native.Mathlib.Omega.{arith}
use Rattle.document.specs.Short.{short}
use Rattle.document.proofs.Stated.{certificates_length}
use Rattle.sheet.proofs.Reading.{certificates_end}
use Rattle.sheet.proofs.read.read_certificates.Goals as goal

pub read_certificate-requires : goal.read_certificate-requires
read_certificate-requires c = let v = c.loop-i.invariant in (c.requires.0, omega (arith, certificates_length short c.args.sheet.now))

pub returns : goal.returns
returns c = let v = c.loop-i.invariant in certificates_end _ c.requires.0 c.byte-count.ensures.0 v.0 (omega arith) v.1
