-- `sheet::read::read_certificates` meets its contract: the first i certificates are copied.
use mathlib.Core.Path.{◌≡◌}
use lib.ListN.{length}
use Rattle.document.specs.Short.{stated}
use Rattle.sheet.proofs.Reading.{CertificatesTo}
use Rattle.sheet.proofs.read.read_certificates.Given as goal

abbrev pub invariant-loop-i : goal.invariant-loop-i
invariant-loop-i l = (length l.c-items ≡ l.count) × CertificatesTo (stated l.sheet) l.i l.c-items
