-- `codeword::layout::Layout::spare` meets its contract: what is left of the last byte when its places are shifted out.
use native.Mathlib.Omega.{arith}
use mathlib.Core.Path.{refl}
use Rattle.codeword.proofs.Spare.{some_byte, places_fit, spare_le, spare_tested}
use Rattle.codeword.proofs.layout.Layout.spare.Goals as goal

pub overflow_sub-last : goal.overflow_sub-last
overflow_sub-last g c = some_byte c.args.n c.args.bytes.now c.requires.0 c.requires.1

pub bounds-bytes-last : goal.bounds-bytes-last
bounds-bytes-last g c = let p = c.requires in omega (arith, some_byte c.args.n c.args.bytes.now p.0 p.1)

pub overflow_mul-result : goal.overflow_mul-result
overflow_mul-result g c = let p = c.requires in omega (arith, p.2, spare_le c.args.n c.args.bytes.now p.0 p.1)

pub overflow_sub-result : goal.overflow_sub-result
overflow_sub-result g c = let p = c.requires in omega (arith, some_byte c.args.n c.args.bytes.now p.0 p.1, spare_le c.args.n c.args.bytes.now p.0 p.1)

pub overflow_shr-result : goal.overflow_shr-result
overflow_shr-result g c = let p = c.requires in omega (arith, places_fit c.args.n c.args.bytes.now p.0 p.1)

pub returns : goal.returns
returns g c = spare_tested c.args.n c.args.bytes.now c.requires.0 c.requires.1 g.met.Self.Layout.weights c.lowest_first.ensures refl
