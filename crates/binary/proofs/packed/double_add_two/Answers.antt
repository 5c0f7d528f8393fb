-- `binary::packed::double_add_two` meets its contract: two turns of the pass.
use native.Mathlib.Omega.{arith}
use mathlib.Core.Path.{refl}
use Rattle.binary.proofs.Passing.{passing_two}
use Rattle.binary.proofs.packed.double_add_two.Goals as goal

pub returns : goal.returns
returns c = let p = c.requires in let a = c.args in passing_two a.selector a.g.now a.w.now p.0 p.1 p.2 (λ i. (c.type_inv.g i).fits) (λ i. omega (arith, c.slice_known-1.given i)) _ _ refl refl
