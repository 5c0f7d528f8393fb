-- `syndrome::syndromes::syndromes` meets its contract: num is the register, at its place, and the syndromes before are written.
use native.Mathlib.Omega.{arith}
use mathlib.Core.Path.{refl}
use lib.ListN.{length-set}
use Rattle.certificate.proofs.Terms.{at_start, at_more, num_lt, f_fits}
use Rattle.syndrome.proofs.Terms.{writing_start, writing_more}
use Rattle.syndrome.proofs.syndromes.syndromes.Goals as goal

pub loop-j-init : goal.loop-j-init
loop-j-init c = let p = c.requires in (p.0, p.1, refl, at_start p.0 refl refl, omega arith, writing_start)

pub next_register-num-requires : goal.next_register-num-requires
next_register-num-requires c = let v = c.loop-j.invariant in (f_fits v.0, num_lt v.0 v.3)

pub loop-j-preserved : goal.loop-j-preserved
loop-j-preserved c = let v = c.loop-j.invariant in (
  v.0,
  v.1,
  simp length-set v.2,
  at_more v.0 v.3 c.next_register-num.ensures c.step-at.ensures,
  omega arith,
  writing_more v.0 v.3 _ c.loop-j-test.true (omega (arith, v.1, v.2)) refl v.5,
)
