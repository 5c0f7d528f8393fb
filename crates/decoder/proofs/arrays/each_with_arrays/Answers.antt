-- `decoder::arrays::each_with_arrays` meets its contract: each turn decodes one word.
use Prim.Native.Nat.{◌+◌, ◌-◌, ◌*◌}
use native.Mathlib.Omega.{arith}
use Rattle.decoder.proofs.Each.{some_more, some_end, out_room}
use Rattle.decoder.proofs.arrays.each_with_arrays.Goals as goal

pub loop-k-preserved : goal.loop-k-preserved
loop-k-preserved g c = let i = c in
    (some_more c.args.size i.loop-k.k (out_room c.requires.1 c.loop-k.k (omega (arith, c.loop-k.invariant.0.verdicts_long))) i.loop-k.invariant.0 (omega arith) (i.loop-k.k * c.args.size + c.args.size - i.loop-k.k * c.args.size) (omega arith) _ _ c.with_arrays.auto.out c.with_arrays.ensures, omega (arith, i.loop-k.invariant.0.verdicts_long))

pub returns : goal.returns
returns g c = some_end c.args.size c.loop-k.k (omega arith) c.loop-k.invariant.0
