-- `codeword::layout::Layout::eight_places` meets its contract: eight places out of two neighbouring bytes, or of the last one.
use native.Mathlib.Omega.{arith}
use Prim.Native.Nat.{◌+◌, ◌-◌, ◌/◌, ◌%◌}
use lib.ListN.{get_or}
use lib.Pow.{shr_le}
use Rattle.codeword.proofs.Places.{lowest_lt}
use Rattle.codeword.proofs.Eight.{shifted_lt, eight_sum, eight_last}
use Rattle.codeword.proofs.layout.Layout.eight_places.Goals as goal

pub returns-then-at-bytes : goal.returns-then-at-bytes
returns-then-at-bytes g c = eight_last g.met.Self.Layout.weights c.args.bytes.now c.args.i c.lowest_first.ensures c.if-at-bytes.true

pub overflow_add-result : goal.overflow_add-result
overflow_add-result g c = let W = g.met.Self.Layout.weights in let a = c.args in
    omega (
      arith,
      shr_le c.lowest_first.result (a.i % 8),
      c.lowest_first.ensures,
      lowest_lt W (get_or a.bytes.now (a.i / 8) 0),
      shifted_lt c.lowest_first-2.result (8 - a.i % 8) (omega (arith, c.lowest_first-2.ensures, lowest_lt W (get_or a.bytes.now (a.i / 8 + 1) 0))) (omega arith),
    )

pub returns : goal.returns
returns g c = eight_sum g.met.Self.Layout.weights c.args.bytes.now c.args.i c.lowest_first.ensures c.lowest_first-2.ensures
