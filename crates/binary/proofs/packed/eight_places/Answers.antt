-- `binary::packed::eight_places` meets its contract: eight places out of one number, or of two neighbours.
use native.Mathlib.Omega.{arith}
use Prim.Native.Nat.{◌+◌, ◌/◌, ◌%◌}
use lib.ListN.{get_or}
use Rattle.binary.proofs.Window.{window_low, window_past, window_sum, sum_fits}
use Rattle.binary.proofs.packed.eight_places.Goals as goal

pub returns-then-i-le56 : goal.returns-then-i-le56
returns-then-i-le56 c = window_low _ (λ i. (c.type_inv.w i).fits) _ c.if-i-le56.true

pub returns-then-at-w : goal.returns-then-at-w
returns-then-at-w c = window_past _ (λ i. (c.type_inv.w i).fits) _ (omega (arith, c.if-i-le56.false)) c.if-at-w.true

pub overflow_add-result-2 : goal.overflow_add-result-2
overflow_add-result-2 c = let a = c.args in record { fits = sum_fits (get_or a.w.now (a.i / 64) 0) (get_or a.w.now (a.i / 64 + 1) 0) (a.i % 64) (c.type_inv.w (a.i / 64)).fits (omega arith) }

pub returns : goal.returns
returns c = window_sum _ (λ i. (c.type_inv.w i).fits) _
