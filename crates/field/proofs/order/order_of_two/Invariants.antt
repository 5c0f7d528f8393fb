-- `field::order::order_of_two` meets its contract: x is 2^s modulo n, and s is not past the order, which is below n.
use mathlib.Core.Path.{◌≡◌}
use Prim.Native.Nat.{◌-◌, ◌%◌, ◌^◌, ◌≤◌, ◌<◌}
use Rattle.field.specs.Field.{order_of_two}
use Rattle.field.proofs.order.order_of_two.Given as goal

abbrev pub invariant-loop-x : goal.invariant-loop-x
invariant-loop-x l = record { below : l.x < l.n; power : l.x ≡ 2 ^ l.s % l.n; counted : 0 < l.s; most : l.s ≤ order_of_two l.n }

abbrev pub decreases-loop-x : goal.decreases-loop-x
decreases-loop-x l = order_of_two l.n - l.s
