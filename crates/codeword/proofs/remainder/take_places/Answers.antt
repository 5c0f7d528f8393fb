-- `codeword::remainder::take_places` meets its contract: the remainder of x^m times the places taken so far.
use native.Mathlib.Omega.{arith}
use mathlib.Core.Path.{sym, ◌∙◌, subst}
use Prim.Native.Nat.{ℕ, ◌-◌, ◌<◌}
use Rattle.binary.proofs.Taking.{taken_start, taken_more, taken_end}
use Rattle.codeword.proofs.Places.{place_lt, mask_lt, mask_coefficient}
use Rattle.codeword.proofs.remainder.take_places.Goals as goal

pub loop-i-init : goal.loop-i-init
loop-i-init g c = let p = c.requires in taken_start (mask_lt g.L.Layout.weight c.args.n c.args.bytes.now) p.3 p.2

pub take_bit-requires : goal.take_bit-requires
take_bit-requires g c = let p = c.requires in (
  omega (arith, p.1, p.2),
  c.loop-i.auto.register ∙ p.2,
  subst (λ (x : ℕ). x < 2) (sym (c.from.ensures ∙ c.place.ensures)) (place_lt g.L.Layout.weight _ _),
)

pub loop-i-preserved : goal.loop-i-preserved
loop-i-preserved g c =
    taken_more c.loop-i-test.true
    (c.from.ensures ∙ c.place.ensures ∙ sym (mask_coefficient g.L.Layout.weight c.args.n c.args.bytes.now (c.loop-i.i - 1) (omega arith)))
    c.loop-i.invariant c.take_bit.ensures

pub returns : goal.returns
returns g c = taken_end (omega arith) c.loop-i.invariant
