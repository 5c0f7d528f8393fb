-- `listing::piece::Page::put_members` meets its contract: the marked places below i are written.
use native.Mathlib.Omega.{arith}
use mathlib.Core.Path.{ap}
use Prim.Native.Nat.{ℕ}
use Rattle.std.proofs.lemmas.List.{length-take-le, get_or-take}
use Rattle.listing.specs.Text.{member, member_in}
use Rattle.listing.proofs.Writing.{adds_is}
use Rattle.listing.proofs.Pieces.{rows_start, rows_more, rows_end}
use Rattle.listing.proofs.piece.Page.put_members.Goals as goal

pub loop-i-init : goal.loop-i-init
loop-i-init c = (omega arith, rows_start (member_in c.args.zeros.now) (omega (arith, c.requires.0)))

pub loop-i-preserved : goal.loop-i-preserved
loop-i-preserved c = let a = c.args in
    let l = c.loop-i in
    let w = c.put_member.ensures in (
      omega (arith, l.invariant.0, w.1),
      rows_more (member_in a.zeros.now) l.i l.invariant.1
          (adds_is (ap (λ (x : ℕ). member x l.i) (get_or-take a.n a.zeros.now l.i 0 (omega (arith, length-take-le a.n a.zeros.now c.requires.2)))) w.0),
    )

pub returns : goal.returns
returns c = let v = c.loop-i.invariant in let n = length-take-le c.args.n c.args.zeros.now c.requires.2 in
    (rows_end (member_in c.args.zeros.now) {i = c.loop-i.i} (omega (arith, n)) v.1, omega (arith, n, v.0))
