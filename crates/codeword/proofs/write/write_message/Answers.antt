-- `codeword::write::write_message` meets its contract: whole bytes, then the places of the last one.
use native.Mathlib.Omega.{arith}
use mathlib.Core.Path.{refl, sym, ◌∙◌, subst}
use Prim.Native.Nat.{ℕ, ◌+◌, ◌-◌, ◌<◌}
use lib.ListN.{length, length-set}
use Rattle.document.specs.Layout.{word_weight}
use Rattle.codeword.proofs.Places.{place_lt, for_le}
use Rattle.codeword.proofs.Words.{for_most, part_long, joined_long, reading_start, reading_more, reading_end}
use Rattle.codeword.proofs.write.write_message.Goals as goal

pub overflow_sub-out : goal.overflow_sub-out
overflow_sub-out c = let p = c.requires in omega (arith, p.out_long, p.k_pos, for_le c.args.k)

pub bounds-out-out : goal.bounds-out-out
bounds-out-out c = let p = c.requires in omega (arith, p.out_long, p.k_pos, for_le c.args.k)

pub slice_bounds-write_whole_bytes-end : goal.slice_bounds-write_whole_bytes-end
slice_bounds-write_whole_bytes-end c = omega (arith, c.requires.out_long, for_le c.args.k, length-set c.args.out.now (length c.args.out.now - 1) 0)

pub slice_bounds-write_whole_bytes-end-2 : goal.slice_bounds-write_whole_bytes-end-2
slice_bounds-write_whole_bytes-end-2 c = sym (part_long c.args.out.now c.args.k _ c.requires.out_long)

pub write_whole_bytes-requires : goal.write_whole_bytes-requires
write_whole_bytes-requires c = let p = c.requires in let a = c.args in (
  omega (arith, part_long a.out.now a.k (length a.out.now - 1) p.out_long, p.word_long, for_le (a.m + a.k)),
  omega (arith, p.word_long, for_most (a.m + a.k), p.most),
)

pub loop-i-init : goal.loop-i-init
loop-i-init c = let p = c.requires in
    reading_start c.args.out.now p.k_pos p.out_long refl (c.write_whole_bytes.auto.out ∙ part_long c.args.out.now c.args.k _ p.out_long) c.write_whole_bytes.ensures (λ j. omega (arith, c.type_inv.out j))

pub place-requires : goal.place-requires
place-requires c = let p = c.requires in omega (arith, p.word_long, for_le (c.args.m + c.args.k))

pub set_place-requires : goal.set_place-requires
set_place-requires c = let a = c.args in (
  omega (arith, c.loop-i.auto.out ∙ joined_long a.out.now _ a.k _ c.requires.out_long (c.write_whole_bytes.auto.out ∙ part_long a.out.now a.k _ c.requires.out_long), for_le a.k),
  subst (λ (x : ℕ). x < 2) (sym c.place.ensures) (place_lt word_weight a.word.now (a.m + c.loop-i.i)),
)

pub loop-i-preserved : goal.loop-i-preserved
loop-i-preserved c = reading_more c.loop-i-test.true refl c.place.ensures c.loop-i.invariant c.set_place.ensures (λ j. omega (arith, c.type_inv.out j))

pub returns : goal.returns
returns c = let a = c.args in
    reading_end (omega arith) (c.loop-i.auto.out ∙ joined_long a.out.now _ a.k _ c.requires.out_long (c.write_whole_bytes.auto.out ∙ part_long a.out.now a.k _ c.requires.out_long)) c.loop-i.invariant
