-- `decoder::block::decode_interleaved` meets its contract: what is taken out, decoded and written is the definition's.
use native.Mathlib.Omega.{arith}
use Prim.Native.Nat.{ℕ, ◌*◌}
use mathlib.Core.Path.{sym, ap, ◌∙◌}
use Rattle.decoder.proofs.Trying.{few_bytes}
use Rattle.decoder.proofs.Interleaved.{block_lined, block_done}
use Rattle.decoder.proofs.block.decode_interleaved.Goals as goal

pub deinterleave-requires : goal.deinterleave-requires
deinterleave-requires c = let p = c.requires in
    (p.0.depth, omega (arith, c.bytes_for-size.ensures, few_bytes c.args.code.now.n p.4), p.1 ∙ ap (λ (k : ℕ). c.args.m * k) (sym c.bytes_for-size.ensures))

pub decode_words-requires : goal.decode_words-requires
decode_words-requires c = let p = c.requires in
    (block_lined p.0 c.bytes_for-size.ensures (c.deinterleave.auto.words ∙ p.1) (λ i. omega (arith, c.slice_known-4-1.given i)) c.deinterleave.ensures p.2, p.3, p.4)

pub returns : goal.returns
returns c = let p = c.requires in
    block_done p.0 p.4 c.bytes_for-size.ensures (c.deinterleave.auto.words ∙ p.1) (λ i. omega (arith, c.slice_known-4-1.given i)) c.deinterleave.ensures c.decode_words.ensures (c.decode_words.auto.verdicts ∙ p.2) c.write_verdicts.ensures c.decode_words.auto.out c.write_verdicts.auto.verdicts
