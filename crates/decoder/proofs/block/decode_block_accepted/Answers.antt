-- `decoder::block::decode_block_accepted` meets its contract: one law for each exit.
use native.Mathlib.Omega.{arith}
use Prim.Native.Nat.{ℕ, ◌*◌}
use mathlib.Core.Path.{sym, ap, ◌∙◌}
use lib.Seq.{length-take-le}
use Rattle.decoder.proofs.Trying.{few_bytes}
use Rattle.decoder.proofs.Interleaved.{few_words, block_wrong, block_out, block_verdicts_lem, block_spare}
use Rattle.decoder.proofs.block.decode_block_accepted.Goals as goal

pub returns-then-block-bytes_for : goal.returns-then-block-bytes_for
returns-then-block-bytes_for c = block_wrong _ _ _ _ (λ e. c.if-block-bytes_for.true (e ∙ sym c.bytes_for.ensures))

pub overflow_mul-m : goal.overflow_mul-m
overflow_mul-m c = omega (arith, few_words c.args.m c.bytes_for-size.result c.requires.3 (omega (arith, c.bytes_for-size.ensures, few_bytes c.args.code.now.n c.requires.1)))

pub returns-then-out-m : goal.returns-then-out-m
returns-then-out-m c = block_out _ _ _ _ (c.if-block-bytes_for.false ∙ c.bytes_for.ensures) (λ e. c.if-out-m.true (e ∙ sym (ap (λ (k : ℕ). c.args.m * k) c.bytes_for-size.ensures)))

pub returns-then-verdicts-m : goal.returns-then-verdicts-m
returns-then-verdicts-m c = block_verdicts_lem _ _ _ _ (c.if-block-bytes_for.false ∙ c.bytes_for.ensures) (c.if-out-m.false ∙ ap (λ (k : ℕ). c.args.m * k) c.bytes_for-size.ensures) c.if-verdicts-m.true

pub returns-then-spare : goal.returns-then-spare
returns-then-spare c = block_spare _ _ _ _ (c.if-block-bytes_for.false ∙ c.bytes_for.ensures) (c.if-out-m.false ∙ ap (λ (k : ℕ). c.args.m * k) c.bytes_for-size.ensures) c.if-verdicts-m.false (sym c.spare.ensures ∙ c.if-spare.true)

pub slice_bounds-words-end : goal.slice_bounds-words-end
slice_bounds-words-end c = omega (arith, few_words c.args.m c.bytes_for-size.result c.requires.3 (omega (arith, c.bytes_for-size.ensures, few_bytes c.args.code.now.n c.requires.1)))

pub slice_bounds-decode_interleaved-end : goal.slice_bounds-decode_interleaved-end
slice_bounds-decode_interleaved-end c = sym (length-take-le _ _ (omega (arith, few_words c.args.m c.bytes_for-size.result c.requires.3 (omega (arith, c.bytes_for-size.ensures, few_bytes c.args.code.now.n c.requires.1)))))

pub decode_interleaved-requires : goal.decode_interleaved-requires
decode_interleaved-requires c = let p = c.requires in (
  record {
    depth = p.3;
    block_long = c.if-block-bytes_for.false ∙ c.bytes_for.ensures;
    out_long = c.if-out-m.false ∙ ap (λ (k : ℕ). c.args.m * k) c.bytes_for-size.ensures;
    verdicts_long = c.if-verdicts-m.false;
    clear = sym c.spare.ensures ∙ c.if-spare.false;
  },
  length-take-le _ _ (omega (arith, few_words c.args.m c.bytes_for-size.result p.3 (omega (arith, c.bytes_for-size.ensures, few_bytes c.args.code.now.n p.1)))) ∙ ap (λ (k : ℕ). c.args.m * k) c.bytes_for-size.ensures,
  length-take-le _ _ (omega (arith, p.3)),
  p.0,
  p.1,
)
