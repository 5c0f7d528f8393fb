-- `decoder::marked::decode_marked_accepted` meets its contract: one law for each exit.
use Prim.Native.Nat.{◌*◌}
use native.Mathlib.Omega.{arith}
use mathlib.Core.Path.{sym, ap, ◌∙◌}
use lib.Seq.{length-take-le}
use Rattle.decoder.proofs.Trying.{few_bytes}
use Rattle.decoder.proofs.Shown.{marked_word_lem, marked_marks, marked_zeros, marked_ones, marked_spare, marked_marks_spare}
use Rattle.decoder.proofs.marked.decode_marked_accepted.Goals as goal

pub returns-then-word-size : goal.returns-then-word-size
returns-then-word-size c = marked_word_lem _ _ _ _ (λ e. c.if-word-size.true (e ∙ sym c.bytes_for-size.ensures))

pub returns-then-marks-size : goal.returns-then-marks-size
returns-then-marks-size c = marked_marks _ _ _ _ (c.if-word-size.false ∙ c.bytes_for-size.ensures) (λ e. c.if-marks-size.true (e ∙ sym c.bytes_for-size.ensures))

pub returns-then-zeros-size : goal.returns-then-zeros-size
returns-then-zeros-size c = marked_zeros _ _ _ _ (c.if-word-size.false ∙ c.bytes_for-size.ensures) (c.if-marks-size.false ∙ c.bytes_for-size.ensures) (λ e. c.if-zeros-size.true (e ∙ sym c.bytes_for-size.ensures))

pub returns-then-ones-size : goal.returns-then-ones-size
returns-then-ones-size c = marked_ones _ _ _ _ (c.if-word-size.false ∙ c.bytes_for-size.ensures) (c.if-marks-size.false ∙ c.bytes_for-size.ensures) (c.if-zeros-size.false ∙ c.bytes_for-size.ensures) (λ e. c.if-ones-size.true (e ∙ sym c.bytes_for-size.ensures))

pub returns-then-spare : goal.returns-then-spare
returns-then-spare c = marked_spare _ _ _ _ (c.if-word-size.false ∙ c.bytes_for-size.ensures) (c.if-marks-size.false ∙ c.bytes_for-size.ensures) (c.if-zeros-size.false ∙ c.bytes_for-size.ensures) (c.if-ones-size.false ∙ c.bytes_for-size.ensures) (sym c.spare.ensures ∙ c.if-spare.true)

pub returns-then-spare-2 : goal.returns-then-spare-2
returns-then-spare-2 c = marked_marks_spare _ _ _ _ (c.if-word-size.false ∙ c.bytes_for-size.ensures) (c.if-marks-size.false ∙ c.bytes_for-size.ensures) (c.if-zeros-size.false ∙ c.bytes_for-size.ensures) (c.if-ones-size.false ∙ c.bytes_for-size.ensures) (sym c.spare.ensures ∙ c.if-spare.false) (sym c.spare-2.ensures ∙ c.if-spare-2.true)

pub slice_bounds-trials-end : goal.slice_bounds-trials-end
slice_bounds-trials-end c = omega (arith, c.bytes_for-size.ensures, few_bytes c.args.code.now.n c.requires.1)

pub slice_bounds-decode_trials-end : goal.slice_bounds-decode_trials-end
slice_bounds-decode_trials-end c = sym (length-take-le _ _ (omega (arith, c.bytes_for-size.ensures, few_bytes c.args.code.now.n c.requires.1)))

pub slice_bounds-decoded-end : goal.slice_bounds-decoded-end
slice_bounds-decoded-end c = omega (arith, c.bytes_for-size.ensures, few_bytes c.args.code.now.n c.requires.1)

pub slice_bounds-decode_trials-end-2 : goal.slice_bounds-decode_trials-end-2
slice_bounds-decode_trials-end-2 c = sym (length-take-le _ _ (omega (arith, c.bytes_for-size.ensures, few_bytes c.args.code.now.n c.requires.1)))

pub decode_trials-requires : goal.decode_trials-requires
decode_trials-requires c = let p = c.requires in
    let f = few_bytes c.args.code.now.n p.1 in
    let s = c.bytes_for-size.ensures in (
      record {
        word_long = (c.if-word-size.false ∙ c.bytes_for-size.ensures);
        marks_long = (c.if-marks-size.false ∙ c.bytes_for-size.ensures);
        zeros_long = (c.if-zeros-size.false ∙ c.bytes_for-size.ensures);
        ones_long = (c.if-ones-size.false ∙ c.bytes_for-size.ensures);
        clear = sym c.spare.ensures ∙ c.if-spare.false;
        marks_clear = sym c.spare-2.ensures ∙ c.if-spare-2.false;
      },
      length-take-le _ _ (omega (arith, s, f)) ∙ sym (ap (λ x. 2 * x) c.if-word-size.false),
      length-take-le _ _ (omega (arith, s, f)) ∙ sym (ap (λ x. 2 * x) c.if-word-size.false),
      p.0,
      p.1,
    )
