-- `decoder::marked::decode_trials` meets its contract: what is written, decoded and shown is the definition's.
use native.Mathlib.Omega.{arith}
use mathlib.Core.Path.{◌≡◌, refl, sym, ◌∙◌}
use lib.ListN.{get_or}
use Rattle.std.specs.Prelude.{None}
use Rattle.std.proofs.lemmas.Grind.{common_steps}
use Rattle.decoder.proofs.Trying.{few_bytes, trials_lined}
use Rattle.decoder.proofs.Answered.{marked_is}
use Rattle.decoder.proofs.marked.decode_trials.Goals as goal

pub decode_words-requires : goal.decode_words-requires
decode_words-requires c = let p = c.requires in (trials_lined p.0 c.write_trials.ensures (λ i. omega (arith, c.type_inv.marks i)) (λ i. omega (arith, c.slice_known-5-1.given i)) refl c.copy.ensures, p.3, p.4)

pub show-requires : goal.show-requires
show-requires c = let p = c.requires in
    record {
      marks_long = p.0.marks_long ∙ sym p.0.word_long;
      decoded_long = c.decode_words.auto.out ∙ c.copy.auto.to ∙ p.2;
      zeros_long = p.0.zeros_long ∙ sym p.0.word_long;
      ones_long = p.0.ones_long ∙ sym p.0.word_long;
      few = omega (arith, p.0.word_long, few_bytes c.args.code.now.n p.4);
    }

pub returns : goal.returns
returns c = let p = c.requires in
    let zeros : c.map.result ≡ get_or c.decode_words.new.verdicts 0 None = grind (arith, common_steps, c.map.ensures) in
    let ones : c.map-2.result ≡ get_or c.decode_words.new.verdicts 1 None = grind (arith, common_steps, c.map-2.ensures) in
    marked_is p.0 c.write_trials.ensures (λ i. omega (arith, c.type_inv.marks i)) (λ i. omega (arith, c.slice_known-5-1.given i)) c.decode_words.auto.verdicts c.copy.ensures c.decode_words.ensures (rw (zeros, ones) at c.show.ensures)
