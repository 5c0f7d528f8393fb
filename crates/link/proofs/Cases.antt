-- Cases of link health, worked out.
--
--   words_few, words_many      fewer than 64 words; the 65th word from the end no longer counts
--   run                        a reset and two reports, by the entries
use mathlib.Core.Path.{◌≡◌, refl}
use mathlib.Core.List.{[], ◌∷◌, ◌++◌}
use lib.ListN.{replicate}
use Rattle.document.specs.Answer.{returned, first_of, settle_in}
use Rattle.link.specs.History.{refused_by, changed_by, count, last_words, refused_in, changed_in, reset, report}
use Rattle.link.specs.Health.{state_conditions, changed_total, stored, reported, health_reset_of, health_report_of, health_refused_of, health_changed_of}
use Rattle.link.specs.Health.{state_after}

pub words_few : (refused_in (254 ∷ 255 ∷ 3 ∷ 255 ∷ []) ≡ 2) × (changed_in (254 ∷ 255 ∷ 3 ∷ 255 ∷ []) ≡ 257)
unfolding refused_in changed_in last_words count refused_by changed_by
words_few = (refl, refl)

pub words_many : (refused_in (255 ∷ replicate 64 1) ≡ 0) × (changed_in (replicate 64 1 ++ (255 ∷ [])) ≡ 63)
unfolding refused_in changed_in last_words count refused_by changed_by
words_many = (refl, refl)

pub run : (health_refused_of (state_after (replicate 68 9) (reset ∷ report 3 ∷ report 255 ∷ [])) ≡ returned (1 ∷ []))
    × (health_changed_of (state_after (replicate 68 9) (reset ∷ report 3 ∷ report 255 ∷ [])) ≡ returned (3 ∷ []))
unfolding health_refused_of health_changed_of state_after health_reset_of health_report_of reported stored changed_total state_conditions first_of settle_in refused_by changed_by
run = (refl, refl)
