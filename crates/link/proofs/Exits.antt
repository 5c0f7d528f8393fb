-- What the entries answer over a state of the right length, and how much one report counts.
--
--   refused_by_yes, refused_by_no, changed_by_yes, changed_by_no      one report; refused_by_le, changed_by_le: how much it counts at most
--   answer_right                              an entry's answer and bytes over such a state
--   reset_right, report_right, refused_right, changed_right      so for each entry
use mathlib.Core.Path.{◌≡◌, sym, ap}
use mathlib.Core.Logic.{◌≢◌}
use mathlib.Core.Bool.{Bool, not}
use mathlib.Core.List.{List, [], ◌∷◌}
use Prim.Native.Nat.{ℕ, ◌≤◌, ◌<◌}
use native.Mathlib.Decide.{ℕ_discrete}
use native.Mathlib.Omega.{arith}
use lib.ListN.{length, get_or, replicate}
use borrow.Author.Tests.{eq-eqb, ne_eqb}
use Rattle.document.specs.Answer.{Answer, returned, first_of, settle_in}
use Rattle.link.specs.History.{refused_by, changed_by}
use Rattle.link.specs.Health.{state_conditions, changed_total, reported, health_reset_of, health_report_of, health_refused_of, health_changed_of}

pub refused_by_yes : (r : ℕ) → r ≡ 255 → 1 ≡ refused_by r
unfolding refused_by
refused_by_yes r e = rw (refused_by, eq-eqb r 255 e)

pub refused_by_no : (r : ℕ) → r ≢ 255 → 0 ≡ refused_by r
unfolding refused_by
refused_by_no r e = rw (refused_by, ne_eqb r 255 e)

pub changed_by_yes : (r : ℕ) → r ≡ 255 → 0 ≡ changed_by r
unfolding changed_by
changed_by_yes r e = rw (changed_by, eq-eqb r 255 e)

pub changed_by_no : (r : ℕ) → r ≢ 255 → r ≡ changed_by r
unfolding changed_by
changed_by_no r e = rw (changed_by, ne_eqb r 255 e)

size_right : (s : List ℕ) → length s ≡ 68 → first_of (state_conditions s) ≡ 0
unfolding first_of state_conditions
size_right s h = ap (λ (b : Bool). first_of ((11, not b) ∷ [])) (eq-eqb (length s) 68 h)

module _ (s v w : List ℕ) where
  pub answer_right : length s ≡ 68 → (returned v, w) ≡ settle_in (first_of (state_conditions s)) v w s
  unfolding settle_in
  answer_right h = sym (ap (λ (x : ℕ). settle_in x v w s) (size_right s h))

-- ---- reset
pub reset_right : (s : List ℕ) → length s ≡ 68 → (returned (0 ∷ []), replicate 68 0) ≡ health_reset_of s
unfolding health_reset_of
reset_right s h = answer_right s _ _ h

-- ---- report
pub report_right : (s : List ℕ) (r : ℕ) → length s ≡ 68 → (returned (0 ∷ []), reported s r) ≡ health_report_of s r
unfolding health_report_of
report_right s r h = answer_right s _ _ h

-- ---- the totals
pub refused_right : (s : List ℕ) → length s ≡ 68 → returned (get_or s 65 0 ∷ []) ≡ health_refused_of s
unfolding health_refused_of
refused_right s h = ap (λ (a : Answer × List ℕ). a.0) (answer_right s (get_or s 65 0 ∷ []) s h)

pub changed_right : (s : List ℕ) → length s ≡ 68 → returned (changed_total s ∷ []) ≡ health_changed_of s
unfolding health_changed_of
changed_right s h = ap (λ (a : Answer × List ℕ). a.0) (answer_right s (changed_total s ∷ []) s h)

-- ---- bounds
pub refused_by_le : (r : ℕ) → refused_by r ≤ 1
refused_by_le r = elim (ℕ_discrete r 255) [ yes e ↦ omega (arith, refused_by_yes r e) | no e ↦ omega (arith, refused_by_no r e) ]

pub changed_by_le : (r : ℕ) → r < 256 → changed_by r ≤ 254
changed_by_le r h = elim (ℕ_discrete r 255) [ yes e ↦ omega (arith, changed_by_yes r e) | no e ↦ omega (arith, changed_by_no r e) ]
