-- Link health over states: what each entry gives for any bytes that are lent, "a state that no such calls made" among them.
--
--   bytes 0 to 63      the last reports, in a ring; 0 where there was none
--   byte 64            the place of the next report, modulo 64: it holds the oldest
--   byte 65            how many of them are refusals
--   bytes 66, 67       how many places were changed in the others, low byte first
--
--   state_conditions s        11
--   changed_total s           the number in bytes 66 and 67
--   stored s i r a b         report r at place i, the next place, and the totals a and b
--   reported s r             the state after report r
--   health_reset_of, health_report_of, health_refused_of, health_changed_of      the entries: the answer, and what the lent bytes hold afterwards
--   state_after s calls       the bytes after calls, in their order, "each on the state the call before left"
-- Of the bytes the request says nothing. What it says is `health_totals` of proofs/Totals.antt, about histories.
use Rattle.std.specs.Prelude.{not, List, [], ◌∷◌, ℕ, ◌+◌, ◌-◌, ◌*◌, ◌/◌, ◌%◌, eqb, length, get_or, set, replicate}
use Rattle.document.specs.Answer.{Answer, Conditions, first_of, settle}
use Rattle.link.specs.History.{refused_by, changed_by, HealthCall, reset, report}

-- 11: the state hasn't its exact length
unfoldable pub state_conditions : List ℕ → Conditions
state_conditions s = (11, not (eqb (length s) 68)) ∷ []

unfoldable pub changed_total : List ℕ → ℕ
changed_total s = get_or s 66 0 + get_or s 67 0 * 256

unfoldable pub stored : List ℕ → ℕ → ℕ → ℕ → ℕ → List ℕ
stored s i r refused changed =
    set (set (set (set (set s i r) 64 (i + 1)) 65 (refused % 256)) 66 (changed % 256)) 67 (changed / 256 % 256)

-- The oldest report goes, the new one comes. In a state that no calls made a difference below 0 is 0, and totals are cut to their bytes.
unfoldable pub reported : List ℕ → ℕ → List ℕ
reported s r =
    let i : ℕ = get_or s 64 0 % 64 in
    let oldest : ℕ = get_or s i 0 in
    stored s i r (get_or s 65 0 + refused_by r - refused_by oldest) (changed_total s + changed_by r - changed_by oldest)

-- "a reset begins the history again, empty; the first state is a reset one"
unfoldable pub health_reset_of : List ℕ → Answer × List ℕ
health_reset_of s = settle (first_of (state_conditions s)) (0 ∷ []) (replicate 68 0) s

unfoldable pub health_report_of : List ℕ → ℕ → Answer × List ℕ
health_report_of s r = settle (first_of (state_conditions s)) (0 ∷ []) (reported s r) s

-- "The state answers how many of the last 64 were refused and how many places were changed in the others."
unfoldable pub health_refused_of : List ℕ → Answer
health_refused_of s = (settle (first_of (state_conditions s)) (get_or s 65 0 ∷ []) s s).0

unfoldable pub health_changed_of : List ℕ → Answer
health_changed_of s = (settle (first_of (state_conditions s)) (changed_total s ∷ []) s s).0

unfoldable pub state_after : List ℕ → List HealthCall → List ℕ
state_after s [] = s
state_after s (reset ∷ calls) = state_after (health_reset_of s).1 calls
state_after s (report r ∷ calls) = state_after (health_report_of s r).1 calls
