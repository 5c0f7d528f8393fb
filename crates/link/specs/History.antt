-- Link health over histories: 2026-08, "Link health over the last 64 words". What the two totals are to be; nothing here knows how a state
-- holds them.
--
--   refused_by r, changed_by r   what one report counts as
--   History                    the reports since the reset, in the order in which they came
--   last_words h                "the last 64"
--   count by h                 what the reports of a list count as together
--   refused_in h, changed_in h   a fresh count over a history's last words
--   HealthCall                 a reset, or a report; OneByte: the report is a byte
--   history_after h calls       the history after calls, in their order, where it was h before
use Rattle.std.specs.Prelude.{true, false, List, [], ◌∷◌, ◌++◌, ℕ, ◌+◌, ◌-◌, ◌<◌, eqb, length, drop}

-- "Each decoded word reports one byte, its changed places, or 255 for its 13;"
unfoldable pub refused_by : ℕ → ℕ
refused_by r = elim (eqb r 255) [ true ↦ 1 | false ↦ 0 ]

-- "any byte below 255 is taken as a count."
unfoldable pub changed_by : ℕ → ℕ
changed_by r = elim (eqb r 255) [ true ↦ 0 | false ↦ r ]

abbrev pub History : Type 0
History = List ℕ

-- "the last 64"; "Fewer than 64 count as they are": length h - 64 is 0 for these
unfoldable pub last_words : History → History
last_words h = drop (length h - 64) h

unfoldable pub count : (ℕ → ℕ) → History → ℕ
count by [] = 0
count by (r ∷ h) = by r + count by h

-- "how many of the last 64 were refused
unfoldable pub refused_in : History → ℕ
refused_in h = count refused_by (last_words h)

-- and how many places were changed in the others."
unfoldable pub changed_in : History → ℕ
changed_in h = count changed_by (last_words h)

pub data HealthCall : Type 0 where
  reset : HealthCall
  report : ℕ → HealthCall

abbrev pub OneByte : HealthCall → Type 0
OneByte reset = Unit {0}
OneByte (report r) = r < 256

-- "a reset begins the history again, empty"
unfoldable pub history_after : History → List HealthCall → History
history_after h [] = h
history_after h (reset ∷ calls) = history_after [] calls
history_after h (report r ∷ calls) = history_after (h ++ (r ∷ [])) calls
