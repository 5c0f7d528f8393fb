-- What the tables of a degree hold: the powers of ω for five rounds, and the logarithms of all elements.
--
--   RoundFillable s e g    e is long enough for the powers of one round, and g for the logarithms
--   Fillable s e g         e is long enough for five rounds
--   Powers s n e       e holds the first n powers
--   Powered s e        e holds the powers of five rounds
--   Logs s n g g'      g' holds the logarithms of the first n powers, and else what g held
--   Tables s e g       e and g hold them, e for five rounds, so that sums of five logarithms need no reduction
--   Filled s g e' g'   what filling leaves: the tables, and of the old g what lies beyond them
use Rattle.std.specs.Prelude.{◌≡◌, ◌≢◌, List, ℕ, ◌-◌, ◌*◌, ◌^◌, ◌≤◌, ◌<◌, length, get_or}
use Rattle.field.specs.Field.{Degree, ω, field_power, logarithm}

pub record RoundFillable (s : ℕ) (e g : List ℕ) : Type 0 where
  pub degree : Degree s
  pub e_long : 2 ^ s - 1 ≤ length e
  pub g_long : 2 ^ s ≤ length g

pub record Fillable (s : ℕ) (e g : List ℕ) : Type 0 where
  pub degree : Degree s
  pub e_long : 5 * (2 ^ s - 1) ≤ length e
  pub g_long : 2 ^ s ≤ length g

pub record Powers (s n : ℕ) (e : List ℕ) : Type 0 where
  pub at : (k : ℕ) → k < n → get_or e k 0 ≡ field_power s ω k

pub record Powered (s : ℕ) (e : List ℕ) : Type 0 where
  pub degree : Degree s
  pub e_long : 5 * (2 ^ s - 1) ≤ length e
  pub powers : Powers s (5 * (2 ^ s - 1)) e

pub record Logs (s n : ℕ) (g g' : List ℕ) : Type 0 where
  pub at : (k : ℕ) → k < n → get_or g' (field_power s ω k) 0 ≡ k
  pub rest : (a : ℕ) → ((k : ℕ) → k < n → a ≢ field_power s ω k) → get_or g' a 0 ≡ get_or g a 0

pub record Tables (s : ℕ) (e g : List ℕ) : Type 0 where
  pub degree : Degree s
  pub four : 4 ≤ 2 ^ s
  pub cap : 2 ^ s ≤ 4096
  pub e_long : 5 * (2 ^ s - 1) ≤ length e
  pub g_long : 2 ^ s ≤ length g
  pub e_at : (k : ℕ) → k < 5 * (2 ^ s - 1) → get_or e k 0 ≡ field_power s ω k
  pub g_at : (a : ℕ) → a < 2 ^ s → get_or g a 0 ≡ logarithm s a

pub record Filled (s : ℕ) (g e' g' : List ℕ) : Type 0 where
  pub tables : Tables s e' g'
  pub g_rest : (a : ℕ) → 2 ^ s ≤ a → get_or g' a 0 ≡ get_or g a 0
