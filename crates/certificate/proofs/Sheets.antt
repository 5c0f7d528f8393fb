-- The theorems of Distance.antt for what an accepted sheet states, with its own numbers.
--
--   Accepted x          what an accepted sheet states: n is odd, s at most 12, and every certificate meets rules 1 to 4
--   accepted            so does every sheet, of any kind, that draws no refusal
--   working_sound       the working certificate meets rules 1 to 4
--   sheet_distance      any two different codewords differ in at least d places, d of any certificate on it
--   sheet_unique        at most one codeword lies within t places of a word, t the sheet's
--   sheet_found, sheet_some, sheet_none      `nearest_message` finds it, or there is none
use mathlib.Core.Path.{◌≡◌}
use mathlib.Core.Logic.{◌≢◌, ◌↔◌}
use mathlib.Core.List.{List}
use Prim.Native.Nat.{ℕ, ◌^◌, ◌≤◌, ◌<◌}
use lib.ListN.{length}
use Rattle.document.specs.Answer.{first_of}
use Rattle.document.specs.Sheet.{Stated, certificate_at, Kind, stated_by, wrong_length, wrong_code_length, wrong_header}
use Rattle.document.specs.Generator.{differences}
use Rattle.document.specs.Certificate.{distance}
use Rattle.document.specs.Judge.{wrong_degree, sheet_conditions, judge_conditions, dimension_of, working_of, working_certificate}
use Rattle.document.specs.Entry.{generator_of, radius_of, CodewordOf, word_of, nearest_message, decoded_word}
use Rattle.document.proofs.Sane.{passed, accepted_dimension}
use Rattle.document.proofs.Working.{working_within}
use Rattle.document.proofs.Theory.{Length}
use Rattle.document.proofs.Stated.{Headed, headed}
use Rattle.document.proofs.Acceptance.{quiet_of, quiet_rules}
use Rattle.certificate.proofs.RulesHeld.{Sound, sound_of}
use Rattle.certificate.proofs.Distance as Distance

pub record Accepted (x : Stated) : Type 0 where
  pub head : Headed x
  pub some : 1 ≤ dimension_of x
  pub sound : (i : ℕ) → i < length x.certificates → Sound x.n x.representatives (certificate_at x i)

pub accepted : (kind : Kind) → kind.most_places ≤ 65535 → (sheet : List ℕ) → first_of (judge_conditions kind sheet) ≡ 0
    → Accepted (stated_by kind sheet)
unfolding judge_conditions sheet_conditions
accepted kind small sheet e =
    let x : Stated = stated_by kind sheet in
    let p₁ = passed 0 (wrong_length kind sheet) _ e in
    let p₂ = passed 1 (wrong_code_length kind x.n) _ p₁.1 in
    let p₃ = passed 2 (wrong_degree x.n) _ p₂.1 in
    let p₄ = passed 3 (wrong_header kind sheet) _ p₃.1 in
    record {
      head = headed kind small sheet p₂.0 p₃.0 p₄.0;
      some = accepted_dimension kind sheet e;
      sound = λ i h. sound_of (quiet_rules kind sheet (quiet_of kind sheet e) i h);
    }

module _ {x : Stated} (a : Accepted x) where
  abbrev n : ℕ
  n = x.n

  abbrev k : ℕ
  k = dimension_of x

  abbrev reps : List ℕ
  reps = x.representatives

  pub accepted_length : Length n
  accepted_length = a.head.length_stated

  pub working_lt : working_of x < length x.certificates
  working_lt = working_within x a.head.one

  pub working_sound : Sound n reps (working_certificate x)
  unfolding working_certificate
  working_sound = a.sound (working_of x) working_lt

  pub sheet_distance : (i : ℕ) → i < length x.certificates → {a b : ℕ} → CodewordOf x a → CodewordOf x b → a ≢ b
      → distance (certificate_at x i) ≤ differences n a b
  sheet_distance i h v w ne =
      Distance.distance_holds accepted_length reps (certificate_at x i) (a.sound i h) v w ne

  pub sheet_unique : (r : ℕ) {a b : ℕ} → CodewordOf x a → CodewordOf x b → differences n r a ≤ radius_of x → differences n r b ≤ radius_of x
      → a ≡ b
  unfolding radius_of
  sheet_unique r v w h j = Distance.near_only accepted_length reps (working_certificate x) working_sound r v w h j

  -- ---- what decoding is to find
  pub sheet_found : (bytes : List ℕ) {c : ℕ} → CodewordOf x c → differences n (word_of x bytes) c ≤ radius_of x
      → (nearest_message x bytes < 2 ^ k) × (decoded_word x bytes ≡ c)
  unfolding radius_of nearest_message decoded_word dimension_of generator_of
  sheet_found bytes w h = Distance.nearest_is accepted_length reps (working_certificate x) working_sound (word_of x bytes) w h

  pub sheet_some : (bytes : List ℕ) → nearest_message x bytes < 2 ^ k
      → CodewordOf x (decoded_word x bytes) × (differences n (word_of x bytes) (decoded_word x bytes) ≤ radius_of x)
  unfolding radius_of nearest_message decoded_word dimension_of generator_of
  sheet_some bytes h = Distance.nearest_some accepted_length reps (working_certificate x) working_sound (word_of x bytes) h

  pub sheet_none : (bytes : List ℕ) → (nearest_message x bytes ≡ 2 ^ k)
      ↔ ((c : ℕ) → CodewordOf x c → radius_of x < differences n (word_of x bytes) c)
  unfolding radius_of nearest_message dimension_of generator_of
  sheet_none bytes = Distance.nearest_none accepted_length reps (working_certificate x) working_sound (word_of x bytes)

  pub nearest_le : (bytes : List ℕ) → nearest_message x bytes ≤ 2 ^ k
  unfolding radius_of nearest_message dimension_of generator_of
  nearest_le bytes = Distance.nearest_le accepted_length reps (working_certificate x) working_sound (word_of x bytes)
