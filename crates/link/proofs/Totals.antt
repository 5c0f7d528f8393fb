-- The promise of link health: the running totals are a fresh count over the history's last words.
--
--   count_more, count_drop     one report more at the end; one less at the front
--   last_le, last_more         how much the last words count at most; one report more: it comes, and the one 64 before it goes
--   few_refused, few_changed   so the totals are at most 64 and 16,256
--   stored_length, stored_at, stored_next, stored_refused, stored_changed      a stored state, byte by byte
--   Tracks h s                 the state s holds what the history h asks: its last 64 reports in the ring, and its totals
--   tracks_fresh, tracks_report, tracks_after      a reset state does, and each call keeps it so
--   health_totals              THE THEOREM: after a reset and any calls the entries answer the fresh counts
--   bytes_after                a history of bytes
use mathlib.Core.Path.{◌≡◌, refl, sym, ap, ◌∙◌, subst}
use mathlib.Core.List.{List, [], ◌∷◌, ◌++◌}
use Prim.Native.Nat.{ℕ, zero, suc, ◌+◌, ◌-◌, ◌*◌, ◌/◌, ◌%◌, ◌≤◌, ◌<◌}
use native.Mathlib.Nat.{suc-mul, mul-le-mul_right}
use native.Mathlib.Decide.{dec_lt}
use native.Mathlib.Omega.{arith}
use lib.ListN.{length, get_or, set, drop, replicate, length-append, length-set, get_or-replicate, get_or-append}
use lib.Seq.{get_or-set_same, get_or-set_other, get_or_at}
use Rattle.algebra.proofs.Lists.{All, none, more}
use Rattle.document.specs.Answer.{Answer, returned}
use Rattle.link.specs.History.{refused_by, changed_by, History, last_words, count, refused_in, changed_in}
use Rattle.link.specs.History.{HealthCall, reset, report, OneByte, history_after}
use Rattle.link.specs.Health.{changed_total, stored, reported, health_reset_of, health_report_of, health_refused_of, health_changed_of, state_after}
use Rattle.link.proofs.Exits.{reset_right, report_right, refused_right, changed_right, refused_by_le, changed_by_le}

abbrev Byte : ℕ → Type 0
Byte r = r < 256

one_longer : (h : History) (r : ℕ) → length (h ++ (r ∷ [])) ≡ length h + 1
one_longer h r = length-append h (r ∷ [])

bytes_more : {h : History} {r : ℕ} → All Byte h → Byte r → All Byte (h ++ (r ∷ []))
bytes_more none b = more b none
bytes_more (more c bs) b = more c (bytes_more bs b)

-- ---- counts, of whatever a report counts as
module _ (by : ℕ → ℕ) where
  pub count_more : (k : ℕ) (h : History) (r : ℕ) → k ≤ length h → count by (drop k (h ++ (r ∷ []))) ≡ count by (drop k h) + by r
  unfolding count
  count_more zero [] r l = omega arith
  count_more zero (x ∷ h) r l = omega (arith, count_more zero h r (omega arith))
  count_more (suc k) [] r l = absurd (omega arith)
  count_more (suc k) (x ∷ h) r l = count_more k h r (omega arith)

  pub count_drop : (k : ℕ) (h : History) → k < length h → count by (drop k h) ≡ by (get_or h k 0) + count by (drop (suc k) h)
  unfolding count
  count_drop zero [] l = absurd (omega arith)
  count_drop zero (x ∷ h) l = refl
  count_drop (suc k) [] l = absurd (omega arith)
  count_drop (suc k) (x ∷ h) l = count_drop k h (omega arith)

  count_le : (m : ℕ) → ((r : ℕ) → r < 256 → by r ≤ m) → (k : ℕ) {h : History} → All Byte h → count by (drop k h) ≤ (length h - k) * m
  unfolding count
  count_le m b zero none = omega arith
  count_le m b zero (more {b = r} {l = h} c bs) =
      let e : suc (length h) - zero ≡ suc (length h) = omega arith in
      let f : length h - zero ≡ length h = omega arith in
      let rest : count by h ≤ length h * m = subst (λ n. count by h ≤ n * m) f (count_le m b zero bs) in
      subst (λ n. by r + count by h ≤ n * m) (sym e) (omega (arith, suc-mul (length h) m, b r c, rest))
  count_le m b (suc k) none = omega arith
  count_le m b (suc k) (more {l = h} c bs) =
      let e : suc (length h) - suc k ≡ length h - k = omega arith in
      subst (λ n. count by (drop k h) ≤ n * m) (sym e) (count_le m b k bs)

  pub last_le : (m : ℕ) → ((r : ℕ) → r < 256 → by r ≤ m) → {h : History} → All Byte h → count by (last_words h) ≤ 64 * m
  unfolding last_words
  last_le m b {h} bs =
      omega (arith, count_le m b (length h - 64) bs, mul-le-mul_right {m = length h - (length h - 64)} {n = 64} m (omega arith))

  -- o is the report 64 before the new one, or counts nothing
  pub last_more : by 0 ≡ 0 → (h : History) (r o : ℕ) → (length h < 64 → o ≡ 0) → (64 ≤ length h → o ≡ get_or h (length h - 64) 0)
      → count by (last_words (h ++ (r ∷ []))) + by o ≡ count by (last_words h) + by r
  unfolding last_words
  last_more z h r o few many =
      elim (dec_lt (length h) 64) [
        | yes q ↦ (let before : length h - 64 ≡ 0 = omega arith in
            let after : length (h ++ (r ∷ [])) - 64 ≡ 0 = omega (arith, one_longer h r) in
            let a = ap (λ (k : ℕ). count by (drop k h)) before in
            let b = ap (λ (k : ℕ). count by (drop k (h ++ (r ∷ [])))) after in
            let c : by o ≡ 0 = ap by (few q) ∙ z in
            omega (arith, a, b, c, count_more 0 h r (omega arith)))
        | no q ↦ (let k : ℕ = length h - 64 in
            let after : length (h ++ (r ∷ [])) - 64 ≡ suc (length h - 64) = omega (arith, one_longer h r) in
            let b = ap (λ (k : ℕ). count by (drop k (h ++ (r ∷ [])))) after in
            let c : by o ≡ by (get_or h (length h - 64) 0) = ap by (many (omega arith)) in
            omega (arith, b, c, count_more (suc (length h - 64)) h r (omega arith), count_drop (length h - 64) h (omega arith)))
      ]

pub few_refused : {h : History} → All Byte h → refused_in h ≤ 64
unfolding refused_in
few_refused bs = last_le refused_by 1 (λ r _. refused_by_le r) bs

pub few_changed : {h : History} → All Byte h → changed_in h ≤ 16256
unfolding changed_in
few_changed bs = last_le changed_by 254 changed_by_le bs

-- ---- a stored state
module _ (s : List ℕ) (i r a b : ℕ) (long : length s ≡ 68) (small : i < 64) where
  abbrev s₁ : List ℕ
  s₁ = set s i r

  abbrev s₂ : List ℕ
  s₂ = set s₁ 64 (i + 1)

  abbrev s₃ : List ℕ
  s₃ = set s₂ 65 (a % 256)

  abbrev s₄ : List ℕ
  s₄ = set s₃ 66 (b % 256)

  pub stored_length : length (stored s i r a b) ≡ 68
  unfolding stored
  stored_length = simp length-set long

  pub stored_at : (k : ℕ) → k < 64 → get_or (stored s i r a b) k 0 ≡ get_or (set s i r) k 0
  unfolding stored
  stored_at k h =
      get_or-set_other s₄ 67 k (b / 256 % 256) 0 (λ z. omega arith) ∙ get_or-set_other s₃ 66 k (b % 256) 0 (λ z. omega arith)
      ∙ get_or-set_other s₂ 65 k (a % 256) 0 (λ z. omega arith) ∙ get_or-set_other s₁ 64 k (i + 1) 0 (λ z. omega arith)

  pub stored_next : get_or (stored s i r a b) 64 0 ≡ i + 1
  unfolding stored
  stored_next =
      get_or-set_other s₄ 67 64 (b / 256 % 256) 0 (λ z. omega arith) ∙ get_or-set_other s₃ 66 64 (b % 256) 0 (λ z. omega arith)
      ∙ get_or-set_other s₂ 65 64 (a % 256) 0 (λ z. omega arith) ∙ get_or-set_same s₁ 64 (i + 1) 0 (simp length-set (omega arith))

  pub stored_refused : get_or (stored s i r a b) 65 0 ≡ a % 256
  unfolding stored
  stored_refused =
      get_or-set_other s₄ 67 65 (b / 256 % 256) 0 (λ z. omega arith) ∙ get_or-set_other s₃ 66 65 (b % 256) 0 (λ z. omega arith)
      ∙ get_or-set_same s₂ 65 (a % 256) 0 (simp length-set (omega arith))

  pub stored_changed : changed_total (stored s i r a b) ≡ b % 65536
  unfolding stored changed_total
  stored_changed =
      let lo : get_or (set s₄ 67 (b / 256 % 256)) 66 0 ≡ b % 256 =
      get_or-set_other s₄ 67 66 (b / 256 % 256) 0 (λ z. omega arith) ∙ get_or-set_same s₃ 66 (b % 256) 0 (simp length-set (omega arith)) in
      let hi : get_or (set s₄ 67 (b / 256 % 256)) 67 0 ≡ b / 256 % 256 =
      get_or-set_same s₄ 67 (b / 256 % 256) 0 (simp length-set (omega arith)) in
      omega (arith, lo, hi)

-- ---- what a state holds of a history: report number j, from 0 on, is at place j modulo 64
pub record Tracks (h : History) (s : List ℕ) : Type 0 where
  pub long : length s ≡ 68
  pub next : get_or s 64 0 % 64 ≡ length h % 64
  pub ring : (j : ℕ) → j < length h → length h ≤ j + 64 → get_or s (j % 64) 0 ≡ get_or h j 0
  pub empty : (p : ℕ) → length h ≤ p → p < 64 → get_or s p 0 ≡ 0
  pub refused : get_or s 65 0 ≡ refused_in h
  pub changed : changed_total s ≡ changed_in h

pub tracks_fresh : Tracks [] (replicate 68 0)
unfolding refused_in changed_in last_words count changed_total
tracks_fresh = record {
  long = refl;
  next = refl;
  ring = λ j l _. absurd (omega arith);
  empty = λ p _ l. get_or-replicate 68 p 0 0 (omega arith);
  refused = refl;
  changed = refl;
}

zero_refused : refused_by 0 ≡ 0
unfolding refused_by
zero_refused = refl

zero_changed : changed_by 0 ≡ 0
unfolding changed_by
zero_changed = refl

module _ {h : History} {s : List ℕ} (t : Tracks h s) (r : ℕ) (byte : r < 256) (bytes : All Byte h) where
  abbrev i : ℕ
  i = get_or s 64 0 % 64

  abbrev h' : History
  h' = h ++ (r ∷ [])

  small : i < 64
  small = omega arith

  -- the place of the new report holds the one 64 before it, or 0
  oldest_few : length h < 64 → get_or s i 0 ≡ 0
  oldest_few l = t.empty i (omega (arith, t.next)) small

  oldest_many : 64 ≤ length h → get_or s i 0 ≡ get_or h (length h - 64) 0
  oldest_many l =
      let e : i ≡ (length h - 64) % 64 = omega (arith, t.next) in
      ap (λ (k : ℕ). get_or s k 0) e ∙ t.ring (length h - 64) (omega arith) (omega arith)

  abbrev a : ℕ
  a = get_or s 65 0 + refused_by r - refused_by (get_or s i 0)

  abbrev b : ℕ
  b = changed_total s + changed_by r - changed_by (get_or s i 0)

  refused_is : a % 256 ≡ refused_in h'
  unfolding refused_in
  refused_is =
      omega (
        arith,
        t.refused,
        last_more refused_by zero_refused h r (get_or s i 0) oldest_few oldest_many,
        last_le refused_by 1 (λ x _. refused_by_le x) (bytes_more bytes byte),
      )

  changed_is : b % 65536 ≡ changed_in h'
  unfolding changed_in
  changed_is =
      omega (
        arith,
        t.changed,
        last_more changed_by zero_changed h r (get_or s i 0) oldest_few oldest_many,
        last_le changed_by 254 changed_by_le (bytes_more bytes byte),
      )

  ring_is : (j : ℕ) → j < length h' → length h' ≤ j + 64 → get_or (set s i r) (j % 64) 0 ≡ get_or h' j 0
  ring_is j l n =
      elim (dec_lt j (length h)) [
        | yes q ↦ (let apart : (j % 64 ≡ i) → ⊥ = λ e. omega (arith, e, t.next, one_longer h r) in
            get_or-set_other s i (j % 64) r 0 apart ∙ t.ring j q (omega (arith, one_longer h r)) ∙ sym (get_or-append h (r ∷ []) 0 j q))
        | no q ↦ (let e : length h ≡ j = omega (arith, one_longer h r) in
            let f : j % 64 ≡ i = omega (arith, t.next) in
            ap (λ (k : ℕ). get_or (set s i r) k 0) f ∙ get_or-set_same s i r 0 (omega (arith, t.long)) ∙ sym (get_or_at h r [] 0 j e))
      ]

  empty_is : (p : ℕ) → length h' ≤ p → p < 64 → get_or (set s i r) p 0 ≡ 0
  empty_is p l m =
      let apart : (p ≡ i) → ⊥ = λ e. omega (arith, e, t.next, one_longer h r) in
      get_or-set_other s i p r 0 apart ∙ t.empty p (omega (arith, one_longer h r)) m

  pub tracks_report : Tracks h' (reported s r)
  unfolding reported
  tracks_report = record {
    long = stored_length s i r a b t.long small;
    next = ap (λ (n : ℕ). n % 64) (stored_next s i r a b t.long small) ∙ omega (arith, t.next, one_longer h r);
    ring = λ j l n. stored_at s i r a b t.long small (j % 64) (omega arith) ∙ ring_is j l n;
    empty = λ p l m. stored_at s i r a b t.long small p m ∙ empty_is p l m;
    refused = stored_refused s i r a b t.long small ∙ refused_is;
    changed = stored_changed s i r a b t.long small ∙ changed_is;
  }

-- ---- after any calls
pub reset_state : (s : List ℕ) → length s ≡ 68 → replicate 68 0 ≡ (health_reset_of s).1
reset_state s h = ap (λ (p : Answer × List ℕ). p.1) (reset_right s h)

pub report_state : (s : List ℕ) (r : ℕ) → length s ≡ 68 → reported s r ≡ (health_report_of s r).1
report_state s r h = ap (λ (p : Answer × List ℕ). p.1) (report_right s r h)

pub bytes_after : {h : History} → All Byte h → {calls : List HealthCall} → All OneByte calls → All Byte (history_after h calls)
unfolding history_after
bytes_after bs none = bs
bytes_after bs (more {b = reset} c cs) = bytes_after none cs
bytes_after bs (more {b = report r} c cs) = bytes_after (bytes_more bs c) cs

pub tracks_after : {h : History} {s : List ℕ} → Tracks h s → All Byte h → {calls : List HealthCall} → All OneByte calls
    → Tracks (history_after h calls) (state_after s calls)
unfolding history_after state_after
tracks_after t bs none = t
tracks_after {h = h} {s = s} t bs (more {b = reset} c cs) = tracks_after {h = []} (subst (Tracks []) (reset_state s t.long) tracks_fresh) none cs
tracks_after {h = h} {s = s} t bs (more {b = report r} c cs) =
    tracks_after {h = h ++ (r ∷ [])} (subst (Tracks (h ++ (r ∷ []))) (report_state s r t.long) (tracks_report t r c bs)) (bytes_more bs c) cs

-- "After a reset and any reports, each on the state the call before left, the two totals equal a fresh count over that history's last
-- words." For every state that was lent, and with resets among the reports.
pub record Counted (h : History) (s : List ℕ) : Type 0 where
  pub refused : health_refused_of s ≡ returned (refused_in h ∷ [])
  pub changed : health_changed_of s ≡ returned (changed_in h ∷ [])

pub health_totals : (s : List ℕ) → length s ≡ 68 → {calls : List HealthCall} → All OneByte calls
    → Counted (history_after [] calls) (state_after (health_reset_of s).1 calls)
health_totals s l cs =
    let t = tracks_after (subst (Tracks []) (reset_state s l) tracks_fresh) none cs in
    record {
      refused = sym (refused_right _ t.long) ∙ ap (λ (n : ℕ). returned (n ∷ [])) t.refused;
      changed = sym (changed_right _ t.long) ∙ ap (λ (n : ℕ). returned (n ∷ [])) t.changed;
    }
