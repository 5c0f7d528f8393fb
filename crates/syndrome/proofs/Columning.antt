-- Columns of a word, and the sums of powers over their lanes.
--
--   places_in, column_is      a column's places in the bytes; column_le: no lane holds more than 1
--   Columning, columning_start, columning_two, columning_end      the first k columns
--   run_z, run_s       sums, one place more
--   LaneSumming, summing_start, summing_two, summing_end       the sums over the first i columns
--   looked_four, four_lt      the power for the next column
--   power_fits         a column times a power is below 2^64
use mathlib.Core.Path.{◌≡◌, refl, sym, ap, ap₂, ◌∙◌, subst}
use mathlib.Core.List.{List}
use Prim.Native.Nat.{ℕ, suc, ◌+◌, ◌-◌, ◌*◌, ◌/◌, ◌%◌, ◌^◌, ◌≤◌, ◌<◌}
use native.Mathlib.Nat.{add-mul, mul-le-mul}
use native.Mathlib.Decide.{ℕ_discrete}
use native.Mathlib.Omega.{arith}
use lib.Bits.{bit_xor}
use lib.ListN.{length, get_or, set, length-set}
use lib.Seq.{get_or-set_same, get_or-set_other}
use Rattle.field.specs.Search.{total}
use Rattle.field.specs.Mask.{◌⊕◌}
use Rattle.field.specs.Field.{Degree, ω, field_power}
use Rattle.field.proofs.Primitive.{Degree-bounds}
use Rattle.field.specs.Tables.{Powered}
use Rattle.field.proofs.Numbers.{power_lt}
use Rattle.field.proofs.Exponents.{power_folded}
use Rattle.binary.specs.Lanes.{in_lanes, lane}
use Rattle.document.specs.Layout.{word_weight, place}
use Rattle.codeword.specs.Place.{places_of, four_places}
use Rattle.codeword.proofs.Places.{places_length, places_at}
use Rattle.syndrome.specs.Columns.{run_sum, column, Columnable, Columned, Summable, LaneSums}
use Rattle.syndrome.proofs.Lanes.{spaced_le, lane_add, lane_zero, lane_times}

-- ---- columns
module _ {b i : ℕ} (word : List ℕ) (c : Columnable b (places_of word)) (h : i < b) where
  pub places_in : 4 * i / 8 < length word
  places_in = omega (arith, c.long, places_length word)

  pub column_is : four_places word_weight word (4 * i) ≡ column (places_of word) i
  unfolding four_places column in_lanes total
  column_is =
      let at : (j : ℕ) → j < 4 → place word_weight word (4 * i + j) ≡ get_or (places_of word) (4 * i + j) 0 =
      λ j l. sym (places_at word (4 * i + j) (omega (arith, c.long, places_length word))) in
      omega (arith, at 0 (omega arith), at 1 (omega arith), at 2 (omega arith), at 3 (omega arith))

pub column_le : (w : List ℕ) (i : ℕ) → ((k : ℕ) → get_or w k 0 < 2) → column w i ≤ 281479271743489
unfolding column in_lanes total
column_le w i bits = spaced_le (λ j. get_or w (4 * i + j) 0) (λ j. bits (4 * i + j))

pub record Columning (k : ℕ) (w col : List ℕ) : Type 0 where
  pub at : (i : ℕ) → i < k → get_or col i 0 ≡ column w i

pub columning_start : {w col : List ℕ} → Columning 0 w col
columning_start = record { at = λ i h. absurd (omega arith) }

columning_more : {k x : ℕ} {w col : List ℕ} → k < length col → x ≡ column w k → Columning k w col → Columning (k + 1) w (set col k x)
columning_more {k} {x} {w} {col} h e t = record {
  at = λ i l. elim (ℕ_discrete i k) [
    | yes q ↦ ap (λ (j : ℕ). get_or (set col k x) j 0) q ∙ get_or-set_same col k x 0 h ∙ e ∙ ap (column w) (sym q)
    | no q ↦ get_or-set_other col k i x 0 q ∙ t.at i (omega arith)
  ];
}

-- a byte's two columns
pub columning_two : {b k x y : ℕ} (word : List ℕ) {col : List ℕ} → Columnable b (places_of word) → k + 1 < b → k + 1 < length col
    → x ≡ four_places word_weight word (4 * k) → y ≡ four_places word_weight word (4 * k + 4) → Columning k (places_of word) col
    → Columning (k + 2) (places_of word) (set (set col k x) (k + 1) y)
columning_two {b} {k} {x} {y} word {col} c h l e f t =
    let next : 4 * k + 4 ≡ 4 * (k + 1) = omega arith in
    let two : k + 1 + 1 ≡ k + 2 = omega arith in
    subst (λ (i : ℕ). Columning i (places_of word) (set (set col k x) (k + 1) y)) two
    (columning_more (simp length-set l) (f ∙ ap (four_places word_weight word) next ∙ column_is word c h)
    (columning_more (omega arith) (e ∙ column_is word c (omega arith)) t))

pub columning_end : {b k : ℕ} {w col : List ℕ} → ((i : ℕ) → get_or w i 0 < 2) → b ≤ k → Columning k w col → Columned b w col
columning_end bits h t = record { bits = bits; at = λ i l. t.at i (omega arith) }

-- ---- sums
pub run_z : (h p : ℕ → ℕ) → run_sum h p 0 ≡ 0
unfolding run_sum
run_z h p = refl

pub run_s : (h p : ℕ → ℕ) (i : ℕ) → run_sum h p (suc i) ≡ run_sum h p i ⊕ p i * h i
unfolding run_sum
run_s h p i = refl

pub record LaneSumming (s by i b : ℕ) (col : List ℕ) (a : ℕ) : Type 0 where
  pub at : (w : List ℕ) → Columned b w col → (j : ℕ) → j < 4
      → lane j a ≡ run_sum (λ k. field_power s ω (4 * k * by)) (λ k. get_or w (4 * k + j) 0) i

pub summing_start : {b s by : ℕ} {col : List ℕ} → LaneSumming s by 0 b col 0
summing_start {b} {s} {by} = record {
  at = λ w c j h. lane_zero j ∙ sym (run_z (λ k. field_power s ω (4 * k * by)) (λ k. get_or w (4 * k + j) 0));
}

summing_more : {b s by i a x : ℕ} {col : List ℕ} → Degree s → i < b → x ≡ field_power s ω (4 * i * by) → LaneSumming s by i b col a
    → LaneSumming s by (suc i) b col (a ⊕ get_or col i 0 * x)
unfolding column
summing_more {b} {s} {by} {i} {a} {x} {col} d h e t = record {
  at = λ w c j l.
      let small : x < 2 ^ 16 =
      (let q : field_power s ω (4 * i * by) < 2 ^ s = power_lt d ω (4 * i * by) in omega (arith, e, (Degree-bounds d).1)) in
      lane_add j a (get_or col i 0 * x)
      ∙ ap₂ ◌⊕◌ (t.at w c j l)
      (ap (λ (y : ℕ). lane j (y * x)) (c.at i h)
      ∙ lane_times (λ k. get_or w (4 * i + k) 0) (λ k. c.bits (4 * i + k)) x small j l
      ∙ ap (λ (y : ℕ). get_or w (4 * i + j) 0 * y) e)
      ∙ sym (run_s (λ k. field_power s ω (4 * k * by)) (λ k. get_or w (4 * k + j) 0) i);
}

pub summing_two : {b s by i a x z : ℕ} {col : List ℕ} → Degree s → i + 1 < b → x ≡ field_power s ω (0 + 4 * i * by)
    → z ≡ field_power s ω (0 + (4 * i + 4) * by) → LaneSumming s by i b col a
    → LaneSumming s by (i + 2) b col (bit_xor (bit_xor a (get_or col i 0 * x)) (get_or col (i + 1) 0 * z))
unfolding ◌⊕◌
summing_two {b} {s} {by} {i} {a} {x} {z} {col} d h e f t =
    let e₀ : 0 + 4 * i * by ≡ 4 * i * by = omega arith in
    let four : 4 * i + 4 ≡ 4 * suc i = omega arith in
    let f₀ : 0 + (4 * i + 4) * by ≡ 4 * suc i * by = ap (λ (k : ℕ). 0 + k * by) four ∙ omega arith in
    let two : suc (suc i) ≡ i + 2 = omega arith in
    let one : suc i ≡ i + 1 = omega arith in
    subst (λ (k : ℕ). LaneSumming s by k b col (a ⊕ get_or col i 0 * x ⊕ get_or col (i + 1) 0 * z)) two
    (subst (λ (k : ℕ). LaneSumming s by (suc (suc i)) b col (a ⊕ get_or col i 0 * x ⊕ get_or col k 0 * z)) one
    (summing_more d (omega arith) (f ∙ ap (field_power s ω) f₀) (summing_more d (omega arith) (e ∙ ap (field_power s ω) e₀) t)))

pub summing_end : {b s by i a : ℕ} {col : List ℕ} → i ≡ b → LaneSumming s by i b col a → LaneSums b s by col a
summing_end {b} {s} {by} {col = col} e t = record {
  at = λ w c j l. t.at w c j l ∙ ap (run_sum (λ k. field_power s ω (4 * k * by)) (λ k. get_or w (4 * k + j) 0)) e;
}

-- a power that stands `next` after another: next is 4 by, folded
pub looked_four : {s y next : ℕ} (i by : ℕ) {e : List ℕ} → Powered s e
    → y ≡ (0 + 4 * i * by) % 2 ^ s + (0 + 4 * i * by) / 2 ^ s → y < 2 * (2 ^ s - 1)
    → next ≡ 4 * by % 2 ^ s + 4 * by / 2 ^ s → next < 2 * (2 ^ s - 1) → get_or e (y + next) 0 ≡ field_power s ω (0 + (4 * i + 4) * by)
looked_four {s} {y} {next} i by {e} p q b r n =
    let swap : y + (4 * by) ≡ 4 * by + y = omega arith in
    let both : 4 * by + (0 + 4 * i * by) ≡ 0 + (4 * i + 4) * by = omega (arith, add-mul (4 * i) 4 by) in
    p.powers.at (y + next) (omega arith)
    ∙ ap (λ (x : ℕ). field_power s ω (y + x)) r ∙ power_folded p.degree y (4 * by)
    ∙ ap (field_power s ω) swap ∙ ap (λ (x : ℕ). field_power s ω (4 * by + x)) q ∙ power_folded p.degree (4 * by) (0 + 4 * i * by)
    ∙ ap (field_power s ω) both

pub four_lt : {s by : ℕ} → Degree s → by < 2 ^ s - 1 → 4 * by < (2 ^ s - 1) * 2 ^ s
four_lt {s} d h =
    let m : (2 ^ s - 1) * 4 ≤ (2 ^ s - 1) * 2 ^ s =
    mul-le-mul {n₁ = 2 ^ s - 1} {m₁ = 4} {n₂ = 2 ^ s - 1} {m₂ = 2 ^ s} (omega arith) (Degree-bounds d).0 in
    omega arith

pub power_fits : {s by i x y : ℕ} {col : List ℕ} (n : ℕ) → Degree s → Summable s by col → i < length col → x ≡ y → y ≡ field_power s ω n
    → get_or col i 0 * x < 2 ^ 64
power_fits {s = s} {i = i} {x} {col = col} n d p h e f =
    let cap : 2 ^ s ≤ 4096 = (Degree-bounds d).1 in
    let l : field_power s ω n < 2 ^ s = power_lt d ω n in
    let c : get_or col i 0 ≤ 281479271743489 =
    subst (λ (k : ℕ). k ≤ 281479271743489) (sym (p.columned.at i h)) (column_le p.word i p.columned.bits) in
    let m : get_or col i 0 * x ≤ 281479271743489 * 4096 =
    mul-le-mul {n₁ = get_or col i 0} {m₁ = x} {n₂ = 281479271743489} {m₂ = 4096} c (omega arith) in
    omega arith
