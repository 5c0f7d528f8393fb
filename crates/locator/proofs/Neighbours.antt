-- Four neighbouring places at once, i, i + 1, i + 2 and i + 3, for f = 1 + x.
--
--   Neighbours, neighbours_start, neighbours_more      their sums after m terms
--   neighbours_end    and after them all
--   Fours, fours_start, fours_more      the search, four places a turn
--   fours_length      a turn leaves the list as long as it is
--   fours_many, fours_all      its two ends
use mathlib.Core.Path.{◌≡◌, refl, ap, ap₂, ◌∙◌}
use mathlib.Core.List.{List}
use Prim.Native.Nat.{ℕ, ◌+◌, ◌-◌, ◌*◌, ◌/◌, ◌%◌, ◌^◌, ◌≤◌, ◌<◌}
use native.Mathlib.Omega.{arith}
use lib.Bits.{bit_xor}
use Rattle.field.specs.Mask.{◌⊕◌}
use lib.Dec.{eqb}
use lib.ListN.{length, get_or}
use Rattle.field.specs.Field.{ω, field_power}
use Rattle.field.specs.Tables.{Powered}
use Rattle.field.proofs.Exponents.{looked, looked_on, looked_next}
use Rattle.locator.specs.Terms.{alone_at, vanishes_alone}
use Rattle.locator.specs.Locate.{NotedBelow, hits, Found}
use Rattle.locator.proofs.TermSums.{Summing, summing_start, summing_one, summing_end}
use Rattle.locator.proofs.Finding.{noted_below_le, noted_below_length, FindingBelow, below_start, below_four, below_all, below_many}

pub record Neighbours (s i : ℕ) (lg st : List ℕ) (m first second third fourth : ℕ) : Type 0 where
  pub at_0 : Summing s 0 lg st (λ k. 1) i m first
  pub at_1 : Summing s 0 lg st (λ k. 1) (i + 1) m second
  pub at_2 : Summing s 0 lg st (λ k. 1) (i + 2) m third
  pub at_3 : Summing s 0 lg st (λ k. 1) (i + 3) m fourth

pub neighbours_start : {s i : ℕ} {lg st : List ℕ} → Neighbours s i lg st 0 0 0 0 0
neighbours_start = record {
  at_0 = summing_start refl;
  at_1 = summing_start refl;
  at_2 = summing_start refl;
  at_3 = summing_start refl;
}

-- a term of exponent l and step z
pub neighbours_more : {s i m a b c d y l z : ℕ} {lg st e : List ℕ} → Powered s e → l ≡ get_or lg m 0 → z ≡ get_or st m 0 → z < 2 ^ s - 1
    → (y ≡ (l + i * z) % 2 ^ s + (l + i * z) / 2 ^ s) × (y < 2 * (2 ^ s - 1)) → Neighbours s i lg st m a b c d
    → Neighbours s i lg st (m + 1) (bit_xor a (get_or e y 0)) (bit_xor b (get_or e (y + z) 0))
    (bit_xor c (get_or e (y + 2 * z) 0)) (bit_xor d (get_or e (y + 3 * z) 0))
neighbours_more {s} {i} p l_is z_is h (q, b) t = record {
  at_0 = summing_one _ (looked _ _ _ p q b ∙ ap₂ (λ (x w : ℕ). field_power s ω (x + i * w)) l_is z_is) t.at_0;
  at_1 = summing_one _ (looked_next _ _ _ p q b h ∙ ap₂ (λ (x w : ℕ). field_power s ω (x + (i + 1) * w)) l_is z_is) t.at_1;
  at_2 = summing_one _ (looked_on _ _ _ 2 p q b h (omega arith) ∙ ap₂ (λ (x w : ℕ). field_power s ω (x + (i + 2) * w)) l_is z_is) t.at_2;
  at_3 = summing_one _ (looked_on _ _ _ 3 p q b h (omega arith) ∙ ap₂ (λ (x w : ℕ). field_power s ω (x + (i + 3) * w)) l_is z_is) t.at_3;
}

pub neighbours_end : (constant : ℕ) {s count i m a b c d : ℕ} {lg st : List ℕ} → m ≡ count → Neighbours s i lg st m a b c d
    → (bit_xor constant a ≡ alone_at s constant count lg st i) × (bit_xor constant b ≡ alone_at s constant count lg st (i + 1))
    × (bit_xor constant c ≡ alone_at s constant count lg st (i + 2)) × (bit_xor constant d ≡ alone_at s constant count lg st (i + 3))
unfolding alone_at ◌⊕◌
neighbours_end constant all t = (
  ap (bit_xor constant) (summing_end all t.at_0),
  ap (bit_xor constant) (summing_end all t.at_1),
  ap (bit_xor constant) (summing_end all t.at_2),
  ap (bit_xor constant) (summing_end all t.at_3),
)

-- ---- the search
pub record Fours (n t s constant count : ℕ) (lg st list₀ list : List ℕ) (c i : ℕ) : Type 0 where
  pub kept : length list ≡ length list₀
  pub below : FindingBelow n (vanishes_alone s constant count lg st) i c list
  pub c_t : c ≤ t
  pub c_i : c ≤ i

pub fours_start : {n t s constant count : ℕ} {lg st list : List ℕ} → n ≤ length list → Fours n t s constant count lg st list list 0 0
fours_start o = record {
  kept = refl;
  below = below_start o;
  c_t = omega arith;
  c_i = omega arith;
}

module _ {n t s constant count i c r₀ r₁ r₂ r₃ a₀ a₁ a₂ a₃ : ℕ} {lg st l l₀ l₁ l₂ l₃ l₄ : List ℕ}
    (x : (a₀ ≡ alone_at s constant count lg st i) × (a₁ ≡ alone_at s constant count lg st (i + 1))
    × (a₂ ≡ alone_at s constant count lg st (i + 2)) × (a₃ ≡ alone_at s constant count lg st (i + 3)))
    (m₀ : NotedBelow n (eqb a₀ 0) c i l₀ l₁ r₀) (m₁ : NotedBelow n (eqb a₁ 0) (c + r₀) (i + 1) l₁ l₂ r₁)
    (m₂ : NotedBelow n (eqb a₂ 0) (c + r₀ + r₁) (i + 2) l₂ l₃ r₂)
    (m₃ : NotedBelow n (eqb a₃ 0) (c + r₀ + r₁ + r₂) (i + 3) l₃ l₄ r₃) (v : Fours n t s constant count lg st l l₀ c i) where
  next : FindingBelow n (vanishes_alone s constant count lg st) (i + 4) (c + r₀ + r₁ + r₂ + r₃) l₄
  unfolding vanishes_alone
  next =
      below_four (ap (λ (y : ℕ). eqb y 0) x.0) (ap (λ (y : ℕ). eqb y 0) x.1) (ap (λ (y : ℕ). eqb y 0) x.2)
      (ap (λ (y : ℕ). eqb y 0) x.3) m₀ m₁ m₂ m₃ v.below

  pub fours_length : length l₄ ≡ length l
  fours_length =
      omega (arith, noted_below_length m₀, noted_below_length m₁, noted_below_length m₂, noted_below_length m₃, v.kept)

  pub fours_more : c + r₀ + r₁ + r₂ + r₃ ≤ t → Fours n t s constant count lg st l l₄ (c + r₀ + r₁ + r₂ + r₃) (i + 4)
  fours_more h = record {
    kept = fours_length;
    below = next;
    c_t = h;
    c_i = omega (arith, v.c_i, noted_below_le m₀, noted_below_le m₁, noted_below_le m₂, noted_below_le m₃);
  }

  pub fours_many : t < c + r₀ + r₁ + r₂ + r₃ → Found n t (hits n (vanishes_alone s constant count lg st)) l₄ (c + r₀ + r₁ + r₂ + r₃)
  fours_many h = below_many h next

pub fours_all : {n t s constant count c i : ℕ} {lg st l₀ l : List ℕ} → n ≤ i → Fours n t s constant count lg st l₀ l c i
    → Found n t (hits n (vanishes_alone s constant count lg st)) l c
fours_all h v = below_all h v.c_t v.below
