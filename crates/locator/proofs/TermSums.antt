-- Sums of a locator's terms at a place, and whether they are 0.
--
--   sum_z, sum_s      term by term; sum_ext: only the terms below c count
--   Summing, summing_start, summing_more, summing_end      the first m terms
--   summing_one       the next by itself
--   weight_fits       a term in the lanes of a word is below 2^64
--   Both, both_start, both_more      the first m terms in both words
--   hit_not, hit_low, hit_one        the test, as the code makes it
--   alone_is          for f = 1 + x
use mathlib.Core.Path.{◌≡◌, refl, sym, ap, ap₂, ◌∙◌, fun_ext}
use mathlib.Core.Logic.{◌≢◌}
use mathlib.Core.Bool.{Bool, false, ◌&&◌}
use mathlib.Core.List.{List}
use Prim.Native.Nat.{ℕ, zero, suc, ◌+◌, ◌*◌, ◌^◌, ◌≤◌, ◌<◌}
use native.Mathlib.Nat.{mul_comm, mul-le-mul, one-mul, zero-mul}
use native.Mathlib.Numerals.{add-one}
use native.Mathlib.Omega.{arith}
use lib.Bits.{bit_xor}
use lib.Dec.{eqb}
use lib.ListN.{get_or}
use borrow.Author.Tests.{eq-eqb, ne_eqb}
use Rattle.field.specs.Search.{total}
use Rattle.field.specs.Mask.{◌⊕◌}
use Rattle.field.specs.Field.{Degree, ω, field_power}
use Rattle.field.proofs.Xor.{⊕-assoc, ⊕-self, ⊕-zero-l, ⊕-zero-r}
use Rattle.field.proofs.Primitive.{Degree-bounds}
use Rattle.field.proofs.Numbers.{power_lt}
use Rattle.binary.specs.Lanes.{in_lanes}
use Rattle.locator.specs.Terms.{lanes, term_sum, vanishes, alone_at, vanishes_alone, Ones}

pub sum_z : (s : ℕ) (lg st : List ℕ) (κ : ℕ → ℕ) (i : ℕ) → term_sum s lg st κ i 0 ≡ 0
unfolding term_sum
sum_z s lg st κ i = refl

pub sum_s : (s : ℕ) (lg st : List ℕ) (κ : ℕ → ℕ) (i m : ℕ)
    → term_sum s lg st κ i (suc m) ≡ term_sum s lg st κ i m ⊕ κ m * field_power s ω (get_or lg m 0 + i * get_or st m 0)
unfolding term_sum
sum_s s lg st κ i m = refl

pub sum_ext : (s : ℕ) (lg st lg' st' : List ℕ) (κ κ' : ℕ → ℕ) (i c : ℕ) → ((m : ℕ) → m < c → get_or lg m 0 ≡ get_or lg' m 0)
    → ((m : ℕ) → m < c → get_or st m 0 ≡ get_or st' m 0) → ((m : ℕ) → m < c → κ m ≡ κ' m)
    → term_sum s lg st κ i c ≡ term_sum s lg' st' κ' i c
sum_ext s lg st lg' st' κ κ' i zero p q r = sum_z s lg st κ i ∙ sym (sum_z s lg' st' κ' i)
sum_ext s lg st lg' st' κ κ' i (suc m) p q r =
    sum_s s lg st κ i m
    ∙ ap₂ ◌⊕◌
    (sum_ext s lg st lg' st' κ κ' i m (λ k l. p k (omega arith)) (λ k l. q k (omega arith)) (λ k l. r k (omega arith)))
    (ap₂ (λ (x y : ℕ). x * field_power s ω y) (r m (omega arith))
    (ap₂ (λ (x y : ℕ). x + i * y) (p m (omega arith)) (q m (omega arith))))
    ∙ sym (sum_s s lg' st' κ' i m)

-- ---- in a loop
pub record Summing (s first : ℕ) (lg st : List ℕ) (κ : ℕ → ℕ) (i m a : ℕ) : Type 0 where
  pub is : a ≡ first ⊕ term_sum s lg st κ i m

pub summing_start : {s first i a : ℕ} {lg st : List ℕ} {κ : ℕ → ℕ} → a ≡ first → Summing s first lg st κ i 0 a
summing_start {s} {first} {i} {a} {lg} {st} {κ} e = record {
  is = e ∙ sym (ap (λ (x : ℕ). first ⊕ x) (sum_z s lg st κ i) ∙ ⊕-zero-r first);
}

pub summing_more : {s first i m a : ℕ} {lg st : List ℕ} {κ : ℕ → ℕ} (x : ℕ)
    → x ≡ κ m * field_power s ω (get_or lg m 0 + i * get_or st m 0) → Summing s first lg st κ i m a
    → Summing s first lg st κ i (m + 1) (bit_xor a x)
unfolding ◌⊕◌
summing_more {s} {first} {i} {m} {a} {lg} {st} {κ} x e t = record {
  is = ap₂ ◌⊕◌ t.is e ∙ ⊕-assoc first _ _
      ∙ ap (λ (y : ℕ). first ⊕ y) (sym (ap (term_sum s lg st κ i) (add-one m) ∙ sum_s s lg st κ i m));
}

pub summing_end : {s first i m c a : ℕ} {lg st : List ℕ} {κ : ℕ → ℕ} → m ≡ c → Summing s first lg st κ i m a
    → a ≡ first ⊕ term_sum s lg st κ i c
summing_end {s} {first} {i} {lg = lg} {st} {κ} e t = t.is ∙ ap (λ (k : ℕ). first ⊕ term_sum s lg st κ i k) e

-- ---- weights
pub summing_one : {s first i m a : ℕ} {lg st : List ℕ} (x : ℕ) → x ≡ field_power s ω (get_or lg m 0 + i * get_or st m 0)
    → Summing s first lg st (λ k. 1) i m a → Summing s first lg st (λ k. 1) i (m + 1) (bit_xor a x)
summing_one x e t = summing_more x (e ∙ sym (one-mul _)) t

weighed : {x y z : ℕ} (k : ℕ) → x ≡ y → y ≡ z → x * k ≡ k * z
weighed {x} {y} {z} k e f = ap (λ (v : ℕ). v * k) (e ∙ f) ∙ mul_comm z k

pub weight_fits : {s x y : ℕ} (k n : ℕ) → Degree s → x ≡ y → y ≡ field_power s ω n → k ≤ lanes 15 → x * k < 2 ^ 64
unfolding lanes in_lanes total
weight_fits {s} {x} {y} k n d e f h =
    let b : 2 ^ s ≤ 4096 = (Degree-bounds d).1 in
    let l : field_power s ω n < 2 ^ s = power_lt d ω n in
    let m : x * k ≤ 4096 * 281479271743489 = mul-le-mul {n₁ = x} {m₁ = k} {n₂ = 4096} {m₂ = 281479271743489} (omega arith) h in
    omega arith

-- ---- both words
pub record Both (s first : ℕ) (lg st lo hi : List ℕ) (i m a b : ℕ) : Type 0 where
  pub low : Summing s first lg st (λ k. get_or lo k 0) i m a
  pub high : Summing s 0 lg st (λ k. get_or hi k 0) i m b

pub both_start : {s first i a : ℕ} {lg st lo hi : List ℕ} → a ≡ first → Both s first lg st lo hi i 0 a 0
both_start e = record { low = summing_start e; high = summing_start refl }

pub both_more : {s first i m a b p q : ℕ} {lg st lo hi : List ℕ} (x y : ℕ) → p ≡ get_or lo m 0 → q ≡ get_or hi m 0 → x ≡ y
    → y ≡ field_power s ω (get_or lg m 0 + i * get_or st m 0) → Both s first lg st lo hi i m a b
    → Both s first lg st lo hi i (m + 1) (bit_xor a (x * p)) (bit_xor b (x * q))
both_more {m = m} {p = p} {q} {lo = lo} {hi} x y lo_is hi_is e f t = record {
  low = summing_more (x * p) (ap (λ (k : ℕ). x * k) lo_is ∙ weighed (get_or lo m 0) e f) t.low;
  high = summing_more (x * q) (ap (λ (k : ℕ). x * k) hi_is ∙ weighed (get_or hi m 0) e f) t.high;
}

-- ---- the test
pub hit_not : {s first i m c a b : ℕ} {lg st lo hi : List ℕ} → m ≡ c → Both s first lg st lo hi i m a b → b ≢ 0
    → false ≡ vanishes s first c lg st lo hi i
unfolding vanishes
hit_not {s} {first} {i} {m} {c} {a} {b} {lg} {st} {lo} {hi} e t n =
    sym
    (ap (λ (x : Bool). x && eqb (first ⊕ term_sum s lg st (λ k. get_or lo k 0) i c) 0)
    (ne_eqb _ 0 (λ z. n (summing_end e t.high ∙ ⊕-zero-l _ ∙ z))))

pub hit_low : {s first i m c a b : ℕ} {lg st lo hi : List ℕ} → m ≡ c → Both s first lg st lo hi i m a b → b ≡ 0
    → eqb a 0 ≡ vanishes s first c lg st lo hi i
unfolding vanishes
hit_low {s} {first} {i} {m} {c} {a} {b} {lg} {st} {lo} {hi} e t z =
    ap (λ (x : ℕ). eqb x 0) (summing_end e t.low)
    ∙ sym
    (ap (λ (x : Bool). x && eqb (first ⊕ term_sum s lg st (λ k. get_or lo k 0) i c) 0)
    (eq-eqb _ 0 (sym (⊕-zero-l _) ∙ sym (summing_end e t.high) ∙ z)))

sum_none : (s : ℕ) (lg st : List ℕ) (κ : ℕ → ℕ) (i c : ℕ) → ((m : ℕ) → m < c → κ m ≡ 0) → term_sum s lg st κ i c ≡ 0
sum_none s lg st κ i zero h = sum_z s lg st κ i
sum_none s lg st κ i (suc m) h =
    sum_s s lg st κ i m
    ∙ ap₂ ◌⊕◌ (sum_none s lg st κ i m (λ k l. h k (omega arith)))
    (ap (λ (x : ℕ). x * field_power s ω (get_or lg m 0 + i * get_or st m 0)) (h m (omega arith)) ∙ zero-mul _)
    ∙ ⊕-self 0

-- where every remainder is 1
pub hit_one : (s first i : ℕ) {c u : ℕ} (lg st : List ℕ) {lo hi : List ℕ} {r : Bool} → Ones u c lo hi → u ≡ 1
    → r ≡ eqb (first ⊕ term_sum s lg st (λ m. 1) i c) 0 → r ≡ vanishes s first c lg st lo hi i
unfolding vanishes
hit_one s first i {c} {u} lg st {lo} {hi} {r} l e q =
    q
    ∙ ap (λ (x : ℕ). eqb (first ⊕ x) 0)
    (sum_ext s lg st lg st (λ m. 1) (λ m. get_or lo m 0) i c (λ m h. refl) (λ m h. refl) (λ m h. sym (l.lo_one e m h)))
    ∙ sym
    (ap (λ (x : ℕ). eqb x 0 && eqb (first ⊕ term_sum s lg st (λ m. get_or lo m 0) i c) 0)
    (sum_none s lg st (λ m. get_or hi m 0) i c (l.hi_one e)))

-- ---- for f = 1 + x
pub alone_is : (s first : ℕ) {c u : ℕ} (lg st : List ℕ) {lo hi : List ℕ} → Ones u c lo hi → u ≡ 1
    → vanishes_alone s first c lg st ≡ vanishes s first c lg st lo hi
unfolding vanishes_alone alone_at
alone_is s first lg st l e = fun_ext (λ i. hit_one s first i lg st l e refl)
