-- The places found, one at a time.
--
--   hits_lt, hits_at      the mask of all hits, whose places pass the test
--   Finding, finding_start, finding_more, finding_all, finding_many      the first i places
--   FindingBelow, below_start, below_four, below_all, below_many      those of them that are below n
--   noted_le, noted_below_le      a place is counted at most once
--   noted_below_length      and the list stays as long as it is
use mathlib.Core.Path.{◌≡◌, refl, sym, ap, ◌∙◌, subst}
use mathlib.Core.Bool.{Bool, true, false}
use mathlib.Core.List.{List}
use Prim.Native.Nat.{ℕ, zero, suc, ◌+◌, ◌-◌, ◌^◌, ◌≤◌, ◌<◌}
use native.Mathlib.Decide.{dec_lt}
use native.Mathlib.Numerals.{add-one}
use native.Mathlib.Omega.{arith}
use lib.ListN.{length, length-set}
use Rattle.field.specs.Mask.{coefficient}
use Rattle.cyclic.proofs.Places.{gather_at, gather_lt, count, count_z, count_s}
use Rattle.field.specs.Search.{bit}
use Rattle.syndrome.specs.Sums.{Listed}
use Rattle.syndrome.proofs.Listing.{listing_start, listing_more, listing_end}
use Rattle.locator.specs.Locate.{Noted, NotedBelow, hits, Found}

-- ---- masks of places
bit_lt : (b : Bool) → bit b < 2
bit_lt true = omega arith
bit_lt false = omega arith

pub hits_lt : (n : ℕ) (test : ℕ → Bool) → hits n test < 2 ^ n
unfolding hits
hits_lt n test = gather_lt n _ (λ i. bit_lt (test i))

pub hits_at : (n : ℕ) (test : ℕ → Bool) (i : ℕ) → i < n → coefficient i (hits n test) ≡ bit (test i)
unfolding hits
hits_at n test i h = gather_at n _ (λ j. bit_lt (test j)) i h

-- ---- the search
pub noted_le : {hit : Bool} {c i r : ℕ} {list list' : List ℕ} → Noted hit c i list list' r → r ≤ 1
noted_le {hit} m = omega (arith, m.is, bit_lt hit)

pub record Finding (n : ℕ) (test : ℕ → Bool) (i c : ℕ) (list : List ℕ) : Type 0 where
  pub counted : c ≡ count i (hits n test)
  pub listed : Listed i (hits n test) list c
  pub long : n ≤ length list

pub finding_start : {n : ℕ} {test : ℕ → Bool} {list : List ℕ} → n ≤ length list → Finding n test 0 0 list
finding_start {n} {test} l = record { counted = sym (count_z (hits n test)); listed = listing_start; long = l }

pub finding_more : {n : ℕ} {test : ℕ → Bool} {i c r : ℕ} {hit : Bool} {list list' : List ℕ} → i < n → hit ≡ test i
    → Noted hit c i list list' r → Finding n test i c list → Finding n test (i + 1) (c + r) list'
finding_more {n} {test} {i} {c} {r} {hit} {list} {list'} l e m t = record {
  counted = omega (arith, t.counted, here, ap (λ (k : ℕ). count k (hits n test)) (add-one i) ∙ count_s i (hits n test));
  listed = subst (λ (v : List ℕ). Listed (i + 1) (hits n test) v (c + r)) (sym m.made)
      (listing_more (omega (arith, t.listed.le, t.long)) here t.listed);
  long = subst (λ (v : List ℕ). n ≤ length v) (sym m.made) (simp length-set t.long);
}
  where
    here : r ≡ coefficient i (hits n test)
    here = m.is ∙ ap bit e ∙ sym (hits_at n test i l)

pub finding_all : {n : ℕ} {test : ℕ → Bool} {t i c : ℕ} {list : List ℕ} → i ≡ n → c ≤ t → Finding n test i c list
    → Found n t (hits n test) list c
finding_all {n} {test} e l f = record {
  all = λ h. (f.counted ∙ ap (λ (k : ℕ). count k (hits n test)) e, listing_end e f.listed);
  many = λ h. absurd (omega arith);
}

count_le : (a i k : ℕ) → count i a ≤ count (i + k) a
count_le a i zero = let e : i + 0 ≡ i = omega arith in rw e (omega arith)
count_le a i (suc k) =
    let e : i + suc k ≡ suc (i + k) = omega arith in
    let q : count (suc (i + k)) a ≡ count (i + k) a + coefficient (i + k) a = count_s (i + k) a in
    rw e (omega (arith, count_le a i k))

pub finding_many : {n : ℕ} {test : ℕ → Bool} {t i c : ℕ} {list : List ℕ} → i ≤ n → t < c → Finding n test i c list
    → Found n t (hits n test) list c
finding_many {n} {test} {t} {i} l h f = record {
  all = λ k. absurd (omega arith);
  many = λ k.
      let e : i + (n - i) ≡ n = omega arith in
      let m : count i (hits n test) ≤ count n (hits n test) =
      subst (λ (x : ℕ). count i (hits n test) ≤ count x (hits n test)) e (count_le (hits n test) i (n - i)) in
      omega (arith, f.counted);
}

-- ---- the places below n of the first i
pub record FindingBelow (n : ℕ) (test : ℕ → Bool) (i c : ℕ) (list : List ℕ) : Type 0 where
  pub upto : ℕ
  pub low : i ≤ n → upto ≡ i
  pub high : n ≤ i → upto ≡ n
  pub finding : Finding n test upto c list

pub below_start : {n : ℕ} {test : ℕ → Bool} {list : List ℕ} → n ≤ length list → FindingBelow n test 0 0 list
below_start l = record { upto = 0; low = λ h. refl; high = λ h. omega arith; finding = finding_start l }

below_more : {n : ℕ} {test : ℕ → Bool} {i c r : ℕ} {hit : Bool} {list list' : List ℕ} → hit ≡ test i
    → NotedBelow n hit c i list list' r → FindingBelow n test i c list → FindingBelow n test (i + 1) (c + r) list'
below_more {n} {test} {i} {c} {r} {hit} {list} {list'} e m t =
    elim (dec_lt i n) [
      | yes h ↦ (let q : t.upto ≡ i = t.low (omega arith) in
          record {
            upto = i + 1;
            low = λ l. refl;
            high = λ l. omega arith;
            finding = finding_more h e (m.inside h) (subst (λ (k : ℕ). Finding n test k c list) q t.finding);
          })
      | no h ↦ (let l : n ≤ i = omega arith in
          let o = m.outside l in
          let q : c ≡ c + r = omega (arith, o.0) in
          record {
            upto = t.upto;
            low = λ z. absurd (omega arith);
            high = λ z. t.high l;
            finding =
                subst (λ (k : ℕ). Finding n test t.upto k list') q
                (subst (λ (v : List ℕ). Finding n test t.upto c v) (sym o.1) t.finding);
          })
    ]

pub below_four : {n : ℕ} {test : ℕ → Bool} {i c r₀ r₁ r₂ r₃ : ℕ} {h₀ h₁ h₂ h₃ : Bool} {l₀ l₁ l₂ l₃ l₄ : List ℕ}
    → h₀ ≡ test i → h₁ ≡ test (i + 1) → h₂ ≡ test (i + 2) → h₃ ≡ test (i + 3)
    → NotedBelow n h₀ c i l₀ l₁ r₀ → NotedBelow n h₁ (c + r₀) (i + 1) l₁ l₂ r₁
    → NotedBelow n h₂ (c + r₀ + r₁) (i + 2) l₂ l₃ r₂ → NotedBelow n h₃ (c + r₀ + r₁ + r₂) (i + 3) l₃ l₄ r₃
    → FindingBelow n test i c l₀ → FindingBelow n test (i + 4) (c + r₀ + r₁ + r₂ + r₃) l₄
below_four {n} {test} {i} e₀ e₁ e₂ e₃ m₀ m₁ m₂ m₃ t =
    next 3 4 (omega arith) (below_more e₃ m₃ (next 2 3 (omega arith) (below_more e₂ m₂ (next 1 2 (omega arith) (below_more e₁ m₁ (below_more e₀ m₀ t))))))
  where
    next : {d : ℕ} {v : List ℕ} (a b : ℕ) → a + 1 ≡ b → FindingBelow n test (i + a + 1) d v → FindingBelow n test (i + b) d v
    next {d} {v} a b q f = let o : i + a + 1 ≡ i + b = omega arith in subst (λ (k : ℕ). FindingBelow n test k d v) o f

pub noted_below_le : {n : ℕ} {hit : Bool} {c i r : ℕ} {list list' : List ℕ} → NotedBelow n hit c i list list' r → r ≤ 1
noted_below_le {n} {i = i} m =
    elim (dec_lt i n) [
      | yes h ↦ noted_le (m.inside h)
      | no h ↦ (let o = m.outside (omega arith) in omega (arith, o.0))
    ]

pub noted_below_length : {n : ℕ} {hit : Bool} {c i r : ℕ} {list list' : List ℕ} → NotedBelow n hit c i list list' r
    → length list' ≡ length list
noted_below_length {n} {i = i} m =
    elim (dec_lt i n) [
      | yes h ↦ ap length (m.inside h).made ∙ simp length-set
      | no h ↦ ap length (m.outside (omega arith)).1
    ]

pub below_all : {n : ℕ} {test : ℕ → Bool} {t i c : ℕ} {list : List ℕ} → n ≤ i → c ≤ t → FindingBelow n test i c list
    → Found n t (hits n test) list c
below_all h l f = finding_all (f.high h) l f.finding

pub below_many : {n : ℕ} {test : ℕ → Bool} {t i c : ℕ} {list : List ℕ} → t < c → FindingBelow n test i c list
    → Found n t (hits n test) list c
below_many {n} {i = i} h f =
    elim (dec_lt i n) [
      | yes l ↦ finding_many (omega (arith, f.low (omega arith))) h f.finding
      | no l ↦ finding_many (omega (arith, f.high (omega arith))) h f.finding
    ]
