-- The places of a mask as a list, made place by place: each is written where the next belongs, and stays there if it counts.
--
--   over_z, over_s, below_s      sums, one place more
--   listing_start, listing_more, listing_skip, listing_end      the places below i
--   listed_cut         the listed places cut off
--   listed_none        the mask 0 has none
--   listed_mask        the sum of 2^i over its places is the mask
use mathlib.Core.Path.{◌≡◌, refl, sym, ap, ap₂, ◌∙◌, subst}
use mathlib.Core.List.{List}
use Prim.Native.Nat.{ℕ, zero, suc, ◌+◌, ◌*◌, ◌/◌, ◌^◌, ◌≤◌, ◌<◌}
use native.Mathlib.Nat.{zero-mul, one-mul}
use native.Mathlib.Decide.{ℕ_discrete, dec_lt}
use native.Mathlib.Numerals.{add-one}
use native.Mathlib.Omega.{arith}
use lib.ListN.{length, get_or, set, take}
use lib.Seq.{get_or-set_same, get_or-set_other, get_or-take, length-take-le}
use Rattle.field.specs.Mask.{◌⊕◌, coefficient}
use Rattle.field.proofs.Xor.{digit_lt, ⊕-zero-l, ⊕-zero-r, bit_⊕, bit_ext}
use Rattle.cyclic.proofs.Places.{coefficient_above, coefficient_zero}
use Rattle.binary.proofs.Digits.{digit_same, digit_other}
use Rattle.syndrome.specs.Sums.{sum_over, sum_below, Listed}

pub over_z : (h : ℕ → ℕ) (list : List ℕ) → sum_over h list 0 ≡ 0
unfolding sum_over
over_z h list = refl

pub over_s : (h : ℕ → ℕ) (list : List ℕ) (k : ℕ) → sum_over h list (suc k) ≡ sum_over h list k ⊕ h (get_or list k 0)
unfolding sum_over
over_s h list k = refl

pub below_s : (i a : ℕ) (h : ℕ → ℕ) → sum_below (suc i) a h ≡ sum_below i a h ⊕ coefficient i a * h i
unfolding sum_below
below_s i a h = refl

-- what is written past the first k places changes nothing
over_set : (h : ℕ → ℕ) (list : List ℕ) (c x k : ℕ) → k ≤ c → sum_over h (set list c x) k ≡ sum_over h list k
over_set h list c x zero l = over_z h (set list c x) ∙ sym (over_z h list)
over_set h list c x (suc k) l =
    over_s h (set list c x) k
    ∙ ap₂ (λ (y z : ℕ). y ⊕ h z) (over_set h list c x k (omega arith)) (get_or-set_other list c k x 0 (λ q. omega arith))
    ∙ sym (over_s h list k)

pub listing_start : {a : ℕ} {list : List ℕ} → Listed 0 a list 0
unfolding sum_below
listing_start {a} {list} = record {
  le = omega arith;
  below = λ k h. absurd (omega arith);
  marked = λ k h. absurd (omega arith);
  is = λ h. over_z h list;
}

-- a place that does not count
pub listing_skip : {i a c : ℕ} {list : List ℕ} → coefficient i a ≡ 0 → Listed i a list c → Listed (i + 1) a list c
listing_skip {i} {a} {c} {list} z t = record {
  le = omega (arith, t.le);
  below = λ k b. omega (arith, t.below k b);
  marked = t.marked;
  is = λ f.
      t.is f ∙ sym (⊕-zero-r (sum_below i a f))
      ∙ ap (λ (x : ℕ). sum_below i a f ⊕ x) (sym (ap (λ (b : ℕ). b * f i) z ∙ zero-mul (f i)))
      ∙ sym (ap (λ (k : ℕ). sum_below k a f) (add-one i) ∙ below_s i a f);
}

-- what is written past the list is not in it
listed_set : {i a c : ℕ} {list : List ℕ} (x : ℕ) → Listed i a list c → Listed i a (set list c x) c
listed_set {i} {a} {c} {list} x t = record {
  le = t.le;
  below = λ k b. subst (λ (y : ℕ). y < i) (sym (get_or-set_other list c k x 0 (λ q. omega arith))) (t.below k b);
  marked = λ k b. ap (λ (y : ℕ). coefficient y a) (get_or-set_other list c k x 0 (λ q. omega arith)) ∙ t.marked k b;
  is = λ f. over_set f list c x c (omega arith) ∙ t.is f;
}

-- place i is written, and counts if the mask has it
pub listing_more : {i a c b : ℕ} {list : List ℕ} → c < length list → b ≡ coefficient i a → Listed i a list c
    → Listed (i + 1) a (set list c i) (c + b)
listing_more {i} {a} {c} {b} {list} inside e t = go (ℕ_discrete b 0)
  where
    go : Dec (b ≡ 0) → Listed (i + 1) a (set list c i) (c + b)
    go (yes z) =
        let q : c + b ≡ c = omega arith in
        subst (Listed (i + 1) a (set list c i)) (sym q) (listing_skip (sym e ∙ z) (listed_set i t))
    go (no z) =
        let one : b ≡ 1 = omega (arith, e, digit_lt (a / 2 ^ i)) in
        let q : c + b ≡ suc c = omega arith in
        subst (Listed (i + 1) a (set list c i)) (sym q) record {
          le = omega (arith, t.le);
          below = λ k l. last k l (ℕ_discrete k c);
          marked = λ k l. elim (ℕ_discrete k c) [
            | yes q ↦ ap (λ (j : ℕ). coefficient (get_or (set list c i) j 0) a) q ∙ ap (λ (y : ℕ). coefficient y a) here ∙ sym e ∙ one
            | no q ↦ ap (λ (y : ℕ). coefficient y a) (get_or-set_other list c k i 0 q) ∙ t.marked k (omega arith)
          ];
          is = λ f.
              over_s f (set list c i) c ∙ ap₂ (λ (x y : ℕ). x ⊕ f y) (over_set f list c i c (omega arith) ∙ t.is f) here
              ∙ ap (λ (x : ℕ). sum_below i a f ⊕ x) (sym (ap (λ (y : ℕ). y * f i) (sym e ∙ one) ∙ one-mul (f i)))
              ∙ sym (ap (λ (k : ℕ). sum_below k a f) (add-one i) ∙ below_s i a f);
        }
      where
        here : get_or (set list c i) c 0 ≡ i
        here = get_or-set_same list c i 0 inside

        last : (k : ℕ) → k < suc c → Dec (k ≡ c) → get_or (set list c i) k 0 < i + 1
        last k l (yes q) = subst (λ (x : ℕ). x < i + 1) (sym (ap (λ (j : ℕ). get_or (set list c i) j 0) q ∙ here)) (omega arith)
        last k l (no q) =
            let m : get_or list k 0 < i = t.below k (omega arith) in
            subst (λ (x : ℕ). x < i + 1) (sym (get_or-set_other list c k i 0 q)) (omega arith)

pub listing_end : {n i a c : ℕ} {list : List ℕ} → i ≡ n → Listed i a list c → Listed n a list c
listing_end {a = a} {c} {list} e t = subst (λ (k : ℕ). Listed k a list c) e t

-- ---- what a list says of its mask
-- the listed places cut off
sum_over_cut : (h : ℕ → ℕ) (list : List ℕ) (m k : ℕ) → k ≤ m → sum_over h (take m list) k ≡ sum_over h list k
sum_over_cut h list m zero l = over_z h (take m list) ∙ sym (over_z h list)
sum_over_cut h list m (suc k) l =
    over_s h (take m list) k
    ∙ ap₂ (λ (y z : ℕ). y ⊕ h z) (sum_over_cut h list m k (omega arith)) (get_or-take m list k 0 (omega arith))
    ∙ sym (over_s h list k)

pub listed_cut : {n a m : ℕ} {list : List ℕ} → m ≤ length list → Listed n a list m → Listed n a (take m list) (length (take m list))
listed_cut {n} {a} {m} {list} l t = subst (Listed n a (take m list)) (sym (length-take-le m list l)) cut
  where
    cut : Listed n a (take m list) m
    cut = record {
      le = t.le;
      below = λ k b. subst (λ (x : ℕ). x < n) (sym (get_or-take m list k 0 b)) (t.below k b);
      marked = λ k b. subst (λ (x : ℕ). coefficient x a ≡ 1) (sym (get_or-take m list k 0 b)) (t.marked k b);
      is = λ h. sum_over_cut h list m m (omega arith) ∙ t.is h;
    }

pub listed_none : (n : ℕ) {list : List ℕ} → Listed n 0 list 0
listed_none zero = listing_start
listed_none (suc n) {list} = subst (λ (k : ℕ). Listed k 0 list 0) (add-one n) (listing_skip (coefficient_zero n) (listed_none n))

module _ (a : ℕ) where
  marks : ℕ → ℕ
  marks i = sum_below i a (λ k. 2 ^ k)

  marks_z : marks 0 ≡ 0
  unfolding sum_below marks
  marks_z = refl

  marks_s : (i j : ℕ) → coefficient j (marks (suc i)) ≡ coefficient j (marks i) ⊕ coefficient j (coefficient i a * 2 ^ i)
  unfolding marks
  marks_s i j = ap (coefficient j) (below_s i a (λ k. 2 ^ k)) ∙ bit_⊕ j _ _

  high : (i j : ℕ) → i ≤ j → coefficient j (marks i) ≡ 0
  high zero j h = ap (coefficient j) marks_z ∙ coefficient_zero j
  high (suc i) j h =
      marks_s i j ∙ ap₂ ◌⊕◌ (high i j (omega arith)) (digit_other i j (coefficient i a) (λ q. omega arith) (digit_lt (a / 2 ^ i)))
      ∙ ⊕-zero-r 0

  low : (i j : ℕ) → j < i → coefficient j (marks i) ≡ coefficient j a
  low zero j h = absurd (omega arith)
  low (suc i) j h =
      marks_s i j
      ∙ elim (ℕ_discrete j i) [
        | yes q ↦ ap (λ (k : ℕ). coefficient k (marks i) ⊕ coefficient k (coefficient i a * 2 ^ i)) q
            ∙ ap₂ ◌⊕◌ (high i i (omega arith)) (digit_same i (coefficient i a) (digit_lt (a / 2 ^ i)))
            ∙ ⊕-zero-l (coefficient i a) ∙ ap (λ (k : ℕ). coefficient k a) (sym q)
        | no q ↦ ap₂ ◌⊕◌ (low i j (omega arith)) (digit_other i j (coefficient i a) q (digit_lt (a / 2 ^ i))) ∙ ⊕-zero-r (coefficient j a)
      ]

  pub listed_mask : {n c : ℕ} {list : List ℕ} → a < 2 ^ n → Listed n a list c → sum_over (λ k. 2 ^ k) list c ≡ a
  unfolding marks
  listed_mask {n} h t =
      t.is (λ k. 2 ^ k)
      ∙ bit_ext (λ j. elim (dec_lt j n) [
        | yes b ↦ low n j b
        | no b ↦ high n j (omega arith) ∙ sym (coefficient_above h j (omega arith))
      ])
