-- The sums of a word's four lanes put together by Horner's rule: the place in a lane is one after that in the lane below it, so that its
-- lane's sum counts ω^by times.
--
--   run_lt, lane_lt       sums of powers are elements
--   horner                the sum over 4 b places by those over the b columns of each lane
--   sum_lt, valued        the value, as the code puts it together
--   run_below             over all places of a mask it is the mask's value
use mathlib.Core.Path.{◌≡◌, sym, ap, ap₂, ◌∙◌, subst}
use mathlib.Core.List.{List}
use Prim.Native.Nat.{ℕ, zero, suc, ◌+◌, ◌*◌, ◌^◌, ◌<◌}
use native.Mathlib.Nat.{add-mul, one-mul, zero-mul}
use native.Mathlib.Omega.{arith}
use lib.Bits.{bit_xor}
use lib.ListN.{length, get_or}
use lib.Pow.{pow_pos}
use Rattle.field.specs.Mask.{◌⊕◌}
use Rattle.field.specs.Field.{Degree, ω, field_multiply, field_power}
use Rattle.field.proofs.Xor.{digit, ⊕-assoc, ⊕-lt, ⊕-swap4, ⊕-zero-r}
use Rattle.field.proofs.Numbers.{power_lt, power_add, multiply_lt, multiply_add, multiply_zero}
use Rattle.binary.specs.Bits.{Holds}
use Rattle.binary.specs.Lanes.{lane}
use Rattle.syndrome.specs.Sums.{sum_below}
use Rattle.syndrome.specs.Columns.{run_sum, Summable, LaneSums, Valued}
use Rattle.syndrome.proofs.Columning.{run_z, run_s}

module _ {s : ℕ} (d : Degree s) where
  multiply_digit : (x c : ℕ) → c < 2 → (y : ℕ) → c * field_multiply s x y ≡ field_multiply s x (c * y)
  multiply_digit x c h y =
      digit (λ (b : ℕ). b * field_multiply s x y ≡ field_multiply s x (b * y))
      (zero-mul (field_multiply s x y) ∙ sym (ap (field_multiply s x) (zero-mul y) ∙ multiply_zero d x))
      (one-mul (field_multiply s x y) ∙ sym (ap (field_multiply s x) (one-mul y))) c h

  -- a ⊕ x u, term by term
  level : (x a b u v : ℕ) → (a ⊕ b) ⊕ field_multiply s x (u ⊕ v) ≡ (a ⊕ field_multiply s x u) ⊕ (b ⊕ field_multiply s x v)
  level x a b u v = ap (λ (y : ℕ). (a ⊕ b) ⊕ y) (multiply_add d x u v) ∙ ⊕-swap4 a b (field_multiply s x u) (field_multiply s x v)

  pub run_lt : (f p : ℕ → ℕ) → ((i : ℕ) → p i < 2) → (m : ℕ) → run_sum (λ i. field_power s ω (f i)) p m < 2 ^ s
  run_lt f p bits zero = subst (λ (x : ℕ). x < 2 ^ s) (sym (run_z (λ i. field_power s ω (f i)) p)) (pow_pos s)
  run_lt f p bits (suc m) =
      subst (λ (x : ℕ). x < 2 ^ s) (sym (run_s (λ i. field_power s ω (f i)) p m))
      (⊕-lt s _ _ (run_lt f p bits m)
      (digit (λ (b : ℕ). b * field_power s ω (f m) < 2 ^ s)
      (subst (λ (x : ℕ). x < 2 ^ s) (sym (zero-mul (field_power s ω (f m)))) (pow_pos s))
      (subst (λ (x : ℕ). x < 2 ^ s) (sym (one-mul (field_power s ω (f m)))) (power_lt d ω (f m))) (p m) (bits m)))

  module _ (by : ℕ) (p : ℕ → ℕ) (bits : (i : ℕ) → p i < 2) where
    abbrev X : ℕ
    X = field_power s ω by

    -- four numbers by Horner's rule
    abbrev rule : ℕ → ℕ → ℕ → ℕ → ℕ
    rule a b c e = a ⊕ field_multiply s X (b ⊕ field_multiply s X (c ⊕ field_multiply s X e))

    rule_add : (a b c e a' b' c' e' : ℕ) → rule (a ⊕ a') (b ⊕ b') (c ⊕ c') (e ⊕ e') ≡ rule a b c e ⊕ rule a' b' c' e'
    rule_add a b c e a' b' c' e' =
        let third = level X c c' e e' in
        let second = ap (λ (y : ℕ). (b ⊕ b') ⊕ field_multiply s X y) third ∙ level X b b' (c ⊕ field_multiply s X e) (c' ⊕ field_multiply s X e') in
        ap (λ (y : ℕ). (a ⊕ a') ⊕ field_multiply s X y) second
        ∙ level X a a' (b ⊕ field_multiply s X (c ⊕ field_multiply s X e)) (b' ⊕ field_multiply s X (c' ⊕ field_multiply s X e'))

    -- the digit of place k + j with the power of place k + m, and that power one place on
    abbrev term : ℕ → ℕ → ℕ → ℕ
    term k j m = p (k + j) * field_power s ω ((k + m) * by)

    up : (k j m : ℕ) → field_multiply s X (term k j m) ≡ term k j (suc m)
    up k j m =
        let one : k + suc m ≡ k + m + 1 = omega arith in
        let e : by + (k + m) * by ≡ (k + suc m) * by = omega (arith, add-mul (k + m) 1 by, one-mul by, ap (λ (x : ℕ). x * by) one) in
        sym (multiply_digit X (p (k + j)) (bits (k + j)) (field_power s ω ((k + m) * by)))
        ∙ ap (λ (y : ℕ). p (k + j) * y) (power_add d ω by ((k + m) * by) ∙ ap (field_power s ω) e)

    -- four neighbouring places
    four : (k : ℕ) → rule (term k 0 0) (term k 1 0) (term k 2 0) (term k 3 0) ≡ term k 0 0 ⊕ (term k 1 1 ⊕ (term k 2 2 ⊕ term k 3 3))
    four k =
        let e₂ : field_multiply s X (term k 2 0 ⊕ field_multiply s X (term k 3 0)) ≡ term k 2 1 ⊕ term k 3 2 =
        ap (λ (y : ℕ). field_multiply s X (term k 2 0 ⊕ y)) (up k 3 0) ∙ multiply_add d X (term k 2 0) (term k 3 1)
        ∙ ap₂ ◌⊕◌ (up k 2 0) (up k 3 1) in
        ap (λ (y : ℕ). term k 0 0 ⊕ y)
        (ap (λ (y : ℕ). field_multiply s X (term k 1 0 ⊕ y)) e₂ ∙ multiply_add d X (term k 1 0) (term k 2 1 ⊕ term k 3 2)
        ∙ ap₂ ◌⊕◌ (up k 1 0) (multiply_add d X (term k 2 1) (term k 3 2) ∙ ap₂ ◌⊕◌ (up k 2 1) (up k 3 2)))

    -- the sum over all places, and over every fourth from j on
    abbrev whole : ℕ → ℕ
    whole m = run_sum (λ i. field_power s ω (i * by)) p m

    abbrev in_lane : ℕ → ℕ → ℕ
    in_lane j m = run_sum (λ i. field_power s ω (4 * i * by)) (λ i. p (4 * i + j)) m

    whole_more : {i : ℕ} (k j : ℕ) → i ≡ k + j → whole (suc i) ≡ whole i ⊕ term k j j
    whole_more {i} k j e =
        run_s (λ i. field_power s ω (i * by)) p i ∙ ap (λ (m : ℕ). whole i ⊕ p m * field_power s ω (m * by)) e

    in_lane_more : (b j : ℕ) → in_lane j (suc b) ≡ in_lane j b ⊕ term (4 * b) j 0
    in_lane_more b j =
        let e : 4 * b ≡ 4 * b + 0 = omega arith in
        run_s (λ i. field_power s ω (4 * i * by)) (λ i. p (4 * i + j)) b
        ∙ ap (λ (m : ℕ). in_lane j b ⊕ p (4 * b + j) * field_power s ω (m * by)) e

    in_lane_none : (j : ℕ) → in_lane j 0 ≡ 0
    in_lane_none j = run_z (λ i. field_power s ω (4 * i * by)) (λ i. p (4 * i + j))

    rule_none : rule 0 0 0 0 ≡ 0
    rule_none =
        let z : 0 ⊕ field_multiply s X 0 ≡ 0 = ap (λ (y : ℕ). 0 ⊕ y) (multiply_zero d X) ∙ ⊕-zero-r 0 in
        ap (λ (y : ℕ). 0 ⊕ field_multiply s X (0 ⊕ field_multiply s X y)) z ∙ ap (λ (y : ℕ). 0 ⊕ field_multiply s X y) z ∙ z

    pub horner : (b : ℕ) → whole (4 * b) ≡ rule (in_lane 0 b) (in_lane 1 b) (in_lane 2 b) (in_lane 3 b)
    horner zero =
        run_z (λ i. field_power s ω (i * by)) p
        ∙ sym ((λ x. rule (in_lane_none 0 x) (in_lane_none 1 x) (in_lane_none 2 x) (in_lane_none 3 x)) ∙ rule_none)
    horner (suc b) =
        let k : ℕ = 4 * b in
        let e : 4 * suc b ≡ suc (suc (suc (suc k))) = omega arith in
        ap whole e
        ∙ whole_more k 3 (omega arith)
        ∙ ap (λ (y : ℕ). y ⊕ term k 3 3)
        (whole_more k 2 (omega arith)
        ∙ ap (λ (y : ℕ). y ⊕ term k 2 2)
        (whole_more k 1 (omega arith) ∙ ap (λ (y : ℕ). y ⊕ term k 1 1) (whole_more k 0 (omega arith))))
        ∙ ⊕-assoc ((whole k ⊕ term k 0 0) ⊕ term k 1 1) (term k 2 2) (term k 3 3)
        ∙ ⊕-assoc (whole k ⊕ term k 0 0) (term k 1 1) (term k 2 2 ⊕ term k 3 3)
        ∙ ⊕-assoc (whole k) (term k 0 0) (term k 1 1 ⊕ (term k 2 2 ⊕ term k 3 3))
        ∙ ap₂ ◌⊕◌ (horner b) (sym (four k))
        ∙ sym (rule_add (in_lane 0 b) (in_lane 1 b) (in_lane 2 b) (in_lane 3 b) (term k 0 0) (term k 1 0) (term k 2 0) (term k 3 0))
        ∙ sym (λ x. rule (in_lane_more b 0 x) (in_lane_more b 1 x) (in_lane_more b 2 x) (in_lane_more b 3 x))

-- ---- as the code puts it together
module _ {s by a : ℕ} {col : List ℕ} (d : Degree s) (p : Summable s by col) (t : LaneSums (length col) s by col a) where
  pub lane_lt : {x : ℕ} (j : ℕ) → j < 4 → x ≡ lane j a → x < 2 ^ s
  lane_lt j h q =
      subst (λ (y : ℕ). y < 2 ^ s) (sym (q ∙ t.at p.word p.columned j h))
      (run_lt d (λ i. 4 * i * by) (λ i. get_or p.word (4 * i + j) 0) (λ i. p.columned.bits (4 * i + j)) (length col))

  pub sum_lt : {x y : ℕ} (j z : ℕ) → j < 4 → x ≡ lane j a → y ≡ field_multiply s (field_power s ω by) z → bit_xor x y < 2 ^ s
  unfolding ◌⊕◌
  sum_lt {x} {y} j z h q r =
      ⊕-lt s x y (lane_lt j h q) (subst (λ (v : ℕ). v < 2 ^ s) (sym r) (multiply_lt d (field_power s ω by) z))

  pub valued : {x₀ x₁ x₂ x₃ y₁ y₂ y₃ : ℕ} → x₀ ≡ lane 0 a → x₁ ≡ lane 1 a → x₂ ≡ lane 2 a → x₃ ≡ lane 3 a
      → y₃ ≡ field_multiply s (field_power s ω by) x₃ → y₂ ≡ field_multiply s (field_power s ω by) (bit_xor x₂ y₃)
      → y₁ ≡ field_multiply s (field_power s ω by) (bit_xor x₁ y₂) → Valued (length col) s by col (bit_xor x₀ y₁)
  unfolding ◌⊕◌
  valued {x₀} {x₁} {x₂} {x₃} {y₁} {y₂} {y₃} q₀ q₁ q₂ q₃ e₃ e₂ e₁ = record {
    is = λ w c.
        ap₂ ◌⊕◌ (q₀ ∙ t.at w c 0 (omega arith))
        (e₁ ∙ ap (field_multiply s (field_power s ω by))
        (ap₂ ◌⊕◌ (q₁ ∙ t.at w c 1 (omega arith))
        (e₂ ∙ ap (field_multiply s (field_power s ω by))
        (ap₂ ◌⊕◌ (q₂ ∙ t.at w c 2 (omega arith))
        (e₃ ∙ ap (field_multiply s (field_power s ω by)) (q₃ ∙ t.at w c 3 (omega arith)))))))
        ∙ sym (horner d by (λ i. get_or w i 0) c.bits (length col));
    lt = sum_lt 0 (bit_xor x₁ y₂) (omega arith) q₀ e₁;
  }

-- ---- all places of a mask
pub run_below : (h : ℕ → ℕ) {a : ℕ} {w : List ℕ} → Holds a w → (m : ℕ) → run_sum h (λ i. get_or w i 0) m ≡ sum_below m a h
unfolding sum_below
run_below h {a} {w} p zero = run_z h (λ i. get_or w i 0)
run_below h {a} {w} p (suc m) =
    run_s h (λ i. get_or w i 0) m ∙ ap₂ ◌⊕◌ (run_below h p m) (ap (λ (x : ℕ). x * h m) (p.at m))
