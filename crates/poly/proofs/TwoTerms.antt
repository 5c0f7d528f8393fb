-- Two terms of the quotient at once, where a is longer than b. The second is that of what the first leaves.
--
--   second_is                          the second coefficient after the first term
--   second_lt, second_log_lt           it is an element, and the second term's logarithm has its bound
--   two_addable_a, two_addable_w       both terms fit in both slices
--   cancelled_two                      they take the two leading coefficients away
--   reduced_two                        together they are one quotient
use mathlib.Core.Path.{◌≡◌, refl, sym, ap, ◌∙◌, subst}
use mathlib.Core.Logic.{◌≢◌}
use mathlib.Core.List.{List}
use Prim.Native.Nat.{ℕ, suc, ◌+◌, ◌-◌, ◌*◌, ◌^◌, ◌≤◌, ◌<◌}
use native.Mathlib.Omega.{arith}
use lib.Bits.{bit_xor}
use lib.ListN.{length, get_or, take}
use Rattle.algebra.proofs.Series.{Ser, add_at}
use Rattle.algebra.proofs.Poly.{Below, Below-weaken, Below-add, mono, mono_below, mono_mul_at}
use Rattle.field.specs.Mask.{◌⊕◌}
use Rattle.field.specs.Field.{Degree, ω, field_multiply, field_power, logarithm}
use Rattle.field.proofs.Xor.{⊕-lt}
use Rattle.field.proofs.Elements.{F, GF, el, el_add, el_mul}
use Rattle.field.proofs.Numbers.{product_lt}
use Rattle.poly.specs.Slice.{Short, series}
use Rattle.poly.specs.Division.{plus, Addable, AddedTwo, LengthOf, InverseAt, Cancels, Second, Reducible, Reduced}
use Rattle.poly.proofs.Slices.{short_of, series_cut}
use Rattle.poly.proofs.Reducing.{by_inverse, first_term, addable_a, addable_w, struck, leading_below, more_added}

added_two_whole : {s i k₀ k₁ n : ℕ} {a b a' : List ℕ} → n ≤ length b → Short n b → AddedTwo s i k₀ k₁ a (take n b) a' → AddedTwo s i k₀ k₁ a b a'
added_two_whole {s} {i} {k₀} {k₁} {n} {a} {b} {a'} h o z = record {
  small = z.small;
  is = λ d. z.is d
      ∙ ap (λ q. plus d (plus d (series d a) (mono (GF d) (i + 1) (el d (field_power s ω k₁))) q) (mono (GF d) i (el d (field_power s ω k₀))) q)
      (series_cut h o d);
}

pub second_is : {s k la lb y : ℕ} {a b : List ℕ} → lb < la → 1 < lb → y ≡ field_multiply s (field_power s ω k) (get_or b (lb - 2) 0)
    → Second s k la lb a b (bit_xor (get_or a (la - 2) 0) y)
unfolding ◌⊕◌
second_is {la = la} {a = a} h q e = record { longer = h; b_two = q; is = ap (bit_xor (get_or a (la - 2) 0)) e }

module _ {s la lb lv k : ℕ} {a b w v : List ℕ} (d : Degree s) (p : Reducible s la lb lv a b w v) (l : lb ≤ la)
    (o : InverseAt s k (get_or b (lb - 1) 0)) {i₁ : ℕ} (i₁_is : i₁ ≡ logarithm s (get_or a (la - 1) 0)) {y : ℕ}
    (t : Second s (i₁ + k) la lb a b y) where
  one : Cancels s (i₁ + k) (get_or a (la - 1) 0) (get_or b (lb - 1) 0)
  one = first_term d p l o i₁_is

  pub second_lt : y < 2 ^ s
  second_lt =
      subst (λ (x : ℕ). x < 2 ^ s) (sym t.is) (⊕-lt s _ _ (p.a_small.at (la - 2)) (product_lt d _ _ refl))

  up : la - lb ≡ la - lb - 1 + 1
  up = omega (arith, t.longer)

  pub two_addable_a : Addable s (la - lb - 1 + 1) (i₁ + k) a (take lb b)
  two_addable_a = subst (λ (j : ℕ). Addable s j (i₁ + k) a (take lb b)) up (addable_a d p l one)

  pub two_addable_w : Addable s (la - lb - 1 + 1) (i₁ + k) w (take lv v)
  two_addable_w = subst (λ (j : ℕ). Addable s j (i₁ + k) w (take lv v)) up (addable_w d p l one)

  module _ (y_ne : y ≢ 0) {i₀ : ℕ} (i₀_is : i₀ ≡ logarithm s y) where
    two : Cancels s (i₀ + k) y (get_or b (lb - 1) 0)
    two = by_inverse d o second_lt y_ne i₀_is

    pub second_log_lt : i₀ + k ≤ 2 * (2 ^ s - 1)
    second_log_lt = two.most

    pub cancelled_two : {a' : List ℕ} → AddedTwo s (la - lb - 1) (i₀ + k) (i₁ + k) a (take lb b) a' → Short (la - 2) a'
    unfolding series
    cancelled_two {a'} z' =
        let z : AddedTwo s (la - lb - 1) (i₀ + k) (i₁ + k) a b a' = added_two_whole p.b_long p.b_length.short z' in
        short_of d z.small
        (subst (Below (GF d) (la - 2)) (sym (z.is d)) (struck p two d (la - lb - 1) (omega (arith, t.longer, t.b_two)) mid_below mid_at))
      where
        mid : ℕ → F s
        mid = plus d (series d a) (mono (GF d) (la - lb - 1 + 1) (el d (field_power s ω (i₁ + k)))) (series d b)

        mid_below : Below (GF d) (suc (la - 2)) mid
        mid_below =
            Below-weaken (GF d) (omega arith)
            (struck p one d (la - lb - 1 + 1) {m = la - 1} (omega (arith, t.longer)) (leading_below d p l d) refl)

        mid_at : mid (la - 2) ≡ el d y
        mid_at =
            let q : la - 2 ≡ la - lb - 1 + 1 + (lb - 2) = omega (arith, t.longer, t.b_two) in
            add_at (GF d) (series d a) _ (la - 2)
            ∙ ap ((GF d).add (series d a (la - 2)))
            (ap ((Ser (GF d)).mul (mono (GF d) (la - lb - 1 + 1) (el d (field_power s ω (i₁ + k)))) (series d b)) q
            ∙ mono_mul_at (GF d) (la - lb - 1 + 1) (el d (field_power s ω (i₁ + k))) (series d b) (lb - 2)
            ∙ sym (el_mul d (field_power s ω (i₁ + k)) (get_or b (lb - 2) 0)))
            ∙ sym (el_add d (get_or a (la - 2) 0) _) ∙ ap (el d) (sym t.is)

  pub reduced_two : {i₀ r : ℕ} {a' w' : List ℕ} → AddedTwo s (la - lb - 1) i₀ (i₁ + k) a (take lb b) a'
      → AddedTwo s (la - lb - 1) i₀ (i₁ + k) w (take lv v) w' → LengthOf a' r → Reduced s (la - lb) a b w v a' w' r
  reduced_two {i₀} {a' = a'} {w'} x' z' h =
      let x : AddedTwo s (la - lb - 1) i₀ (i₁ + k) a b a' = added_two_whole p.b_long p.b_length.short x' in
      let z : AddedTwo s (la - lb - 1) i₀ (i₁ + k) w v w' = added_two_whole p.v_long p.v_short z' in
      record {
        a_small = x.small;
        w_small = z.small;
        division = λ d. record {
          quotient = (Ser (GF d)).add (mono (GF d) (la - lb - 1 + 1) (el d (field_power s ω (i₁ + k))))
              (mono (GF d) (la - lb - 1) (el d (field_power s ω i₀)));
          quotient_below = Below-add (GF d) (Below-weaken (GF d) (omega (arith, up)) (mono_below (GF d) (la - lb - 1 + 1) _))
              (Below-weaken (GF d) (omega (arith, up)) (mono_below (GF d) (la - lb - 1) _));
          a_is = x.is d ∙ more_added (Ser (GF d)) _ _ _ _;
          w_is = z.is d ∙ more_added (Ser (GF d)) _ _ _ _;
        };
        a_length = h;
      }
