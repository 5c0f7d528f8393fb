-- The values of listed places beside those of a word.
--
--   valuable, value_of_places      the value at a representative by the list
--   Comparing, comparing_start, comparing_more, comparing_end, comparing_wrong      the first k representatives
use mathlib.Core.Path.{◌≡◌, refl, sym, ap, ap₂, ◌∙◌, subst}
use mathlib.Core.Logic.{◌≢◌}
use mathlib.Core.Bool.{Bool, true, false}
use mathlib.Core.List.{List}
use Prim.Native.Nat.{ℕ, ◌+◌, ◌-◌, ◌*◌, ◌/◌, ◌^◌, ◌≤◌, ◌<◌}
use native.Mathlib.Decide.{ℕ_discrete}
use native.Mathlib.Omega.{arith}
use lib.ListN.{length, get_or}
use Rattle.algebra.proofs.Lists.{All, all_of, all_at, In}
use Rattle.field.specs.Mask.{◌⊕◌}
use Rattle.field.specs.Field.{order_of_two, ω, α, field_power}
use Rattle.field.proofs.Xor.{⊕-self, ⊕-eq}
use Rattle.document.specs.Generator.{value_below, value_at}
use Rattle.document.proofs.Encoding.{representatives_iff}
use Rattle.syndrome.specs.Sums.{sum_over, Listed, Valuable}
use Rattle.syndrome.proofs.ValueSums.{value_of_lem}
use Rattle.syndrome.proofs.Roots.{root_by, value_all}
use Rattle.syndrome.specs.Value.{value_of, Comparable, Compared}
use Rattle.syndrome.proofs.Setting.{long, at_in, in_at, by_lt, place_lt, value_add}

module _ {n s q : ℕ} {list reps val : List ℕ} (p : Comparable n s list reps val) (q_is : q ≡ (2 ^ s - 1) / n) where
  pub valuable : {k r : ℕ} → k < length reps → r ≡ get_or reps k 0 → Valuable s (r * q) list
  valuable {k} h a = record {
    by_lt = by_lt p.setting q_is {k = k} h a;
    below = λ i b. place_lt p.setting q_is _ (p.places i b);
  }

  pub value_of_places : (r : ℕ) {v : ℕ} → v ≡ sum_over (λ i. field_power s ω (i * (r * q))) list (length list) → (a : ℕ) → Listed n a list (length list) → a < 2 ^ n
      → v ≡ value_of n s a r
  value_of_places r e a t l =
      e ∙ t.is (λ i. field_power s ω (i * (r * q))) ∙ value_of_lem p.setting.degree (r * q) n a
      ∙ ap (λ (x : ℕ). value_below s x n a) (root_by p.setting.odd p.setting.s_is p.setting.degree q_is r)
      ∙ value_all s (field_power s (α s n) r) a n l

-- ---- the values of the changes beside those of the word
pub record Comparing (n s k : ℕ) (list reps val : List ℕ) : Type 0 where
  pub done : (a : ℕ) → Listed n a list (length list) → a < 2 ^ n → (i : ℕ) → i < k → get_or val (get_or reps i 0) 0 ≡ value_of n s a (get_or reps i 0)

pub comparing_start : {n s : ℕ} {list reps val : List ℕ} → Comparing n s 0 list reps val
comparing_start = record { done = λ a h l i b. absurd (omega arith) }

pub comparing_more : {n s k r v : ℕ} {list reps val : List ℕ} → Comparing n s k list reps val → r ≡ get_or reps k 0 → v ≡ get_or val r 0
    → ((a : ℕ) → Listed n a list (length list) → a < 2 ^ n → v ≡ value_of n s a r) → Comparing n s (k + 1) list reps val
comparing_more {n} {s} {k} {r} {v} {list} {reps} {val} t e o f = record {
  done = λ a h l i b. elim (ℕ_discrete i k) [
    | yes q ↦ (let at : get_or reps i 0 ≡ r = ap (λ (x : ℕ). get_or reps x 0) q ∙ sym e in
        ap (λ (x : ℕ). get_or val x 0) at ∙ sym o ∙ f a h l ∙ ap (value_of n s a) (sym at))
    | no q ↦ t.done a h l i (omega arith)
  ];
}

pub comparing_end : {n s k : ℕ} {list reps val : List ℕ} → Comparable n s list reps val → length reps ≤ k → Comparing n s k list reps val
    → Compared n s list reps val true
comparing_end {n} {s} {k} {list} {reps} {val} p h t = record {
  is = λ c a ha lc la held.
      sym
      ((representatives_iff (long p.setting) reps (c ⊕ a)).1
      (all_of reps
      (λ r i. let y = in_at i in
      ap (λ (x : ℕ). value_at x (field_power x (α x n) r) (c ⊕ a)) (sym p.setting.s_is) ∙ ap (value_of n s (c ⊕ a)) (sym y.2)
      ∙ value_add p.setting.degree (field_power s (α s n) (get_or reps y.0 0)) c a
      ∙ ap₂ ◌⊕◌ (sym (held y.0 y.1)) (sym (t.done a ha la y.0 (omega (arith, y.1))))
      ∙ ⊕-self (get_or val (get_or reps y.0 0) 0))));
}

pub comparing_wrong : {n s k r v : ℕ} {list reps val : List ℕ} → Comparable n s list reps val → k < length reps → r ≡ get_or reps k 0
    → v ≢ get_or val r 0 → ((a : ℕ) → Listed n a list (length list) → a < 2 ^ n → v ≡ value_of n s a r) → Compared n s list reps val false
comparing_wrong {n} {s} {k} {r} {v} {list} {reps} {val} p h e ne f = record {
  is = λ c a ha lc la held. no_word c a (f a ha la) (held k h) _ (λ y. (representatives_iff (long p.setting) reps (c ⊕ a)).0 y);
}
  where
    no_word : (c a : ℕ) → v ≡ value_of n s a r → get_or val (get_or reps k 0) 0 ≡ value_of n s c (get_or reps k 0) → (b : Bool)
        → (b ≡ true → All (λ r. value_of n (order_of_two n) (c ⊕ a) r ≡ 0) reps) → false ≡ b
    no_word c a q o false g = refl
    no_word c a q o true g =
        let sum : value_of n s c r ⊕ value_of n s a r ≡ 0 =
        sym (value_add p.setting.degree (field_power s (α s n) r) c a)
        ∙ ap (λ (x : ℕ). value_at x (field_power x (α x n) r) (c ⊕ a)) p.setting.s_is
        ∙ all_at (g refl) (subst (λ (x : ℕ). In x reps) (sym e) (at_in reps k h)) in
        absurd
        (ne
        (q ∙ sym (⊕-eq sum)
        ∙ sym (ap (λ (x : ℕ). get_or val x 0) e ∙ o ∙ ap (value_of n s c) (sym e))))
