-- The walk that marks a coset.
--
--   Turned, turned_start, turned_more, turned_end      after j turns, and after s
use mathlib.Core.Path.{◌≡◌, refl, sym, ap, ap₂, ◌∙◌, subst}
use mathlib.Core.Logic.{◌≢◌, ◌⊎◌, inl, inr}
use mathlib.Core.Bool.{Bool, true, false, ◌||◌, ◌&&◌}
use mathlib.Core.List.{List}
use Prim.Native.Nat.{ℕ, suc, ◌+◌, ◌*◌, ◌%◌, ◌^◌, ◌≤◌, ◌<◌}
use native.Mathlib.Decide.{ℕ_discrete, dec_lt}
use native.Mathlib.Numerals.{add-one}
use native.Mathlib.Omega.{arith}
use lib.Dec.{eqb, leb, ltb}
use lib.ListN.{length, get_or, set}
use lib.Seq.{get_or-set_same, get_or-set_other}
use borrow.Author.Tests.{eqb-true, eqb-false, eq-eqb, ne_eqb, leb-true, le-leb, lt-leb, lt-ltb, le-ltb}
use Rattle.std.specs.Int.{from_bool}
use Rattle.field.specs.Search.{up_to, some, every}
use Rattle.field.specs.Field.{OddLength, order_of_two}
use Rattle.field.proofs.Search.{true_ne_false, some_at, some_of, some_suc, some_zero, every_at, every_of, every_suc, every_zero}
use Rattle.document.specs.Coset.{in_coset, smallest}
use Rattle.document.proofs.Cosets.{bool_eq, coset_at, coset_of, smallest_at, smallest_of}
use Rattle.sheet.specs.Stage.{Marked}

-- 1 where x is below r, else 0
abbrev pub is_below : ℕ → ℕ → ℕ
is_below x r = from_bool (ltb x r)

abbrev met : ℕ → ℕ → ℕ → ℕ → Bool
met n r j i = some (λ k. eqb (r * 2 ^ k % n) i) (up_to j)

abbrev least : ℕ → ℕ → ℕ → Bool
least n r j = every (λ k. leb r (r * 2 ^ k % n)) (up_to j)

pub record Turned (n r j : ℕ) (z z' : List ℕ) (low : ℕ) : Type 0 where
  pub inside : (i : ℕ) → met n r j i ≡ true → i < n → get_or z' i 0 ≡ 1
  pub outside : (i : ℕ) → met n r j i ≡ false → get_or z' i 0 ≡ get_or z i 0
  pub none_low : low ≡ 0 → least n r j ≡ true
  pub some_low : low ≢ 0 → least n r j ≡ false

pub is_below_le : (x r : ℕ) → is_below x r ≤ 1
is_below_le x r = elim (ltb x r) as (λ b. from_bool b ≤ 1) [ true ↦ omega arith | false ↦ omega arith ]

pub turned_start : {n r : ℕ} {z : List ℕ} → Turned n r 0 z z 0
turned_start {n} {r} = record {
  inside = λ i e h. absurd (true_ne_false e (some_zero (λ k. eqb (r * 2 ^ k % n) i)));
  outside = λ i e. refl;
  none_low = λ e. every_zero (λ k. leb r (r * 2 ^ k % n));
  some_low = λ k. absurd (k refl);
}

pub turned_more : {n r j x low : ℕ} {z z' : List ℕ} → n ≤ length z' → x < n → x ≡ r * 2 ^ j % n → Turned n r j z z' low
    → Turned n r (j + 1) z (set z' x 1) (low + is_below x r)
turned_more {n} {r} {j} {x} {low} {z} {z'} long h q t = record {
  inside = λ i e l. in_it i (subst (λ (k : ℕ). met n r k i ≡ true) (add-one j) e) l (ℕ_discrete i x);
  outside = λ i e. out i (subst (λ (k : ℕ). met n r k i ≡ false) (add-one j) e);
  none_low = λ e. subst (λ (k : ℕ). least n r k ≡ true) (sym (add-one j)) (all e);
  some_low = λ k. subst (λ (k : ℕ). least n r k ≡ false) (sym (add-one j)) (one k);
}
  where
    or_left : (a b : Bool) → a || b ≡ true → b ≡ false → a ≡ true
    or_left true b e f = refl
    or_left false b e f = absurd (true_ne_false e f)

    or_none : (a b : Bool) → a || b ≡ false → (a ≡ false) × (b ≡ false)
    or_none true b e = absurd (true_ne_false refl e)
    or_none false b e = (refl, e)

    in_it : (i : ℕ) → met n r (suc j) i ≡ true → i < n → Dec (i ≡ x) → get_or (set z' x 1) i 0 ≡ 1
    in_it i e l (yes p) = ap (λ (k : ℕ). get_or (set z' x 1) k 0) p ∙ get_or-set_same z' x 1 0 (omega arith)
    in_it i e l (no p) =
        get_or-set_other z' x i 1 0 p
        ∙ t.inside i
        (or_left (met n r j i) (eqb (r * 2 ^ j % n) i) (sym (some_suc (λ k. eqb (r * 2 ^ k % n) i) j) ∙ e)
        (ne_eqb (r * 2 ^ j % n) i (λ y. p (sym (q ∙ y))))) l

    out : (i : ℕ) → met n r (suc j) i ≡ false → get_or (set z' x 1) i 0 ≡ get_or z i 0
    out i e =
        let b = or_none (met n r j i) (eqb (r * 2 ^ j % n) i) (sym (some_suc (λ k. eqb (r * 2 ^ k % n) i) j) ∙ e) in
        get_or-set_other z' x i 1 0 (λ p. eqb-false (r * 2 ^ j % n) i b.1 (sym q ∙ sym p)) ∙ t.outside i b.0

    low_cases : (Dec (x < r)) → ((is_below x r ≡ 0) × (leb r (r * 2 ^ j % n) ≡ true)) ⊎ ((is_below x r ≡ 1) × (leb r (r * 2 ^ j % n) ≡ false))
    low_cases (yes l) = inr (ap from_bool (lt-ltb x r l), subst (λ (y : ℕ). leb r y ≡ false) q (lt-leb r x l))
    low_cases (no l) = inl (ap from_bool (le-ltb x r (omega arith)), subst (λ (y : ℕ). leb r y ≡ true) q (le-leb r x (omega arith)))

    all : low + is_below x r ≡ 0 → least n r (suc j) ≡ true
    all e = elim (low_cases (dec_lt x r)) [
      | inl c ↦ every_suc (λ k. leb r (r * 2 ^ k % n)) j ∙ ap₂ ◌&&◌ (t.none_low (omega (arith, c.0))) c.1
      | inr c ↦ absurd (omega (arith, c.0))
    ]

    and_false : (a : Bool) → a && false ≡ false
    and_false true = refl
    and_false false = refl

    one : low + is_below x r ≢ 0 → least n r (suc j) ≡ false
    one k = elim (low_cases (dec_lt x r)) [
      | inl c ↦ every_suc (λ k. leb r (r * 2 ^ k % n)) j ∙ ap (λ b. b && leb r (r * 2 ^ j % n)) (t.some_low (λ z. k (omega (arith, c.0))))
      | inr c ↦ every_suc (λ k. leb r (r * 2 ^ k % n)) j ∙ ap (λ b. least n r j && b) c.1 ∙ and_false (least n r j)
    ]

pub turned_end : {n r j low : ℕ} {z z' : List ℕ} → OddLength n → j ≡ order_of_two n → Turned n r j z z' low → Marked n r z z' low
turned_end {n} {r} {j} {low} {z} {z'} o e t = record {
  inside = λ i h q. t.inside i (sym (same i) ∙ q) h;
  outside = λ i h q. t.outside i (sym (same i) ∙ q);
  is_smallest = λ q. small ∙ t.none_low q;
  not_smallest = λ q. small ∙ t.some_low q;
}
  where
    same : (i : ℕ) → in_coset n r i ≡ met n r j i
    same i = bool_eq (in_coset n r i) (met n r j i)
        (λ q. let f = coset_at o r i q in some_of (λ k. eqb (r * 2 ^ k % n) i) j f.0 (omega (arith, f.1)) (eq-eqb (r * 2 ^ f.0 % n) i f.2))
        (λ q. let f = some_at (λ k. eqb (r * 2 ^ k % n) i) j q in coset_of o r i f.0 (eqb-true (r * 2 ^ f.0 % n) i f.2))

    small : smallest n r ≡ least n r j
    small = bool_eq (smallest n r) (least n r j)
        (λ q. every_of (λ k. leb r (r * 2 ^ k % n)) j (λ k l. le-leb r (r * 2 ^ k % n) (smallest_at o r q k)))
        (λ q. smallest_of o r (λ k l. leb-true r (r * 2 ^ k % n) (every_at (λ k. leb r (r * 2 ^ k % n)) j q k (omega arith))))
