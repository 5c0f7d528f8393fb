-- Terms added to the coefficients of a polynomial in place, from place i up; one multiple of another polynomial, or two.
--
--   Adding s i f n a a'        n of the terms f are added to a: at first, one more, and all
--   adding_start, adding_more, adding_all
--   multiple s k b j           coefficient j of ω^k b: multiple_zero, multiple_el
--   adding_end                 with the terms of ω^k b, ω^k x^i b is added
--   carried s k b j            coefficient j of ω^k x b: carried_next, -lt, -zero, -at
--   both s k₀ k₁ b j           coefficient j of (ω^k₁ x + ω^k₀) b: both_zero, both_el; last_term, where b has ended
--   AddingTwo s i k₀ k₁ b n a a' last      n of those are added, and last waits: at first, one more, and at the end all
--   adding_two_start, adding_two_more, adding_two_end
use mathlib.Core.Path.{◌≡◌, refl, sym, ap, ap₂, ◌∙◌, subst}
use mathlib.Core.List.{List}
use Prim.Native.Nat.{ℕ, zero, suc, ◌+◌, ◌^◌, ◌≤◌, ◌<◌}
use native.Mathlib.Decide.{ℕ_discrete, dec_lt}
use native.Mathlib.Omega.{arith}
use lib.Bits.{bit_xor}
use lib.ListN.{length, get_or, set, length-set}
use lib.Seq.{get_or-set_same, get_or-set_other}
use Rattle.algebra.proofs.Ring.{Ring, ring, add-zero}
use Rattle.algebra.proofs.Series.{Ser, add_at}
use Rattle.algebra.proofs.Poly.{mono, mono_mul_at, mono_mul_low, row_add}
use Rattle.field.specs.Mask.{◌⊕◌}
use Rattle.field.specs.Field.{Degree, ω, field_multiply, field_power}
use Rattle.field.proofs.Xor.{⊕-lt, ⊕-zero-l, ⊕-zero-r}
use Rattle.field.proofs.Elements.{F, GF, el, el_add, el_mul, el_zero}
use Rattle.field.proofs.Numbers.{multiply_zero, product_lt, one_lt}
use Rattle.poly.specs.Slice.{Small, Short, series}
use Rattle.poly.specs.Division.{plus, Added, AddedTwo}

pub record Adding (s i : ℕ) (f : ℕ → ℕ) (n : ℕ) (a a' : List ℕ) : Type 0 where
  pub same_length : length a' ≡ length a
  pub small : Small s a'
  pub low : (j : ℕ) → j < i → get_or a' j 0 ≡ get_or a j 0
  pub done : (j : ℕ) → j < n → get_or a' (i + j) 0 ≡ get_or a (i + j) 0 ⊕ f j
  pub rest : (j : ℕ) → n ≤ j → get_or a' (i + j) 0 ≡ get_or a (i + j) 0

pub adding_start : {s i : ℕ} {f : ℕ → ℕ} {a : List ℕ} → Small s a → Adding s i f 0 a a
adding_start h = record {
  same_length = refl;
  small = h;
  low = λ j l. refl;
  done = λ j l. absurd (omega arith);
  rest = λ j l. refl;
}

pub adding_more : {s i : ℕ} {f : ℕ → ℕ} {a a' : List ℕ} (n y : ℕ) → i + n < length a → Adding s i f n a a' → y < 2 ^ s → y ≡ f n
    → Adding s i f (n + 1) a (set a' (i + n) (bit_xor (get_or a' (i + n) 0) y))
unfolding ◌⊕◌
adding_more {s} {i} {f} {a} {a'} n y h t l e = record {
  same_length = length-set a' (i + n) x ∙ t.same_length;
  small = record { at = λ j. small j (ℕ_discrete j (i + n)) };
  low = λ j q. get_or-set_other a' (i + n) j x 0 (λ z. omega arith) ∙ t.low j q;
  done = λ j q. done j q (ℕ_discrete j n);
  rest = λ j q. get_or-set_other a' (i + n) (i + j) x 0 (λ z. omega arith) ∙ t.rest j (omega arith);
}
  where
    x : ℕ
    x = bit_xor (get_or a' (i + n) 0) y

    here : get_or (set a' (i + n) x) (i + n) 0 ≡ x
    here = get_or-set_same a' (i + n) x 0 (omega (arith, t.same_length))

    small : (j : ℕ) → Dec (j ≡ i + n) → get_or (set a' (i + n) x) j 0 < 2 ^ s
    small j (yes q) =
        subst (λ (z : ℕ). z < 2 ^ s) (sym (ap (λ (m : ℕ). get_or (set a' (i + n) x) m 0) q ∙ here))
        (⊕-lt s (get_or a' (i + n) 0) y (t.small.at (i + n)) l)
    small j (no q) = subst (λ (z : ℕ). z < 2 ^ s) (sym (get_or-set_other a' (i + n) j x 0 q)) (t.small.at j)

    done : (j : ℕ) → j < n + 1 → Dec (j ≡ n) → get_or (set a' (i + n) x) (i + j) 0 ≡ get_or a (i + j) 0 ⊕ f j
    done j q (yes z) =
        ap (λ (m : ℕ). get_or (set a' (i + n) x) (i + m) 0) z ∙ here ∙ ap₂ bit_xor (t.rest n (omega arith)) e
        ∙ ap (λ (m : ℕ). get_or a (i + m) 0 ⊕ f m) (sym z)
    done j q (no z) =
        get_or-set_other a' (i + n) (i + j) x 0 (λ r. z (let o : j ≡ n = omega arith in o)) ∙ t.done j (omega arith)

pub adding_all : {s i n : ℕ} {f : ℕ → ℕ} {a a' : List ℕ} → Adding s i f n a a' → ((j : ℕ) → n ≤ j → f j ≡ 0) → (j : ℕ)
    → get_or a' (i + j) 0 ≡ get_or a (i + j) 0 ⊕ f j
adding_all {s} {i} {n} {f} {a} {a'} t h j = go (dec_lt j n)
  where
    go : Dec (j < n) → get_or a' (i + j) 0 ≡ get_or a (i + j) 0 ⊕ f j
    go (yes l) = t.done j l
    go (no l) =
        t.rest j (omega arith) ∙ sym (ap (◌⊕◌ (get_or a (i + j) 0)) (h j (omega arith)) ∙ ⊕-zero-r (get_or a (i + j) 0))

-- ---- one multiple
abbrev pub multiple : (s k : ℕ) → List ℕ → ℕ → ℕ
multiple s k b j = field_multiply s (field_power s ω k) (get_or b j 0)

multiple_zero : {s n : ℕ} {b : List ℕ} (d : Degree s) (k : ℕ) → Short n b → (j : ℕ) → n ≤ j → multiple s k b j ≡ 0
multiple_zero {s} d k h j l = ap (field_multiply s (field_power s ω k)) (h.at j l) ∙ multiply_zero d (field_power s ω k)

multiple_el : {s : ℕ} (d : Degree s) (k : ℕ) (b : List ℕ) (j : ℕ)
    → el d (multiple s k b j) ≡ (GF d).mul (el d (field_power s ω k)) (series d b j)
unfolding series
multiple_el {s} d k b j = el_mul d (field_power s ω k) (get_or b j 0)

pub adding_end : {s i k n m : ℕ} {a b a' : List ℕ} → Short n b → n ≤ m → Adding s i (multiple s k b) m a a' → Added s i k a b a'
unfolding series
adding_end {s} {i} {k} {n} {m} {a} {b} {a'} h l t = record {
  small = t.small;
  is = λ d. row_add (GF d) i (el d (field_power s ω k)) (series d a) (series d b) (series d a')
      (λ j q. ap (el d) (t.low j q))
      (λ j. ap (el d) (adding_all t (λ j q. multiple_zero d k h j (omega arith)) j) ∙ el_add d (get_or a (i + j) 0) (multiple s k b j)
      ∙ ap ((GF d).add (el d (get_or a (i + j) 0))) (multiple_el d k b j));
}

-- ---- two multiples
pub carried : (s k : ℕ) → List ℕ → ℕ → ℕ
carried s k b zero = 0
carried s k b (suc j) = multiple s k b j

carried_next : (s k : ℕ) (b : List ℕ) (j : ℕ) → carried s k b (j + 1) ≡ multiple s k b j
unfolding carried
carried_next s k b j = let e : j + 1 ≡ suc j = omega arith in ap (carried s k b) e

carried_lt : {s : ℕ} (d : Degree s) (k : ℕ) (b : List ℕ) (j : ℕ) → carried s k b j < 2 ^ s
unfolding carried
carried_lt d k b zero = omega (arith, one_lt d)
carried_lt d k b (suc j) = product_lt d _ _ refl

carried_zero : {s n : ℕ} {b : List ℕ} (d : Degree s) (k : ℕ) → Short n b → (j : ℕ) → n < j → carried s k b j ≡ 0
unfolding carried
carried_zero d k h zero l = refl
carried_zero d k h (suc j) l = multiple_zero d k h j (omega arith)

carried_at : {s : ℕ} (d : Degree s) (i k : ℕ) (b : List ℕ) (j : ℕ)
    → (Ser (GF d)).mul (mono (GF d) (i + 1) (el d (field_power s ω k))) (series d b) (i + j) ≡ el d (carried s k b j)
unfolding carried
carried_at {s} d i k b zero = mono_mul_low (GF d) (i + 1) (el d (field_power s ω k)) (series d b) (i + 0) (omega arith) ∙ sym (el_zero d)
carried_at {s} d i k b (suc j) =
    let e : i + suc j ≡ i + 1 + j = omega arith in
    ap ((Ser (GF d)).mul (mono (GF d) (i + 1) (el d (field_power s ω k))) (series d b)) e
    ∙ mono_mul_at (GF d) (i + 1) (el d (field_power s ω k)) (series d b) j ∙ sym (multiple_el d k b j)

pub both : (s k₀ k₁ : ℕ) → List ℕ → ℕ → ℕ
both s k₀ k₁ b j = multiple s k₀ b j ⊕ carried s k₁ b j

both_zero : {s n : ℕ} {b : List ℕ} (d : Degree s) (k₀ k₁ : ℕ) → Short n b → (j : ℕ) → n + 1 ≤ j → both s k₀ k₁ b j ≡ 0
unfolding both
both_zero d k₀ k₁ h j l = ap₂ ◌⊕◌ (multiple_zero d k₀ h j (omega arith)) (carried_zero d k₁ h j (omega arith)) ∙ ⊕-zero-l 0

-- beyond b only what waits is left
last_term : {s n : ℕ} {b : List ℕ} (d : Degree s) (k₀ k₁ : ℕ) → Short n b → both s k₀ k₁ b n ≡ carried s k₁ b n
unfolding both
last_term {s} {n} {b} d k₀ k₁ h =
    ap (λ (x : ℕ). x ⊕ carried s k₁ b n) (multiple_zero d k₀ h n (omega arith)) ∙ ⊕-zero-l (carried s k₁ b n)

both_el : {s : ℕ} (d : Degree s) (k₀ k₁ : ℕ) (b : List ℕ) (x j : ℕ)
    → el d (x ⊕ both s k₀ k₁ b j)
    ≡ (GF d).add (el d x) ((GF d).add ((GF d).mul (el d (field_power s ω k₀)) (series d b j)) (el d (carried s k₁ b j)))
unfolding both
both_el {s} d k₀ k₁ b x j =
    el_add d x (both s k₀ k₁ b j)
    ∙ ap ((GF d).add (el d x))
    (el_add d (multiple s k₀ b j) (carried s k₁ b j)
    ∙ ap (λ y. (GF d).add y (el d (carried s k₁ b j))) (multiple_el d k₀ b j))

pub record AddingTwo (s i k₀ k₁ : ℕ) (b : List ℕ) (n : ℕ) (a a' : List ℕ) (last : ℕ) : Type 0 where
  pub terms : Adding s i (both s k₀ k₁ b) n a a'
  pub last_is : last ≡ carried s k₁ b n

pub adding_two_start : {s i k₀ k₁ : ℕ} {a b : List ℕ} → Small s a → AddingTwo s i k₀ k₁ b 0 a a 0
unfolding carried
adding_two_start h = record { terms = adding_start h; last_is = refl }

pub adding_two_more : {s i k₀ k₁ last : ℕ} {a b a' : List ℕ} → Degree s → (n y z : ℕ) → i + n < length a
    → AddingTwo s i k₀ k₁ b n a a' last → y ≡ multiple s k₀ b n → z ≡ multiple s k₁ b n
    → AddingTwo s i k₀ k₁ b (n + 1) a (set a' (i + n) (bit_xor (get_or a' (i + n) 0) (bit_xor y last))) z
unfolding ◌⊕◌ both
adding_two_more {s} {i} {k₀} {k₁} {last} {a} {b} d n y z h t e o = record {
  terms = adding_more n (bit_xor y last) h t.terms
      (⊕-lt s y last (product_lt d _ _ e) (subst (λ (x : ℕ). x < 2 ^ s) (sym t.last_is) (carried_lt d k₁ b n)))
      (ap₂ bit_xor e t.last_is);
  last_is = o ∙ sym (carried_next s k₁ b n);
}

added : {A : Type 0} (R : Ring A) (a p q : A) → R.add a (R.add p q) ≡ R.add (R.add a q) p
added R a p q = simp ring

pub adding_two_end : {s i k₀ k₁ n m last : ℕ} {a b a' : List ℕ} → Degree s → Short n b → n ≡ m → i + n < length a
    → AddingTwo s i k₀ k₁ b m a a' last → AddedTwo s i k₀ k₁ a b (set a' (i + n) (bit_xor (get_or a' (i + n) 0) last))
unfolding series
adding_two_end {s} {i} {k₀} {k₁} {n} {m} {last} {a} {b} {a'} v h e l t = record {
  small = all.small;
  is = λ d. row_add (GF d) i (el d (field_power s ω k₀)) (mid d) (series d b) (series d a'') (low d) (high d);
}
  where
    a'' : List ℕ
    a'' = set a' (i + n) (bit_xor (get_or a' (i + n) 0) last)

    mid : (d : Degree s) → ℕ → F s
    mid d = plus d (series d a) (mono (GF d) (i + 1) (el d (field_power s ω k₁))) (series d b)

    t' : AddingTwo s i k₀ k₁ b n a a' last
    t' = subst (λ (x : ℕ). AddingTwo s i k₀ k₁ b x a a' last) (sym e) t

    all : Adding s i (both s k₀ k₁ b) (n + 1) a a''
    all = adding_more n last l t'.terms (subst (λ (x : ℕ). x < 2 ^ s) (sym t'.last_is) (carried_lt v k₁ b n))
        (t'.last_is ∙ sym (last_term v k₀ k₁ h))

    low : (d : Degree s) (j : ℕ) → j < i → series d a'' j ≡ mid d j
    low d j q =
        ap (el d) (all.low j q)
        ∙ sym
        (add_at (GF d) (series d a) _ j
        ∙ ap ((GF d).add (series d a j)) (mono_mul_low (GF d) (i + 1) (el d (field_power s ω k₁)) (series d b) j (omega arith))
        ∙ add-zero (GF d) (series d a j))

    high : (d : Degree s) (j : ℕ)
        → series d a'' (i + j) ≡ (GF d).add (mid d (i + j)) ((GF d).mul (el d (field_power s ω k₀)) (series d b j))
    high d j =
        ap (el d) (adding_all all (both_zero d k₀ k₁ h) j)
        ∙ both_el d k₀ k₁ b (get_or a (i + j) 0) j
        ∙ added (GF d) (series d a (i + j)) _ _
        ∙ ap (λ x. (GF d).add x ((GF d).mul (el d (field_power s ω k₀)) (series d b j)))
        (sym (add_at (GF d) (series d a) _ (i + j) ∙ ap ((GF d).add (series d a (i + j))) (carried_at d i k₁ b j)))
