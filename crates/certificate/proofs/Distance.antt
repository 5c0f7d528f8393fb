-- Distance, uniqueness, and what `nearest` finds, in the words of the definitions: for every odd n with s at most 12, any
-- representatives, and any certificate that meets rules 1 to 4.
--
--   distance_holds      different codewords differ in at least d places
--   near                a codeword within t is near in the theory's words
--   near_only           at most one codeword lies within t of a word
--   nearest_some        what `nearest` finds is a codeword within t
--   nearest_is          a codeword within t is what it finds
--   nearest_none        it finds none exactly where every codeword is farther than t
--   nearest_codeword    of a codeword it finds the codeword itself
--   nearest_add         adding a codeword to the word adds it to what is found
--   nearest_closest     no other codeword is as near
use mathlib.Core.Path.{◌≡◌, refl, sym, ap, ap₂, ◌∙◌, subst}
use mathlib.Core.Logic.{◌≢◌, ◌↔◌}
use mathlib.Core.Bool.{Bool}
use mathlib.Core.List.{List}
use Prim.Native.Nat.{ℕ, zero, suc, ◌+◌, ◌-◌, ◌^◌, ◌≤◌, ◌<◌}
use native.Mathlib.Decide.{dec_lt}
use native.Mathlib.Omega.{arith}
use lib.Dec.{leb}
use borrow.Author.Tests.{leb-true, le-leb}
use Rattle.field.specs.Mask.{◌⊕◌}
use Rattle.field.proofs.Xor.{⊕-self, ⊕-norm, ⊕-lt}
use Rattle.cyclic.proofs.Places.{count, count_z, count_s, coefficient_zero}
use Rattle.cyclic.proofs.Generator.{codeword_add}
use Rattle.cyclic.proofs.Certificate.{syndromes}
use Rattle.cyclic.proofs.Syndromes.{radius as radius_of, distance_bound}
use Rattle.cyclic.proofs.Nearest.{Near, near_unique}
use Rattle.document.specs.Sheet.{Certificate}
use Rattle.document.specs.Coset.{dimension}
use Rattle.document.specs.Generator.{generator, Codeword, encode_mask, differences, nearest}
use Rattle.document.specs.Certificate.{distance, radius}
use Rattle.document.proofs.Theory.{Length, code_of}
use Rattle.document.proofs.Encoding.{codeword_iff}
use Rattle.document.proofs.Searched.{found_le, found_some, found_is, found_none}
use Rattle.certificate.proofs.RulesHeld.{Sound, theory, distance_is, radius_is}

-- ---- places in which two words differ
pub differences_are : (n a b : ℕ) → differences n a b ≡ count n (a ⊕ b)
unfolding differences count
differences_are n a b = refl

count_none : (n : ℕ) → count n 0 ≡ 0
count_none zero = count_z 0
count_none (suc n) = count_s n 0 ∙ ap₂ ◌+◌ (count_none n) (coefficient_zero n)

pub differences_self : (n a : ℕ) → differences n a a ≡ 0
differences_self n a = differences_are n a a ∙ ap (count n) (⊕-self a) ∙ count_none n

differences_add : (n a b d : ℕ) → differences n (a ⊕ d) (b ⊕ d) ≡ differences n a b
differences_add n a b d =
    let e : a ⊕ d ⊕ (b ⊕ d) ≡ a ⊕ b = simp ⊕-norm in
    differences_are n (a ⊕ d) (b ⊕ d) ∙ ap (count n) e ∙ sym (differences_are n a b)

module _ {n : ℕ} (l : Length n) (reps : List ℕ) (c : Certificate) (s : Sound n reps c) where
  abbrev k : ℕ
  k = dimension n reps

  abbrev m : ℕ
  m = n - k

  abbrev g : ℕ
  g = generator n reps

  abbrev t : ℕ
  t = radius c

  abbrev found : ℕ → ℕ
  found r = nearest k m g n t r

  pub distance_holds : {a b : ℕ} → Codeword n reps a → Codeword n reps b → a ≢ b → distance c ≤ differences n a b
  distance_holds {a} {b} x y ne =
      subst (λ (z : ℕ). distance c ≤ z) (sym (differences_are n a b))
      (subst (λ (z : ℕ). z ≤ count n (a ⊕ b)) (distance_is l reps c s)
      (distance_bound (syndromes (theory l reps c s)) a b x.small y.small ((codeword_iff l reps a).0 x.is)
      ((codeword_iff l reps b).0 y.is) ne))

  pub near : {r a : ℕ} → Codeword n reps a → differences n r a ≤ t → Near (code_of l reps) (radius_of (syndromes (theory l reps c s))) r a
  near {r} {a} x h = record {
    small = x.small;
    word = (codeword_iff l reps a).0 x.is;
    close = subst (λ (z : ℕ). count n (r ⊕ a) ≤ z) (sym (radius_is l reps c s)) (subst (λ (z : ℕ). z ≤ t) (differences_are n r a) h);
  }

  pub near_only : (r : ℕ) {a b : ℕ} → Codeword n reps a → Codeword n reps b → differences n r a ≤ t → differences n r b ≤ t → a ≡ b
  near_only r {a} {b} x y h j = near_unique (syndromes (theory l reps c s)) r a b (near x h) (near y j)

  -- ---- what is found
  abbrev close : ℕ → ℕ → Bool
  close r a = leb (differences n r a) t

  pub nearest_le : (r : ℕ) → found r ≤ 2 ^ k
  unfolding nearest
  nearest_le r = found_le l reps (close r)

  pub nearest_some : (r : ℕ) → found r < 2 ^ k
      → Codeword n reps (encode_mask m g (found r)) × (differences n r (encode_mask m g (found r)) ≤ t)
  unfolding nearest
  nearest_some r h =
      let w = found_some l reps (close r) h in
      (w.0, leb-true (differences n r (encode_mask m g (found r))) t w.1)

  pub nearest_is : (r : ℕ) {a : ℕ} → Codeword n reps a → differences n r a ≤ t → (found r < 2 ^ k) × (encode_mask m g (found r) ≡ a)
  unfolding nearest
  nearest_is r {a} x h =
      found_is l reps (close r)
      (λ b c v w i j. near_only r v w (leb-true (differences n r b) t i) (leb-true (differences n r c) t j))
      x (le-leb (differences n r a) t h)

  pub nearest_none : (r : ℕ) → (found r ≡ 2 ^ k) ↔ ((a : ℕ) → Codeword n reps a → t < differences n r a)
  unfolding nearest
  nearest_none r = (
    λ e a x. elim (dec_lt t (differences n r a)) [
      | yes h ↦ h
      | no h ↦ absurd ((found_none l reps (close r)).0 e a x (le-leb (differences n r a) t (omega arith)))
    ],
    λ f. (found_none l reps (close r)).1 (λ a x h. let i : differences n r a ≤ t = leb-true (differences n r a) t h in omega (arith, f a x)),
  )

  -- ---- laws of what is found
  pub nearest_codeword : {a : ℕ} → Codeword n reps a → encode_mask m g (found a) ≡ a
  nearest_codeword {a} x = (nearest_is a x (omega (arith, differences_self n a))).1

  word_add : {a b : ℕ} → Codeword n reps a → Codeword n reps b → Codeword n reps (a ⊕ b)
  word_add {a} {b} x y = record {
    small = ⊕-lt n a b x.small y.small;
    is = (codeword_iff l reps (a ⊕ b)).1
        (codeword_add (code_of l reps) a b ((codeword_iff l reps a).0 x.is) ((codeword_iff l reps b).0 y.is));
  }

  pub nearest_add : (r : ℕ) {d : ℕ} → Codeword n reps d → found r < 2 ^ k
      → (found (r ⊕ d) < 2 ^ k) × (encode_mask m g (found (r ⊕ d)) ≡ encode_mask m g (found r) ⊕ d)
  nearest_add r {d} x h =
      let w = nearest_some r h in
      nearest_is (r ⊕ d) (word_add w.0 x) (subst (λ (z : ℕ). z ≤ t) (sym (differences_add n r (encode_mask m g (found r)) d)) w.1)

  pub nearest_closest : (r : ℕ) {a : ℕ} → found r < 2 ^ k → Codeword n reps a → a ≢ encode_mask m g (found r)
      → differences n r (encode_mask m g (found r)) < differences n r a
  nearest_closest r {a} h x ne =
      let w = nearest_some r h in
      elim (dec_lt t (differences n r a)) [
        | yes far ↦ omega (arith, w.1)
        | no at ↦ absurd (ne (near_only r x w.0 (omega arith) w.1))
      ]
