-- The generator, coset by coset.
--
--   length_at, coset_at        what Lengths says in the words of the theory and of a coset
--   generator_lt, small_mask      a generator has one coefficient more than its degree says, and so has a factor
--   reps_apart, one_more       one representative more, from the last down: the generator times the factor of its coset
--   Making, making_start, making_more      the product, representative by representative
--   multiplied_one             in place of 1, the generator itself
use mathlib.Core.Path.{◌≡◌, refl, sym, ap, ◌∙◌, subst}
use mathlib.Core.List.{List, [], ◌∷◌}
use Prim.Native.Nat.{ℕ, zero, suc, ◌+◌, ◌-◌, ◌*◌, ◌%◌, ◌^◌, ◌≤◌, ◌<◌}
use native.Mathlib.Nat.{mod-eq_of_lt, lt_of_lt_of_le}
use native.Mathlib.Numerals.{add-one}
use native.Mathlib.Omega.{arith}
use lib.ListN.{length, get_or, drop}
use lib.Pow.{pow-lt, pow_mono}
use lib.Seq.{drop-cons, drop-length}
use Rattle.algebra.proofs.Lists.{In, here, there}
use Rattle.field.specs.Mask.{clmul}
use Rattle.field.proofs.MaskProduct.{clmul_one_l, clmul_one_r}
use Rattle.cyclic.proofs.Lift.{lt_of_degree}
use Rattle.document.specs.Coset.{smallest, defining_set, dimension}
use Rattle.document.specs.Generator.{generator}
use Rattle.document.proofs.Sane.{set_size, generator_nil}
use Rattle.document.proofs.Theory.{Length}
use Rattle.document.proofs.GeneratorIs.{generator_degree}
use Rattle.document.proofs.Join.{CosetApart, apart_of, generator_join}
use Rattle.binary.specs.Packed.{packed, places_in}
use Rattle.generator.specs.Coset.{CosetOf, Factored}
use Rattle.generator.specs.Building.{Rising, Lengths, Multiplied}
use Rattle.generator.proofs.CosetWalk.{length_stated}
use Rattle.generator.proofs.LowPlaces.{clmul_on}

-- ---- lengths
pub length_at : {n s : ℕ} → Lengths n s → Length n
length_at l = record { odd = l.odd; most = omega (arith, l.s_is, l.small) }

pub coset_at : {n s i r : ℕ} {reps : List ℕ} → Lengths n s → Rising n reps → 0 < i → i ≤ length reps → r ≡ get_or reps (i - 1) 0
    → CosetOf n s r
coset_at {n} {s} {i} l h b c e = record {
  odd = l.odd;
  s_is = l.s_is;
  small = l.small;
  r_lt = subst (λ (x : ℕ). x < n) (sym e) (h.below (i - 1) (omega arith));
}

-- ---- degrees
pub generator_lt : {n : ℕ} → Length n → (reps : List ℕ) {d : ℕ} → d ≡ length (defining_set n reps) → generator n reps < 2 ^ (d + 1)
generator_lt {n} l reps {d} e =
    subst (λ (x : ℕ). generator n reps < 2 ^ x)
    (ap suc (set_size n reps ∙ sym e) ∙ sym (add-one d)) (lt_of_degree (generator n reps) (n - dimension n reps) (generator_degree l reps))

pub small_mask : {n s r f m : ℕ} → CosetOf n s r → Factored n s r f m → f < 2 ^ (m + 1)
small_mask {n} {s} {r} {f} {m} c t = subst (λ (x : ℕ). x < 2 ^ (m + 1)) (sym t.mask_is) (generator_lt (length_stated c) (r ∷ []) t.degree_is)

-- ---- from the last representative down
in_drop : (k : ℕ) (l : List ℕ) (q : ℕ) → In q (drop k l) → (j : ℕ) × (k ≤ j) × (j < length l) × (get_or l j 0 ≡ q)
in_drop zero [] q i = elim i [ ]
in_drop (suc k) [] q i = elim i [ ]
in_drop zero (x ∷ l) q here = (0, omega arith, omega arith, refl)
in_drop zero (x ∷ l) q (there i) = let w = in_drop zero l q i in (suc w.0, omega arith, omega (arith, w.2), w.3)
in_drop (suc k) (x ∷ l) q i = let w = in_drop k l q i in (suc w.0, omega (arith, w.1), omega (arith, w.2), w.3)

reps_apart : {n s : ℕ} {reps : List ℕ} → Lengths n s → Rising n reps → (i : ℕ) → i < length reps
    → CosetApart n (get_or reps i 0) (drop (suc i) reps)
reps_apart {n} {s} {reps} l h i b =
    apart_of (length_at l) (get_or reps i 0) (drop (suc i) reps) (h.below i b)
    (λ q m. let w = in_drop (suc i) reps q m in (
      subst (λ (x : ℕ). get_or reps i 0 < x) w.3 (h.rising i w.0 (omega (arith, w.1)) w.2),
      ap (smallest n) (sym w.3) ∙ h.least w.0 w.2,
    ))

pub one_more : {n s i r : ℕ} {reps : List ℕ} → Lengths n s → Rising n reps → 0 < i → i ≤ length reps → r ≡ get_or reps (i - 1) 0
    → generator n (drop (i - 1) reps) ≡ clmul (generator n (r ∷ [])) (generator n (drop i reps))
one_more {i = zero} l h a b q = absurd (omega arith)
one_more {n} {s} {i = suc i} {r} {reps} l h a b q =
    let down : suc i - 1 ≡ i = omega arith in
    let is : r ≡ get_or reps i 0 = q ∙ ap (λ (k : ℕ). get_or reps k 0) down in
    ap (λ (k : ℕ). generator n (drop k reps)) down
    ∙ ap (generator n) (drop-cons reps i 0 (omega arith) ∙ ap (λ (x : ℕ). x ∷ drop (suc i) reps) (sym is))
    ∙ generator_join (length_at l) r (drop (suc i) reps)
    (subst (λ (x : ℕ). CosetApart n x (drop (suc i) reps)) (sym is) (reps_apart l h i (omega arith)))

-- ---- the product, representative by representative
pub record Making (n i : ℕ) (reps p₀ p w : List ℕ) : Type 0 where
  pub made : Multiplied (generator n (drop i reps)) p₀ p w
  pub long : length p ≡ length p₀
  pub other : length w ≡ length p₀

pub making_start : {n : ℕ} {reps p w : List ℕ} → packed p < 2 ^ places_in p → packed w ≡ 0 → length w ≡ length p
    → Making n (length reps) reps p p w
making_start {n} {reps} {p} {w} h e l = record {
  made = record {
    is = sym (ap (λ (g : ℕ). clmul g (packed p) % 2 ^ places_in p) (ap (generator n) (drop-length reps) ∙ generator_nil n)
        ∙ ap (λ (x : ℕ). x % 2 ^ places_in p) (clmul_one_l (packed p)) ∙ mod-eq_of_lt h);
    clear = e;
  };
  long = refl;
  other = l;
}

pub making_more : {n s i r : ℕ} {reps p₀ p w p' w' : List ℕ} → Lengths n s → Rising n reps → 0 < i → i ≤ length reps
    → r ≡ get_or reps (i - 1) 0 → Making n i reps p₀ p w → Multiplied (generator n (r ∷ [])) p p' w' → length p' ≡ length p → length w' ≡ length w
    → Making n (i - 1) reps p₀ p' w'
making_more {n} {s} {i} {r} {reps} {p₀} {p} {w} {p'} {w'} l h a b q t m lp lw =
    let same : places_in p ≡ places_in p₀ = ap (λ (x : ℕ). 64 * x) t.long in
    record {
      made = record {
        is = clmul_on (generator n (r ∷ [])) (generator n (drop i reps)) (packed p₀) (places_in p₀) t.made.is
            (m.is ∙ ap (λ (x : ℕ). clmul (generator n (r ∷ [])) (packed p) % 2 ^ x) same)
            ∙ ap (λ (g : ℕ). clmul g (packed p₀) % 2 ^ places_in p₀) (sym (one_more l h a b q));
        clear = m.clear;
      };
      long = lp ∙ t.long;
      other = lw ∙ t.other;
    }

-- ---- in place of 1
pub multiplied_one : {n P : ℕ} (reps : List ℕ) {p p' w' : List ℕ} → Length n → n < P → P ≡ places_in p → packed p ≡ 2 ^ 0 % 2 ^ P
    → Multiplied (generator n reps) p p' w' → packed p' ≡ generator n reps
multiplied_one {n} {P} reps {p} l h e q t =
    let d : suc (n - dimension n reps) ≤ P = omega arith in
    let lt : generator n reps < 2 ^ P = lt_of_lt_of_le (lt_of_degree (generator n reps) (n - dimension n reps) (generator_degree l reps)) (pow_mono d) in
    t.is ∙ ap (λ (x : ℕ). clmul (generator n reps) (packed p) % 2 ^ x) (sym e)
    ∙ ap (λ (x : ℕ). clmul (generator n reps) x % 2 ^ P) (q ∙ mod-eq_of_lt (pow-lt {i = 0} {j = P} (omega arith)))
    ∙ ap (λ (x : ℕ). x % 2 ^ P) (clmul_one_r (generator n reps)) ∙ mod-eq_of_lt lt
