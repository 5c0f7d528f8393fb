-- The search as a whole: f(α^(i z) x) divides the locator exactly where f divides the locator at α^(i (n - z)) x.
--
--   listable, multiple_lt, multiple_fits      what the parts need
--   located, located_alone      and what they say together
--   logged_by, places_by      the degree as a table of powers states it
use mathlib.Core.Path.{◌≡◌, refl, sym, ap, ◌∙◌, subst}
use mathlib.Core.Logic.{◌↔◌}
use mathlib.Core.Bool.{Bool, true, false}
use mathlib.Core.List.{List}
use Prim.Native.Nat.{ℕ, ◌+◌, ◌-◌, ◌*◌, ◌/◌, ◌^◌, ◌≤◌, ◌<◌, ◌∣◌}
use native.Mathlib.Nat.{le_of_dvd, mul-add, mul_assoc, mul_comm}
use native.Mathlib.Omega.{arith}
use lib.ListN.{length, get_or}
use Rattle.algebra.proofs.Power.{pow, pow-add, pow_mul, pow_multiple}
use Rattle.field.specs.Field.{Degree, OddLength, order_of_two}
use Rattle.field.proofs.OrderOfTwo.{order_divides}
use Rattle.field.proofs.Elements.{GF, gen, root, root_order}
use Rattle.cyclic.proofs.Lift.{lift}
use Rattle.field.specs.Tables.{Tables}
use Rattle.field.specs.Search.{bit}
use Rattle.syndrome.proofs.Roots.{root_lt}
use Rattle.poly.specs.Slice.{series}
use Rattle.locator.specs.declared.terms.Term.{Term}
use Rattle.locator.specs.declared.terms.Lanes.{Lanes}
use Rattle.locator.specs.Terms.{vanishes, Logged, TermsListable, TermsListed, vanishes_alone}
use Rattle.locator.specs.Locate.{hits, Found, Search, Located}
use Rattle.locator.proofs.Reduction.{divides_substituted}
use Rattle.locator.proofs.TermSums.{alone_is}
use Rattle.locator.proofs.Finding.{hits_lt, hits_at}

bit_one : (b : Bool) → ((b ≡ true) ↔ (bit b ≡ 1))
bit_one true = (λ e. refl, λ e. refl)
bit_one false = (λ e. ap bit e, λ e. absurd (omega arith))

divides : {n s : ℕ} → OddLength n → s ≡ order_of_two n → n ∣ 2 ^ s - 1
divides {n} o e = subst (λ (t : ℕ). n ∣ 2 ^ t - 1) (sym e) (order_divides o)

length_le : {n s : ℕ} {e g : List ℕ} → OddLength n → s ≡ order_of_two n → Tables s e g → n ≤ 2 ^ s - 1
length_le o e t = le_of_dvd (omega (arith, t.four)) (divides o e)

pub listable : {n s z f u back : ℕ} {lam e g places : List ℕ} {terms : List Term} {words : List Lanes} → Tables s e g
    → Search n s z f u lam terms words places → back < 2 ^ s - 1 → TermsListable s back f u lam g terms words
listable t p h = record {
  degree = t.degree;
  modulus = p.modulus;
  back_lt = h;
  g_long = t.g_long;
  g_at = t.g_at;
  locator = p.locator;
}

-- the degree as a table of powers states it
pub logged_by : {s s' c : ℕ} {lg st : List ℕ} → s' ≡ s → Logged s c lg st → Logged s' c lg st
logged_by {c = c} {lg} {st} e l = subst (λ (x : ℕ). Logged x c lg st) (sym e) l

pub places_by : {n s s' z f u : ℕ} {lam e g places : List ℕ} {terms : List Term} {words : List Lanes} → s' ≡ s → Tables s e g
    → Search n s z f u lam terms words places → (n ≤ 2 ^ s' - 1) × (n ≤ length places) × (n ≤ 65536)
places_by e t p = (omega (arith, ap (λ (k : ℕ). 2 ^ k) e, length_le p.odd p.s_is t), p.list_long, omega (arith, p.odd.most))

module _ {n s z f u q : ℕ} {lam e g list : List ℕ} {terms : List Term} {words : List Lanes} (tables : Tables s e g)
    (p : Search n s z f u lam terms words list) (q_is : q ≡ (2 ^ s - 1) / n) where
  pub multiple_lt : {r : ℕ} → r < n → r * q < 2 ^ s - 1
  multiple_lt {r} = root_lt p.odd p.s_is tables.degree q_is r

  pub multiple_fits : {r : ℕ} → r < n → r * q < 2 ^ 64
  multiple_fits h = omega (arith, multiple_lt h, tables.cap)

  -- α^(i z) α^(i (n - z)) = 1, the second as a power of ω
  opposite : (d : Degree s) (i : ℕ) → (GF d).mul (pow (GF d) (root d n) (i * z)) (pow (GF d) (gen d) (i * ((n - z) * q))) ≡ (GF d).𝟙
  unfolding root
  opposite d i =
      let back : i * ((n - z) * q) ≡ (2 ^ s - 1) / n * (i * (n - z)) =
      sym (mul_assoc i (n - z) q) ∙ mul_comm (i * (n - z)) q ∙ ap (λ (x : ℕ). x * (i * (n - z))) q_is in
      let whole : z + (n - z) ≡ n = omega (arith, p.z_hi) in
      let round : i * z + i * (n - z) ≡ n * i = sym (mul-add i z (n - z)) ∙ ap (λ (x : ℕ). i * x) whole ∙ mul_comm i n in
      ap (λ x. (GF d).mul (pow (GF d) (root d n) (i * z)) x)
      (ap (pow (GF d) (gen d)) back ∙ pow_mul (GF d) (gen d) ((2 ^ s - 1) / n) (i * (n - z)))
      ∙ sym (pow-add (GF d) (root d n) (i * z) (i * (n - z)))
      ∙ ap (pow (GF d) (root d n)) round ∙ pow_multiple (GF d) (root d n) n (root_order d n (divides p.odd p.s_is)) i

  -- the search reads the degree off a table of powers
  pub located : {t c r s' : ℕ} {lg' st' lo' hi' list' : List ℕ} → s' ≡ s → TermsListed s ((n - z) * q) f u lam lg' st' lo' hi' c
      → Found n t (hits n (vanishes s' (get_or lam 0 0) c lg' st' lo' hi')) list' r → Located n s z f t lam list' r
  located {t} {c} {r} {s'} {lg'} {st'} {lo'} {hi'} {list'} o v x = record {
    mask = hits n test;
    small = hits_lt n test;
    means = λ d i h.
        let a = divides_substituted (GF d) _ _ (opposite d i) (lift (GF d) f) (series d lam) in
        let b = v.means d i in
        let y = bit_one (test i) in
        (λ o. hits_at n test i h ∙ y.0 (b.1 (a.0 o)), λ o. a.1 (b.0 (y.1 (sym (hits_at n test i h) ∙ o))));
    found = subst (λ (k : ℕ). Found n t (hits n (vanishes k (get_or lam 0 0) c lg' st' lo' hi')) list' r) o x;
  }
    where
      test : ℕ → Bool
      test = vanishes s (get_or lam 0 0) c lg' st' lo' hi'

  -- the same for f = 1 + x
  pub located_alone : {t c r s' : ℕ} {lg' st' lo' hi' list' : List ℕ} → s' ≡ s → TermsListed s ((n - z) * q) f u lam lg' st' lo' hi' c → u ≡ 1
      → Found n t (hits n (vanishes_alone s' (get_or lam 0 0) c lg' st')) list' r → Located n s z f t lam list' r
  located_alone {t} {c} {r} {s'} {lg'} {st'} {list' = list'} o v e x =
      located refl v
      (subst (λ (test : ℕ → Bool). Found n t (hits n test) list' r) (alone_is s (get_or lam 0 0) lg' st' v.ones e)
      (subst (λ (k : ℕ). Found n t (hits n (vanishes_alone k (get_or lam 0 0) c lg' st')) list' r) o x))
