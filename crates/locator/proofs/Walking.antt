-- The walk over a locator's coefficients.
--
--   TermsUpTo           the slices after k coefficients: walking_start, walking_more
--   word_lt           a word of sums is below 2^64
--   words_null        two words are 0 exactly where all residues are
--   walking_end       so they tell at each place whether f divides the locator there
--   counted           a coefficient counts where it is not 0
--   Walk, walk_of     what is given
--   Loop, loop_start, loop_more, loop_end      the same with what the loop keeps
use mathlib.Core.Path.{◌≡◌, refl, sym, ap, ap₂, ◌∙◌, subst}
use mathlib.Core.Logic.{inl, inr, ◌↔◌}
use mathlib.Core.Bool.{Bool, true, false, ◌&&◌, not}
use mathlib.Core.List.{List}
use Prim.Native.Nat.{ℕ, zero, suc, ◌+◌, ◌-◌, ◌*◌, ◌/◌, ◌%◌, ◌^◌, ◌≤◌, ◌<◌}
use native.Mathlib.Nat.{div-one, mod-add-mod, mod-eq_of_lt, mod-lt, mul_comm, mul-one, mul-suc, pow-suc, zero-add, zero-mul}
use native.Mathlib.Numerals.{add-one}
use native.Mathlib.Omega.{arith}
use lib.Dec.{eqb}
use mir.Val.{bool_byte}
use lib.ListN.{length, get_or, get_or-eq_default, set, length-set, length-map}
use lib.Seq.{map-set}
use Rattle.std.specs.Prelude.{map}
use borrow.Author.Tests.{eqb-true, eq-eqb, ne_eqb}
use Rattle.algebra.proofs.Power.{pow}
use Rattle.algebra.proofs.Coprime.{Divides}
use Rattle.algebra.proofs.Poly.{Polys, le_or_lt}
use Rattle.algebra.proofs.Substitute.{sub}
use Rattle.field.specs.Search.{total}
use Rattle.field.specs.Mask.{◌⊕◌, coefficient, remainder}
use Rattle.field.specs.Field.{Degree, ω, field_power, logarithm}
use Rattle.field.proofs.Search.{true_ne_false}
use Rattle.field.proofs.Xor.{⊕-lt, ⊕-zero-l}
use Rattle.field.proofs.Primitive.{Degree-bounds}
use Rattle.field.proofs.Remainder.{xtime, remainder_small, remainder_dbl}
use Rattle.field.proofs.Elements.{GF, gen}
use Rattle.cyclic.proofs.Lift.{lift}
use Rattle.cyclic.proofs.Places.{coefficient_above}
use Rattle.binary.specs.Factor.{Modulus}
use Rattle.binary.proofs.MaskPeriod.{modulus_top, modulus_lt, count_more}
use Rattle.poly.specs.Slice.{Small, series}
use Rattle.locator.specs.declared.terms.Term.{Term}
use Rattle.locator.specs.declared.terms.Lanes.{Lanes}
use Rattle.locator.specs.Terms.{exponents_of, steps_of, low_of, high_of, lanes, term_sum, vanishes, Logged, TermsListable, TermsListed}
use Rattle.locator.proofs.Residue.{power_zero, residue, residue_high, divides_residues}
use Rattle.locator.proofs.TermSums.{sum_z, sum_s, weight_fits}
use Rattle.binary.specs.Lanes.{in_lanes, lane}
use Rattle.syndrome.proofs.Lanes.{lane_zero, lanes_null}
use Rattle.locator.proofs.Lanes.{lanes_le, lane_low}
use Rattle.locator.proofs.Entries.{Entry, LaneSum, listed_start, listed_more, word_start, word_more}

-- a locator, the logarithms, and slices as long as the locator
pub record Walk (s back f u : ℕ) (lam g lg st lo hi : List ℕ) : Type 0 where
  pub degree : Degree s
  pub modulus : Modulus f u
  pub back_lt : back < 2 ^ s - 1
  pub g_at : (a : ℕ) → a < 2 ^ s → get_or g a 0 ≡ logarithm s a
  pub small : Small s lam
  pub pos : 0 < length lam
  pub lg_long : length lam ≤ length lg
  pub st_long : length lam ≤ length st
  pub lo_long : length lam ≤ length lo
  pub hi_long : length lam ≤ length hi

pub record TermsUpTo (s back f u k : ℕ) (lam lg st lo hi : List ℕ) (c at y : ℕ) : Type 0 where
  pub fewer : c < k
  pub at_is : at ≡ back * k % (2 ^ s - 1)
  pub at_lt : at < 2 ^ s - 1
  pub y_is : y ≡ remainder u f (2 ^ k)
  pub listed : Logged s c lg st
  pub low : LaneSum s back f u k lam lg st lo 0 (get_or lam 0 0) c
  pub high : LaneSum s back f u k lam lg st hi 4 0 c

walking_start : {s back f u y : ℕ} {lam g lg st lo hi : List ℕ} → Walk s back f u lam g lg st lo hi
    → y ≡ remainder u f (1 * 2) → TermsUpTo s back f u 1 lam lg st lo hi 0 back y
walking_start {s} {back} {f} {u} {y} {lam} p e = record {
  fewer = omega arith;
  at_is = sym (ap (λ (x : ℕ). x % (2 ^ s - 1)) (mul-one back) ∙ mod-eq_of_lt p.back_lt);
  at_lt = p.back_lt;
  y_is = count_more p.modulus 0 1 y (sym (power_zero p.modulus)) e;
  listed = listed_start;
  low = word_start p.degree p.modulus (p.small.at 0)
      (λ j h. lane_low (get_or lam 0 0) (omega (arith, p.small.at 0, (Degree-bounds p.degree).1)) j h
      ∙ ap (λ (i : ℕ). coefficient i 1 * get_or lam 0 0) (sym (zero-add j)));
  high = word_start p.degree p.modulus (p.small.at 0)
      (λ j h. lane_zero j
      ∙ sym (ap (λ (x : ℕ). x * get_or lam 0 0) (coefficient_above {n = 1} (omega arith) (4 + j) (omega arith)) ∙ zero-mul _));
}

walking_more : {s back f u k c at y r a b end at' y' : ℕ} {lam g lg₀ st₀ lo₀ hi₀ lg st lo hi : List ℕ}
    → Walk s back f u lam g lg₀ st₀ lo₀ hi₀ → k < length lam → length lg ≡ length lg₀ → length st ≡ length st₀
    → length lo ≡ length lo₀ → length hi ≡ length hi₀ → (get_or lam k 0 ≡ 0 → r ≡ 0) → (0 < get_or lam k 0 → r ≡ 1) → r ≤ 1
    → a ≡ lanes y → b ≡ lanes (y / 16) → end ≡ 2 ^ s - 1 → at' ≡ (at + back) % end → y' ≡ remainder u f (y * 2)
    → TermsUpTo s back f u k lam lg st lo hi c at y
    → TermsUpTo s back f u (k + 1) lam (set lg c (get_or g (get_or lam k 0) 0)) (set st c at) (set lo c a) (set hi c b) (c + r) at' y'
walking_more {s} {back} {f} {u} {k} {c} {at} {y} {r} {a} {b} {end} {at'} {y'} {lam} {g} {lg₀} {st₀} {lo₀}
    {hi₀} {lg} {st} {lo} {hi} p h el es eo eh r0 r1 r_le a_is b_is end_is at_next y_next w = record {
      fewer = omega (arith, w.fewer);
      at_is = at_next ∙ ap (λ (m : ℕ). (at + back) % m) end_is ∙ ap (λ (z : ℕ). (z + back) % (2 ^ s - 1)) w.at_is
          ∙ mod-add-mod (back * k) (2 ^ s - 1) back
          ∙ ap (λ (z : ℕ). z % (2 ^ s - 1)) (sym (ap (λ (j : ℕ). back * j) (add-one k) ∙ mul-suc back k));
      at_lt = subst (λ (z : ℕ). z < 2 ^ s - 1) (sym (at_next ∙ ap (λ (m : ℕ). (at + back) % m) end_is))
          (mod-lt (at + back) (omega (arith, p.back_lt)));
      y_is = count_more p.modulus k y y' w.y_is y_next;
      listed = listed_more entry w.listed;
      low = word_more entry (omega (arith, w.fewer, p.lo_long)) w.y_is (a_is ∙ ap lanes (sym (div-one y))) w.low;
      high = word_more entry (omega (arith, w.fewer, p.hi_long)) w.y_is b_is w.high;
    }
  where
    entry : Entry s back k c (get_or lam k 0) (get_or g (get_or lam k 0) 0) at r lam lg st
    entry = record {
      degree = p.degree;
      x_is = refl;
      x_lt = p.small.at k;
      l_is = p.g_at (get_or lam k 0) (p.small.at k);
      at_is = w.at_is;
      at_lt = w.at_lt;
      none = r0;
      some = r1;
      once = r_le;
      lg_fits = omega (arith, w.fewer, p.lg_long);
      st_fits = omega (arith, w.fewer, p.st_long);
    }

-- ---- the end
word_lt : {s : ℕ} → Degree s → (lg st co : List ℕ) (i c : ℕ) → ((m : ℕ) → m < c → get_or co m 0 ≤ lanes 15)
    → term_sum s lg st (λ m. get_or co m 0) i c < 2 ^ 64
word_lt {s} d lg st co i zero h = rw sum_z (omega arith)
word_lt {s} d lg st co i (suc m) h =
    rw sum_s
    (⊕-lt 64 _ _ (word_lt d lg st co i m (λ k l. h k (omega arith)))
    (subst (λ (x : ℕ). x < 2 ^ 64) (mul_comm (field_power s ω (get_or lg m 0 + i * get_or st m 0)) (get_or co m 0))
    (weight_fits (get_or co m 0) (get_or lg m 0 + i * get_or st m 0) d refl refl (h m (omega arith)))))

-- all residues are 0 where the low ones, in the word a, and the high ones, in b, are
words_null : (a b u : ℕ) (R : ℕ → ℕ) → a < 2 ^ 64 → b < 2 ^ 64 → u ≤ 8 → ((j : ℕ) → u ≤ j → R j ≡ 0)
    → ((j : ℕ) → j < 4 → lane j a ≡ R (0 + j)) → ((j : ℕ) → j < 4 → lane j b ≡ R (4 + j))
    → (((b ≡ 0) × (a ≡ 0)) ↔ ((j : ℕ) → j < u → R j ≡ 0))
words_null a b u R ha hb hu past low high = (to, from)
  where
    to : (b ≡ 0) × (a ≡ 0) → (j : ℕ) → j < u → R j ≡ 0
    to e j h = elim (le_or_lt 4 j) [
      | inl l ↦ (let q : 4 + (j - 4) ≡ j = omega arith in
          ap R (sym q) ∙ sym (high (j - 4) (omega arith)) ∙ ap (lane (j - 4)) e.0 ∙ lane_zero (j - 4))
      | inr l ↦ ap R (sym (zero-add j)) ∙ sym (low j l) ∙ ap (lane j) e.1 ∙ lane_zero j
    ]

    any : ((j : ℕ) → j < u → R j ≡ 0) → (j : ℕ) → R j ≡ 0
    any z j = elim (le_or_lt u j) [ inl l ↦ past j l | inr l ↦ z j l ]

    from : ((j : ℕ) → j < u → R j ≡ 0) → (b ≡ 0) × (a ≡ 0)
    from z =
        (lanes_null b hb (λ j l. high j l ∙ any z (4 + j)), lanes_null a ha (λ j l. low j l ∙ any z (0 + j)))

both_null : (a b : ℕ) → ((eqb a 0 && eqb b 0 ≡ true) ↔ ((a ≡ 0) × (b ≡ 0)))
both_null a b = (λ e. go (eqb a 0) refl (eqb b 0) refl e, λ e. ap₂ ◌&&◌ (eq-eqb a 0 e.0) (eq-eqb b 0 e.1))
  where
    go : (p : Bool) → eqb a 0 ≡ p → (q : Bool) → eqb b 0 ≡ q → p && q ≡ true → (a ≡ 0) × (b ≡ 0)
    go true p true q e = (eqb-true a 0 p, eqb-true b 0 q)
    go true p false q e = absurd (true_ne_false e refl)
    go false p q r e = absurd (true_ne_false e refl)

-- ---- what the words tell
-- f = 1 + x leaves 1 of every power
three_left : (i : ℕ) → remainder 1 3 (2 ^ i) ≡ 1
unfolding xtime ◌⊕◌
three_left zero = remainder_small 1 3 (omega arith) refl 1 (omega arith)
three_left (suc i) =
    ap (remainder 1 3) (pow-suc 2 i) ∙ remainder_dbl 1 3 (omega arith) refl (2 ^ i) ∙ ap (xtime 1 3) (three_left i)

one_left : {f u : ℕ} → Modulus f u → u ≡ 1 → (i : ℕ) → remainder u f (2 ^ i) ≡ 1
one_left {f} {u} m e i =
    let l : f < 2 ^ 2 = subst (λ (v : ℕ). f < 2 ^ suc v) e (modulus_lt m) in
    let t : f / 2 ^ 1 ≡ 1 = subst (λ (v : ℕ). f / 2 ^ v ≡ 1) e (modulus_top m) in
    let three : f ≡ 3 = omega (arith, m.odd) in
    ap₂ (λ (v w : ℕ). remainder v w (2 ^ i)) e three ∙ three_left i

one_lane : (lanes (1 / 2 ^ 0) ≡ 1) × (lanes (1 / 2 ^ 4) ≡ 0)
unfolding lanes in_lanes total
one_lane = (refl, refl)

module _ {s back f u k c at y : ℕ} {lam g lg₀ st₀ lo₀ hi₀ lg st lo hi : List ℕ}
    (p : Walk s back f u lam g lg₀ st₀ lo₀ hi₀) (w : TermsUpTo s back f u k lam lg st lo hi c at y) where
  lo_le : (m : ℕ) → m < c → get_or lo m 0 ≤ lanes 15
  lo_le m h = let q = w.low.of m h in subst (λ (x : ℕ). x ≤ lanes 15) (sym q.1) (lanes_le _)

  hi_le : (m : ℕ) → m < c → get_or hi m 0 ≤ lanes 15
  hi_le m h = let q = w.high.of m h in subst (λ (x : ℕ). x ≤ lanes 15) (sym q.1) (lanes_le _)

  means : k ≡ length lam → (d : Degree s) (i : ℕ)
      → (vanishes s (get_or lam 0 0) c lg st lo hi i ≡ true)
      ↔ Divides (Polys (GF d)) (lift (GF d) f) (sub (GF d) (pow (GF d) (gen d) (i * back)) (series d lam))
  unfolding vanishes
  means e d i =
      let a = both_null (term_sum s lg st (λ m. get_or hi m 0) i c) (get_or lam 0 0 ⊕ term_sum s lg st (λ m. get_or lo m 0) i c) in
      let first : get_or lam 0 0 < 2 ^ 64 = omega (arith, p.small.at 0, (Degree-bounds d).1) in
      let b = words_null _ _ u (λ j. residue s f u lam (i * back) j k) (⊕-lt 64 _ _ first (word_lt d lg st lo i c lo_le))
      (word_lt d lg st hi i c hi_le) p.modulus.hi (λ j l. residue_high p.modulus s lam (i * back) j k l)
      (w.low.sum i)
      (λ j l. ap (lane j) (sym (⊕-zero-l _)) ∙ w.high.sum i j l) in
      let z = divides_residues d p.modulus k (i * back) lam (record { at = λ j l. get_or-eq_default lam 0 (omega (arith, e)) }) in
      (λ t. z.1 (b.0 (a.0 t)), λ t. a.1 (b.1 (z.0 t)))

  walking_end : k ≡ length lam → length lo ≡ length lo₀ → length hi ≡ length hi₀ → TermsListed s back f u lam lg st lo hi c
  walking_end e eo eh = record {
    listed = w.listed;
    laned = record {
      lo_long = omega (arith, w.fewer, p.lo_long);
      hi_long = omega (arith, w.fewer, p.hi_long);
      lo_le = lo_le;
      hi_le = hi_le;
    };
    ones = record {
      lo_one = λ o m h. let q = w.low.of m h in
          q.1 ∙ ap (λ (x : ℕ). lanes (x / 2 ^ 0)) (one_left p.modulus o q.0) ∙ one_lane.0;
      hi_one = λ o m h. let q = w.high.of m h in
          q.1 ∙ ap (λ (x : ℕ). lanes (x / 2 ^ 4)) (one_left p.modulus o q.0) ∙ one_lane.1;
    };
    means = means e;
  }

-- ---- the loop: the slices as they were given and as they are
pub counted : (x : ℕ) {r : ℕ} → r ≡ bool_byte (not (eqb x 0)) → (x ≡ 0 → r ≡ 0) × (0 < x → r ≡ 1) × (r ≤ 1)
counted zero q = (λ e. q, λ l. absurd (omega arith), omega (arith, q))
counted (suc x) q =
    let e : bool_byte (not (eqb (suc x) 0)) ≡ 1 = ap (λ b. bool_byte (not b)) (ne_eqb (suc x) 0 (λ z. omega arith)) in
    (λ z. absurd (omega arith), λ l. q ∙ e, omega (arith, q, e))

pub record Loop (s back f u end : ℕ) (lam g : List ℕ) (terms₀ : List Term) (words₀ : List Lanes) (terms : List Term) (words : List Lanes) (c at y k : ℕ) : Type 0 where
  pub given : Walk s back f u lam g (exponents_of terms₀) (steps_of terms₀) (low_of words₀) (high_of words₀)
  pub end_is : end ≡ 2 ^ s - 1
  pub k_le : k ≤ length lam
  pub terms_kept : length terms ≡ length terms₀
  pub words_kept : length words ≡ length words₀
  pub walking : TermsUpTo s back f u k lam (exponents_of terms) (steps_of terms) (low_of words) (high_of words) c at y

pub walk_of : {s back f u : ℕ} {lam g : List ℕ} {terms : List Term} {words : List Lanes} → TermsListable s back f u lam g terms words
    → Walk s back f u lam g (exponents_of terms) (steps_of terms) (low_of words) (high_of words)
walk_of {terms = terms} {words} p = let l = p.locator in record {
  degree = p.degree;
  modulus = p.modulus;
  back_lt = p.back_lt;
  g_at = p.g_at;
  small = l.small;
  pos = l.pos;
  lg_long = omega (arith, l.terms_long, length-map terms (λ (t : Term). t.exponent));
  st_long = omega (arith, l.terms_long, length-map terms (λ (t : Term). t.step));
  lo_long = omega (arith, l.lanes_long, length-map words (λ (w : Lanes). w.low));
  hi_long = omega (arith, l.lanes_long, length-map words (λ (w : Lanes). w.high));
}

pub loop_start : {s back f u end y : ℕ} {lam g : List ℕ} {terms : List Term} {words : List Lanes} → TermsListable s back f u lam g terms words
    → end ≡ 2 ^ s - 1 → y ≡ remainder u f (1 * 2) → Loop s back f u end lam g terms words terms words 0 back y 1
loop_start p o e = let w = walk_of p in record {
  given = w;
  end_is = o;
  k_le = omega (arith, w.pos);
  terms_kept = refl;
  words_kept = refl;
  walking = walking_start w e;
}

pub loop_more : {s back f u end c at y k r at' y' : ℕ} {lam g : List ℕ} {terms₀ terms : List Term} {words₀ words : List Lanes} (t : Term) (w : Lanes)
    → k < length lam → r ≡ bool_byte (not (eqb (get_or lam k 0) 0)) → t.exponent ≡ get_or g (get_or lam k 0) 0 → t.step ≡ at
    → w.low ≡ lanes y → w.high ≡ lanes (y / 16) → at' ≡ (at + back) % end → y' ≡ remainder u f (y * 2)
    → Loop s back f u end lam g terms₀ words₀ terms words c at y k
    → Loop s back f u end lam g terms₀ words₀ (set terms c t) (set words c w) (c + r) at' y' (k + 1)
loop_more {s} {back} {f} {u} {c = c} {at} {k = k} {r} {at'} {y'} {lam} {g} {terms₀} {terms} {words₀} {words} t w h q lg_is st_is a_is b_is at_next y_next v = record {
  given = v.given;
  end_is = v.end_is;
  k_le = omega arith;
  terms_kept = simp length-set v.terms_kept;
  words_kept = simp length-set v.words_kept;
  walking =
      subst (λ (x : List ℕ). TermsUpTo s back f u (k + 1) lam x (steps_of (set terms c t)) (low_of (set words c w)) (high_of (set words c w)) (c + r) at' y')
      (ap (set (exponents_of terms) c) (sym lg_is) ∙ sym (map-set (λ (t : Term). t.exponent) terms c t))
      (subst (λ (x : List ℕ). TermsUpTo s back f u (k + 1) lam (set (exponents_of terms) c (get_or g (get_or lam k 0) 0)) x (low_of (set words c w)) (high_of (set words c w)) (c + r) at' y')
      (ap (set (steps_of terms) c) (sym st_is) ∙ sym (map-set (λ (t : Term). t.step) terms c t))
      (subst (λ (x : List ℕ). TermsUpTo s back f u (k + 1) lam (set (exponents_of terms) c (get_or g (get_or lam k 0) 0)) (set (steps_of terms) c at) x (high_of (set words c w)) (c + r) at' y')
      (sym (map-set (λ (w : Lanes). w.low) words c w))
      (subst (λ (x : List ℕ). TermsUpTo s back f u (k + 1) lam (set (exponents_of terms) c (get_or g (get_or lam k 0) 0)) (set (steps_of terms) c at) (set (low_of words) c w.low) x (c + r) at' y')
      (sym (map-set (λ (w : Lanes). w.high) words c w)) more)));
}
  where
    more : TermsUpTo s back f u (k + 1) lam (set (exponents_of terms) c (get_or g (get_or lam k 0) 0)) (set (steps_of terms) c at) (set (low_of words) c w.low) (set (high_of words) c w.high) (c + r) at' y'
    more =
        let n = counted (get_or lam k 0) q in
        walking_more v.given h (kept_terms (λ (t : Term). t.exponent)) (kept_terms (λ (t : Term). t.step)) (kept_words (λ (w : Lanes). w.low)) (kept_words (λ (w : Lanes). w.high))
        n.0 n.1 n.2 a_is b_is v.end_is at_next y_next v.walking
      where
        kept_terms : (a : Term → ℕ) → length (map a terms) ≡ length (map a terms₀)
        kept_terms a = length-map terms a ∙ v.terms_kept ∙ sym (length-map terms₀ a)

        kept_words : (a : Lanes → ℕ) → length (map a words) ≡ length (map a words₀)
        kept_words a = length-map words a ∙ v.words_kept ∙ sym (length-map words₀ a)

pub loop_end : {s back f u end c at y k : ℕ} {lam g : List ℕ} {terms₀ terms : List Term} {words₀ words : List Lanes} → length lam ≤ k
    → Loop s back f u end lam g terms₀ words₀ terms words c at y k
    → TermsListed s back f u lam (exponents_of terms) (steps_of terms) (low_of words) (high_of words) c
loop_end {terms₀ = terms₀} {terms} {words₀} {words} h v =
    walking_end v.given v.walking (omega (arith, v.k_le))
    (length-map words (λ (w : Lanes). w.low) ∙ v.words_kept ∙ sym (length-map words₀ (λ (w : Lanes). w.low)))
    (length-map words (λ (w : Lanes). w.high) ∙ v.words_kept ∙ sym (length-map words₀ (λ (w : Lanes). w.high)))
