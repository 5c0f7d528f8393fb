-- The parts of correcting a word, joined.
--
--   setting, computable, extendable, walkable, comparable, solvable, search      what each part needs of what was there before
--   stop_fits, stop_word, f_small, lower_enough      t u is at most L and fits a word, f is below 2^16, and the lower row has L places
--   solved_cut, choosable, chosen_solved, chosen_long      the locator, by the row that holds it
--   for_tables       the tables' s is the code's
--   corrected_clean      a codeword stays as it is
--   exit_many, exit_tested, passed      what they say of the received word
--   corrected        all of it
use mathlib.Core.Path.{◌≡◌, refl, sym, ap, ap₂, ◌∙◌, subst}
use mathlib.Core.Logic.{◌↔◌}
use mathlib.Core.Bool.{Bool, true, false}
use mathlib.Core.List.{List, [], ◌∷◌}
use Prim.Native.Nat.{ℕ, ◌-◌, ◌*◌, ◌/◌, ◌^◌, ◌≤◌, ◌<◌}
use native.Mathlib.Decide.{dec_lt}
use native.Mathlib.Omega.{arith}
use lib.ListN.{length, get_or, take}
use lib.Seq.{get_or-take, length-take-le}
use lib.Pow.{pow_pos}
use mir.Syntax.{w64}
use mir.Val.{Fits}
use Rattle.algebra.proofs.Coprime.{Divides}
use Rattle.algebra.proofs.Poly.{Polys}
use Rattle.algebra.proofs.Alternant.{factor}
use Rattle.algebra.proofs.Rows.{Done}
use Rattle.field.specs.Mask.{◌⊕◌, coefficient}
use Rattle.field.specs.Field.{order_of_two}
use Rattle.field.proofs.Xor.{digit_lt, ⊕-zero-r}
use Rattle.field.proofs.Elements.{GF}
use Rattle.binary.specs.Factor.{degree as degree_of}
use Rattle.cyclic.proofs.Places.{count}
use Rattle.cyclic.proofs.Radius.{radius_for, distance_of, stop_of, fits}
use Rattle.cyclic.proofs.Certificate.{syndromes}
use Rattle.cyclic.proofs.Syndromes.{Syndromes as Theory, stop}
use Rattle.cyclic.proofs.Decode.{Final, PlacesMarked}
use Rattle.document.specs.Sheet.{Certificate}
use Rattle.document.specs.Coset.{dimension}
use Rattle.document.specs.Answer.{Answer, returned, refused}
use Rattle.document.specs.Generator.{generator, is_codeword, Codeword, differences}
use Rattle.document.specs.Certificate.{radius, distance}
use Rattle.document.proofs.Theory.{Length, degree, code_of}
use Rattle.sheet.specs.declared.types.Certificate.{Certificate as CodeCertificate}
use Rattle.sheet.specs.Stage.{certificate_as}
use Rattle.certificate.specs.Rules.{Walkable}
use Rattle.certificate.proofs.Ranges.{Ranged}
use Rattle.certificate.proofs.Checks.{modulus_of, walkable_of}
use Rattle.certificate.proofs.Terms.{f_fits}
use Rattle.certificate.proofs.RulesHeld.{in_range, theory}
use Rattle.certificate.proofs.Distance.{differences_self}
use Rattle.binary.specs.Bits.{Holds}
use Rattle.poly.specs.Slice.{Small, Short, series}
use Rattle.poly.specs.Key.{Solvable, Solved, Outcome}
use Rattle.poly.specs.declared.types.Locator.{Locator}
use Rattle.poly.specs.declared.types.Locator.TheVariants.{Lower, Upper}
use Rattle.poly.proofs.Slices.{series_cut, small_cut, short_whole}
use Rattle.syndrome.specs.Sums.{Listed}
use Rattle.syndrome.proofs.Listing.{listed_none, listed_cut}
use Rattle.syndrome.specs.Value.{Evaluable, Computable, Computed, ValuesTested, Extendable, Comparable, Compared}
use Rattle.syndrome.proofs.Setting.{rep_in}
use Rattle.syndrome.specs.Series.{SyndromesOf}
use Rattle.locator.specs.Locate.{Search}
use Rattle.locator.specs.Locate as Places
use Rattle.locator.specs.declared.terms.Term.{Term}
use Rattle.locator.specs.declared.terms.Lanes.{Lanes}
use Rattle.decoder.specs.Correct.{Given, Choosable, Chosen, Verified, Correctable, Corrected}
use Rattle.decoder.proofs.Reception.{Known, syndromes_short, syndromes_small, received}
use Rattle.decoder.proofs.Cleared.{degree_of as own_degree}
use Rattle.decoder.proofs.Verdict.{far_many, far_other, close_here}

-- ---- numbers
stop_fits₀ : (L u v : ℕ) → v < u → radius_for (distance_of L u v) * u ≤ L
stop_fits₀ L u v h = omega (arith, fits L u v h (radius_for (distance_of L u v)) (omega arith))

module _ {n s t : ℕ} {c : CodeCertificate} {reps : List ℕ} (p : Given n s t c reps) where
  range : Ranged n (certificate_as c)
  range = in_range p.length_stated reps (certificate_as c) p.sound

  pub stop_fits : {u : ℕ} → u ≡ degree_of c.f → t * u ≤ c.terms
  unfolding radius distance radius_for distance_of
  stop_fits {u} e =
      subst (λ (x : ℕ). x ≤ c.terms) (ap₂ ◌*◌ (sym p.t_is) (sym e))
      (stop_fits₀ c.terms (degree_of c.f) (degree_of c.h) range.v)

  pub stop_word : {u : ℕ} → u ≡ degree_of c.f → Fits w64 (t * u)
  stop_word e = omega (arith, stop_fits e, p.few)

-- ---- the locator, by the row that holds it
solved_cut : {s l τ n : ℕ} {S v : List ℕ} → Solved s l τ S v n → Solved s l τ S (take n v) (length (take n v))
solved_cut {s} {l} {τ} {n} {S} {v} o =
    let k : length (take n v) ≡ n = length-take-le n v o.long in
    record {
      small = small_cut o.long o.short o.small;
      short = short_whole (take n v);
      pos = omega (arith, k, o.pos);
      long = omega arith;
      key = λ d.
          let y = o.key d in
          record { done = y.done; is = y.is ∙ sym (series_cut o.long o.short d); size = omega (arith, k, y.size) };
    }

module _ (s l τ : ℕ) (S v x : List ℕ) where
  pub choosable : (r : Locator) → Outcome s l τ S r v x → Choosable r v x
  choosable (Lower k) o = o.long
  choosable (Upper k) o = o.long

  chosen_solved : (lam : List ℕ) (r : Locator) → Outcome s l τ S r v x → Chosen r v x lam → Solved s l τ S lam (length lam)
  chosen_solved lam (Lower k) o e = subst (λ (i : List ℕ). Solved s l τ S i (length i)) (sym e) (solved_cut o)
  chosen_solved lam (Upper k) o e = subst (λ (i : List ℕ). Solved s l τ S i (length i)) (sym e) (solved_cut o)

  chosen_long : {m : ℕ} (lam : List ℕ) (r : Locator) → Outcome s l τ S r v x → Chosen r v x lam → length v ≤ m → length x ≤ m → length lam ≤ m
  chosen_long lam (Lower k) o e hv hx = omega (arith, ap length e, length-take-le k v o.long, o.long)
  chosen_long lam (Upper k) o e hv hx = omega (arith, ap length e, length-take-le k x o.long, o.long)

-- ---- what the parts need
pub for_tables : {n s s' t : ℕ} {c : CodeCertificate} {reps : List ℕ} → s' ≡ s → Given n s t c reps → Given n s' t c reps
for_tables {n} {t = t} {c} {reps} e p = subst (λ (i : ℕ). Given n i t c reps) (sym e) p

module _ {n s t : ℕ} {c : CodeCertificate} {reps col val a b v x : List ℕ} {terms : List Term} {lanes : List Lanes} {list w : List ℕ}
    (given : Given n s t c reps) (p : Correctable n c col val a b v x terms lanes list w) where
  setting : Evaluable n s reps
  setting = record {
    odd = given.length_stated.odd;
    s_is = given.s_is;
    below = given.below;
    degree = own_degree given;
  }

  pub computable : Computable n s w reps col val
  computable = record {
    setting = setting;
    bits = λ i. subst (λ (y : ℕ). y < 2) (sym (p.held.holds.at i)) (digit_lt (p.held.word / 2 ^ i));
    w_whole = p.held.whole;
    w_most = p.held.most;
    col_long = p.space.columns_long;
    val_long = p.space.values_long;
  }

  pub extendable : {val' : List ℕ} → length val' ≡ length val → Computed n s w reps val' → Extendable n s reps val'
  extendable l y = record {
    setting = setting;
    long = omega (arith, l, p.space.values_long);
    word = p.held.word;
    held = y.at p.held.word p.held.holds p.held.small;
  }

  pub walkable : {val' : List ℕ} → length val' ≡ length val → Walkable n c val'
  walkable e = walkable_of (range given) given.length_stated.odd.most given.few (omega (arith, e, p.space.values_long))

  pub f_small : c.f < 65536
  f_small = omega (arith, f_fits (walkable {val' = val} refl))

  pub lower_enough : c.terms ≤ length b
  lower_enough = omega (arith, p.space.lower_long)

  -- where they are at most t, the places are listed
  pub comparable : {m : ℕ} {lam list' val' : List ℕ} → Places.Located n s c.z c.f t lam list' m → length list' ≡ length list
      → length val' ≡ length val → m ≤ t → (m ≤ length list') × Comparable n s (take m list') reps val'
  comparable {m} {list' = list'} y ll lv h =
      let q = (y.found.all h).1 in
      let l : m ≤ length list' = omega (arith, q.le, ll, p.space.places_long) in
      let k : length (take m list') ≡ m = length-take-le m list' l in (
        l,
        record {
          setting = setting;
          few = omega (arith, q.le, k);
          places = λ i j.
              let z : i < m = omega (arith, j, k) in
              subst (λ (y : ℕ). y < n) (sym (get_or-take m list' i 0 z)) (q.below i z);
          val_long = omega (arith, lv, p.space.values_long);
        },
      )

  pub solvable : {u : ℕ} {val' b' : List ℕ} → u ≡ degree_of c.f → Known n s w reps val' → SyndromesOf n (certificate_as c) val' b b'
      → length b' ≡ length b → Solvable s c.terms (c.terms - t * u) a b' v x
  solvable {u} {val'} {b'} eu y z lb = record {
    b_small = subst (λ (d : ℕ). Small d b') (sym given.s_is)
        (syndromes_small given.length_stated reps (certificate_as c) given.sound
        (subst (λ (d : ℕ). Known n d w reps val') given.s_is y) z p.space.lower_zero p.held.holds p.held.small);
    b_short =
        syndromes_short given.length_stated reps (certificate_as c) given.sound
        (subst (λ (d : ℕ). Known n d w reps val') given.s_is y) z p.space.lower_zero p.held.holds p.held.small;
    a_zero = p.space.upper_zero;
    v_zero = p.space.lower_cofactor_zero;
    w_zero = p.space.upper_cofactor_zero;
    stop_most = omega arith;
    a_long = p.space.upper_long;
    b_long = omega (arith, p.space.lower_long, lb);
    v_long = p.space.lower_cofactor_long;
    w_long = p.space.upper_cofactor_long;
  }

  pub search : (τ : ℕ) (S v' x' lam : List ℕ) {u : ℕ} (r : Locator) → u ≡ degree_of c.f → Outcome s c.terms τ S r v' x'
      → Chosen r v' x' lam → length v' ≡ length v → length x' ≡ length x → Search n s c.z c.f u lam terms lanes list
  search τ S v' x' lam r eu o h lv lx =
      let y = chosen_solved s c.terms τ S v' x' lam r o h in
      record {
        odd = given.length_stated.odd;
        s_is = given.s_is;
        z_lo = (range given).z_low;
        z_hi = omega (arith, (range given).z_high, (range given).z_low);
        modulus = modulus_of (range given) eu;
        locator = record {
          small = y.small;
          pos = y.pos;
          terms_long = long p.space.terms_long;
          lanes_long = long p.space.lanes_long;
        };
        list_long = p.space.places_long;
      }
    where
      long : {k : ℕ} → (length v ≤ k) × (length x ≤ k) → length lam ≤ k
      long q = chosen_long s c.terms τ S v' x' lam r o h (omega (arith, lv, q.0)) (omega (arith, lx, q.1))

-- ---- answers told apart
value_is : {x y : ℕ} → returned (x ∷ []) ≡ returned (y ∷ []) → x ≡ y
value_is e = ap (λ (a : Answer). get_or a.values 0 0) e

answers_differ : {x : ℕ} → refused 13 ≡ returned (x ∷ []) → ⊥
answers_differ e = let z : ◌≡◌ {A = ℕ} 13 0 = ap (λ (a : Answer). a.number) e in omega arith

-- ---- a codeword stays as it is
pub corrected_clean : {n t : ℕ} {w reps list : List ℕ} {clean : Bool} → ValuesTested n w reps clean → clean ≡ true
    → Corrected n t reps w list (returned (0 ∷ []))
corrected_clean {n} {t} {reps = reps} {list} y e = record {
  found = λ {r} {m} hr lr q.
      let z = value_is q in
      let o : r ⊕ 0 ≡ r = ⊕-zero-r r in (
        0,
        subst (Codeword n reps) (sym o) record { small = lr; is = sym (y.is r hr lr) ∙ e },
        sym z ∙ sym (ap (differences n r) o ∙ differences_self n r),
        subst (λ (u : ℕ). u ≤ t) z (omega arith),
        pow_pos n,
        subst (Listed n 0 list) z (listed_none n),
      );
  none = λ hr lr q. absurd (answers_differ (sym q));
}

-- ---- the exits, where s is the code's own degree
module _ {n t : ℕ} {c : CodeCertificate} {reps : List ℕ} (p : Given n (order_of_two n) t c reps) {w list val b b' lam : List ℕ} {τ len m : ℕ}
    (values : Known n (order_of_two n) w reps val) (written : SyndromesOf n (certificate_as c) val b b') (fresh : Short 0 b)
    (τ_is : τ ≡ c.terms - t * degree_of c.f) (solved : Solved (order_of_two n) c.terms τ b' lam len)
    (marked : Places.Located n (order_of_two n) c.z c.f t lam list m) where
  abbrev l : Length n
  l = p.length_stated

  abbrev C : Certificate
  C = certificate_as c

  abbrev S : Theory (code_of l reps)
  S = syndromes (theory l reps C p.sound)

  stop_is : τ ≡ stop S
  unfolding theory stop_of radius distance radius_for distance_of
  stop_is = τ_is ∙ ap (λ (y : ℕ). c.terms - y * degree_of c.f) p.t_is

  final : (z : Final S (series (degree l) b')) × (z.t ≡ series (degree l) lam)
  unfolding theory
  final =
      subst (λ (y : ℕ). (z : Done (GF (degree l)) c.terms y (series (degree l) b')) × (z.t ≡ series (degree l) lam)) stop_is
      ((solved.key (degree l)).done, (solved.key (degree l)).is)

  located : PlacesMarked S final.0.t marked.mask
  unfolding theory
  located = record {
    small = marked.small;
    marks = λ i.
        subst (λ y. Divides (Polys (GF (degree l))) (factor (GF (degree l)) S.alternant i) y ↔ (coefficient i.0 marked.mask ≡ 1))
        (sym final.1) (marked.means (degree l) i.0 i.1);
  }

  exit_many : t < m → Corrected n t reps w list (refused 13)
  exit_many h = record {
    found = λ hr lr e. absurd (answers_differ e);
    none = λ {r} hr lr e x q.
        subst (λ (y : ℕ). y < differences n r x) (sym p.t_is)
        (far_many l reps C p.sound lr (received l reps C p.sound values written fresh hr lr) final.0 located
        (subst (λ (y : ℕ). y < count n marked.mask) p.t_is (marked.found.many h)) x q);
  }

  exit_tested : {y : Bool} → m ≤ t → (m ≤ length list) × Compared n (order_of_two n) (take m list) reps val y → (y ≡ true → Corrected n t reps w list (returned (m ∷ []))) × (y ≡ false → Corrected n t reps w list (refused 13))
  exit_tested {y} h k = (here, other)
    where
      says : {r : ℕ} → Holds r w → r < 2 ^ n → y ≡ is_codeword (n - dimension n reps) (generator n reps) (r ⊕ marked.mask)
      says {r} hr lr = k.1.is r marked.mask (listed_cut k.0 (marked.found.all h).1) lr marked.small (λ i l. values.at r hr lr (get_or reps i 0) (rep_in p.length_stated reps p.below i l))

      here : y ≡ true → Corrected n t reps w list (returned (m ∷ []))
      here e = record {
        found = λ {r} hr lr q.
            let k = close_here l reps C p.sound lr (received l reps C p.sound values written fresh hr lr) final.0 located
            (sym (says hr lr) ∙ e) in (
              marked.mask,
              k.0,
              sym (value_is q) ∙ (marked.found.all h).0 ∙ k.1,
              subst (λ (u : ℕ). u ≤ t) (value_is q) h,
              marked.small,
              subst (Listed n marked.mask list) (value_is q) (marked.found.all h).1,
            );
        none = λ hr lr q. absurd (answers_differ (sym q));
      }

      other : y ≡ false → Corrected n t reps w list (refused 13)
      other e = record {
        found = λ hr lr q. absurd (answers_differ q);
        none = λ {r} hr lr q x o.
            subst (λ (u : ℕ). u < differences n r x) (sym p.t_is)
            (far_other l reps C p.sound lr (received l reps C p.sound values written fresh hr lr) final.0 located
            (sym (says hr lr) ∙ e) x o);
      }

  passed : {answer : Answer} → Verified n (order_of_two n) t m list reps val answer → Corrected n t reps w list answer
  passed {answer} k = go (dec_lt t m)
    where
      like : {y : Answer} → answer ≡ y → Corrected n t reps w list y → Corrected n t reps w list answer
      like e z = subst (Corrected n t reps w list) (sym e) z

      tested : m ≤ t → (y : Bool) → k.right ≡ y → Corrected n t reps w list answer
      tested h true e = like (k.yes h e) ((exit_tested h (k.tested h)).0 e)
      tested h false e = like (k.no h e) ((exit_tested h (k.tested h)).1 e)

      go : Dec (t < m) → Corrected n t reps w list answer
      go (yes h) = like (k.many h) (exit_many h)
      go (no h) = tested (omega arith) k.right refl

-- ---- for any name of the degree, and whichever slice the locator stands in
module _ {n s t : ℕ} {c : CodeCertificate} {reps : List ℕ} (p : Given n s t c reps) {w list val b b' : List ℕ} {τ m : ℕ} {answer : Answer} where
  at_own : {len : ℕ} {lam : List ℕ} → Known n s w reps val → SyndromesOf n (certificate_as c) val b b' → Short 0 b → τ ≡ c.terms - t * degree_of c.f
      → Solved s c.terms τ b' lam len → Places.Located n s c.z c.f t lam list m → Verified n s t m list reps val answer → Corrected n t reps w list answer
  at_own {len} {lam} values written fresh τ_is solved marked k =
      own p.s_is p values solved marked k
    where
      own : {i : ℕ} → i ≡ order_of_two n → Given n i t c reps → Known n i w reps val → Solved i c.terms τ b' lam len
          → Places.Located n i c.z c.f t lam list m → Verified n i t m list reps val answer → Corrected n t reps w list answer
      own {i} e p values solved marked k =
          passed (subst (λ (i : ℕ). Given n i t c reps) e p) (subst (λ (i : ℕ). Known n i w reps val) e values) written fresh τ_is
          (subst (λ (i : ℕ). Solved i c.terms τ b' lam len) e solved) (subst (λ (i : ℕ). Places.Located n i c.z c.f t lam list m) e marked)
          (subst (λ (i : ℕ). Verified n i t m list reps val answer) e k)

  pub corrected : (v x lam : List ℕ) {u : ℕ} (r : Locator) → Known n s w reps val → SyndromesOf n (certificate_as c) val b b' → Short 0 b
      → u ≡ degree_of c.f → τ ≡ c.terms - t * u → Outcome s c.terms τ b' r v x → Chosen r v x lam
      → Places.Located n s c.z c.f t lam list m → Verified n s t m list reps val answer → Corrected n t reps w list answer
  corrected v x lam r values written fresh eu eτ o h marked k =
      at_own values written fresh (eτ ∙ ap (λ (i : ℕ). c.terms - t * i) eu) (chosen_solved s c.terms τ b' v x lam r o h) marked k
