-- A word's values at the representatives, and whether all are 0.
--
--   cut_fits, cut_is      a byte has two columns
--   columnable, summable, value_here      the value at a representative by columns
--   Computing, computing_start, computing_more, computing_end      the first k representatives
--   Testing, testing_start, testing_more, testing_end, testing_wrong      a codeword is 0 at each representative
--   AllZero, quiet_start, quiet_more, quiet_end      whether the values so far are 0
--   Values, values_start, values_more, values_end      all that the loop keeps
--   values_summable, values_by, values_in      what a turn needs
use mathlib.Core.Path.{◌≡◌, refl, sym, ap, ap₂, ◌∙◌, subst}
use mathlib.Core.Logic.{◌≢◌}
use mathlib.Core.Bool.{Bool, true, false, ◌&&◌}
use mathlib.Core.List.{List}
use Prim.Native.Nat.{ℕ, ◌+◌, ◌-◌, ◌*◌, ◌/◌, ◌^◌, ◌≤◌, ◌<◌}
use native.Mathlib.Decide.{ℕ_discrete}
use native.Mathlib.Omega.{arith}
use lib.Dec.{eqb}
use lib.ListN.{length, get_or, set, take, length-set, get_or-eq_default}
use lib.Seq.{get_or-set_same, get_or-set_other, length-take-le}
use borrow.Author.Tests.{eq-eqb, ne_eqb}
use Rattle.algebra.proofs.Lists.{All, all_of, all_at, In}
use Rattle.field.specs.Field.{order_of_two, ω, α, field_power}
use Rattle.field.proofs.Search.{true_ne_false}
use Rattle.field.proofs.Primitive.{Degree-bounds}
use Rattle.document.specs.Generator.{value_below, value_at}
use Rattle.document.proofs.Encoding.{representatives_iff}
use Rattle.binary.specs.Bits.{Holds}
use Rattle.binary.proofs.Digits.{below_pow}
use Rattle.codeword.specs.Place.{places_of}
use Rattle.codeword.proofs.Places.{places_length}
use Rattle.syndrome.specs.Columns.{Columnable, Columned, Summable, Valued}
use Rattle.syndrome.proofs.ValueSums.{value_of_lem}
use Rattle.syndrome.proofs.Roots.{root_by, value_all}
use Rattle.syndrome.proofs.Horner.{run_below}
use Rattle.syndrome.specs.Value.{value_of, Evaluable, Computable, Computed, ValuesTested}
use Rattle.syndrome.proofs.Setting.{long, at_in, in_at, by_lt, place_lt}

-- ---- a word in columns
pub cut_fits : {n s : ℕ} (word : List ℕ) {reps col val : List ℕ} → Computable n s (places_of word) reps col val → length word * 2 ≤ length col
cut_fits word p = omega (arith, p.w_most, p.col_long, places_length word)

pub cut_is : {n s : ℕ} (word : List ℕ) {reps col val : List ℕ} → Computable n s (places_of word) reps col val
    → length (take (length word * 2) col) ≡ length (places_of word) / 8 * 2
cut_is word {col = col} p = length-take-le _ col (cut_fits word p) ∙ omega (arith, places_length word)

module _ {n s b : ℕ} {w reps col val : List ℕ} (p : Computable n s w reps col val) (b_is : b ≡ length w / 8 * 2) where
  pub columnable : Columnable b w
  columnable = record {
    bits = p.bits;
    long = omega arith;
    even = omega arith;
    few = omega (arith, p.w_most, p.setting.odd.most);
  }

  module _ {q : ℕ} (q_is : q ≡ (2 ^ s - 1) / n) where
    pub summable : {k r : ℕ} {col' : List ℕ} → k < length reps → r ≡ get_or reps k 0 → length col' ≡ b → Columned (length col') w col'
        → Summable s (r * q) col'
    summable {k} h a l c = record {
      by_lt = by_lt p.setting q_is {k = k} h a;
      b_le = omega (arith, p.w_most, place_lt p.setting q_is (n - 1) (omega (arith, p.setting.odd.least)), p.setting.odd.least);
      even = omega arith;
      word = w;
      columned = c;
    }

    pub value_here : (r : ℕ) {v : ℕ} {col' : List ℕ} → Columned b w col' → Valued b s (r * q) col' v → (a : ℕ) → Holds a w → a < 2 ^ n
        → v ≡ value_of n s a r
    value_here r {v} t y a ha l =
        let short : a < 2 ^ (4 * b) =
        below_pow (4 * b) a (λ i h. sym (ha.at i) ∙ get_or-eq_default w 0 (omega (arith, p.w_whole))) in
        y.is w t ∙ run_below (λ i. field_power s ω (i * (r * q))) ha (4 * b)
        ∙ value_of_lem p.setting.degree (r * q) (4 * b) a
        ∙ ap (λ (x : ℕ). value_below s x (4 * b) a) (root_by p.setting.odd p.setting.s_is p.setting.degree q_is r)
        ∙ value_all s (field_power s (α s n) r) a (4 * b) short

-- ---- the representatives in turn
pub record Computing (n s k : ℕ) (w reps val : List ℕ) : Type 0 where
  pub done : (c : ℕ) → Holds c w → c < 2 ^ n → (i : ℕ) → i < k → get_or val (get_or reps i 0) 0 ≡ value_of n s c (get_or reps i 0)

pub computing_start : {n s : ℕ} {w reps val : List ℕ} → Computing n s 0 w reps val
computing_start = record { done = λ c h l i b. absurd (omega arith) }

pub computing_more : {n s k r v : ℕ} {w reps val : List ℕ} → Computing n s k w reps val → r ≡ get_or reps k 0 → r < length val
    → ((c : ℕ) → Holds c w → c < 2 ^ n → v ≡ value_of n s c r) → Computing n s (k + 1) w reps (set val r v)
computing_more {n} {s} {k} {r} {v} {w} {reps} {val} t e inside f = record {
  done = λ c h l i b. elim (ℕ_discrete (get_or reps i 0) r) [
    | yes q ↦ ap (λ (x : ℕ). get_or (set val r v) x 0) q ∙ get_or-set_same val r v 0 inside ∙ f c h l ∙ ap (value_of n s c) (sym q)
    | no q ↦ get_or-set_other val r (get_or reps i 0) v 0 q
        ∙ t.done c h l i (before i b (λ z. q (ap (λ (x : ℕ). get_or reps x 0) z ∙ sym e)))
  ];
}
  where
    before : (i : ℕ) → i < k + 1 → i ≢ k → i < k
    before i b z = omega arith

pub computing_end : {n s k : ℕ} {w reps val : List ℕ} → length reps ≤ k → Computing n s k w reps val → Computed n s w reps val
computing_end h t = record { at = λ c hc l i b. t.done c hc l i (omega arith) }

-- ---- the test for a codeword
pub record Testing (n s k : ℕ) (w reps : List ℕ) : Type 0 where
  pub done : (c : ℕ) → Holds c w → c < 2 ^ n → (i : ℕ) → i < k → value_of n s c (get_or reps i 0) ≡ 0

pub testing_start : {n s : ℕ} {w reps : List ℕ} → Testing n s 0 w reps
testing_start = record { done = λ c h l i b. absurd (omega arith) }

pub testing_more : {n s k r : ℕ} {w reps : List ℕ} → Testing n s k w reps → r ≡ get_or reps k 0
    → ((c : ℕ) → Holds c w → c < 2 ^ n → 0 ≡ value_of n s c r) → Testing n s (k + 1) w reps
testing_more {n} {s} {k} {r} {w} {reps} t e f = record {
  done = λ c h l i b. elim (ℕ_discrete i k) [
    | yes q ↦ ap (λ (x : ℕ). value_of n s c (get_or reps x 0)) q ∙ ap (value_of n s c) (sym e) ∙ sym (f c h l)
    | no q ↦ t.done c h l i (omega arith)
  ];
}

pub testing_end : {n s k : ℕ} {w reps : List ℕ} → Evaluable n s reps → length reps ≤ k → Testing n s k w reps
    → ValuesTested n w reps true
testing_end {n} {s} {k} {w} {reps} p h t = record {
  is = λ c hc l.
      sym
      ((representatives_iff (long p) reps c).1
      (all_of reps
      (λ r i. let a = in_at i in
      ap (λ (x : ℕ). value_at x (field_power x (α x n) r) c) (sym p.s_is) ∙ ap (value_of n s c) (sym a.2) ∙ t.done c hc l a.0 (omega (arith, a.1)))));
}

pub testing_wrong : {n s k r v : ℕ} {w reps : List ℕ} → Evaluable n s reps → k < length reps → r ≡ get_or reps k 0 → v ≢ 0
    → ((c : ℕ) → Holds c w → c < 2 ^ n → v ≡ value_of n s c r) → ValuesTested n w reps false
testing_wrong {n} {s} {k} {r} {v} {w} {reps} p h e ne f = record {
  is = λ c hc l. no_word c (f c hc l) _ (λ y. (representatives_iff (long p) reps c).0 y);
}
  where
    no_word : (c : ℕ) → v ≡ value_of n s c r → (b : Bool) → (b ≡ true → All (λ r. value_of n (order_of_two n) c r ≡ 0) reps) → false ≡ b
    no_word c q false g = refl
    no_word c q true g =
        absurd
        (ne
        (q ∙ ap (λ (x : ℕ). value_at x (field_power x (α x n) r) c) p.s_is
        ∙ all_at (g refl) (subst (λ (x : ℕ). In x reps) (sym e) (at_in reps k h))))

-- ---- the same beside the values: quiet as long as all are 0
pub record AllZero (n s k : ℕ) (w reps : List ℕ) (quiet : Bool) : Type 0 where
  pub yes : quiet ≡ true → Testing n s k w reps
  pub no : quiet ≡ false → ValuesTested n w reps false

pub quiet_start : {n s : ℕ} {w reps : List ℕ} → AllZero n s 0 w reps true
quiet_start = record { yes = λ e. testing_start; no = λ e. absurd (true_ne_false refl e) }

pub quiet_more : {n s k r v : ℕ} {w reps : List ℕ} {quiet : Bool} → Evaluable n s reps → k < length reps → r ≡ get_or reps k 0
    → ((c : ℕ) → Holds c w → c < 2 ^ n → v ≡ value_of n s c r) → AllZero n s k w reps quiet → AllZero n s (k + 1) w reps (quiet && eqb v 0)
quiet_more {n} {s} {k} {r} {v} {w} {reps} {quiet = quiet} p h e f t = go quiet refl (ℕ_discrete v 0)
  where
    go : (b : Bool) → quiet ≡ b → Dec (v ≡ 0) → AllZero n s (k + 1) w reps (quiet && eqb v 0)
    go false q d =
        subst (AllZero n s (k + 1) w reps) (sym (ap (λ b. b && eqb v 0) q))
        record { yes = λ o. absurd (true_ne_false o refl); no = λ o. t.no q }
    go true q (yes z) =
        subst (AllZero n s (k + 1) w reps) (sym (ap₂ ◌&&◌ q (eq-eqb v 0 z)))
        record {
          yes = λ o. testing_more (t.yes q) e (λ c hc l. sym z ∙ f c hc l);
          no = λ o. absurd (true_ne_false refl o);
        }
    go true q (no z) =
        subst (AllZero n s (k + 1) w reps) (sym (ap₂ ◌&&◌ q (ne_eqb v 0 z)))
        record { yes = λ o. absurd (true_ne_false o refl); no = λ o. testing_wrong {k = k} p h e z f }

pub quiet_end : {n s k : ℕ} {w reps : List ℕ} {quiet : Bool} → Evaluable n s reps → length reps ≤ k → AllZero n s k w reps quiet
    → ValuesTested n w reps quiet
quiet_end {n} {w = w} {reps} {quiet = quiet} p h t = go quiet refl
  where
    go : (b : Bool) → quiet ≡ b → ValuesTested n w reps quiet
    go true q = subst (ValuesTested n w reps) (sym q) (testing_end p h (t.yes q))
    go false q = subst (ValuesTested n w reps) (sym q) (t.no q)

-- ---- all that the loop over the representatives keeps; the columns were given as `empty`
pub record Values (n s q : ℕ) (w reps col val₀ val : List ℕ) (clean : Bool) (k : ℕ) : Type 0 where
  pub empty : List ℕ
  pub given : Computable n s w reps empty val₀
  pub b_is : length col ≡ length w / 8 * 2
  pub columned : Columned (length col) w col
  pub q_is : q ≡ (2 ^ s - 1) / n
  pub k_le : k ≤ length reps
  pub kept : length val ≡ length val₀
  pub computing : Computing n s k w reps val
  pub quiet : AllZero n s k w reps clean

pub values_start : {n s o : ℕ} {w reps empty col val : List ℕ} → Computable n s w reps empty val → length col ≡ length w / 8 * 2
    → Columned (length col) w col → o ≡ 2 ^ s - 1 → Values n s (o / n) w reps col val val true 0
values_start {n} {empty = empty} p b_is c o_is = record {
  empty = empty;
  given = p;
  b_is = b_is;
  columned = c;
  q_is = ap (λ (x : ℕ). x / n) o_is;
  k_le = omega arith;
  kept = refl;
  computing = computing_start;
  quiet = quiet_start;
}

module _ {n s q k : ℕ} {w reps col val₀ val : List ℕ} {clean : Bool} (h : k < length reps)
    (t : Values n s q w reps col val₀ val clean k) where
  pub values_summable : Summable s (get_or reps k 0 * q) col
  values_summable = summable t.given t.b_is t.q_is {k = k} h refl refl t.columned

  pub values_by : get_or reps k 0 * q < 4096
  values_by = omega (arith, by_lt t.given.setting t.q_is {k = k} h refl, (Degree-bounds t.given.setting.degree).1)

  pub values_in : (get_or reps k 0 < 65535) × (get_or reps k 0 < length val)
  values_in =
      let l = t.given.setting.below k h in
      (omega (arith, t.given.setting.odd.most), omega (arith, t.given.val_long, t.kept))

  pub values_more : {v : ℕ} {clean' : Bool} → Valued (length col) s (get_or reps k 0 * q) col v → clean' ≡ clean && eqb v 0
      → Values n s q w reps col val₀ (set val (get_or reps k 0) v) clean' (k + 1)
  values_more y o =
      let f = value_here t.given t.b_is t.q_is _ t.columned y in
      record {
        empty = t.empty;
        given = t.given;
        b_is = t.b_is;
        columned = t.columned;
        q_is = t.q_is;
        k_le = omega arith;
        kept = simp length-set t.kept;
        computing = computing_more t.computing refl values_in.1 f;
        quiet = subst (AllZero n s (k + 1) w reps) (sym o) (quiet_more t.given.setting h refl f t.quiet);
      }

pub values_end : {n s q k : ℕ} {w reps col val₀ val : List ℕ} {clean : Bool} → length reps ≤ k
    → Values n s q w reps col val₀ val clean k → Computed n s w reps val × ValuesTested n w reps clean
values_end h t = (computing_end h t.computing, quiet_end t.given.setting h t.quiet)
