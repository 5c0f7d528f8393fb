-- Every mask of the table is primitive: one test that is computed over the whole table, and the rule at each entry.
--
--   xpow s p k       x^k modulo p
--   Primitive s p    p has degree s, and x has order 2^s - 1 modulo p
--   is_primitive      the test; is_primitive_sound: what it shows
--   all_from          a test of every entry of the table; at_degree: what it says at one degree
--   all_primitive    the test over the whole table
--   primitive        the rule: so is the table's mask of each degree
--   Degree-bounds    4 ≤ 2^s ≤ 4096
use mathlib.Core.Path.{◌≡◌, ap, ◌∙◌, sym, subst}
use mathlib.Core.Logic.{◌≢◌}
use mathlib.Core.Bool.{Bool, true, false, not, ◌&&◌}
use mathlib.Core.List.{List, [], ◌∷◌}
use Prim.Native.Nat.{ℕ, zero, suc, ◌+◌, ◌-◌, ◌/◌, ◌^◌, ◌≤◌, ◌<◌}
use native.Mathlib.Nat.{add-zero, add-suc, suc-add, not-suc-le-zero, le_of_suc-le-suc}
use native.Mathlib.Omega.{arith}
use lib.Dec.{T, eqb, ltb, eqb→eq, eqb_refl, ltb→lt, T_not}
use lib.ListN.{get_or, length}
use lib.Pow.{pow_mono}
use Rattle.field.specs.Mask.{◌⊕◌}
use Rattle.field.specs.Field.{masks, mask, Degree}
use Rattle.field.proofs.Remainder.{xtime}

unfoldable pub xpow : ℕ → ℕ → ℕ → ℕ
xpow s p zero = 1
xpow s p (suc k) = xtime s p (xpow s p k)

pub record Primitive (s p : ℕ) : Type 0 where
  pub pos : 0 < s
  pub deg : p / 2 ^ s ≡ 1
  pub one : xpow s p (2 ^ s - 1) ≡ 1
  pub least : (k : ℕ) → 0 < k → k < 2 ^ s - 1 → xpow s p k ≢ 1

-- from a on, n powers that are not 1, and then 1
walk : ℕ → ℕ → ℕ → ℕ → Bool
walk s p zero a = eqb a 1
walk s p (suc n) a = not (eqb a 1) && walk s p n (xtime s p a)

is_primitive : ℕ → ℕ → Bool
is_primitive s p = ltb 0 s && (eqb (p / 2 ^ s) 1 && walk s p (2 ^ s - 2) (xtime s p 1))

pub both : (a b : Bool) → T (a && b) → T a × T b
both true b t = (tt, t)
both false b t = absurd t

walk_sound : (s p n k : ℕ) → T (walk s p n (xpow s p k))
    → (xpow s p (k + n) ≡ 1) × ((j : ℕ) → j < n → xpow s p (k + j) ≢ 1)
unfolding walk xpow
walk_sound s p zero k t = (ap (xpow s p) (add-zero k) ∙ eqb→eq (xpow s p k) 1 t, λ j h e. omega arith)
walk_sound s p (suc n) k t =
    let c = both (not (eqb (xpow s p k) 1)) (walk s p n (xpow s p (suc k))) t in
    let ih = walk_sound s p n (suc k) c.1 in
    (ap (xpow s p) (add-suc k n ∙ sym (suc-add k n)) ∙ ih.0, go c.0 ih.1)
  where
    go : T (not (eqb (xpow s p k) 1)) → ((j : ℕ) → j < n → xpow s p (suc k + j) ≢ 1) → (j : ℕ) → j < suc n → xpow s p (k + j) ≢ 1
    go c ih zero h e =
        T_not (eqb (xpow s p k) 1) c
        (subst (λ (x : ℕ). T (eqb x 1)) (sym (sym (ap (xpow s p) (add-zero k)) ∙ e)) (eqb_refl 1))
    go c ih (suc j) h e = ih j (omega arith) (ap (xpow s p) (suc-add k j ∙ sym (add-suc k j)) ∙ e)

is_primitive_sound : (s p : ℕ) → T (is_primitive s p) → Primitive s p
unfolding is_primitive xpow
is_primitive_sound s p t =
    let c = both (ltb 0 s) (eqb (p / 2 ^ s) 1 && walk s p (2 ^ s - 2) (xtime s p 1)) t in
    let d = both (eqb (p / 2 ^ s) 1) (walk s p (2 ^ s - 2) (xtime s p 1)) c.1 in
    let w = walk_sound s p (2 ^ s - 2) 1 d.1 in
    let h : 0 < s = ltb→lt 0 s c.0 in
    let big : 2 ≤ 2 ^ s = pow_mono h in
    let all : 2 ^ s - 1 ≡ 1 + (2 ^ s - 2) = omega arith in
    record {
      pos = h;
      deg = eqb→eq (p / 2 ^ s) 1 d.0;
      one = ap (xpow s p) all ∙ w.0;
      least = λ k h l e. let q : 1 + (k - 1) ≡ k = omega arith in w.1 (k - 1) (omega arith) (ap (xpow s p) q ∙ e);
    }

-- ---- the table: a test of each entry, with its degree
unfoldable pub all_from : (ℕ → ℕ → Bool) → ℕ → List ℕ → Bool
all_from test s [] = true
all_from test s (p ∷ ps) = test s p && all_from test (suc s) ps

at : (test : ℕ → ℕ → Bool) (ps : List ℕ) (s i : ℕ) → T (all_from test s ps) → i < length ps → T (test (s + i) (get_or ps i 0))
unfolding all_from
at test [] s i t h = absurd (not-suc-le-zero h)
at test (p ∷ ps) s zero t h = let e : s + 0 ≡ s = omega arith in rw e (both (test s p) (all_from test (suc s) ps) t).0
at test (p ∷ ps) s (suc i) t h =
    let e : s + suc i ≡ suc s + i = omega arith in
    rw e (at test ps (suc s) i (both (test s p) (all_from test (suc s) ps) t).1 (le_of_suc-le-suc h))

pub at_degree : {s : ℕ} (test : ℕ → ℕ → Bool) → T (all_from test 2 masks) → Degree s → T (test s (mask s))
unfolding mask masks
at_degree {s} test t d =
    let e : 2 + (s - 2) ≡ s = omega (arith, d.lo) in rw e at (at test masks 2 (s - 2) t (omega (arith, d.lo, d.hi)))

-- computed once: some 8,000 steps
all_primitive : T (all_from is_primitive 2 masks)
unfolding all_from masks is_primitive walk xtime ◌⊕◌
all_primitive = tt

pub primitive : {s : ℕ} → Degree s → Primitive s (mask s)
primitive {s} d = is_primitive_sound s (mask s) (at_degree is_primitive all_primitive d)

pub Degree-bounds : {s : ℕ} → Degree s → (4 ≤ 2 ^ s) × (2 ^ s ≤ 4096)
Degree-bounds d = (pow_mono d.lo, pow_mono d.hi)
