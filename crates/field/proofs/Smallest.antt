-- Every mask of the table is the smallest primitive one of its degree: one more computed test over the whole table, of the 163
-- masks that are smaller. A mask is not primitive that has a factor, or modulo which x comes back to 1 too soon.
--
--   reached       modulo a primitive mask every number from 1 to 2^s - 1 is a power of x
--   undivided     so it has no factor of smaller degree
--   all_smallest  the test over the whole table
--   smallest      the rule: modulo no smaller mask of degree s has x the order 2^s - 1
--   mask_least    so the table's mask is the least of the primitive ones
use mathlib.Core.Path.{◌≡◌, refl, sym, ap, ap₂, ◌∙◌, subst}
use mathlib.Core.Logic.{◌≢◌}
use mathlib.Core.Bool.{Bool, true, false, ◌&&◌}
use mathlib.Core.List.{List, [], ◌∷◌}
use Prim.Native.Nat.{ℕ, zero, suc, pred, ◌+◌, ◌-◌, ◌*◌, ◌/◌, ◌%◌, ◌^◌, ◌≤◌, ◌<◌}
use native.Mathlib.Nat.{add-zero, add-suc, suc-add, suc-ne-zero, not-suc-le-zero, le_of_suc-le-suc, le_refl}
use native.Mathlib.Nat.{zero-div, div-eq_of_lt, div-lt_iff_lt-mul}
use native.Mathlib.Decide.{dec_lt}
use native.Mathlib.Omega.{arith}
use lib.Dec.{T, eqb, ltb, eqb→eq, ltb→lt}
use lib.Pow.{pow_pos, pow_mono}
use Rattle.field.specs.Search.{least_from, least}
use Rattle.field.specs.Mask.{◌⊕◌, size, divide_down, remainder}
use Rattle.field.specs.Field.{masks, mask, Degree}
use Rattle.field.proofs.Xor.{⊕-zero-r, sel, sel_map}
use Rattle.field.proofs.MaskProduct.{clmul_one_r}
use Rattle.field.proofs.Remainder.{xtime, xtime_lt, xtime_small, deg_of, remainder_add, remainder_zero}
use Rattle.field.proofs.Remainder.{remainder_small, remainder_dbl, remainder_multiple}
use Rattle.field.proofs.Pigeonhole.{onto}
use Rattle.field.proofs.Primitive.{xpow, Primitive, primitive, both, all_from, at_degree}

xtime_zero : (s p : ℕ) → xtime s p 0 ≡ 0
xtime_zero s p = xtime_small s p 0 (pow_pos s)

sel_zero : (x : ℕ) → sel x 0 ≡ 0
sel_zero zero = refl
sel_zero (suc x) = refl

-- ---- what holds modulo a primitive mask
module _ (s m : ℕ) (w : Primitive s m) where
  low : (k : ℕ) → xpow s m k < 2 ^ s
  unfolding xpow
  low zero = pow_mono w.pos
  low (suc k) = xtime_lt s m w.pos w.deg (xpow s m k) (low k)

  -- a power decides those after it
  after : (i j t : ℕ) → xpow s m i ≡ xpow s m j → xpow s m (i + t) ≡ xpow s m (j + t)
  unfolding xpow
  after i j zero e = ap (xpow s m) (add-zero i) ∙ e ∙ sym (ap (xpow s m) (add-zero j))
  after i j (suc t) e =
      ap (xpow s m) (add-suc i t) ∙ ap (xtime s m) (after i j t e) ∙ sym (ap (xpow s m) (add-suc j t))

  zero_after : (k t : ℕ) → xpow s m k ≡ 0 → xpow s m (k + t) ≡ 0
  unfolding xpow
  zero_after k zero e = ap (xpow s m) (add-zero k) ∙ e
  zero_after k (suc t) e = ap (xpow s m) (add-suc k t) ∙ ap (xtime s m) (zero_after k t e) ∙ xtime_zero s m

  -- to the 2^s - 1 from a power below
  end : (k : ℕ) → k < 2 ^ s - 1 → xpow s m (k + (2 ^ s - 1 - k)) ≡ 1
  end k h = let e : k + (2 ^ s - 1 - k) ≡ 2 ^ s - 1 = omega arith in ap (xpow s m) e ∙ w.one

  nonzero : (k : ℕ) → k < 2 ^ s - 1 → xpow s m k ≢ 0
  nonzero k h e = suc-ne-zero 0 (sym (end k h) ∙ zero_after k (2 ^ s - 1 - k) e)

  -- a power met twice would bring 1 too soon
  ahead : (i j : ℕ) → i < j → j < 2 ^ s - 1 → xpow s m i ≢ xpow s m j
  ahead i j h l e =
      w.least (i + (2 ^ s - 1 - j)) (omega arith) (omega arith) (after i j (2 ^ s - 1 - j) e ∙ end j l)

  apart : (i j : ℕ) → i < 2 ^ s - 1 → j < 2 ^ s - 1 → xpow s m i ≡ xpow s m j → i ≡ j
  apart i j hi hj e = go (dec_lt i j) (dec_lt j i)
    where
      go : Dec (i < j) → Dec (j < i) → i ≡ j
      go (yes l) c = absurd (ahead i j l hj e)
      go (no l) (yes c) = absurd (ahead j i c hi (sym e))
      go (no l) (no c) = omega arith

  pred_lt : (a : ℕ) → a < 2 ^ s → a ≢ 0 → pred a < 2 ^ s - 1
  pred_lt a h k = omega arith

  pred_eq : (a b : ℕ) → a ≢ 0 → b ≢ 0 → pred a ≡ pred b → a ≡ b
  pred_eq a b h k e = omega arith

  pub reached : (a : ℕ) → a ≢ 0 → a < 2 ^ s → (k : ℕ) × (k < 2 ^ s - 1) × (xpow s m k ≡ a)
  reached a h l =
      let c = onto (2 ^ s - 1) (λ k. pred (xpow s m k)) (λ k b. pred_lt (xpow s m k) (low k) (nonzero k b))
      (λ i j hi hj e. apart i j hi hj (pred_eq (xpow s m i) (xpow s m j) (nonzero i hi) (nonzero j hj) e))
      (pred a) (pred_lt a l h) in
      (c.0, c.1, pred_eq (xpow s m c.0) a (nonzero c.0 c.1) h c.2)

  -- a factor of m that divides one power of x divides those after it
  module _ (u g : ℕ) (pos : 0 < u) (deg : g / 2 ^ u ≡ 1) (factor : remainder u g m ≡ 0) where
    step : (a : ℕ) → remainder u g a ≡ 0 → remainder u g (xtime s m a) ≡ 0
    unfolding xtime
    step a e =
        let top : ℕ = a * 2 / 2 ^ s % 2 in
        remainder_add u g pos deg (a * 2) (sel top m)
        ∙ ap₂ ◌⊕◌ (remainder_dbl u g pos deg a ∙ ap (xtime u g) e ∙ xtime_zero u g)
        (sel_map (remainder u g) (remainder_zero u g pos deg) top m ∙ ap (sel top) factor ∙ sel_zero top)
        ∙ ⊕-zero-r 0

    divided : (k t : ℕ) → remainder u g (xpow s m k) ≡ 0 → remainder u g (xpow s m (k + t)) ≡ 0
    unfolding xpow
    divided k zero e = ap (λ (x : ℕ). remainder u g (xpow s m x)) (add-zero k) ∙ e
    divided k (suc t) e =
        ap (λ (x : ℕ). remainder u g (xpow s m x)) (add-suc k t) ∙ step (xpow s m (k + t)) (divided k t e)

    -- the factor is a power of x itself, so it would divide 1
    pub undivided : g ≢ 0 → g < 2 ^ s → ⊥
    undivided h l =
        let c = reached g h l in
        let own : remainder u g g ≡ 0 = ap (remainder u g) (sym (clmul_one_r g)) ∙ remainder_multiple u g pos deg 1 in
        suc-ne-zero 0
        (sym (remainder_small u g pos deg 1 (pow_mono pos)) ∙ ap (remainder u g) (sym (end c.0 c.1))
        ∙ divided c.0 (2 ^ s - 1 - c.0) (ap (remainder u g) c.2 ∙ own))

-- ---- the test
-- the second of two tests is taken where the first fails
either : (a b : Bool) → (T a → ⊥) → (T b → ⊥) → T (elim a [ true ↦ true | false ↦ b ]) → ⊥
either true b f g t = f tt
either false b f g t = g t

-- of the n powers from a on, one is 1
returns : ℕ → ℕ → ℕ → ℕ → Bool
returns s m zero a = false
returns s m (suc n) a = elim (eqb a 1) [ true ↦ true | false ↦ returns s m n (xtime s m a) ]

returns_sound : (s m n k : ℕ) → T (returns s m n (xpow s m k)) → ((j : ℕ) → j < n → xpow s m (k + j) ≢ 1) → ⊥
unfolding returns xpow
returns_sound s m zero k t h = t
returns_sound s m (suc n) k t h =
    either (eqb (xpow s m k) 1) (returns s m n (xpow s m (suc k)))
    (λ b. h 0 (omega arith) (ap (xpow s m) (add-zero k) ∙ eqb→eq (xpow s m k) 1 b))
    (λ b. returns_sound s m n (suc k) b
    (λ j l q. h (suc j) (omega arith) (ap (xpow s m) (add-suc k j ∙ sym (suc-add k j)) ∙ q))) t

-- whether the mask g of degree u, smaller than any of degree s, divides m
divisor : ℕ → ℕ → ℕ → ℕ → Bool
divisor s m u g = ltb 0 u && (eqb (g / 2 ^ u) 1 && (ltb g (2 ^ s) && eqb (remainder u g m) 0))

-- factors to be tried, with their degrees: those that most of the smaller masks have. A mask with none of them is walked.
factors : List (ℕ × ℕ)
factors = (1, 2) ∷ (1, 3) ∷ (2, 7) ∷ (3, 11) ∷ (3, 13) ∷ (5, 55) ∷ (5, 59) ∷ []

fails : ℕ → ℕ → List (ℕ × ℕ) → Bool
fails s m [] = returns s m (2 ^ s - 2) (xtime s m 1)
fails s m (g ∷ gs) = elim (divisor s m g.0 g.1) [ true ↦ true | false ↦ fails s m gs ]

divisor_sound : (s m u g : ℕ) → T (divisor s m u g) → Primitive s m → ⊥
unfolding divisor
divisor_sound s m u g t w =
    let c = both (ltb 0 u) (eqb (g / 2 ^ u) 1 && (ltb g (2 ^ s) && eqb (remainder u g m) 0)) t in
    let d = both (eqb (g / 2 ^ u) 1) (ltb g (2 ^ s) && eqb (remainder u g m) 0) c.1 in
    let f = both (ltb g (2 ^ s)) (eqb (remainder u g m) 0) d.1 in
    let deg : g / 2 ^ u ≡ 1 = eqb→eq (g / 2 ^ u) 1 d.0 in
    undivided s m w u g (ltb→lt 0 u c.0) deg (eqb→eq (remainder u g m) 0 f.1)
    (λ z. suc-ne-zero 0 (sym deg ∙ ap (λ (x : ℕ). x / 2 ^ u) z ∙ zero-div (2 ^ u))) (ltb→lt g (2 ^ s) f.0)

fails_sound : (s m : ℕ) (gs : List (ℕ × ℕ)) → T (fails s m gs) → Primitive s m → ⊥
unfolding fails xpow
fails_sound s m [] t w =
    returns_sound s m (2 ^ s - 2) 1 t (λ j l. w.least (1 + j) (omega arith) (omega arith))
fails_sound s m (g ∷ gs) t w =
    either (divisor s m g.0 g.1) (fails s m gs) (λ b. divisor_sound s m g.0 g.1 b w) (λ b. fails_sound s m gs b w) t

-- so do the n masks from m on
all_fail : ℕ → ℕ → ℕ → Bool
all_fail s zero m = true
all_fail s (suc n) m = fails s m factors && all_fail s n (suc m)

all_fail_sound : (s n m i : ℕ) → T (all_fail s n m) → i < n → Primitive s (m + i) → ⊥
unfolding all_fail
all_fail_sound s zero m i t h w = absurd (not-suc-le-zero h)
all_fail_sound s (suc n) m zero t h w =
    fails_sound s m factors (both (fails s m factors) (all_fail s n (suc m)) t).0 (subst (Primitive s) (add-zero m) w)
all_fail_sound s (suc n) m (suc i) t h w =
    all_fail_sound s n (suc m) i (both (fails s m factors) (all_fail s n (suc m)) t).1 (le_of_suc-le-suc h)
    (subst (Primitive s) (add-suc m i ∙ sym (suc-add m i)) w)

is_smallest : ℕ → ℕ → Bool
is_smallest s p = all_fail s (p - 2 ^ s) (2 ^ s)

-- computed once: 163 masks
all_smallest : T (all_from is_smallest 2 masks)
unfolding all_from masks is_smallest all_fail fails factors divisor returns remainder divide_down size least least_from xtime ◌⊕◌
all_smallest = tt

-- ---- the rule
none_smaller : {s : ℕ} → Degree s → (m : ℕ) → 2 ^ s ≤ m → m < mask s → Primitive s m → ⊥
unfolding is_smallest
none_smaller {s} d m h l w =
    let e : m ≡ 2 ^ s + (m - 2 ^ s) = omega arith in
    all_fail_sound s (mask s - 2 ^ s) (2 ^ s) (m - 2 ^ s) (at_degree is_smallest all_smallest d) (omega arith) (subst (Primitive s) e w)

-- x does not have order 2^s - 1
pub smallest : {s : ℕ} → Degree s → (m : ℕ) → 2 ^ s ≤ m → m < mask s
    → (xpow s m (2 ^ s - 1) ≡ 1) × ((k : ℕ) → 0 < k → k < 2 ^ s - 1 → xpow s m k ≢ 1) → ⊥
smallest {s} d m h l order =
    let p : Primitive s (mask s) = primitive d in
    let b : mask s < 2 * 2 ^ s = (div-lt_iff_lt-mul (pow_pos s)).0 (subst (λ (x : ℕ). x < 2) (sym p.deg) (le_refl 2)) in
    none_smaller d m h l (record { pos = p.pos; deg = deg_of s m h (omega arith); one = order.0; least = order.1 })

pub mask_least : {s : ℕ} → Degree s → (m : ℕ) → Primitive s m → mask s ≤ m
mask_least {s} d m w = go (dec_lt m (2 ^ s)) (dec_lt m (mask s))
  where
    go : Dec (m < 2 ^ s) → Dec (m < mask s) → mask s ≤ m
    go (yes l) c = absurd (suc-ne-zero 0 (sym w.deg ∙ div-eq_of_lt l))
    go (no l) (yes c) = absurd (none_smaller d m (omega arith) c w)
    go (no l) (no c) = omega arith
