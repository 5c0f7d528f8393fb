-- The tables, one entry more at a time.
--
--   powers_none, powers_more, powers_round      the powers so far: none, one more, one more by the round before
--   first_power, next_power      x is 1 at first, and then ω x
--   logs_none, logs_more         their logarithms so far
--   filled                       the tables, when all powers are there and the entry of 0 is set
--   fillable_kept                slices of the same lengths can be filled too
use mathlib.Core.Path.{◌≡◌, refl, sym, ap, ◌∙◌}
use mathlib.Core.List.{List}
use Prim.Native.Nat.{ℕ, ◌+◌, ◌-◌, ◌*◌, ◌^◌, ◌≤◌, ◌<◌}
use native.Mathlib.Decide.{ℕ_discrete}
use native.Mathlib.Numerals.{add-one}
use native.Mathlib.Omega.{arith}
use lib.ListN.{length, get_or, set, length-set}
use lib.Seq.{get_or-set_same, get_or-set_other}
use Rattle.field.specs.Field.{Degree, ω, field_multiply, field_power, logarithm}
use Rattle.field.specs.Tables.{Fillable, Powers, Logs, Filled}
use Rattle.field.proofs.Primitive.{Degree-bounds}
use Rattle.field.proofs.Numbers.{power_z, power_s, power_lt, power_round, power_inj, power_onto, logarithm_of, logarithm_zero}

pub powers_none : {s : ℕ} {e : List ℕ} → Powers s 0 e
powers_none = record { at = λ k h. absurd (omega arith) }

pub powers_more : {s n x : ℕ} {e : List ℕ} → n < length e → x ≡ field_power s ω n → Powers s n e → Powers s (n + 1) (set e n x)
powers_more {s} {n} {x} {e} h q v = record { at = λ k l. go k l (ℕ_discrete k n) }
  where
    go : (k : ℕ) → k < n + 1 → Dec (k ≡ n) → get_or (set e n x) k 0 ≡ field_power s ω k
    go k l (yes z) =
        ap (λ (j : ℕ). get_or (set e n x) j 0) z ∙ get_or-set_same e n x 0 h ∙ q ∙ ap (field_power s ω) (sym z)
    go k l (no z) = get_or-set_other e n k x 0 z ∙ v.at k (omega arith)

pub powers_round : {s n i : ℕ} {e : List ℕ} → Degree s → n ≡ 2 ^ s - 1 → n ≤ i → i < length e → Powers s i e
    → Powers s (i + 1) (set e i (get_or e (i - n) 0))
powers_round {s} {n} {i} {e} d o l h v =
    let b : 4 ≤ 2 ^ s = (Degree-bounds d).0 in
    let k : i - n + (2 ^ s - 1) ≡ i = omega arith in
    powers_more h (v.at (i - n) (omega arith) ∙ sym (power_round d (i - n)) ∙ ap (field_power s ω) k) v

pub first_power : (s : ℕ) → 1 ≡ field_power s ω 0
first_power s = sym (power_z s ω)

pub next_power : (s k : ℕ) {x y : ℕ} → x ≡ field_power s ω k → y ≡ field_multiply s ω x → y ≡ field_power s ω (k + 1)
next_power s k e q = q ∙ ap (field_multiply s ω) e ∙ sym (power_s s ω k) ∙ ap (field_power s ω) (sym (add-one k))

pub logs_none : {s : ℕ} {g : List ℕ} → Logs s 0 g g
logs_none = record { at = λ k h. absurd (omega arith); rest = λ a h. refl }

pub logs_more : {s n x : ℕ} {g g' : List ℕ} → Degree s → n < 2 ^ s - 1 → x < length g' → x ≡ field_power s ω n → Logs s n g g'
    → Logs s (n + 1) g (set g' x n)
logs_more {s} {n} {x} {g} {g'} d l h q v = record {
  at = λ k m. go k m (ℕ_discrete k n);
  rest = λ a r. get_or-set_other g' x a n 0 (λ z. r n (omega arith) (z ∙ q)) ∙ v.rest a (λ k m. r k (omega arith));
}
  where
    go : (k : ℕ) → k < n + 1 → Dec (k ≡ n) → get_or (set g' x n) (field_power s ω k) 0 ≡ k
    go k m (yes z) =
        ap (λ (j : ℕ). get_or (set g' x n) j 0) (ap (field_power s ω) z ∙ sym q) ∙ get_or-set_same g' x n 0 h ∙ sym z
    go k m (no z) =
        get_or-set_other g' x (field_power s ω k) n 0 (λ e. z (power_inj d k n (omega arith) l (e ∙ q))) ∙ v.at k (omega arith)

pub filled : {s n i : ℕ} {g e' g' : List ℕ} → Fillable s e' g' → n ≡ 2 ^ s - 1 → 5 * (2 ^ s - 1) ≤ i → Powers s i e' → Logs s n g g'
    → Filled s g e' (set g' 0 n)
filled {s} {n} {i} {g} {e'} {g'} r o l v w = record {
  tables = record {
    degree = r.degree;
    four = b.0;
    cap = b.1;
    e_long = r.e_long;
    g_long = simp length-set r.g_long;
    e_at = λ k h. v.at k (omega arith);
    g_at = λ a h. go a h (ℕ_discrete a 0);
  };
  g_rest = λ a h.
      get_or-set_other g' 0 a n 0 (λ z. omega (arith, b.0))
      ∙ w.rest a (λ k m z. let q : field_power s ω k < 2 ^ s = power_lt r.degree ω k in omega arith);
}
  where
    b : (4 ≤ 2 ^ s) × (2 ^ s ≤ 4096)
    b = Degree-bounds r.degree

    go : (a : ℕ) → a < 2 ^ s → Dec (a ≡ 0) → get_or (set g' 0 n) a 0 ≡ logarithm s a
    go a h (yes z) =
        ap (λ (j : ℕ). get_or (set g' 0 n) j 0) z ∙ get_or-set_same g' 0 n 0 (omega (arith, b.0, r.g_long)) ∙ o
        ∙ sym (ap (logarithm s) z ∙ logarithm_zero r.degree)
    go a h (no z) =
        let q = power_onto r.degree a h z in
        get_or-set_other g' 0 a n 0 z ∙ ap (λ (j : ℕ). get_or g' j 0) (sym q.2) ∙ w.at q.0 (omega (arith, q.1))
        ∙ sym (ap (logarithm s) (sym q.2) ∙ logarithm_of r.degree q.0 q.1)

pub fillable_kept : {s : ℕ} {e g e' g' : List ℕ} → length e' ≡ length e → length g' ≡ length g → Fillable s e g → Fillable s e' g'
fillable_kept p q r = record { degree = r.degree; e_long = omega (arith, p, r.e_long); g_long = omega (arith, q, r.g_long) }
