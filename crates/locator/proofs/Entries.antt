-- A locator's terms in slices, one more for each coefficient that is not 0.
--
--   Entry             coefficient k, with its logarithm and its step
--   listed_start, listed_more    logarithms and steps
--   LaneSum              the words of one slice, from coefficient o of the remainders on, and their sum with v: each word holds
--                     a remainder, and each lane of the sum a residue
--   word_start, word_more        none but the constant term, and one more
use mathlib.Core.Path.{◌≡◌, sym, ap, ap₂, ◌∙◌, subst}
use mathlib.Core.Logic.{◌≢◌}
use mathlib.Core.List.{List}
use Prim.Native.Nat.{ℕ, suc, ◌+◌, ◌-◌, ◌*◌, ◌/◌, ◌%◌, ◌^◌, ◌≤◌, ◌<◌}
use native.Mathlib.Nat.{mul_assoc, mul-zero}
use native.Mathlib.Decide.{ℕ_discrete, dec_lt}
use native.Mathlib.Numerals.{add-one}
use native.Mathlib.Omega.{arith}
use lib.ListN.{length, get_or, set, length-set}
use lib.Pow.{shr-shr}
use lib.Seq.{get_or-set_same, get_or-set_other}
use Rattle.field.specs.Mask.{◌⊕◌, coefficient, remainder}
use Rattle.field.specs.Field.{Degree, ω, field_multiply, field_power, logarithm}
use Rattle.field.proofs.Xor.{⊕-assoc, ⊕-zero-l, ⊕-zero-r}
use Rattle.field.proofs.Primitive.{Degree-bounds}
use Rattle.field.proofs.Numbers.{power_z, power_add, power_lt, logarithm_lt, logarithm_is, multiply_one, zero_multiply}
use Rattle.binary.specs.Factor.{Modulus}
use Rattle.locator.specs.Terms.{lanes, term_sum, Logged}
use Rattle.field.proofs.Exponents.{power_mod}
use Rattle.locator.proofs.Residue.{power_zero, residue, residue_z, residue_s}
use Rattle.locator.proofs.TermSums.{sum_z, sum_s, sum_ext}
use Rattle.binary.specs.Lanes.{lane}
use Rattle.syndrome.proofs.Lanes.{lane_add}
use Rattle.locator.proofs.Lanes.{lane_mask}

-- r says whether there is a term
pub record Entry (s back k c x l at r : ℕ) (lam lg st : List ℕ) : Type 0 where
  pub degree : Degree s
  pub x_is : x ≡ get_or lam k 0
  pub x_lt : x < 2 ^ s
  pub l_is : l ≡ logarithm s x
  pub at_is : at ≡ back * k % (2 ^ s - 1)
  pub at_lt : at < 2 ^ s - 1
  pub none : x ≡ 0 → r ≡ 0
  pub some : 0 < x → r ≡ 1
  pub once : r ≤ 1
  pub lg_fits : c < length lg
  pub st_fits : c < length st

pub record LaneSum (s back f u k : ℕ) (lam lg st co : List ℕ) (o v c : ℕ) : Type 0 where
  pub of : (m : ℕ) → m < c → (p : ℕ) × (get_or co m 0 ≡ lanes (remainder u f (2 ^ p) / 2 ^ o))
  pub sum : (i j : ℕ) → j < 4
      → lane j (v ⊕ term_sum s lg st (λ m. get_or co m 0) i c) ≡ residue s f u lam (i * back) (o + j) k

pub listed_start : {s : ℕ} {lg st : List ℕ} → Logged s 0 lg st
listed_start = record {
  lg_long = omega arith;
  st_long = omega arith;
  logs = λ m h. absurd (omega arith);
  steps = λ m h. absurd (omega arith);
}

-- the constant term alone
pub word_start : {s back f u o v : ℕ} {lam lg st co : List ℕ} → Degree s → Modulus f u → get_or lam 0 0 < 2 ^ s
    → ((j : ℕ) → j < 4 → lane j v ≡ coefficient (o + j) 1 * get_or lam 0 0) → LaneSum s back f u 1 lam lg st co o v 0
word_start {s} {back} {f} {u} {o} {v} {lam} {lg} {st} {co} d m b h = record {
  of = λ m l. absurd (omega arith);
  sum = λ i j l.
      ap (lane j) (ap (λ (x : ℕ). v ⊕ x) (sum_z s lg st _ i) ∙ ⊕-zero-r v) ∙ h j l
      ∙ sym
      (residue_s s f u lam (i * back) (o + j) 0
      ∙ ap₂ ◌⊕◌ (residue_z s f u lam (i * back) (o + j)) (ap₂ (λ (x y : ℕ). coefficient (o + j) x * y) (power_zero m) (first i))
      ∙ ⊕-zero-l _);
}
  where
    first : (i : ℕ) → field_multiply s (get_or lam 0 0) (field_power s ω (i * back * 0)) ≡ get_or lam 0 0
    first i =
        ap (λ (x : ℕ). field_multiply s (get_or lam 0 0) (field_power s ω x)) (mul-zero (i * back))
        ∙ ap (field_multiply s (get_or lam 0 0)) (power_z s ω) ∙ multiply_one d _ b

module _ {s back k c x l at r : ℕ} {lam lg st : List ℕ} (n : Entry s back k c x l at r lam lg st) where
  log_is : 0 < x → (l < 2 ^ s - 1) × (field_power s ω l ≡ x)
  log_is h = (
    subst (λ (y : ℕ). y < 2 ^ s - 1) (sym n.l_is) (logarithm_lt n.degree x n.x_lt (λ z. omega arith)),
    ap (field_power s ω) n.l_is ∙ logarithm_is n.degree x n.x_lt (λ z. omega arith),
  )

  -- place c is taken only where x is not 0, and the others were taken before
  new : {m : ℕ} → m < c + r → m ≡ c → 0 < x
  new {m} h e = go (dec_lt 0 x)
    where
      go : Dec (0 < x) → 0 < x
      go (yes p) = p
      go (no p) = absurd (let z : r ≡ 0 = n.none (omega arith) in omega arith)

  old : {m : ℕ} → m < c + r → m ≢ c → m < c
  old h e = omega (arith, n.once)

  pub listed_more : Logged s c lg st → Logged s (c + r) (set lg c l) (set st c at)
  listed_more v = record {
    lg_long = simp length-set (omega (arith, n.once, n.lg_fits));
    st_long = simp length-set (omega (arith, n.once, n.st_fits));
    logs = λ m h. elim (ℕ_discrete m c) [
      | yes e ↦ subst (λ (y : ℕ). y < 2 ^ s - 1) (sym (here lg l n.lg_fits m e)) (log_is (new h e)).0
      | no e ↦ subst (λ (y : ℕ). y < 2 ^ s - 1) (sym (get_or-set_other lg c m l 0 e)) (v.logs m (old h e))
    ];
    steps = λ m h. elim (ℕ_discrete m c) [
      | yes e ↦ subst (λ (y : ℕ). y < 2 ^ s - 1) (sym (here st at n.st_fits m e)) n.at_lt
      | no e ↦ subst (λ (y : ℕ). y < 2 ^ s - 1) (sym (get_or-set_other st c m at 0 e)) (v.steps m (old h e))
    ];
  }
    where
      here : (a : List ℕ) (y : ℕ) → c < length a → (m : ℕ) → m ≡ c → get_or (set a c y) m 0 ≡ y
      here a y h m e = ap (λ (j : ℕ). get_or (set a c y) j 0) e ∙ get_or-set_same a c y 0 h

  -- the power at place i
  power_at : 0 < x → (i : ℕ) → field_power s ω (l + i * at) ≡ field_multiply s (get_or lam k 0) (field_power s ω (i * back * k))
  power_at h i =
      ap (λ (y : ℕ). field_power s ω (l + i * y)) n.at_is ∙ power_mod n.degree l i (back * k)
      ∙ ap (λ (y : ℕ). field_power s ω (l + y)) (sym (mul_assoc i back k))
      ∙ sym (power_add n.degree ω l (i * back * k))
      ∙ ap (λ (y : ℕ). field_multiply s y (field_power s ω (i * back * k))) ((log_is h).1 ∙ n.x_is)

  pub word_more : {f u o v y e : ℕ} {co : List ℕ} → c < length co → y ≡ remainder u f (2 ^ k) → e ≡ lanes (y / 2 ^ o)
      → LaneSum s back f u k lam lg st co o v c → LaneSum s back f u (k + 1) lam (set lg c l) (set st c at) (set co c e) o v (c + r)
  word_more {f} {u} {o} {v} {y} {e} {co} h y_is e_is w = record {
    of = λ m b. elim (ℕ_discrete m c) [
      | yes q ↦ (k, ap κ q ∙ get_or-set_same co c e 0 h ∙ e_is ∙ ap (λ (z : ℕ). lanes (z / 2 ^ o)) y_is)
      | no q ↦ (let p = w.of m (old b q) in (p.0, get_or-set_other co c m e 0 q ∙ p.1))
    ];
    sum = λ i j b. go i j b (dec_lt 0 x);
  }
    where
      κ : ℕ → ℕ
      κ m = get_or (set co c e) m 0

      -- of the first m entries now, and of the first k coefficients
      S : (i m : ℕ) → ℕ
      S i m = term_sum s (set lg c l) (set st c at) κ i m

      R : (i j : ℕ) → ℕ
      R i j = residue s f u lam (i * back) (o + j) k

      -- the new term at place i
      T : ℕ → ℕ
      T i = field_multiply s (get_or lam k 0) (field_power s ω (i * back * k))

      kept : (i : ℕ) → S i c ≡ term_sum s lg st (λ m. get_or co m 0) i c
      kept i =
          sum_ext s (set lg c l) (set st c at) lg st κ (λ m. get_or co m 0) i c
          (λ m b. get_or-set_other lg c m l 0 (λ q. omega arith)) (λ m b. get_or-set_other st c m at 0 (λ q. omega arith))
          (λ m b. get_or-set_other co c m e 0 (λ q. omega arith))

      next : (i j : ℕ) → residue s f u lam (i * back) (o + j) (k + 1) ≡ R i j ⊕ coefficient (o + j) y * T i
      next i j =
          ap (residue s f u lam (i * back) (o + j)) (add-one k) ∙ residue_s s f u lam (i * back) (o + j) k
          ∙ ap (λ (z : ℕ). R i j ⊕ coefficient (o + j) z * T i) (sym y_is)

      go : (i j : ℕ) → j < 4 → Dec (0 < x) → lane j (v ⊕ S i (c + r)) ≡ residue s f u lam (i * back) (o + j) (k + 1)
      go i j b (no q) =
          let z : x ≡ 0 = omega arith in
          let same : c + r ≡ c = omega (arith, n.none z) in
          let nothing : T i ≡ 0 =
          ap (λ (a : ℕ). field_multiply s a (field_power s ω (i * back * k))) (sym n.x_is ∙ z) ∙ zero_multiply n.degree _ in
          ap (λ (a : ℕ). lane j (v ⊕ S i a)) same ∙ ap (λ (a : ℕ). lane j (v ⊕ a)) (kept i) ∙ w.sum i j b
          ∙ sym
          (next i j ∙ ap (λ (a : ℕ). R i j ⊕ coefficient (o + j) y * a) nothing
          ∙ ap (λ (a : ℕ). R i j ⊕ a) (mul-zero (coefficient (o + j) y)) ∙ ⊕-zero-r _)
      go i j b (yes q) =
          let more : c + r ≡ suc c = omega (arith, n.some q) in
          let p : ℕ = field_power s ω (l + i * at) in
          let small : p < 2 ^ s = power_lt n.degree ω (l + i * at) in
          let p_lt : p < 2 ^ 16 = omega (arith, (Degree-bounds n.degree).1) in
          ap (λ (a : ℕ). lane j (v ⊕ S i a)) more
          ∙ ap (λ (a : ℕ). lane j (v ⊕ a)) (sum_s s (set lg c l) (set st c at) κ i c)
          ∙ ap (lane j) (sym (⊕-assoc v _ _)) ∙ lane_add j _ _
          ∙ ap₂ ◌⊕◌ (ap (λ (a : ℕ). lane j (v ⊕ a)) (kept i) ∙ w.sum i j b)
          (ap₂ (λ (a z : ℕ). lane j (a * field_power s ω z)) (get_or-set_same co c e 0 h ∙ e_is)
          (ap₂ (λ (a z : ℕ). a + i * z) (get_or-set_same lg c l 0 n.lg_fits) (get_or-set_same st c at 0 n.st_fits))
          ∙ lane_mask (y / 2 ^ o) p p_lt j b
          ∙ ap₂ ◌*◌ (ap (λ (a : ℕ). a % 2) (shr-shr y o j)) (power_at q i))
          ∙ sym (next i j)
