-- Division with cofactors, one term of the quotient after the other.
--
--   inverse_there, inverse_at          a leading coefficient has an inverse, at the logarithm that the tables give
--   by_inverse, by_quotient            two ways to the quotient of leading coefficients; first_term, only_term: of a row by another
--   quotient_there                     that quotient is there
--   struck                             the term takes the leading coefficient of any polynomial away
--   leading_below, leading_ne          a has no higher coefficient, and the leading one is not 0
--   addable_a, addable_w, cancelled    the term fits into both slices, and takes a's leading coefficient away
--   reduced_one, reduced_none, reduced_more      one term, none, and one after others
--   kept_all, kept_more                a row is kept where it is left alone, and on and on
--   reducible_on                       what is left can be divided on
use mathlib.Core.Path.{◌≡◌, refl, sym, ap, ap₂, ◌∙◌, subst}
use mathlib.Core.Logic.{◌≢◌}
use mathlib.Core.List.{List, [], ◌∷◌}
use Prim.Native.Nat.{ℕ, suc, ◌+◌, ◌-◌, ◌^◌, ◌≤◌, ◌<◌}
use native.Mathlib.Omega.{arith}
use lib.ListN.{length, get_or, take}
use lib.Seq.{length-take-le}
use Rattle.algebra.proofs.Ring.{Ring, ring, mul-one, mul_assoc}
use Rattle.algebra.proofs.Field.{Field}
use Rattle.algebra.proofs.Series.{Ser}
use Rattle.algebra.proofs.Poly.{Below, Below-weaken, Below-zero, Below-add, mono, mono_below}
use Rattle.algebra.proofs.Divide.{Deg, lead, lead_below}
use Rattle.field.specs.Field.{Degree, ω, field_multiply, field_power, logarithm, inverses, quotients}
use Rattle.field.proofs.Elements.{F, GF, is_field, el, el_mul}
use Rattle.field.proofs.Numbers.{power_add, power_lt, multiply_one, multiply_assoc, multiply_comm, multiply_zero, el_ne}
use Rattle.field.proofs.Numbers.{logarithm_lt, logarithm_is, inverses_of, inverse_is}
use Rattle.field.proofs.Shifts.{quotient_back, no_quotient}
use Rattle.poly.specs.declared.types.Row.{Row}
use Rattle.poly.specs.Slice.{Short, series}
use Rattle.poly.specs.Division.{plus, Addable, Added, LengthOf, InverseAt, Cancels, Reducible, Reduced, Kept}
use Rattle.poly.proofs.Slices.{below_of, short_of, series_cut, small_cut}

-- ---- the inverse of a leading coefficient
module _ {s : ℕ} (d : Degree s) {c : ℕ} (c_lt : c < 2 ^ s) (c_ne : c ≢ 0) where
  pub inverse_there : [] ≡ inverses s c → ⊥
  inverse_there e =
      let q : [] ≡ field_power s c (2 ^ s - 2) ∷ [] = e ∙ inverses_of d c c_lt c_ne in
      let o : ◌≡◌ {A = ℕ} 0 1 = cc in omega arith

  pub inverse_at : {x k : ℕ} → x < 2 ^ s → x ∷ [] ≡ inverses s c → k ≡ logarithm s x → InverseAt s k c
  inverse_at {x} {k} l e o = record {
    k_lt = subst (λ (i : ℕ). i < 2 ^ s - 1) (sym o) (logarithm_lt d x l x_ne);
    is = ap (λ (i : ℕ). field_multiply s (field_power s ω i) c) o
        ∙ ap (λ (y : ℕ). field_multiply s y c) (logarithm_is d x l x_ne) ∙ multiply_comm d x c ∙ one;
  }
    where
      one : field_multiply s c x ≡ 1
      one =
          let q : x ∷ [] ≡ field_power s c (2 ^ s - 2) ∷ [] = e ∙ inverses_of d c c_lt c_ne in
          let r : x ≡ field_power s c (2 ^ s - 2) = cc in
          ap (field_multiply s c) r ∙ inverse_is d c c_lt c_ne

      x_ne : x ≢ 0
      x_ne z = let q : field_multiply s c 0 ≡ 1 = ap (field_multiply s c) (sym z) ∙ one in omega (arith, multiply_zero d c)

-- ---- one term
added_whole : {s i q n : ℕ} {a b a' : List ℕ} → n ≤ length b → Short n b → Added s i q a (take n b) a' → Added s i q a b a'
added_whole {s} {i} {q} {n} {a} {b} {a'} h o z = record {
  small = z.small;
  is = λ d. z.is d ∙ ap (plus d (series d a) (mono (GF d) i (el d (field_power s ω q)))) (series_cut h o d);
}

quotient_is : {A : Type 0} (R : Ring A) (K : Field R) (a b c : A) → b ≢ R.𝟘 → R.mul c b ≡ a → c ≡ R.mul a (K.inv b)
quotient_is R K a b c n e =
    sym (mul-one R c) ∙ ap (R.mul c) (sym (K.mul_inv b n)) ∙ sym (mul_assoc R c b (K.inv b))
    ∙ ap (λ x. R.mul x (K.inv b)) e

top_is : {s k b : ℕ} (d : Degree s) (i : ℕ) → InverseAt s k b → field_multiply s (field_power s ω (i + k)) b ≡ field_power s ω i
top_is {s} {k} {b} d i v =
    ap (λ (x : ℕ). field_multiply s x b) (sym (power_add d ω i k)) ∙ multiply_assoc d (field_power s ω i) (field_power s ω k) b
    ∙ ap (field_multiply s (field_power s ω i)) v.is ∙ multiply_one d (field_power s ω i) (power_lt d ω i)

-- the quotient of leading coefficients, by the inverse of the divisor's, or by division
pub by_inverse : {s k a b i : ℕ} → Degree s → InverseAt s k b → a < 2 ^ s → a ≢ 0 → i ≡ logarithm s a → Cancels s (i + k) a b
by_inverse {s} {k} {a} {b} {i} d o h n e = record {
  most = let l : i < 2 ^ s - 1 = subst (λ (j : ℕ). j < 2 ^ s - 1) (sym e) (logarithm_lt d a h n) in omega (arith, o.k_lt);
  is = top_is d i o ∙ ap (field_power s ω) e ∙ logarithm_is d a h n;
}

pub by_quotient : {s q a b x : ℕ} → Degree s → a < 2 ^ s → a ≢ 0 → b < 2 ^ s → b ≢ 0 → x ∷ [] ≡ quotients s a b → q ≡ logarithm s x → Cancels s q a b
by_quotient {s} {q} {a} {b} {x} d a_lt a_ne h n e o = record {
  most = let l : q < 2 ^ s - 1 = subst (λ (j : ℕ). j < 2 ^ s - 1) (sym o) (logarithm_lt d x y.0 x_ne) in omega arith;
  is = ap (λ (z : ℕ). field_multiply s z b) (ap (field_power s ω) o ∙ logarithm_is d x y.0 x_ne) ∙ y.1;
}
  where
    y : (x < 2 ^ s) × (field_multiply s x b ≡ a)
    y = quotient_back d a b x h n a_lt e

    x_ne : x ≢ 0
    x_ne z = a_ne (sym y.1 ∙ ap (λ (i : ℕ). field_multiply s i b) z ∙ multiply_comm d 0 b ∙ multiply_zero d b)

-- where P has the leading coefficient c
pub struck : {s la lb lv q c : ℕ} {a b w v : List ℕ} → Reducible s la lb lv a b w v → Cancels s q c (get_or b (lb - 1) 0)
    → (d : Degree s) (j : ℕ) {m : ℕ} {P : ℕ → F s} → j + lb ≡ suc m → Below (GF d) (suc m) P → P m ≡ el d c
    → Below (GF d) m (plus d P (mono (GF d) j (el d (field_power s ω q))) (series d b))
unfolding series
struck {s} {la} {lb} {lv} {q} {c} {a} {b} p o d j {m} {P} h below top =
    subst (Below (GF d) m) (sym is) (lead_below (GF d) (is_field d) (omega arith) below b_deg)
  where
    b_deg : Deg (GF d) (lb - 1) (series d b)
    b_deg = record {
      below = below_of d (omega arith) p.b_length.short;
      top = el_ne d _ (p.b_small.at (lb - 1)) (p.b_length.leading p.b_pos);
    }

    c_is : el d (field_power s ω q) ≡ (GF d).mul (P m) ((is_field d).inv (series d b (lb - 1)))
    c_is = quotient_is (GF d) (is_field d) _ _ _ b_deg.top (sym (el_mul d _ _) ∙ ap (el d) o.is ∙ sym top)

    is : plus d P (mono (GF d) j (el d (field_power s ω q))) (series d b)
        ≡ plus d P (lead (GF d) (is_field d) m (lb - 1) P (series d b)) (series d b)
    is = let q : j ≡ m - (lb - 1) = omega (arith, p.b_pos) in ap₂ (λ n c. plus d P (mono (GF d) n c) (series d b)) q c_is

module _ {s la lb lv : ℕ} {a b w v : List ℕ} (t : Degree s) (p : Reducible s la lb lv a b w v) (l : lb ≤ la) where
  pub leading_below : (d : Degree s) → Below (GF d) (suc (la - 1)) (series d a)
  leading_below d = below_of d (omega (arith, p.b_pos)) p.a_length.short

  pub leading_ne : get_or a (la - 1) 0 ≢ 0
  leading_ne = p.a_length.leading (omega (arith, p.b_pos))

  pub first_term : {k i : ℕ} → InverseAt s k (get_or b (lb - 1) 0) → i ≡ logarithm s (get_or a (la - 1) 0)
      → Cancels s (i + k) (get_or a (la - 1) 0) (get_or b (lb - 1) 0)
  first_term o e = by_inverse t o (p.a_small.at (la - 1)) leading_ne e

  pub only_term : {x q : ℕ} → x ∷ [] ≡ quotients s (get_or a (la - 1) 0) (get_or b (lb - 1) 0) → q ≡ logarithm s x
      → Cancels s q (get_or a (la - 1) 0) (get_or b (lb - 1) 0)
  only_term = by_quotient t (p.a_small.at (la - 1)) leading_ne (p.b_small.at (lb - 1)) (p.b_length.leading p.b_pos)

  pub quotient_there : [] ≡ quotients s (get_or a (la - 1) 0) (get_or b (lb - 1) 0) → ⊥
  quotient_there e =
      inverse_there t (p.b_small.at (lb - 1)) (p.b_length.leading p.b_pos) (no_quotient s _ _ e)

  module _ {q : ℕ} (o : Cancels s q (get_or a (la - 1) 0) (get_or b (lb - 1) 0)) where
    pub addable_a : Addable s (la - lb) q a (take lb b)
    addable_a = record {
      k_most = o.most;
      a_small = p.a_small;
      b_small = small_cut p.b_long p.b_length.short p.b_small;
      a_long = omega (arith, p.a_long, length-take-le lb b p.b_long);
    }

    pub addable_w : Addable s (la - lb) q w (take lv v)
    addable_w = record {
      k_most = o.most;
      a_small = p.w_small;
      b_small = small_cut p.v_long p.v_short p.v_small;
      a_long = omega (arith, p.w_long, length-take-le lv v p.v_long);
    }

    pub cancelled : {a' : List ℕ} → Added s (la - lb) q a (take lb b) a' → Short (la - 1) a'
    unfolding series
    cancelled {a'} z' =
        let d : Degree s = t in
        let z : Added s (la - lb) q a b a' = added_whole p.b_long p.b_length.short z' in
        short_of d z.small
        (subst (Below (GF d) (la - 1)) (sym (z.is d)) (struck p o d (la - lb) (omega (arith, p.b_pos)) (leading_below d) refl))

    pub reduced_one : {a' w' : List ℕ} {r : ℕ} → Added s (la - lb) q a (take lb b) a' → Added s (la - lb) q w (take lv v) w' → LengthOf a' r
        → Reduced s (la - lb) a b w v a' w' r
    reduced_one {a'} {w'} x' y' h =
        let x : Added s (la - lb) q a b a' = added_whole p.b_long p.b_length.short x' in
        let y : Added s (la - lb) q w v w' = added_whole p.v_long p.v_short y' in
        record {
          a_small = x.small;
          w_small = y.small;
          division = λ d. record {
            quotient = mono (GF d) (la - lb) (el d (field_power s ω q));
            quotient_below = mono_below (GF d) (la - lb) _;
            a_is = x.is d;
            w_is = y.is d;
          };
          a_length = h;
        }

-- ---- terms in turn
none_added : {A : Type 0} (R : Ring A) (p r : A) → p ≡ R.add p (R.mul R.𝟘 r)
none_added R p r = simp ring

pub more_added : {A : Type 0} (R : Ring A) (p q m r : A)
    → R.add (R.add p (R.mul q r)) (R.mul m r) ≡ R.add p (R.mul (R.add q m) r)
more_added R p q m r = simp ring

pub reduced_none : {s la lb lv : ℕ} {a b w v : List ℕ} → Reducible s la lb lv a b w v → Reduced s (la - lb) a b w v a w la
reduced_none {s} {la} {lb} {a = a} {b} {w} {v} p = record {
  a_small = p.a_small;
  w_small = p.w_small;
  division = λ d. record {
    quotient = (Ser (GF d)).𝟘;
    quotient_below = Below-zero (GF d) _;
    a_is = none_added (Ser (GF d)) (series d a) (series d b);
    w_is = none_added (Ser (GF d)) (series d w) (series d v);
  };
  a_length = p.a_length;
}

pub reduced_more : {s k m r r' : ℕ} {a b w v a' w' a'' w'' : List ℕ} → m ≤ k → Reduced s k a b w v a' w' r
    → Reduced s m a' b w' v a'' w'' r' → Reduced s k a b w v a'' w'' r'
reduced_more {s} {k} {m} {a = a} {b} {w} {v} h x y = record {
  a_small = y.a_small;
  w_small = y.w_small;
  division = λ d. let p = x.division d in let q = y.division d in record {
    quotient = (Ser (GF d)).add p.quotient q.quotient;
    quotient_below = Below-add (GF d) p.quotient_below (Below-weaken (GF d) (omega arith) q.quotient_below);
    a_is = q.a_is ∙ ap (λ t. plus d t q.quotient (series d b)) p.a_is ∙ more_added (Ser (GF d)) _ _ _ _;
    w_is = q.w_is ∙ ap (λ t. plus d t q.quotient (series d v)) p.w_is ∙ more_added (Ser (GF d)) _ _ _ _;
  };
  a_length = y.a_length;
}

pub reducible_on : {s n lb lv r k : ℕ} {a b w v a' w' : List ℕ} → Reducible s n lb lv a b w v → r ≤ n
    → length a' ≡ length a → length w' ≡ length w → Reduced s k a b w v a' w' r → Reducible s r lb lv a' b w' v
reducible_on p l x y z = record {
  a_small = z.a_small;
  b_small = p.b_small;
  w_small = z.w_small;
  v_small = p.v_small;
  a_length = z.a_length;
  b_length = p.b_length;
  b_pos = p.b_pos;
  v_short = p.v_short;
  a_long = omega (arith, x, p.a_long);
  b_long = p.b_long;
  v_long = p.v_long;
  w_long = omega (arith, y, p.w_long);
}

pub kept_all : {a : Row} → Kept a a
kept_all = record { same_remainder = refl; same_cofactor = refl; remainder_long = refl; cofactor_long = refl; cofactor_len = refl }

pub kept_more : {a a' a'' : Row} → Kept a' a'' → Kept a a' → Kept a a''
kept_more t i = record {
  same_remainder = t.same_remainder ∙ i.same_remainder;
  same_cofactor = t.same_cofactor ∙ i.same_cofactor;
  remainder_long = t.remainder_long ∙ i.remainder_long;
  cofactor_long = t.cofactor_long ∙ i.cofactor_long;
  cofactor_len = t.cofactor_len ∙ i.cofactor_len;
}
