-- Values along a coset.
--
--   value_square      the value at a square is the square of the value
--   Turning, turning_start, turning_more, turning_end      the first j members hold their values
use mathlib.Core.Path.{◌≡◌, sym, ap, ap₂, ◌∙◌, subst}
use mathlib.Core.List.{List}
use Prim.Native.Nat.{ℕ, ◌+◌, ◌*◌, ◌%◌, ◌^◌, ◌<◌}
use native.Mathlib.Nat.{mod-lt}
use native.Mathlib.Decide.{ℕ_discrete}
use native.Mathlib.Omega.{arith}
use lib.ListN.{length, get_or, set}
use lib.Seq.{get_or-set_same, get_or-set_other}
use Rattle.field.specs.Field.{Degree, OddLength, field_multiply, field_power, order_of_two, α}
use Rattle.field.proofs.OrderOfTwo.{order_pos}
use Rattle.field.proofs.Elements.{GF, el, el_mul, el_inj}
use Rattle.field.proofs.Numbers.{multiply_lt, power_add}
use Rattle.field.proofs.Value.{value}
use Rattle.cyclic.proofs.Coset as Coset
use Rattle.document.specs.Generator.{value_at}
use Rattle.document.proofs.Cosets.{turn_back, walk_start, walk_more}
use Rattle.document.proofs.Theory.{root_mod}
use Rattle.document.proofs.Encoding.{value_is}
use Rattle.syndrome.specs.Value.{value_of, Conjugable, Conjugated}
use Rattle.syndrome.proofs.Setting.{value_lt}

pub value_square : {s : ℕ} (d : Degree s) (a c : ℕ)
    → field_multiply s (value_at s a c) (value_at s a c) ≡ value_at s (field_multiply s a a) c
value_square {s} d a c =
    el_inj d (multiply_lt d (value_at s a c) (value_at s a c)) (value_lt d (field_multiply s a a) c)
    (el_mul d (value_at s a c) (value_at s a c) ∙ ap₂ (GF d).mul (value_is d a c) (value_is d a c)
    ∙ sym (Coset.value_square (GF d) (el d a) c) ∙ ap (λ x. value (GF d) x c) (sym (el_mul d a a))
    ∙ sym (value_is d (field_multiply s a a) c))

-- the next member of a coset
module _ {n s : ℕ} (o : OddLength n) (s_is : s ≡ order_of_two n) (d : Degree s) where
  root_double : (x : ℕ) → field_power s (α s n) (x * 2 % n) ≡ field_multiply s (field_power s (α s n) x) (field_power s (α s n) x)
  root_double x =
      let e : x * 2 ≡ x + x = omega arith in
      at s s_is d (x * 2) ∙ ap (field_power s (α s n)) e ∙ sym (power_add d (α s n) x x)
    where
      at : (s : ℕ) → s ≡ order_of_two n → Degree s → (k : ℕ) → field_power s (α s n) (k % n) ≡ field_power s (α s n) k
      at s e d k =
          subst (λ (t : ℕ). field_power t (α t n) (k % n) ≡ field_power t (α t n) k) (sym e)
          (root_mod (record { odd = o; most = omega (arith, e, d.hi) }) k)

  pub value_double : (c x : ℕ) → field_multiply s (value_of n s c x) (value_of n s c x) ≡ value_of n s c (x * 2 % n)
  value_double c x = value_square d (field_power s (α s n) x) c ∙ ap (λ (a : ℕ). value_at s a c) (sym (root_double x))

-- ---- the walk
pub record Turning (n s r v j x y : ℕ) (val val' : List ℕ) : Type 0 where
  pub x_is : x ≡ r * 2 ^ j % n
  pub x_lt : x < n
  pub y_lt : y < 2 ^ s
  pub y_is : (c : ℕ) → v ≡ value_of n s c r → y ≡ value_of n s c x
  pub done : (c : ℕ) → v ≡ value_of n s c r → (k : ℕ) → k < j → get_or val' (r * 2 ^ k % n) 0 ≡ value_of n s c (r * 2 ^ k % n)
  pub kept : (c : ℕ) → v ≡ value_of n s c r → (i : ℕ) → get_or val i 0 ≡ value_of n s c i → get_or val' i 0 ≡ value_of n s c i

pub turning_start : {n s r v : ℕ} {val : List ℕ} → Conjugable n s r v val → Turning n s r v 0 r v val val
turning_start p = record {
  x_is = walk_start p.r_lt;
  x_lt = p.r_lt;
  y_lt = p.v_lt;
  y_is = λ c h. h;
  done = λ c h k l. absurd (omega arith);
  kept = λ c h i q. q;
}

pub turning_more : {n s r v j x y x' y' : ℕ} {val val' : List ℕ} → Conjugable n s r v val → Turning n s r v j x y val val'
    → x < length val' → x' ≡ x * 2 % n → x' < n → y' ≡ field_multiply s y y
    → Turning n s r v (j + 1) x' y' val (set val' x y)
turning_more {n} {s} {r} {v} {j} {x} {y} {x'} {y'} {val} {val'} p t h a l b = record {
  x_is = walk_more p.odd r j t.x_is a;
  x_lt = l;
  y_lt = subst (λ (z : ℕ). z < 2 ^ s) (sym b) (multiply_lt p.degree y y);
  y_is = λ c q. b ∙ ap (λ (z : ℕ). field_multiply s z z) (t.y_is c q) ∙ value_double p.odd p.s_is p.degree c x
      ∙ ap (value_of n s c) (sym a);
  done = λ c q k b. elim (ℕ_discrete k j) [
    | yes f ↦ (let at : r * 2 ^ k % n ≡ x = ap (λ (i : ℕ). r * 2 ^ i % n) f ∙ sym t.x_is in
        subst (λ (i : ℕ). get_or (set val' x y) i 0 ≡ value_of n s c i) (sym at) (here c q))
    | no f ↦ other c q (r * 2 ^ k % n) (t.done c q k (omega arith))
  ];
  kept = λ c q i f. other c q i (t.kept c q i f);
}
  where
    here : (c : ℕ) → v ≡ value_of n s c r → get_or (set val' x y) x 0 ≡ value_of n s c x
    here c q = get_or-set_same val' x y 0 h ∙ t.y_is c q

    other : (c : ℕ) → v ≡ value_of n s c r → (i : ℕ) → get_or val' i 0 ≡ value_of n s c i → get_or (set val' x y) i 0 ≡ value_of n s c i
    other c q i f = elim (ℕ_discrete i x) [
      | yes w ↦ subst (λ (k : ℕ). get_or (set val' x y) k 0 ≡ value_of n s c k) (sym w) (here c q)
      | no w ↦ get_or-set_other val' x i y 0 w ∙ f
    ]

pub turning_end : {n s r v j x y : ℕ} {val val' : List ℕ} → Conjugable n s r v val → j ≡ s → Turning n s r v j x y val val'
    → Conjugated n s r v val val'
turning_end {n} {s} {r} {v} {j} {x} {y} {val} {val'} p f t = record {
  all = λ c q k.
      let l : k % order_of_two n < order_of_two n = mod-lt k (order_pos n) in
      subst (λ (i : ℕ). get_or val' i 0 ≡ value_of n s c i) (sym (turn_back p.odd r k))
      (t.done c q (k % order_of_two n) (omega (arith, f, p.s_is)));
  kept = t.kept;
}
