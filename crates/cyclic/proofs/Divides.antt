-- More of divisibility of polynomials.
--
--   in_divides      a factor divides the product of all
--   divides_mul     a divisor divides each multiple
--   prod_divides    the product of coprime factors divides what each of them does
--   divides_const   a constant factor that is not 0 may be left off
use mathlib.Core.Path.{refl, sym, ap, ◌∙◌, subst}
use mathlib.Core.Logic.{◌≢◌}
use mathlib.Core.List.{List}
use Prim.Native.Nat.{ℕ}
use Rattle.algebra.proofs.Ring.{Ring, mul_comm, mul_left_comm, mul_assoc, one-mul}
use Rattle.algebra.proofs.Field.{Field}
use Rattle.algebra.proofs.Lists.{All, none, more, all_map, In, here, there, Distinct, d_nil, d_cons, prod}
use Rattle.algebra.proofs.Coprime.{Sub, has_prod, Divides, Coprime, coprime_prod, coprime_both}
use Rattle.algebra.proofs.Series.{Ser, const, one_is, const_const}
use Rattle.algebra.proofs.Poly.{Polys, const_poly}

module _ {A : Type 0} {R : Ring A} {P : A → Type 0} (S : Sub R P) where
  pub in_divides : {B : Type 0} (f : B → A) → ((b : B) → P (f b)) → {b : B} {l : List B} → In b l
      → Divides S (f b) (prod R f l)
  unfolding prod
  in_divides f h (here {l = l}) = record { by = prod R f l; by_in = has_prod S f h l; eq = refl }
  in_divides f h {b = b} (there {c = c} {l = l} i) =
      let d = in_divides f h i in
      record {
        by = R.mul (f c) d.by;
        by_in = S.has_mul (h c) d.by_in;
        eq = mul_left_comm R (f b) (f c) d.by ∙ ap (R.mul (f c)) d.eq;
      }

  pub divides_mul : {p q : A} (x : A) → P x → Divides S p q → Divides S p (R.mul x q)
  divides_mul {p} {q} x hx d = record {
    by = R.mul x d.by;
    by_in = S.has_mul hx d.by_in;
    eq = mul_left_comm R p x d.by ∙ ap (R.mul x) d.eq;
  }

  pub prod_divides : {B : Type 0} (f : B → A) → ((b : B) → P (f b)) → ((b c : B) → b ≢ c → Coprime S (f b) (f c))
      → {l : List B} → Distinct l → {t : A} → P t → All (λ b. Divides S (f b) t) l → Divides S (prod R f l) t
  unfolding prod
  prod_divides f h co d_nil {t = t} ht none = record { by = t; by_in = ht; eq = one-mul R t }
  prod_divides f h co (d_cons {b = b} ne d) ht (more w ws) =
      coprime_both S (coprime_prod S f h (h b) (all_map (co b) ne)) w (prod_divides f h co d ht ws)

module _ {A : Type 0} (R : Ring A) (K : Field R) where
  open Ser R use {add as ◌⊕◌, mul as ◌⊗◌}

  infixl 65 ◌⊕◌
  infixl 70 ◌⊗◌
  pub divides_const : {p q : ℕ → A} (c : A) → c ≢ R.𝟘 → Divides (Polys R) p (const R c ⊗ q) → Divides (Polys R) p q
  divides_const {p} {q} c ne d =
      let k : ℕ → A = const R (K.inv c) in
      subst (Divides (Polys R) p)
      (sym (mul_assoc (Ser R) k (const R c) q)
      ∙ ap (λ x. x ⊗ q)
      (const_const R (K.inv c) c ∙ ap (const R) (mul_comm R _ _ ∙ K.mul_inv c ne) ∙ sym (one_is R))
      ∙ one-mul (Ser R) q)
      (divides_mul (Polys R) k (const_poly R _) d)
