-- Monic polynomials: products of x + a, and what squaring does to them.
--
--   Monic R m p       p has degree m and leading coefficient 1: monic_deg
--   monic_eq          of two monic polynomials of one degree, none divides the other but itself
--   Π R l             the product of x + a over the elements a of l: Π-monic, Π-value, Π-divides
--   root_Π, Π-root    its roots are the elements of l
--   Π-any             it does not depend on their order
--   sq R a, squares R p      squares of an element, of all coefficients: sq_mul, squares_Π
use mathlib.Core.Path.{◌≡◌, refl, sym, ap, ap₂, ◌∙◌, subst, fun_ext}
use mathlib.Core.Logic.{◌⊎◌, inl, inr}
use mathlib.Core.List.{List, [], ◌∷◌, map}
use lib.ListN.{length}
use Prim.Native.Nat.{ℕ, zero, suc, ◌+◌ as ◌+ℕ◌, ◌≤◌}
use native.Mathlib.Numerals.{one-add}
use native.Mathlib.Omega.{arith}
use Rattle.algebra.proofs.Ring.{Ring, ring, add-zero, add_self, add_comm, mul-one, mul-zero, zero-mul, eq_of_add, follows}
use Rattle.algebra.proofs.Power.{square_add}
use Rattle.algebra.proofs.Field.{Field, no_zero_divisors}
use Rattle.algebra.proofs.Lists.{In, here, there, Distinct, all_of, prod}
use Rattle.algebra.proofs.Coprime.{Divides}
use Rattle.algebra.proofs.Series.{Ser, tl, const, add_at, one_is, mul_z, mul_s}
use Rattle.algebra.proofs.Poly.{Below, Below-weaken, Below-drop, Below-one, Below-add, Below-deg, mul_top, Polys}
use Rattle.algebra.proofs.Divide.{Deg, short_zero}
use Rattle.algebra.proofs.Value.{ev, ev_z, ev_s, ev_more, ev_mul, lin, roots}

module _ {A : Type 0} (R : Ring A) where
  open R use {add as ◌+◌, mul as ◌*◌, 𝟘, 𝟙}

  infixl 65 ◌+◌
  infixl 70 ◌*◌
  open Ser R use {add as ◌⊕◌, mul as ◌⊗◌, 𝟙 as 1ₛ}

  infixl 65 ◌⊕◌
  infixl 70 ◌⊗◌
  pub record Monic (m : ℕ) (p : ℕ → A) : Type 0 where
    pub below : Below R (suc m) p
    pub top : p m ≡ 𝟙

  -- ---- products of x + a
  abbrev pub Π : List A → ℕ → A
  Π l = prod (Ser R) (lin R) l

  lin_below : (a : A) → Below R 2 (lin R a)
  unfolding lin
  lin_below a = record { at = go }
    where
      go : (k : ℕ) → 2 ≤ k → lin R a k ≡ 𝟘
      go zero h = absurd (omega arith)
      go (suc zero) h = absurd (omega arith)
      go (suc (suc k)) h = refl

  lin_top : (a : A) → lin R a 1 ≡ 𝟙
  unfolding lin
  lin_top a = refl

  lin_value : (a x : A) → ev R 2 (lin R a) x ≡ x + a
  unfolding lin
  lin_value a x = rw (ev_s, ev_s, ev_z, mul-zero, add-zero, mul-one) (add_comm R a x)

  pub Π-monic : (l : List A) → Monic (length l) (Π l)
  unfolding prod
  Π-monic [] = record { below = Below-one R; top = ap (λ p. p zero) (one_is R) }
  Π-monic (a ∷ l) =
      let ih = Π-monic l in
      record {
        below = Below-weaken R (omega arith) (Below-deg R (lin_below a) ih.below);
        top =
            ap (lin R a ⊗ Π l) (sym (one-add (length l))) ∙ mul_top R (lin_below a) ih.below
            ∙ rw (lin_top, ih.top) (mul-one R 𝟙);
      }

  pub Π-value : (l : List A) (x : A) → ev R (suc (length l)) (Π l) x ≡ prod R (λ a. x + a) l
  unfolding prod
  Π-value [] x = ev_s R zero 1ₛ x ∙ rw (ev_z, mul-zero, add-zero) (ap (λ p. p zero) (one_is R))
  Π-value (a ∷ l) x =
      sym (ev_more R (suc (suc (length l))) (2 +ℕ suc (length l)) (lin R a ⊗ Π l) x (Π-monic (a ∷ l)).below (omega arith))
      ∙ ev_mul R 2 (suc (length l)) (lin R a) (Π l) x (lin_below a) (Π-monic l).below
      ∙ ap₂ ◌*◌ (lin_value a x) (Π-value l x)

  pub Π-root : (l : List A) (x : A) → In x l → prod R (λ a. x + a) l ≡ 𝟘
  unfolding prod
  Π-root [] x i = elim i [ ]
  Π-root (a ∷ l) x here = ap (λ y. y * prod R (λ b. x + b) l) (add_self R x) ∙ zero-mul R _
  Π-root (a ∷ l) x (there i) = ap (λ y. (x + a) * y) (Π-root l x i) ∙ mul-zero R _

  -- ---- squares
  abbrev pub sq : A → A
  sq a = a * a

  abbrev pub squares : (ℕ → A) → ℕ → A
  squares p k = p k * p k

  pub sq_mul : (a b : A) → sq (a * b) ≡ sq a * sq b
  sq_mul a b = simp ring

  squares_mul : (p q : ℕ → A) → squares (p ⊗ q) ≡ squares p ⊗ squares q
  squares_mul p q = fun_ext (go p)
    where
      go : (p : ℕ → A) (k : ℕ) → squares (p ⊗ q) k ≡ (squares p ⊗ squares q) k
      go p zero = ap sq (mul_z R p q) ∙ sq_mul (p zero) (q zero) ∙ sym (mul_z R (squares p) (squares q))
      go p (suc k) =
          ap sq (mul_s R p q k) ∙ square_add R _ _ ∙ ap₂ ◌+◌ (sq_mul (p zero) (q (suc k))) (go (tl p) k)
          ∙ sym (mul_s R (squares p) (squares q) k)

  squares_one : squares 1ₛ ≡ 1ₛ
  squares_one = rw one_is (fun_ext go)
    where
      go : (k : ℕ) → squares (const R 𝟙) k ≡ const R 𝟙 k
      go zero = mul-one R 𝟙
      go (suc k) = mul-zero R 𝟘

  squares_lin : (a : A) → squares (lin R a) ≡ lin R (sq a)
  unfolding lin
  squares_lin a = fun_ext go
    where
      go : (k : ℕ) → squares (lin R a) k ≡ lin R (sq a) k
      go zero = refl
      go (suc zero) = mul-one R 𝟙
      go (suc (suc k)) = mul-zero R 𝟘

  pub squares_Π : (l : List A) → squares (Π l) ≡ Π (map sq l)
  unfolding prod
  squares_Π [] = squares_one
  squares_Π (a ∷ l) = squares_mul (lin R a) (Π l) ∙ ap₂ ◌⊗◌ (squares_lin a) (squares_Π l)

module _ {A : Type 0} (R : Ring A) (K : Field R) where
  open R use {add as ◌+◌, mul as ◌*◌, 𝟘, 𝟙}

  infixl 65 ◌+◌
  infixl 70 ◌*◌
  open Ser R use {add as ◌⊕◌, mul as ◌⊗◌, 𝟘 as 0ₛ, 𝟙 as 1ₛ}

  infixl 65 ◌⊕◌
  infixl 70 ◌⊗◌
  pub monic_deg : {m : ℕ} {p : ℕ → A} → Monic R m p → Deg R m p
  monic_deg a = record { below = a.below; top = λ e. K.one_ne (sym a.top ∙ e) }

  -- q + p is p times a polynomial, but shorter than p
  pub monic_eq : {m : ℕ} {p q : ℕ → A} → Monic R m p → Monic R m q → Divides (Polys R) p q → p ≡ q
  monic_eq {m} {p} {q} a b d =
      let y : ℕ → A = d.by ⊕ 1ₛ in
      let e : p ⊗ y ≡ q ⊕ p = follows (Ser R) 1ₛ d.eq (simp ring) in
      let low : Below R m (q ⊕ p) =
      Below-drop R (Below-add R b.below a.below) (add_at R q p m ∙ rw (b.top, a.top) (add_self R 𝟙)) in
      let z : y ≡ 0ₛ =
      short_zero R K a.below (monic_deg a).top ((Polys R).has_add d.by_in (Polys R).has_one).below (rw e low) in
      eq_of_add (Ser R) p q (add_comm (Ser R) p q ∙ sym e ∙ ap (λ x. p ⊗ x) z ∙ mul-zero (Ser R) p)

  pub root_Π : (l : List A) (x : A) → prod R (λ a. x + a) l ≡ 𝟘 → In x l
  unfolding prod
  root_Π [] x e = absurd (K.one_ne e)
  root_Π (a ∷ l) x e = go (no_zero_divisors R K _ _ e) (root_Π l x)
    where
      go : (x + a ≡ 𝟘) ⊎ (prod R (λ a. x + a) l ≡ 𝟘) → (prod R (λ a. x + a) l ≡ 𝟘 → In x l) → In x (a ∷ l)
      go (inl h) ih = subst (λ b. In x (b ∷ l)) (eq_of_add R x a h) here
      go (inr h) ih = there (ih h)

  pub Π-divides : {n : ℕ} {p : ℕ → A} → Below R n p → (l : List A) → Distinct l → ((x : A) → In x l → ev R n p x ≡ 𝟘)
      → Divides (Polys R) (Π R l) p
  Π-divides b l d h = roots R K b l d (all_of l h)

  -- as many distinct roots, all of them roots of the other
  pub Π-any : {l m : List A} → length l ≡ length m → Distinct l → ((x : A) → In x l → In x m) → Π R l ≡ Π R m
  Π-any {l} {m} e d h =
      monic_eq (subst (λ (k : ℕ). Monic R k (Π R l)) e (Π-monic R l)) (Π-monic R m)
      (Π-divides (Π-monic R m).below l d (λ x i. Π-value R m x ∙ Π-root R m x (h x i)))
