-- Fields of characteristic 2.
--
--   Field R        the record over a ring: inverses of all but 0, 1 ≠ 0, equality is decided
--   cancel, no_zero_divisors, mul_ne, pow_ne      a product is 0 only where a factor is
--   idempotent     a a = a only for 0 and 1
--   square_inj     squares are equal only where their roots are
use mathlib.Core.Path.{◌≡◌, sym, ap, ap₂, ◌∙◌}
use mathlib.Core.Logic.{◌≢◌, ◌⊎◌, inl, inr, ⊎_elim}
use Prim.Native.Nat.{ℕ, zero, suc}
use Rattle.algebra.proofs.Ring.{Ring, ring, one-mul, mul-one, mul-add, mul-zero, add_self, eq_of_add}
use Rattle.algebra.proofs.Power.{pow, pow_z, pow_s, square_add}

pub record Field {A : Type 0} (R : Ring A) : Type 0 where
  pub inv : A → A
  pub mul_inv : (a : A) → a ≢ R.𝟘 → R.mul a (inv a) ≡ R.𝟙
  pub one_ne : R.𝟙 ≢ R.𝟘
  pub discrete : Discrete A

module _ {A : Type 0} (R : Ring A) (K : Field R) where
  open R use {add as ◌+◌, mul as ◌*◌, 𝟘, 𝟙}

  infixl 65 ◌+◌
  infixl 70 ◌*◌
  open K use {inv, mul_inv, one_ne}

  pub cancel : (a b : A) → a ≢ 𝟘 → a * b ≡ 𝟘 → b ≡ 𝟘
  cancel a b h e =
      let regroup : inv a * (a * b) ≡ a * inv a * b = simp ring in
      sym (one-mul R b) ∙ ap (λ x. x * b) (sym (mul_inv a h)) ∙ sym regroup ∙ ap (λ x. inv a * x) e
      ∙ mul-zero R (inv a)

  pub mul_ne : (a b : A) → a ≢ 𝟘 → b ≢ 𝟘 → a * b ≢ 𝟘
  mul_ne a b h g e = g (cancel a b h e)

  pub pow_ne : (a : A) → a ≢ 𝟘 → (k : ℕ) → pow R a k ≢ 𝟘
  pow_ne a h zero e = one_ne (sym (pow_z R a) ∙ e)
  pow_ne a h (suc k) e = mul_ne a (pow R a k) h (pow_ne a h k) (sym (pow_s R a k) ∙ e)

  pub no_zero_divisors : (a b : A) → a * b ≡ 𝟘 → (a ≡ 𝟘) ⊎ (b ≡ 𝟘)
  no_zero_divisors a b e = elim (K.discrete a 𝟘) [ yes h ↦ inl h | no h ↦ inr (cancel a b h e) ]

  pub idempotent : (a : A) → a * a ≡ a → (a ≡ 𝟘) ⊎ (a ≡ 𝟙)
  idempotent a e =
      ⊎_elim (λ h. inl h) (λ h. inr (eq_of_add R a 𝟙 h))
      (no_zero_divisors a (a + 𝟙) (mul-add R a a 𝟙 ∙ ap₂ ◌+◌ e (mul-one R a) ∙ add_self R a))

  pub square_inj : (a b : A) → a * a ≡ b * b → a ≡ b
  square_inj a b e =
      eq_of_add R a b
      (⊎_elim (λ h. h) (λ h. h)
      (no_zero_divisors (a + b) (a + b) (square_add R a b ∙ ap (λ x. x + b * b) e ∙ add_self R (b * b))))
