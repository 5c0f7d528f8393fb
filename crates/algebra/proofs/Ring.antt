-- Commutative rings of characteristic 2, and the one solver for their identities.
--
--   Ring A        the record: operations on the set A, and their laws
--   add_assoc ..  the laws by name, and those that follow: a law of the ring R is written `add_assoc R a b c`
--   ring          the solver: `simp ring` proves an identity. It multiplies out, sorts sums and products, and
--                 strikes out equal terms; it knows an operation only by its ring, so it serves every ring alike
--   eq_of_add     a + b = 0 gives a = b
--   follows       x = y from hypotheses: where x + y is a multiple of l + r, and l = r
use mathlib.Core.Path.{◌≡◌, sym, ◌∙◌, ap}

pub record Ring (A : Type 0) : Type 0 where
  pub is_set : IsSet A
  pub add : A → A → A
  pub mul : A → A → A
  pub 𝟘 : A
  pub 𝟙 : A
  pub law_add_assoc : (a b c : A) → add (add a b) c ≡ add a (add b c)
  pub law_add_comm : (a b : A) → add a b ≡ add b a
  pub law_add_zero : (a : A) → add a 𝟘 ≡ a
  pub law_add_self : (a : A) → add a a ≡ 𝟘
  pub law_mul_assoc : (a b c : A) → mul (mul a b) c ≡ mul a (mul b c)
  pub law_mul_comm : (a b : A) → mul a b ≡ mul b a
  pub law_mul_one : (a : A) → mul a 𝟙 ≡ a
  pub law_mul_add : (a b c : A) → mul a (add b c) ≡ add (mul a b) (mul a c)

module _ {A : Type 0} (R : Ring A) where
  open R use {add as ◌+◌, mul as ◌*◌, 𝟘, 𝟙}

  infixl 65 ◌+◌
  infixl 70 ◌*◌
  pub add_assoc : (a b c : A) → (a + b) + c ≡ a + (b + c)
  add_assoc = R.law_add_assoc

  pub add_comm : (a b : A) → a + b ≡ b + a
  add_comm = R.law_add_comm

  pub add-zero : (a : A) → a + 𝟘 ≡ a
  add-zero = R.law_add_zero

  pub add_self : (a : A) → a + a ≡ 𝟘
  add_self = R.law_add_self

  pub mul_assoc : (a b c : A) → (a * b) * c ≡ a * (b * c)
  mul_assoc = R.law_mul_assoc

  pub mul_comm : (a b : A) → a * b ≡ b * a
  mul_comm = R.law_mul_comm

  pub mul-one : (a : A) → a * 𝟙 ≡ a
  mul-one = R.law_mul_one

  pub mul-add : (a b c : A) → a * (b + c) ≡ a * b + a * c
  mul-add = R.law_mul_add

  pub zero-add : (a : A) → 𝟘 + a ≡ a
  zero-add a = add_comm 𝟘 a ∙ add-zero a

  pub add_left_comm : (a b c : A) → a + (b + c) ≡ b + (a + c)
  add_left_comm a b c = sym (add_assoc a b c) ∙ ap (λ x. x + c) (add_comm a b) ∙ add_assoc b a c

  pub add_self_left : (a b : A) → a + (a + b) ≡ b
  add_self_left a b = sym (add_assoc a a b) ∙ ap (λ x. x + b) (add_self a) ∙ zero-add b

  pub mul_left_comm : (a b c : A) → a * (b * c) ≡ b * (a * c)
  mul_left_comm a b c = sym (mul_assoc a b c) ∙ ap (λ x. x * c) (mul_comm a b) ∙ mul_assoc b a c

  pub one-mul : (a : A) → 𝟙 * a ≡ a
  one-mul a = mul_comm 𝟙 a ∙ mul-one a

  pub add-mul : (a b c : A) → (a + b) * c ≡ a * c + b * c
  add-mul a b c = rw (mul_comm (a + b) c, mul-add, mul_comm c a, mul_comm c b)

  pub mul-zero : (a : A) → a * 𝟘 ≡ 𝟘
  mul-zero a = ap (λ x. a * x) (sym (add_self 𝟘)) ∙ mul-add a 𝟘 𝟘 ∙ add_self (a * 𝟘)

  pub zero-mul : (a : A) → 𝟘 * a ≡ 𝟘
  zero-mul a = mul_comm 𝟘 a ∙ mul-zero a

pub ruleset ring = (
  add_assoc,
  add_comm,
  add_left_comm,
  add-zero,
  zero-add,
  add_self,
  add_self_left,
  mul_assoc,
  mul_comm,
  mul_left_comm,
  mul-one,
  one-mul,
  mul-zero,
  zero-mul,
  mul-add,
  add-mul,
)

module _ {A : Type 0} (R : Ring A) where
  open R use {add as ◌+◌, mul as ◌*◌, 𝟘}

  infixl 65 ◌+◌
  infixl 70 ◌*◌
  pub eq_of_add : (a b : A) → a + b ≡ 𝟘 → a ≡ b
  eq_of_add a b e = let s : a ≡ b + (a + b) = simp ring in s ∙ rw e (add-zero R b)

  pub follows : {x y l r : A} (m : A) → l ≡ r → x + y ≡ m * (l + r) → x ≡ y
  follows {x} {y} {l} {r} m h e = eq_of_add x y (e ∙ ap (λ z. m * (z + r)) h ∙ ap (λ z. m * z) (add_self R r) ∙ mul-zero R m)
