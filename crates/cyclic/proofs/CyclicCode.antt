-- A cyclic code: the standing assumptions of all that follows, in one record.
--
--   Closed n D        D is closed under doubling modulo n
--   Code R n          a field on the ring R, an element α of order n, and a defining set D, closed under doubling
--   table_code         such codes over the fields of the table
--   power_ne          no power of α is 0
--   Vanishes C c      the mask c is 0 at α^i for each i in D
use mathlib.Core.Path.{◌≡◌, sym, ap, ◌∙◌}
use mathlib.Core.Logic.{◌≢◌}
use mathlib.Core.Bool.{Bool}
use lib.Dec.{T}
use Prim.Native.Nat.{ℕ, zero, suc, ◌-◌, ◌*◌, ◌%◌, ◌^◌, ◌<◌, ◌∣◌}
use native.Mathlib.Omega.{arith}
use Rattle.algebra.proofs.Ring.{Ring, zero-mul}
use Rattle.algebra.proofs.Power.{pow, pow_s, Order}
use Rattle.algebra.proofs.Field.{Field, pow_ne}
use Rattle.field.specs.Field.{Degree}
use Rattle.field.proofs.Elements.{GF, is_field, root, root_order}
use Rattle.field.proofs.Value.{value}

abbrev pub Closed : ℕ → (ℕ → Bool) → Type 0
Closed n D = (i : ℕ) → i < n → T (D i) → T (D (i * 2 % n))

pub record Code {A : Type 0} (R : Ring A) (n : ℕ) : Type 0 where
  pub K : Field R
  pub α : A
  pub order : Order R α n
  pub D : ℕ → Bool
  pub closed : Closed n D

abbrev pub table_code : {s : ℕ} (d : Degree s) {n : ℕ} → n ∣ 2 ^ s - 1 → (D : ℕ → Bool) → Closed n D → Code (GF d) n
table_code d {n} h D closed = record { K = is_field d; α = root d n; order = root_order d n h; D = D; closed = closed }

module _ {A : Type 0} {R : Ring A} {n : ℕ} (C : Code R n) where
  open R use {𝟘}
  open C use {K, α, order, D}

  -- else α^n were 0, and not 1
  pub power_ne : (k : ℕ) → pow R α k ≢ 𝟘
  power_ne = pow_ne R K α (λ e. go n order.pos order.one e)
    where
      go : (m : ℕ) → 0 < m → pow R α m ≡ R.𝟙 → α ≢ 𝟘
      go zero h o e = absurd (omega arith)
      go (suc m) h o e = K.one_ne (sym o ∙ pow_s R α m ∙ ap (λ x. R.mul x (pow R α m)) e ∙ zero-mul R _)

  abbrev pub Vanishes : ℕ → Type 0
  Vanishes c = (i : ℕ) → i < n → T (D i) → value R (pow R α i) c ≡ 𝟘
