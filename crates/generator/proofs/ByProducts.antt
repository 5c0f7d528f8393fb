-- The value of a coset's factor at ω by products of elements.
--
--   Multiplying n s r m x root v     v is the value over m members, and x and its root are the next
--   multiplying_start, multiplying_more, multiplying_end      it holds for none, is kept, and ends in the factor
--   multiplying_root, multiplying_element, multiplying_value     bounds
use mathlib.Core.Path.{◌≡◌, sym, ap, ◌∙◌, subst}
use mathlib.Core.Logic.{◌≢◌}
use Prim.Native.Nat.{ℕ, ◌+◌, ◌-◌, ◌*◌, ◌/◌, ◌%◌, ◌^◌, ◌<◌}
use native.Mathlib.Omega.{arith}
use lib.Bits.{bit_xor, xor_lt}
use Rattle.field.specs.Field.{ω, field_multiply, field_power, α}
use Rattle.field.proofs.Primitive.{Degree-bounds}
use Rattle.field.proofs.Numbers.{power_lt}
use Rattle.generator.specs.Coset.{CosetOf, FromValue, Factored}
use Rattle.generator.proofs.CosetWalk.{Walking, degree_of, walking_start, walking_more, walking_end}
use Rattle.generator.proofs.Roots.{root_is, squared}
use Rattle.generator.proofs.CosetValue.{coset_value, value_start, value_next, value_lt, factored}

pub record Multiplying (n s r m x root v : ℕ) : Type 0 where
  pub walking : Walking n r m x
  pub root_is : root ≡ field_power s (α s n) x
  pub value_is : v ≡ coset_value n s r m

module _ {n s r : ℕ} (c : CosetOf n s r) where
  pub multiplying_start : {q a : ℕ} → q ≡ (2 ^ s - 1) / n → a ≡ field_power s ω (r * q) → Multiplying n s r 0 r a 1
  multiplying_start e f = record {
    walking = walking_start c;
    root_is = f ∙ root_is (degree_of c) n e r;
    value_is = value_start c;
  }

  module _ {m x root v : ℕ} (t : Multiplying n s r m x root v) where
    pub multiplying_root : root < 2 ^ s
    multiplying_root = subst (λ (b : ℕ). b < 2 ^ s) (sym t.root_is) (power_lt (degree_of c) (α s n) x)

    pub multiplying_element : bit_xor root 2 < 2 ^ s
    multiplying_element = xor_lt s root 2 multiplying_root (omega (arith, (Degree-bounds (degree_of c)).0))

    pub multiplying_value : v < 2 ^ s
    multiplying_value = subst (λ (b : ℕ). b < 2 ^ s) (sym t.value_is) (value_lt c m)

    module _ {y u : ℕ} (e : y ≡ x * 2 % n) (f : u ≡ field_multiply s (bit_xor root 2) v) where
      more_is : u ≡ coset_value n s r (m + 1)
      more_is = f ∙ ap (field_multiply s (bit_xor root 2)) t.value_is ∙ value_next c m t.walking.x_is t.root_is

      pub multiplying_more : {next : ℕ} → y ≢ r → next ≡ field_multiply s root root → Multiplying n s r (m + 1) y next u
      multiplying_more h k = record {
        walking = walking_more c t.walking e h;
        root_is = squared c x t.root_is e k;
        value_is = more_is;
      }

      pub multiplying_end : {f k : ℕ} → y ≡ r → FromValue s u (m + 1) f k → Factored n s r f k
      multiplying_end h k = factored c (walking_end c t.walking e h) more_is k
