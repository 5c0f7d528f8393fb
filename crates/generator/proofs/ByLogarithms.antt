-- The value of a coset's factor at ω by sums of logarithms.
--
--   Adding n s r m x sum     the sum is the logarithm of the value over m members, and x is the next
--   log_lt, log_power        the logarithm of an element that is not 0: its bound, and the element as a power by it
--   place_lt, element_lt     the next element, ω + α^x off the tables
--   coset_own                the coset, with s by its name
--   adding_start, adding_more        it holds for none, and is kept
--   adding_end, adding_zero          it ends in the factor, at the last member or at one whose element is 0
use mathlib.Core.Path.{◌≡◌, sym, ap, ap₂, ◌∙◌, subst}
use mathlib.Core.Logic.{◌≢◌}
use mathlib.Core.List.{List}
use Prim.Native.Nat.{ℕ, ◌+◌, ◌-◌, ◌*◌, ◌/◌, ◌%◌, ◌^◌, ◌<◌}
use native.Mathlib.Nat.{mod-lt}
use native.Mathlib.Omega.{arith}
use lib.Bits.{bit_xor, xor_lt}
use lib.ListN.{get_or}
use Rattle.field.specs.Field.{order_of_two, ω, field_multiply, field_power, α}
use Rattle.field.proofs.Primitive.{Degree-bounds}
use Rattle.field.proofs.Numbers.{power_z, power_add, power_lt, power_onto, zero_multiply}
use Rattle.field.proofs.Exponents.{power_mod}
use Rattle.generator.specs.Coset.{CosetOf, CosetWalked, OneRound, FromValue, Factored}
use Rattle.generator.proofs.CosetWalk.{Walking, degree_of, walking_start, walking_more, walking_end, walked_more}
use Rattle.generator.proofs.Roots.{index_lt, root_is}
use Rattle.generator.proofs.CosetValue.{coset_value, value_start, value_next, value_zero_on, factored}

pub record Adding (n s r m x sum : ℕ) : Type 0 where
  pub walking : Walking n r m x
  pub sum_lt : sum < 2 ^ s - 1
  pub value_is : coset_value n s r m ≡ field_power s ω sum

module _ {s a : ℕ} {e g : List ℕ} (o : OneRound s e g) (l : a < 2 ^ s) (h : a ≢ 0) where
  logged : (k : ℕ) × (k < 2 ^ s - 1) × (field_power s ω k ≡ a)
  logged = power_onto o.degree a l h

  log_is : get_or g a 0 ≡ logged.0
  log_is = ap (λ (b : ℕ). get_or g b 0) (sym logged.2) ∙ o.logs logged.0 logged.1

  pub log_lt : get_or g a 0 < 2 ^ s - 1
  log_lt = omega (arith, log_is, logged.1)

  pub log_power : field_power s ω (get_or g a 0) ≡ a
  log_power = ap (field_power s ω) log_is ∙ logged.2

module _ {n s r : ℕ} (c : CosetOf n s r) where
  pub coset_own : CosetOf n (order_of_two n) r
  coset_own = subst (λ (i : ℕ). CosetOf n i r) c.s_is c

  pub adding_start : Adding n s r 0 r 0
  adding_start = record {
    walking = walking_start c;
    sum_lt = omega (arith, (Degree-bounds (degree_of c)).0);
    value_is = sym (value_start c) ∙ sym (power_z s ω);
  }

  module _ {q m x sum : ℕ} {e g : List ℕ} (k : q ≡ (2 ^ s - 1) / n) (o : OneRound s e g) (t : Adding n s r m x sum) where
    pub place_lt : x * q < 2 ^ s - 1
    place_lt = index_lt (degree_of c) n k x t.walking.x_lt

    read_is : get_or e (x * q) 0 ≡ field_power s (α s n) x
    read_is = o.powers.at (x * q) place_lt ∙ root_is (degree_of c) n k x

    -- with any constant of two bits: it bounds factor_at_one's elements too, so that this edit is refused for the value
    pub element_lt : {y : ℕ} → y < 4 → bit_xor (get_or e (x * q) 0) y < 2 ^ s
    element_lt {y} l =
        xor_lt s (get_or e (x * q) 0) y (subst (λ (b : ℕ). b < 2 ^ s) (sym read_is) (power_lt (degree_of c) (α s n) x))
        (omega (arith, l, (Degree-bounds (degree_of c)).0))

    more_is : field_multiply s (bit_xor (get_or e (x * q) 0) 2) (coset_value n s r m) ≡ coset_value n s r (m + 1)
    more_is = value_next c m t.walking.x_is read_is

    pub adding_zero : {M f d : ℕ} → bit_xor (get_or e (x * q) 0) 2 ≡ 0 → CosetWalked n (order_of_two n) r M → FromValue s 0 M f d
        → Factored n s r f d
    adding_zero {M} z w' =
        let w : CosetWalked n s r M = subst (λ (i : ℕ). CosetWalked n i r M) (sym c.s_is) w' in
        let here : coset_value n s r (m + 1) ≡ 0 =
        sym more_is ∙ ap (λ (b : ℕ). field_multiply s b (coset_value n s r m)) z ∙ zero_multiply (degree_of c) (coset_value n s r m) in
        factored c w (sym (value_zero_on c (m + 1) M (omega (arith, walked_more t.walking w)) here))

    module _ {b end sum' : ℕ} (l : (b < 2 ^ s - 1) × (field_power s ω b ≡ bit_xor (get_or e (x * q) 0) 2)) (i : end ≡ 2 ^ s - 1) (f : sum' ≡ (sum + b) % end) where
      sum_is : sum' ≡ (sum + b) % (2 ^ s - 1)
      sum_is = f ∙ ap (λ (k : ℕ). (sum + b) % k) i

      pub more_lt : sum' < 2 ^ s - 1
      more_lt =
          let four = (Degree-bounds (degree_of c)).0 in
          subst (λ (y : ℕ). y < 2 ^ s - 1) (sym sum_is) (mod-lt (sum + b) (omega arith))

      value_more : coset_value n s r (m + 1) ≡ field_power s ω sum'
      value_more =
          let swap : b + sum ≡ 0 + 1 * (sum + b) = omega arith in
          let once : 0 + 1 * ((sum + b) % (2 ^ s - 1)) ≡ (sum + b) % (2 ^ s - 1) = omega arith in
          sym more_is ∙ ap₂ (field_multiply s) (sym l.1) t.value_is ∙ power_add (degree_of c) ω b sum
          ∙ ap (field_power s ω) swap ∙ sym (power_mod (degree_of c) 0 1 (sum + b)) ∙ ap (field_power s ω) (once ∙ sym sum_is)

      pub adding_more : {y : ℕ} → y ≡ x * 2 % n → y ≢ r → Adding n s r (m + 1) y sum'
      adding_more u v = record { walking = walking_more c t.walking u v; sum_lt = more_lt; value_is = value_more }

      pub adding_end : {y v f d : ℕ} → y ≡ x * 2 % n → y ≡ r → v ≡ field_power s ω sum' → FromValue s v (m + 1) f d → Factored n s r f d
      adding_end u w z = factored c (walking_end c t.walking u w) (z ∙ sym value_more)
