-- Encoding: the message in the high places, the remainder below.
--
--   encode C m         the codeword of the message m; encode_sum: with + for xor
--   encode_codeword    it is a codeword
--   encode_high, encode_low      the message stands in its high places, and the remainder in the low ones
--   encode_lt          it has n places where m has k; read_lt: and back
--   encode_onto        each codeword is its own high places encoded: so reading is inverse to encoding
use mathlib.Core.Path.{◌≡◌, sym, ap, ◌∙◌, subst}
use lib.Bits.{xor_shifted}
use lib.Pow.{shl_lt, shr_lt, pow_mono, high, low}
use Prim.Native.Nat.{ℕ, ◌+◌, ◌*◌, ◌/◌, ◌%◌, ◌^◌, ◌<◌}
use native.Mathlib.Nat.{lt_of_lt_of_le}
use native.Mathlib.Omega.{arith}
use Rattle.algebra.proofs.Ring.{Ring}
use Rattle.field.specs.Mask.{◌⊕◌, clmul, remainder}
use Rattle.field.proofs.Xor.{⊕-norm, ⊕-self, ⊕-shr, ⊕-eq, ⊕-lt}
use Rattle.field.proofs.Remainder.{lt_of_high}
use Rattle.cyclic.proofs.Division.{divide}
use Rattle.cyclic.proofs.CyclicCode.{Code}
use Rattle.cyclic.proofs.Generator.{checks, checks_le, dimension, generator, generator_degree}
use Rattle.cyclic.proofs.Generator.{InCode, codeword, codeword_add, short}

module _ {A : Type 0} {R : Ring A} {n : ℕ} (C : Code R n) where
  -- x^(n-k) m, by the generator
  abbrev tail : ℕ → ℕ
  tail m = remainder (checks C) (generator C) (m * 2 ^ checks C)

  tail_lt : (m : ℕ) → tail m < 2 ^ checks C
  tail_lt m = (divide (checks C) (generator C) (generator_degree C) (m * 2 ^ checks C)).small

  unfoldable pub encode : ℕ → ℕ
  encode m = m * 2 ^ checks C ⊕ remainder (checks C) (generator C) (m * 2 ^ checks C)

  -- xor of what does not overlap is a sum
  pub encode_sum : (m : ℕ) → encode m ≡ m * 2 ^ checks C + remainder (checks C) (generator C) (m * 2 ^ checks C)
  unfolding encode ◌⊕◌
  encode_sum m = xor_shifted m (checks C) (tail m) (tail_lt m)

  pub encode_high : (m : ℕ) → encode m / 2 ^ checks C ≡ m
  encode_high m = ap (λ (x : ℕ). x / 2 ^ checks C) (encode_sum m) ∙ high m (checks C) (tail_lt m)

  pub encode_low : (m : ℕ) → encode m % 2 ^ checks C ≡ remainder (checks C) (generator C) (m * 2 ^ checks C)
  encode_low m = ap (λ (x : ℕ). x % 2 ^ checks C) (encode_sum m) ∙ low m (checks C) (tail_lt m)

  whole : dimension C + checks C ≡ n
  whole = omega (arith, checks_le C)

  pub encode_lt : (m : ℕ) → m < 2 ^ dimension C → encode m < 2 ^ n
  unfolding encode
  encode_lt m h =
      ⊕-lt n (m * 2 ^ checks C) (tail m)
      (subst (λ (k : ℕ). m * 2 ^ checks C < 2 ^ k) whole (shl_lt (dimension C) (checks C) h))
      (lt_of_lt_of_le (tail_lt m) (pow_mono (checks_le C)))

  pub read_lt : (c : ℕ) → c < 2 ^ n → c / 2 ^ checks C < 2 ^ dimension C
  read_lt c h = shr_lt (dimension C) (checks C) (subst (λ (k : ℕ). c < 2 ^ k) (sym whole) h)

  pub encode_codeword : (m : ℕ) → InCode C (encode m)
  unfolding encode
  encode_codeword m =
      let w = divide (checks C) (generator C) (generator_degree C) (m * 2 ^ checks C) in
      (w.quo, strike (m * 2 ^ checks C) (clmul (generator C) w.quo) _ w.eq)
    where
      strike : (a p r : ℕ) → a ≡ p ⊕ r → a ⊕ r ≡ p
      strike a p r e = let s : p ⊕ r ⊕ r ≡ p = simp ⊕-norm in ap (λ (x : ℕ). x ⊕ r) e ∙ s

  -- two codewords with the same high places: their sum is shorter than the generator
  pub encode_onto : (c : ℕ) → InCode C c → encode (c / 2 ^ checks C) ≡ c
  encode_onto c w =
      let e : ℕ = encode (c / 2 ^ checks C) in
      ⊕-eq
      (short C (e ⊕ c)
      (lt_of_high (checks C)
      (⊕-shr e c (checks C) ∙ ap (λ (x : ℕ). x ⊕ c / 2 ^ checks C) (encode_high (c / 2 ^ checks C)) ∙ ⊕-self _))
      ((codeword C (e ⊕ c)).0 (codeword_add C e c (encode_codeword (c / 2 ^ checks C)) w)))
