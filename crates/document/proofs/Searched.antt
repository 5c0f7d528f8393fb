-- What a search through all messages finds: the first whose codeword passes a test.
--
--   found_le        at most 2^k, which says that none does
--   found_some      what is found is a codeword that passes
--   found_by        one that passes is enough
--   found_is        and if only one passes, it is this one
--   found_none      none is found exactly where no codeword passes
use mathlib.Core.Path.{◌≡◌, ap, ◌∙◌}
use mathlib.Core.Logic.{◌↔◌}
use mathlib.Core.Bool.{Bool, true}
use mathlib.Core.List.{List}
use Prim.Native.Nat.{ℕ, ◌-◌, ◌^◌, ◌≤◌, ◌<◌}
use native.Mathlib.Decide.{dec_lt}
use native.Mathlib.Omega.{arith}
use Rattle.field.specs.Search.{least}
use Rattle.field.proofs.Search.{Least, least_is, least_most}
use Rattle.document.specs.Coset.{dimension}
use Rattle.document.specs.Generator.{generator, Codeword, encode_mask, message_of}
use Rattle.document.proofs.Theory.{Length}
use Rattle.document.proofs.Encoding.{encode_is_codeword, encode_lt, message_lt, codeword_is_encoding}

module _ {n : ℕ} (l : Length n) (reps : List ℕ) (test : ℕ → Bool) where
  abbrev k : ℕ
  k = dimension n reps

  abbrev m : ℕ
  m = n - k

  abbrev g : ℕ
  g = generator n reps

  abbrev passes : ℕ → Bool
  passes message = test (encode_mask m g message)

  abbrev found : ℕ
  found = least passes (2 ^ k)

  first : Least passes (2 ^ k) found
  first = least_is passes (2 ^ k)

  pub found_le : found ≤ 2 ^ k
  found_le = first.le

  pub found_some : found < 2 ^ k → Codeword n reps (encode_mask m g found) × (test (encode_mask m g found) ≡ true)
  found_some h = (record { small = encode_lt l reps found h; is = encode_is_codeword l reps found }, first.passes h)

  pub found_by : {a : ℕ} → Codeword n reps a → test a ≡ true → found < 2 ^ k
  found_by {a} x h =
      let back : encode_mask m g (message_of m a) ≡ a = codeword_is_encoding l reps a x.is in
      let small : message_of m a < 2 ^ k = message_lt l reps a x.small in
      let le : found ≤ message_of m a = least_most passes (2 ^ k) (message_of m a) (ap test back ∙ h) in
      omega arith

  pub found_is : ((a b : ℕ) → Codeword n reps a → Codeword n reps b → test a ≡ true → test b ≡ true → a ≡ b) → {a : ℕ} → Codeword n reps a
      → test a ≡ true → (found < 2 ^ k) × (encode_mask m g found ≡ a)
  found_is only {a} x h =
      let w = found_some (found_by x h) in
      (found_by x h, only (encode_mask m g found) a w.0 x w.1 h)

  pub found_none : (found ≡ 2 ^ k) ↔ ((a : ℕ) → Codeword n reps a → ¬ (test a ≡ true))
  found_none = (
    λ e a x h. absurd (omega (arith, found_by x h, e)),
    λ f. elim (dec_lt found (2 ^ k)) [
      | yes h ↦ (let w = found_some h in absurd (f (encode_mask m g found) w.0 w.1))
      | no h ↦ omega (arith, found_le)
    ],
  )
