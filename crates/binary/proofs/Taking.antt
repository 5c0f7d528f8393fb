-- Bits into a register, the highest first: it holds the remainder of x^m times the bits taken so far.
--
--   remainder_none, remainder_more      the remainder of 0, and of twice a remainder and a mask
--   raised_more      one bit more, times x^m
--   taken_start, taken_more, taken_end      before the first bit, after each, and after the last
use mathlib.Core.Path.{◌≡◌, sym, ap, ◌∙◌, subst}
use mathlib.Core.List.{List}
use Prim.Native.Nat.{ℕ, ◌+◌, ◌-◌, ◌*◌, ◌/◌, ◌^◌, ◌≤◌, ◌<◌}
use native.Mathlib.Nat.{mul_assoc, mul_comm, zero-mul, div-eq_of_lt}
use native.Mathlib.Decide.{ℕ_discrete}
use native.Mathlib.Omega.{arith}
use lib.ListN.{length}
use Rattle.field.specs.Mask.{◌⊕◌, coefficient, remainder}
use Rattle.field.proofs.Xor.{digit_lt}
use Rattle.field.proofs.Remainder.{remainder_lt, remainder_add, remainder_zero, remainder_small, remainder_dbl, xtime}
use Rattle.cyclic.proofs.Division.{divide}
use Rattle.binary.specs.Packed.{packed, places_in, TopHolds, BitTaken, Taken}
use Rattle.binary.proofs.Feeding.{bits_more, sum_low, raised_sum, no_degree}

module _ (m g : ℕ) (top : g / 2 ^ m ≡ 1) where
  pub remainder_none : remainder m g 0 ≡ 0
  remainder_none = elim (ℕ_discrete m 0) [
    | yes z ↦ no_degree m g top 0 z
    | no z ↦ remainder_zero m g (omega arith) top
  ]

  pub remainder_more : (a b : ℕ) → remainder m g (remainder m g a * 2 ⊕ b) ≡ remainder m g (a * 2 ⊕ b)
  remainder_more a b = elim (ℕ_discrete m 0) [
    | yes z ↦ no_degree m g top (remainder m g a * 2 ⊕ b) z ∙ sym (no_degree m g top (a * 2 ⊕ b) z)
    | no z ↦ go (omega arith)
  ]
    where
      go : 1 ≤ m → remainder m g (remainder m g a * 2 ⊕ b) ≡ remainder m g (a * 2 ⊕ b)
      go pos =
          remainder_add m g pos top (remainder m g a * 2) b
          ∙ ap (λ (x : ℕ). x ⊕ remainder m g b)
          (remainder_dbl m g pos top (remainder m g a)
          ∙ ap (xtime m g) (remainder_small m g pos top (remainder m g a) (remainder_lt m g pos top a))
          ∙ sym (remainder_dbl m g pos top a))
          ∙ sym (remainder_add m g pos top (a * 2) b)

pub taken_start : {a k : ℕ} {f r : List ℕ} → a < 2 ^ k → packed r ≡ 0 → length r ≡ length f → Taken a k f r
taken_start {a} {k} {f} {r} h e l = record {
  holds = λ {m} {g} d. record {
    room = subst (λ (x : ℕ). m ≤ 64 * x) (sym l) d.held.room;
    small = (divide m g d.top (a / 2 ^ k * 2 ^ m)).small;
    is = e ∙ sym (ap (λ (x : ℕ). x * 2 ^ (places_in r - m))
        (ap (remainder m g) (ap (λ (x : ℕ). x * 2 ^ m) (div-eq_of_lt h) ∙ zero-mul (2 ^ m)) ∙ remainder_none m g d.top) ∙ zero-mul (2 ^ (places_in r - m)));
  };
}

pub raised_more : (a b m : ℕ) → b < 2 → a * 2 ^ m * 2 ⊕ b * 2 ^ m ≡ (a * 2 + b) * 2 ^ m
raised_more a b m h =
    ap (λ (x : ℕ). x ⊕ b * 2 ^ m) (mul_assoc a (2 ^ m) 2 ∙ ap (λ (x : ℕ). a * x) (mul_comm (2 ^ m) 2) ∙ sym (mul_assoc a 2 (2 ^ m)))
    ∙ sym (raised_sum (a * 2) b m) ∙ ap (λ (x : ℕ). x * 2 ^ m) (sym (sum_low a b h))

pub taken_more : {a i bit : ℕ} {f r r' : List ℕ} → 0 < i → bit ≡ coefficient (i - 1) a → Taken a i f r → BitTaken bit f r r'
    → Taken a (i - 1) f r'
taken_more {a} {i} {bit} {f} {r} {r'} h e t s =
    let two : bit < 2 = subst (λ (x : ℕ). x < 2) (sym e) (digit_lt (a / 2 ^ (i - 1))) in
    record {
      holds = λ {m} {g} d. subst (λ (x : ℕ). TopHolds m x r')
          (remainder_more m g d.top (a / 2 ^ i * 2 ^ m) (bit * 2 ^ m)
          ∙ ap (remainder m g) (raised_more (a / 2 ^ i) bit m two
          ∙ ap (λ (x : ℕ). x * 2 ^ m) (ap (λ (x : ℕ). a / 2 ^ i * 2 + x) e ∙ bits_more a i h)))
          (s.holds d (t.holds d));
    }

pub taken_end : {a i : ℕ} {f r : List ℕ} → i ≡ 0 → Taken a i f r → Taken a 0 f r
taken_end {a} {i} {f} {r} e t = subst (λ (k : ℕ). Taken a k f r) e t
