-- The codeword within t places of a received word: what decoding is to find, with no word of how.
--
--   Near C t r c       c is a codeword that differs from r in at most t places
--   near_add           a codeword may be added to both
--   near_unique        there is at most one, where t is the radius that some syndromes prove
use mathlib.Core.Path.{◌≡◌, subst}
use Prim.Native.Nat.{ℕ, ◌+◌, ◌^◌, ◌≤◌, ◌<◌}
use native.Mathlib.Decide.{ℕ_discrete}
use native.Mathlib.Omega.{arith}
use Rattle.algebra.proofs.Ring.{Ring}
use Rattle.field.specs.Mask.{◌⊕◌}
use Rattle.field.proofs.Xor.{⊕-norm, ⊕-lt}
use Rattle.cyclic.proofs.Places.{count, count_add}
use Rattle.cyclic.proofs.CyclicCode.{Code}
use Rattle.cyclic.proofs.Generator.{InCode, codeword_add}
use Rattle.cyclic.proofs.Radius.{distance_pos, twice_radius}
use Rattle.cyclic.proofs.Syndromes.{Syndromes, distance, radius, distance_bound}

module _ {A : Type 0} {R : Ring A} {n : ℕ} (C : Code R n) (t : ℕ) where
  pub record Near (r c : ℕ) : Type 0 where
    pub small : c < 2 ^ n
    pub word : InCode C c
    pub close : count n (r ⊕ c) ≤ t

  pub near_add : (r c d : ℕ) → d < 2 ^ n → InCode C d → Near r c → Near (r ⊕ d) (c ⊕ d)
  near_add r c d h w x =
      let sum : r ⊕ c ≡ r ⊕ d ⊕ (c ⊕ d) = simp ⊕-norm in
      record {
        small = ⊕-lt n c d x.small h;
        word = codeword_add C c d x.word w;
        close = subst (λ (e : ℕ). count n e ≤ t) sum x.close;
      }

module _ {A : Type 0} {R : Ring A} {n : ℕ} {C : Code R n} (S : Syndromes C) where
  -- two of them would differ in less places than the distance
  pub near_unique : (r c d : ℕ) → Near C (radius S) r c → Near C (radius S) r d → c ≡ d
  near_unique r c d x y =
      elim (ℕ_discrete c d) [
        | yes e ↦ e
        | no ne ↦
            (let sum : r ⊕ c ⊕ (r ⊕ d) ≡ c ⊕ d = simp ⊕-norm in
            let far : distance S ≤ count n (c ⊕ d) = distance_bound S c d x.small y.small x.word y.word ne in
            let most : count n (c ⊕ d) ≤ count n (r ⊕ c) + count n (r ⊕ d) =
            subst (λ (e : ℕ). count n e ≤ count n (r ⊕ c) + count n (r ⊕ d)) sum (count_add n (r ⊕ c) (r ⊕ d)) in
            let two : radius S + radius S < distance S =
            twice_radius (distance S) (distance_pos S.L S.alternant.u S.alternant.v) in
            absurd (omega (arith, x.close, y.close)))
      ]
