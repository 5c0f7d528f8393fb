-- The walk over a certificate's terms that writes the syndromes.
--
--   Writing, writing_start, writing_more, writing_end      the first j syndromes are written
use mathlib.Core.Path.{◌≡◌, refl, sym, ap, ap₂, ◌∙◌}
use mathlib.Core.List.{List}
use Prim.Native.Nat.{ℕ, ◌+◌, ◌*◌, ◌%◌, ◌≤◌, ◌<◌}
use native.Mathlib.Decide.{ℕ_discrete}
use native.Mathlib.Omega.{arith}
use lib.ListN.{length, get_or, set}
use lib.Seq.{get_or-set_same, get_or-set_other}
use Rattle.binary.specs.Factor.{terms}
use Rattle.sheet.specs.declared.types.Certificate.{Certificate as CodeCertificate}
use Rattle.sheet.specs.Stage.{certificate_as}
use Rattle.certificate.specs.Rules.{Walkable}
use Rattle.certificate.proofs.Terms.{At, term}
use Rattle.syndrome.specs.Series.{SyndromesOf}

pub record Writing (n : ℕ) (c : CodeCertificate) (j : ℕ) (val out out' : List ℕ) : Type 0 where
  pub done : (i : ℕ) → i < j → get_or out' i 0 ≡ get_or (terms c.f c.h c.terms) i 0 * get_or val ((c.b + i * c.z) % n) 0
  pub rest : (i : ℕ) → j ≤ i → get_or out' i 0 ≡ get_or out i 0

pub writing_start : {n : ℕ} {c : CodeCertificate} {val out : List ℕ} → Writing n c 0 val out out
writing_start = record { done = λ i h. absurd (omega arith); rest = λ i h. refl }

module _ {n j num at : ℕ} {c : CodeCertificate} {val : List ℕ} (w : Walkable n c val) (a : At n c j num at) where
  pub writing_more : {out out' : List ℕ} (x : ℕ) → j < c.terms → j < length out' → x ≡ (num % 2) * get_or val at 0
      → Writing n c j val out out' → Writing n c (j + 1) val out (set out' j x)
  writing_more {out} {out'} x h l e t = record {
    done = λ i b. elim (ℕ_discrete i j) [
      | yes q ↦ ap (λ (k : ℕ). get_or (set out' j x) k 0) q ∙ get_or-set_same out' j x 0 l ∙ e
          ∙ ap₂ (λ (y k : ℕ). (y % 2) * get_or val k 0) a.num_is a.at_is
          ∙ ap (λ (d : ℕ). d * get_or val ((c.b + j * c.z) % n) 0) (sym (term w j h))
          ∙ ap (λ (k : ℕ). get_or (terms c.f c.h c.terms) k 0 * get_or val ((c.b + k * c.z) % n) 0) (sym q)
      | no q ↦ get_or-set_other out' j i x 0 q ∙ t.done i (omega arith)
    ];
    rest = λ i b. get_or-set_other out' j i x 0 (λ q. omega arith) ∙ t.rest i (omega arith);
  }

pub writing_end : {n j : ℕ} {c : CodeCertificate} {val out out' : List ℕ} → c.terms ≤ j → j ≤ c.terms → Writing n c j val out out'
    → SyndromesOf n (certificate_as c) val out out'
writing_end h l t = record { at = λ i b. t.done i (omega arith); rest = λ i b. t.rest i (omega arith) }
