-- What rule 1 gives.
--
--   Ranged n c, ranged          what a certificate that keeps rule 1 satisfies, whatever the largest L; L-within: and its L
use mathlib.Core.Path.{◌≡◌, refl, sym, ap, ◌∙◌}
use mathlib.Core.Logic.{◌≢◌}
use mathlib.Core.Bool.{Bool, true, false, ◌&&◌, not}
use Prim.Native.Nat.{ℕ, ◌-◌, ◌%◌, ◌≤◌, ◌<◌}
use native.Mathlib.Nat.{div-one}
use lib.Dec.{eqb, leb, ltb}
use borrow.Author.Tests.{ltb-true, leb-true, eqb-true, eqb-false}
use Rattle.field.specs.Mask.{coefficient}
use Rattle.field.proofs.Search.{true_ne_false}
use Rattle.binary.specs.Factor.{coprime, degree}
use Rattle.document.specs.Sheet.{Certificate}
use Rattle.document.specs.Certificate.{steps, ratio, extent, rule1}

lowest : (f : ℕ) → coefficient 0 f ≡ f % 2
lowest f = ap (λ (x : ℕ). x % 2) (div-one f)

both : (a b : Bool) → a && b ≡ true → (a ≡ true) × (b ≡ true)
both true b e = (refl, e)
both false b e = absurd (true_ne_false e refl)

holds : (b : Bool) → not b ≡ false → b ≡ true
holds true e = refl
holds false e = absurd (true_ne_false refl e)

fails : (b : Bool) → not b ≡ true → b ≡ false
fails true e = absurd (true_ne_false e refl)
fails false e = refl

pub record Ranged (n : ℕ) (c : Certificate) : Type 0 where
  pub b : c.b < n
  pub z_low : 1 ≤ c.z
  pub z_high : c.z ≤ n - 1
  pub z_coprime : coprime c.z n ≡ true
  pub u_low : 1 ≤ degree c.f
  pub u_high : degree c.f ≤ 8
  pub f_odd : c.f % 2 ≡ 1
  pub h : c.h ≢ 0
  pub v : degree c.h < degree c.f
  pub zero : c.zero_field ≡ 0

pub ranged : (most n : ℕ) (c : Certificate) → not (rule1 most n c) ≡ false → Ranged n c
unfolding rule1 steps ratio extent
ranged most n c e =
    let p = both (steps n c && ratio c) (extent most c) (holds (rule1 most n c) e) in
    let q = both (steps n c) (ratio c) p.0 in
    let s₃ = both (ltb c.b n && leb 1 c.z && leb c.z (n - 1)) (coprime c.z n) q.0 in
    let s₂ = both (ltb c.b n && leb 1 c.z) (leb c.z (n - 1)) s₃.0 in
    let s₁ = both (ltb c.b n) (leb 1 c.z) s₂.0 in
    let r₄ = both _ (ltb (degree c.h) (degree c.f)) q.1 in
    let r₃ = both _ (not (eqb c.h 0)) r₄.0 in
    let r₂ = both (leb 1 (degree c.f) && leb (degree c.f) 8) (eqb (coefficient 0 c.f) 1) r₃.0 in
    let r₁ = both (leb 1 (degree c.f)) (leb (degree c.f) 8) r₂.0 in
    let t₂ = both (leb 1 c.L && leb c.L most) (eqb c.zero_field 0) p.1 in
    record {
      b = ltb-true c.b n s₁.0;
      z_low = leb-true 1 c.z s₁.1;
      z_high = leb-true c.z (n - 1) s₂.1;
      z_coprime = s₃.1;
      u_low = leb-true 1 (degree c.f) r₁.0;
      u_high = leb-true (degree c.f) 8 r₁.1;
      f_odd = sym (lowest c.f) ∙ eqb-true (coefficient 0 c.f) 1 r₂.1;
      h = eqb-false c.h 0 (fails (eqb c.h 0) r₃.1);
      v = ltb-true (degree c.h) (degree c.f) r₄.1;
      zero = eqb-true c.zero_field 0 t₂.1;
    }

pub L-within : (most n : ℕ) (c : Certificate) → not (rule1 most n c) ≡ false → c.L ≤ most
unfolding rule1 extent
L-within most n c e =
    let p = both (steps n c && ratio c) (extent most c) (holds (rule1 most n c) e) in
    let t₂ = both (leb 1 c.L && leb c.L most) (eqb c.zero_field 0) p.1 in
    let t₁ = both (leb 1 c.L) (leb c.L most) t₂.0 in
    leb-true c.L most t₁.1
