-- The walk over a certificate's terms: rule 4 by the register of h/f.
--
--   register_set, register_clear      one step of the register
--   At n c j num at                   register and place after j terms: at_start, at_more, num_lt, f_fits, at_lt
--   Going, going_start, going_more, going_wrong, going_end      the walk
use mathlib.Core.Path.{◌≡◌, refl, sym, ap, ap₂, ◌∙◌, subst}
use mathlib.Core.Logic.{◌≢◌}
use mathlib.Core.Bool.{Bool, true, false, not, ◌||◌}
use mathlib.Core.List.{List}
use Prim.Native.Nat.{ℕ, suc, ◌+◌, ◌*◌, ◌/◌, ◌%◌, ◌^◌, ◌≤◌, ◌<◌}
use native.Mathlib.Nat.{mod-lt, mod-eq_of_lt, mod-add-mod, zero-mul, one-mul, add-zero, add_assoc, suc-mul}
use native.Mathlib.Decide.{ℕ_discrete}
use native.Mathlib.Numerals.{add-one}
use native.Mathlib.Omega.{arith}
use lib.Bits.{bit_xor}
use lib.Dec.{eqb}
use lib.ListN.{get_or}
use lib.Pow.{pow_mono}
use borrow.Author.Tests.{eq-eqb, ne_eqb}
use Rattle.field.specs.Mask.{◌⊕◌}
use Rattle.field.proofs.Search.{every_of}
use Rattle.field.proofs.Xor.{⊕-zero-r}
use Rattle.binary.specs.Factor.{degree, terms}
use Rattle.binary.proofs.Coprime.{every_not}
use Rattle.binary.proofs.Series.{register, register_z, register_s, register_lt, terms_at}
use Rattle.sheet.specs.declared.types.Certificate.{Certificate as CodeCertificate}
use Rattle.document.specs.Coset.{in_set}
use Rattle.document.specs.Certificate.{rule4}
use Rattle.field.specs.Search.{bit}
use Rattle.sheet.specs.Stage.{Marks, certificate_as}
use Rattle.certificate.specs.Rules.{Walkable, Ruled}

pub register_set : (f x : ℕ) → x % 2 ≡ 1 → bit_xor x f / 2 ≡ (x ⊕ (x % 2) * f) / 2
unfolding ◌⊕◌
register_set f x o = ap (λ (y : ℕ). bit_xor x y / 2) (sym (ap (λ (d : ℕ). d * f) o ∙ one-mul f))

pub register_clear : (f x : ℕ) → x % 2 ≢ 1 → x / 2 ≡ (x ⊕ (x % 2) * f) / 2
register_clear f x n =
    let z : x % 2 ≡ 0 = omega arith in
    sym (ap (λ (y : ℕ). y / 2) (ap (λ (d : ℕ). x ⊕ d * f) z ∙ ap (λ (y : ℕ). x ⊕ y) (zero-mul f) ∙ ⊕-zero-r x))

-- the register and the place after j terms
pub record At (n : ℕ) (c : CodeCertificate) (j num at : ℕ) : Type 0 where
  pub num_is : num ≡ register c.f c.h j
  pub at_is : at ≡ (c.b + j * c.z) % n

-- the places of the terms before j hold a mark where the term is 1
pub record Going (n : ℕ) (c : CodeCertificate) (z : List ℕ) (j num at : ℕ) : Type 0 where
  pub now : At n c j num at
  pub kept : (k : ℕ) → k < j → register c.f c.h k % 2 ≤ get_or z ((c.b + k * c.z) % n) 0

module _ {n : ℕ} {c : CodeCertificate} {z : List ℕ} (w : Walkable n c z) where
  pub at_start : {num at : ℕ} → num ≡ c.h → at ≡ c.b → At n c 0 num at
  at_start p q = record {
    num_is = p ∙ sym (register_z c.f c.h);
    at_is = q ∙ sym (ap (λ (x : ℕ). (c.b + x) % n) (zero-mul c.z) ∙ ap (λ (x : ℕ). x % n) (add-zero c.b) ∙ mod-eq_of_lt w.start);
  }

  pub going_start : {num at : ℕ} → num ≡ c.h → at ≡ c.b → Going n c z 0 num at
  going_start p q = record { now = at_start p q; kept = λ k h. absurd (omega arith) }

  pub f_fits : c.f < 512
  f_fits =
      let m : 2 ^ suc (degree c.f) ≤ 2 ^ 9 = pow_mono {j = 9} (omega (arith, w.small)) in omega (arith, w.f_lt)

  module _ {j num at : ℕ} (g : At n c j num at) where
    pub num_lt : num < 256
    num_lt =
        let l : register c.f c.h j < 2 ^ degree c.f = register_lt c.f c.h (degree c.f) j w.f_lt w.h_lt in
        let m : 2 ^ degree c.f ≤ 2 ^ 8 = pow_mono w.small in
        omega (arith, g.num_is)

    pub at_lt : at < n
    at_lt = subst (λ (x : ℕ). x < n) (sym g.at_is) (mod-lt (c.b + j * c.z) (omega (arith, w.start)))

    pub at_more : {num' at' : ℕ} → num' ≡ (num ⊕ (num % 2) * c.f) / 2 → at' ≡ (at + c.z) % n → At n c (j + 1) num' at'
    at_more {num'} {at'} p q = record {
      num_is = p ∙ ap (λ (x : ℕ). (x ⊕ (x % 2) * c.f) / 2) g.num_is ∙ sym (register_s c.f c.h j)
          ∙ ap (register c.f c.h) (sym (add-one j));
      at_is = q ∙ ap (λ (x : ℕ). (x + c.z) % n) g.at_is ∙ mod-add-mod (c.b + j * c.z) n c.z
          ∙ ap (λ (x : ℕ). x % n) (add_assoc c.b (j * c.z) c.z ∙ ap (λ (x : ℕ). c.b + x) (sym (suc-mul j c.z)) ∙ ap (λ (k : ℕ). c.b + k * c.z) (sym (add-one j)));
    }

  pub going_more : {j num at num' at' : ℕ} → Going n c z j num at → num % 2 ≤ get_or z at 0 → num' ≡ (num ⊕ (num % 2) * c.f) / 2
      → at' ≡ (at + c.z) % n → Going n c z (j + 1) num' at'
  going_more {j} {num} {at} g t p q = record {
    now = at_more g.now p q;
    kept = λ k h. elim (ℕ_discrete k j) [
      | yes e ↦ subst (λ (i : ℕ). register c.f c.h i % 2 ≤ get_or z ((c.b + i * c.z) % n) 0) (sym e)
          (here g.now.num_is g.now.at_is t)
      | no e ↦ g.kept k (omega arith)
    ];
  }
    where
      here : num ≡ register c.f c.h j → at ≡ (c.b + j * c.z) % n → num % 2 ≤ get_or z at 0
          → register c.f c.h j % 2 ≤ get_or z ((c.b + j * c.z) % n) 0
      here a b t =
          subst (λ (x : ℕ). x % 2 ≤ get_or z ((c.b + j * c.z) % n) 0) a (subst (λ (y : ℕ). num % 2 ≤ get_or z y 0) b t)

  pub term : (j : ℕ) → j < c.terms → get_or (terms c.f c.h c.terms) j 0 ≡ register c.f c.h j % 2
  term j h = terms_at c.f c.h w.odd c.terms j h

  abbrev test : List ℕ → ℕ → Bool
  test reps j = eqb (get_or (terms c.f c.h c.terms) j 0) 0 || in_set n reps ((c.b + j * c.z) % n)

  place_lt : (j : ℕ) → (c.b + j * c.z) % n < n
  place_lt j = mod-lt (c.b + j * c.z) (omega (arith, w.start))

  bit_true : (b : Bool) → 1 ≤ bit b → b ≡ true
  bit_true true h = refl
  bit_true false h = absurd (omega arith)

  bit_false : (b : Bool) → bit b ≡ 0 → b ≡ false
  bit_false true h = absurd (omega arith)
  bit_false false h = refl

  or_right : (a b : Bool) → b ≡ true → a || b ≡ true
  or_right true b e = refl
  or_right false b e = e

  pub going_end : {j num at : ℕ} → Going n c z j num at → c.terms ≤ j → Ruled n (certificate_as c) z false
  unfolding rule4
  going_end {j} g l = record { is = λ reps m. sym (ap not (every_of (test reps) c.terms (λ k h. holds reps m k h (ℕ_discrete (register c.f c.h k % 2) 0)))) }
    where
      holds : (reps : List ℕ) → Marks n reps z → (k : ℕ) → k < c.terms → Dec (register c.f c.h k % 2 ≡ 0) → test reps k ≡ true
      holds reps m k h (yes e) =
          ap (λ b. b || in_set n reps ((c.b + k * c.z) % n)) (eq-eqb (get_or (terms c.f c.h c.terms) k 0) 0 (term k h ∙ e))
      holds reps m k h (no e) =
          let d : register c.f c.h k % 2 ≤ get_or z ((c.b + k * c.z) % n) 0 = g.kept k (omega arith) in
          let q : get_or z ((c.b + k * c.z) % n) 0 ≡ bit (in_set n reps ((c.b + k * c.z) % n)) = m.at ((c.b + k * c.z) % n) (place_lt k) in
          or_right (eqb (get_or (terms c.f c.h c.terms) k 0) 0) (in_set n reps ((c.b + k * c.z) % n))
          (bit_true (in_set n reps ((c.b + k * c.z) % n)) (omega arith))

  pub going_wrong : {j num at : ℕ} → Going n c z j num at → j < c.terms → get_or z at 0 < num % 2 → Ruled n (certificate_as c) z true
  unfolding rule4
  going_wrong {j} {num} {at} g l h = record { is = λ reps m. sym (ap not (every_not (test reps) c.terms j l (no_mark reps m))) }
    where
      no_mark : (reps : List ℕ) → Marks n reps z → test reps j ≡ false
      no_mark reps m =
          let a : get_or (terms c.f c.h c.terms) j 0 ≡ num % 2 = term j l ∙ ap (λ (x : ℕ). x % 2) (sym g.now.num_is) in
          let q : get_or z at 0 ≡ bit (in_set n reps at) = m.at at (at_lt g.now) in
          let b : bit (in_set n reps at) ≡ 0 = omega arith in
          ap₂ ◌||◌ (ne_eqb (get_or (terms c.f c.h c.terms) j 0) 0 (λ e. omega arith))
          (ap (in_set n reps) (sym g.now.at_is) ∙ bit_false (in_set n reps at) b)
