-- Terms read one by one.
--
--   exponent_at, step_at, term_at, low_at, high_at      a number of a term, in the list of these
--   lanes_long, terms_long        as many as are listed
--   listed_cut        the listed terms cut off
use mathlib.Core.Path.{◌≡◌, sym, ap, ap₂, ◌∙◌, subst}
use mathlib.Core.Bool.{◌&&◌}
use mathlib.Core.List.{List}
use Prim.Native.Nat.{ℕ, ◌+◌, ◌-◌, ◌*◌, ◌^◌, ◌≤◌, ◌<◌}
use native.Mathlib.Omega.{arith}
use lib.Dec.{eqb}
use lib.ListN.{length, get_or, take, length-map, get_or-map}
use lib.Seq.{get_or-take, length-take-le}
use Rattle.std.specs.Prelude.{map}
use Rattle.field.specs.Mask.{◌⊕◌}
use Rattle.field.specs.Field.{ω, field_power}
use Rattle.locator.specs.declared.terms.Term.{Term}
use Rattle.locator.specs.declared.terms.Lanes.{Lanes}
use Rattle.locator.specs.Terms.{exponents_of, steps_of, low_of, high_of, lanes, vanishes, Logged, Laned, TermsListed}
use Rattle.locator.proofs.TermSums.{sum_ext}

pub exponent_at : (terms : List Term) (m : ℕ) → (get_or terms m (record { exponent = 0; step = 0 })).exponent ≡ get_or (exponents_of terms) m 0
exponent_at terms m = sym (get_or-map (λ (t : Term). t.exponent) terms m (record { exponent = 0; step = 0 }))

pub step_at : (terms : List Term) (m : ℕ) → (get_or terms m (record { exponent = 0; step = 0 })).step ≡ get_or (steps_of terms) m 0
step_at terms m = sym (get_or-map (λ (t : Term). t.step) terms m (record { exponent = 0; step = 0 }))

pub term_at : (s : ℕ) (terms : List Term) (m i : ℕ) → let t : Term = get_or terms m (record { exponent = 0; step = 0 }) in
    field_power s ω (t.exponent + i * t.step) ≡ field_power s ω (get_or (exponents_of terms) m 0 + i * get_or (steps_of terms) m 0)
term_at s terms m i = ap₂ (λ (x y : ℕ). field_power s ω (x + i * y)) (exponent_at terms m) (step_at terms m)

pub low_at : (words : List Lanes) (m : ℕ) → (get_or words m (record { low = 0; high = 0 })).low ≡ get_or (low_of words) m 0
low_at words m = sym (get_or-map (λ (w : Lanes). w.low) words m (record { low = 0; high = 0 }))

pub high_at : (words : List Lanes) (m : ℕ) → (get_or words m (record { low = 0; high = 0 })).high ≡ get_or (high_of words) m 0
high_at words m = sym (get_or-map (λ (w : Lanes). w.high) words m (record { low = 0; high = 0 }))

pub lanes_long : (words : List Lanes) {c : ℕ} → Laned c (low_of words) (high_of words) → c ≤ length words
lanes_long words l = omega (arith, l.lo_long, length-map words (λ (w : Lanes). w.low))

pub terms_long : (terms : List Term) {s c : ℕ} → Logged s c (exponents_of terms) (steps_of terms) → c ≤ length terms
terms_long terms l = omega (arith, l.lg_long, length-map terms (λ (t : Term). t.exponent))

-- ---- the listed terms cut off
cut_at : {A : Type 0} (f : A → ℕ) (l : List A) (d : A) {c m : ℕ} → m < c → get_or (map f (take c l)) m (f d) ≡ get_or (map f l) m (f d)
cut_at f l d {c} {m} b = get_or-map f (take c l) m d ∙ ap f (get_or-take c l m d b) ∙ sym (get_or-map f l m d)

cut_long : {A : Type 0} (f : A → ℕ) (l : List A) {c : ℕ} → c ≤ length l → length (map f (take c l)) ≡ c
cut_long f l {c} h = length-map (take c l) f ∙ length-take-le c l h

module _ {c : ℕ} (terms : List Term) (words : List Lanes) (ht : c ≤ length terms) (hw : c ≤ length words) where
  lg_at : (m : ℕ) → m < c → get_or (exponents_of (take c terms)) m 0 ≡ get_or (exponents_of terms) m 0
  lg_at m h = cut_at (λ (t : Term). t.exponent) terms (record { exponent = 0; step = 0 }) h

  st_at : (m : ℕ) → m < c → get_or (steps_of (take c terms)) m 0 ≡ get_or (steps_of terms) m 0
  st_at m h = cut_at (λ (t : Term). t.step) terms (record { exponent = 0; step = 0 }) h

  lo_at : (m : ℕ) → m < c → get_or (low_of (take c words)) m 0 ≡ get_or (low_of words) m 0
  lo_at m h = cut_at (λ (w : Lanes). w.low) words (record { low = 0; high = 0 }) h

  hi_at : (m : ℕ) → m < c → get_or (high_of (take c words)) m 0 ≡ get_or (high_of words) m 0
  hi_at m h = cut_at (λ (w : Lanes). w.high) words (record { low = 0; high = 0 }) h

  same : (s first i : ℕ) → vanishes s first c (exponents_of (take c terms)) (steps_of (take c terms)) (low_of (take c words)) (high_of (take c words)) i ≡ vanishes s first c (exponents_of terms) (steps_of terms) (low_of words) (high_of words) i
  unfolding vanishes
  same s first i =
      ap₂ (λ (x y : ℕ). eqb x 0 && eqb (first ⊕ y) 0)
      (sum_ext s (exponents_of (take c terms)) (steps_of (take c terms)) (exponents_of terms) (steps_of terms) (λ m. get_or (high_of (take c words)) m 0) (λ m. get_or (high_of words) m 0) i c lg_at st_at hi_at)
      (sum_ext s (exponents_of (take c terms)) (steps_of (take c terms)) (exponents_of terms) (steps_of terms) (λ m. get_or (low_of (take c words)) m 0) (λ m. get_or (low_of words) m 0) i c lg_at st_at lo_at)

  cut_off : {s back f u : ℕ} {lam : List ℕ} → TermsListed s back f u lam (exponents_of terms) (steps_of terms) (low_of words) (high_of words) c → TermsListed s back f u lam (exponents_of (take c terms)) (steps_of (take c terms)) (low_of (take c words)) (high_of (take c words)) (length (take c terms))
  cut_off {s} {back} {f} {u} {lam} v = subst (TermsListed s back f u lam (exponents_of (take c terms)) (steps_of (take c terms)) (low_of (take c words)) (high_of (take c words))) (sym (length-take-le c terms ht)) cut
    where
      cut : TermsListed s back f u lam (exponents_of (take c terms)) (steps_of (take c terms)) (low_of (take c words)) (high_of (take c words)) c
      cut = record {
        listed = record {
          lg_long = omega (arith, cut_long (λ (t : Term). t.exponent) terms ht);
          st_long = omega (arith, cut_long (λ (t : Term). t.step) terms ht);
          logs = λ m h. subst (λ (x : ℕ). x < 2 ^ s - 1) (sym (lg_at m h)) (v.listed.logs m h);
          steps = λ m h. subst (λ (x : ℕ). x < 2 ^ s - 1) (sym (st_at m h)) (v.listed.steps m h);
        };
        laned = record {
          lo_long = omega (arith, cut_long (λ (w : Lanes). w.low) words hw);
          hi_long = omega (arith, cut_long (λ (w : Lanes). w.high) words hw);
          lo_le = λ m h. subst (λ (x : ℕ). x ≤ lanes 15) (sym (lo_at m h)) (v.laned.lo_le m h);
          hi_le = λ m h. subst (λ (x : ℕ). x ≤ lanes 15) (sym (hi_at m h)) (v.laned.hi_le m h);
        };
        ones = record {
          lo_one = λ e m h. lo_at m h ∙ v.ones.lo_one e m h;
          hi_one = λ e m h. hi_at m h ∙ v.ones.hi_one e m h;
        };
        means = λ d i.
            let w = v.means d i in
            (λ e. w.0 (sym (same s (get_or lam 0 0) i) ∙ e), λ e. same s (get_or lam 0 0) i ∙ w.1 e);
      }

pub listed_cut : {s back f u c : ℕ} {lam : List ℕ} (terms : List Term) (words : List Lanes)
    → TermsListed s back f u lam (exponents_of terms) (steps_of terms) (low_of words) (high_of words) c
    → TermsListed s back f u lam (exponents_of (take c terms)) (steps_of (take c terms)) (low_of (take c words)) (high_of (take c words)) (length (take c terms))
listed_cut terms words v = cut_off terms words (terms_long terms v.listed) (lanes_long words v.laned) v
