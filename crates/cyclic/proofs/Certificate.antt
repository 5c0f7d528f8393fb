-- A certificate on masks, and the syndromes that it supplies.
--
--   RationalCertificate C       start b, step z, masks f and h, L terms: what acceptance says of them
--   point T j           α^(b + j z), where syndrome j is taken
--   alternant T         the fraction h / f at the points α^(i z); f_zero: its constant term
--   weight T i          α^(i b), that of a one in place i
--   syndromes T         both together: so distance, radius and decoding hold of T; quiet: they vanish on codewords
--   syndrome_is         syndrome j of a word e is a_j e(α^(b + j z))
use mathlib.Core.Path.{◌≡◌, sym, ap, ◌∙◌}
use mathlib.Core.Logic.{◌⊎◌, inl, inr}
use lib.Dec.{T as Holds}
use Prim.Native.Nat.{ℕ, zero, ◌+◌ as ◌+ℕ◌, ◌*◌ as ◌*ℕ◌, ◌/◌, ◌%◌, ◌^◌, ◌<◌}
use native.Mathlib.Nat.{mod-lt}
use native.Mathlib.Omega.{arith}
use Rattle.algebra.proofs.Ring.{Ring, ring, zero-mul, mul-zero}
use Rattle.algebra.proofs.Power.{pow, pow-add, pow_mul, pow_mod}
use Rattle.algebra.proofs.Sum.{sum_ext, sum_scale}
use Rattle.algebra.proofs.Value.{ev_sum}
use Rattle.algebra.proofs.Alternant.{Alternant}
use Rattle.algebra.proofs.Alternant as Alternant
use Rattle.field.proofs.Value.{coef, coef_0, coef_1, value}
use Rattle.cyclic.proofs.Monic.{monic_deg}
use Rattle.cyclic.proofs.Lift.{lift, lift_z, lift_monic, lift_value}
use Rattle.cyclic.proofs.MaskGcd.{NoCommon, lift_coprime}
use Rattle.cyclic.proofs.NumberGcd.{NoFactor}
use Rattle.cyclic.proofs.Period.{Denominator}
use Rattle.cyclic.proofs.Ratio.{digits, ratio_series, ratio_eq}
use Rattle.cyclic.proofs.CyclicCode.{Code, power_ne, Vanishes}
use Rattle.cyclic.proofs.Apart.{FactorsApart, apart_step}
use Rattle.cyclic.proofs.Errors.{Place, all, all_sum, place_eq}
use Rattle.cyclic.proofs.Syndromes.{Syndromes, weighted, syndrome}

-- rule 3 is `apart`
pub record RationalCertificate {A : Type 0} {R : Ring A} {n : ℕ} (C : Code R n) : Type 0 where
  pub b : ℕ
  pub z : ℕ
  pub f : ℕ
  pub h : ℕ
  pub L : ℕ
  pub u : ℕ
  pub v : ℕ
  pub z_coprime : NoFactor n z
  pub f_is : Denominator u f
  pub h_degree : h / 2 ^ v ≡ 1
  pub v_lt : v < u
  pub fh : NoCommon f h
  pub apart : FactorsApart C f
  pub terms : (j : ℕ) → j < L → (digits f h j ≡ 0) ⊎ Holds (C.D ((b +ℕ j *ℕ z) % n))

-- identities of any ring
module _ {A : Type 0} (R : Ring A) where
  open R use {mul as ◌*◌}

  infixl 70 ◌*◌
  term : (c x y a w : A) → w ≡ x * y → c * x * (a * y) ≡ a * (c * w)
  term c x y a w e = let s : c * x * (a * y) ≡ a * (c * (x * y)) = simp ring in s ∙ ap (λ t. a * (c * t)) (sym e)

module _ {A : Type 0} {R : Ring A} {n : ℕ} {C : Code R n} (T : RationalCertificate C) where
  open R use {mul as ◌*◌, 𝟘}

  infixl 70 ◌*◌
  open C use {K, α, order}
  open T use {b, z, f, h, L}

  abbrev pub point : ℕ → A
  point j = pow R α (b +ℕ j *ℕ z)

  pub f_zero : lift R f zero ≡ R.𝟙
  f_zero = lift_z R f ∙ ap (coef R) T.f_is.odd ∙ coef_1 R

  abbrev pub alternant : Alternant R (Place n)
  alternant = record {
    f = lift R f;
    h = lift R h;
    a = ratio_series R f h;
    X = λ i. pow R α (i.0 *ℕ z);
    u = T.u;
    v = T.v;
    f_deg = monic_deg R K (lift_monic R f T.f_is.degree);
    f_zero = f_zero;
    h_below = (lift_monic R h T.h_degree).below;
    v_lt = T.v_lt;
    fa = ratio_eq R f h T.f_is.odd;
    fh = lift_coprime R f h T.fh;
    X-ne = λ i. power_ne C (i.0 *ℕ z);
    apart = λ i j ne. apart_step C f z T.z_coprime T.apart i.0 j.0 i.1 j.1 (λ e. ne (place_eq n i j e));
  }

  abbrev pub weight : Place n → A
  weight i = pow R α (i.0 *ℕ b)

  exponent : (i j : ℕ) → pow R (point j) i ≡ pow R α (i *ℕ b) * pow R (pow R α (i *ℕ z)) j
  exponent i j =
      sym (pow_mul R α _ i) ∙ ap (pow R α) (arrange b j z) ∙ pow-add R α (i *ℕ b) (i *ℕ z *ℕ j)
      ∙ ap (λ x. pow R α (i *ℕ b) * x) (pow_mul R α (i *ℕ z) j)
    where
      arrange : (b j z : ℕ) → (b +ℕ j *ℕ z) *ℕ i ≡ i *ℕ b +ℕ i *ℕ z *ℕ j
      arrange b j z = omega arith

  by_value : (e j : ℕ) → e < 2 ^ n
      → Alternant.syndrome R alternant (weighted R weight e) (all n) j ≡ ratio_series R f h j * value R (point j) e
  unfolding Alternant.syndrome weighted
  by_value e j l =
      all_sum R n (λ i. lift R e i * pow R α (i *ℕ b) * (ratio_series R f h j * pow R (pow R α (i *ℕ z)) j))
      ∙ sum_ext R n _ _ (λ i l. term R (lift R e i) _ _ (ratio_series R f h j) (pow R (point j) i) (exponent i j))
      ∙ sum_scale R n (ratio_series R f h j) _
      ∙ ap (λ x. ratio_series R f h j * x) (sym (ev_sum R n (lift R e) (point j)) ∙ sym (lift_value R n e (point j) l))

  pub quiet : (c : ℕ) → c < 2 ^ n → Vanishes C c → (j : ℕ) → j < L
      → Alternant.syndrome R alternant (weighted R weight c) (all n) j ≡ 𝟘
  quiet c l w j g = by_value c j l ∙ go (T.terms j g)
    where
      go : (digits f h j ≡ 0) ⊎ Holds (C.D ((b +ℕ j *ℕ z) % n)) → ratio_series R f h j * value R (point j) c ≡ 𝟘
      go (inl e) = ap (λ x. coef R x * value R (point j) c) e ∙ rw coef_0 (zero-mul R _)
      go (inr t) =
          ap (λ x. ratio_series R f h j * x)
          (ap (λ x. value R x c) (pow_mod R α n order _) ∙ w _ (mod-lt _ order.pos) t)
          ∙ mul-zero R _

  abbrev pub syndromes : Syndromes C
  syndromes = record { alternant = alternant; Y = weight; Y-ne = λ i. power_ne C (i.0 *ℕ b); L = L; quiet = quiet }

  pub syndrome_is : (e j : ℕ) → e < 2 ^ n → syndrome syndromes e j ≡ ratio_series R f h j * value R (point j) e
  syndrome_is = by_value
