-- Products of masks in their lowest places only.
--
--   clmul_low        the lowest places of a product need those of a factor only
--   clmul_on         a product with one factor more
use mathlib.Core.Path.{◌≡◌, sym, ap, ◌∙◌}
use Prim.Native.Nat.{ℕ, ◌*◌, ◌/◌, ◌%◌, ◌^◌}
use native.Mathlib.Nat.{mul-mod_left}
use Rattle.field.specs.Mask.{◌⊕◌, clmul}
use Rattle.field.proofs.Xor.{⊕-zero-l}
use Rattle.field.proofs.MaskProduct.{clmul_add_r, clmul_assoc, clmul_pow}
use Rattle.binary.proofs.Feeding.{low_sum, split_mask}

clmul_high : (f y w : ℕ) → clmul f (y * 2 ^ w) ≡ clmul f y * 2 ^ w
clmul_high f y w = ap (clmul f) (sym (clmul_pow y w)) ∙ sym (clmul_assoc f y (2 ^ w)) ∙ clmul_pow (clmul f y) w

pub clmul_low : (f x w : ℕ) → clmul f (x % 2 ^ w) % 2 ^ w ≡ clmul f x % 2 ^ w
clmul_low f x w =
    sym
    (ap (λ (y : ℕ). clmul f y % 2 ^ w) (split_mask x w)
    ∙ ap (λ (y : ℕ). y % 2 ^ w) (clmul_add_r f (x / 2 ^ w * 2 ^ w) (x % 2 ^ w) ∙ ap (λ (y : ℕ). y ⊕ clmul f (x % 2 ^ w)) (clmul_high f (x / 2 ^ w) w))
    ∙ low_sum w (clmul f (x / 2 ^ w) * 2 ^ w) (clmul f (x % 2 ^ w))
    ∙ ap (λ (y : ℕ). y ⊕ (clmul f (x % 2 ^ w) % 2 ^ w)) (mul-mod_left (clmul f (x / 2 ^ w)) (2 ^ w))
    ∙ ⊕-zero-l (clmul f (x % 2 ^ w) % 2 ^ w))

pub clmul_on : (f g x w : ℕ) {y z : ℕ} → y ≡ clmul g x % 2 ^ w → z ≡ clmul f y % 2 ^ w → z ≡ clmul (clmul f g) x % 2 ^ w
clmul_on f g x w e q =
    q ∙ ap (λ (y : ℕ). clmul f y % 2 ^ w) e ∙ clmul_low f (clmul g x) w ∙ ap (λ (y : ℕ). y % 2 ^ w) (sym (clmul_assoc f g x))
