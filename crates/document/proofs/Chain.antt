-- The chain of conditions, one certificate more at a time.
--
--   first_true, first_false      the first of the conditions holds, or does not
--   Quiet, first_quiet, quiet_append, first_keep      the first of two lists of conditions
--   row_suc      a list for each number below i, and for one number more
--   each, flat, flat_all, flat_suc, four_quiet, flat_stop      the conditions of the certificates in turn, by their indices
use mathlib.Core.Path.{◌≡◌, refl, sym, ap, ◌∙◌}
use mathlib.Core.Bool.{Bool, true, false}
use mathlib.Core.List.{List, [], ◌∷◌, ◌++◌, map, flat_map, append_assoc, append-nil}
use Prim.Native.Nat.{ℕ, zero, suc, ◌+◌}
use native.Mathlib.Omega.{arith}
use lib.ListN.{length, get_or}
use Rattle.field.specs.Search.{up_to}
use Rattle.field.proofs.Search.{up_to_suc}
use Rattle.document.specs.Answer.{Conditions, first_of}
use Rattle.document.specs.Sheet.{Stated, certificate_at}
use Rattle.document.specs.Judge.{certificate_conditions}
use Rattle.document.proofs.Sane.{passed}
use Rattle.document.proofs.Stated.{by_index}

-- ---- conditions
pub data Quiet : Conditions → Type 0 where
  silent : Quiet []
  passing : {c : ℕ × Bool} {l : Conditions} → c.1 ≡ false → Quiet l → Quiet (c ∷ l)

pub first_true : (c : ℕ × Bool) (l : Conditions) → c.1 ≡ true → first_of (c ∷ l) ≡ c.0
unfolding first_of
first_true c l e = rw (first_of, e)

pub first_false : (c : ℕ × Bool) (l : Conditions) → c.1 ≡ false → first_of (c ∷ l) ≡ first_of l
unfolding first_of
first_false c l e = rw (first_of, e)

pub first_quiet : {a : Conditions} (b : Conditions) → Quiet a → first_of (a ++ b) ≡ first_of b
first_quiet b silent = refl
first_quiet b (passing {c = c} {l = l} e q) = first_false c (l ++ b) e ∙ first_quiet b q

pub quiet_append : {a b : Conditions} → Quiet a → Quiet b → Quiet (a ++ b)
quiet_append silent r = r
quiet_append (passing e q) r = passing e (quiet_append q r)

pub first_keep : (a b : Conditions) (r : ℕ) → first_of a ≡ suc r → first_of (a ++ b) ≡ suc r
unfolding first_of
first_keep [] b r e = absurd (omega arith)
first_keep (c ∷ a) b r e = go c.1 refl (first_keep a b r)
  where
    go : (x : Bool) → c.1 ≡ x → (first_of a ≡ suc r → first_of (a ++ b) ≡ suc r) → first_of (c ∷ (a ++ b)) ≡ suc r
    go true q ih = first_true c (a ++ b) q ∙ sym (first_true c a q) ∙ e
    go false q ih = first_false c (a ++ b) q ∙ ih (sym (first_false c a q) ∙ e)

-- ---- the certificates in turn
abbrev pub each : ℕ → Stated → ℕ → Conditions
each most x i = certificate_conditions most x.n x.representatives (certificate_at x i)

abbrev pub flat : ℕ → Stated → ℕ → Conditions
flat most x i = flat_map (each most x) (up_to i)

flat_last : {A : Type 0} (f : ℕ → List A) (l : List ℕ) (x : ℕ) → flat_map f (l ++ (x ∷ [])) ≡ flat_map f l ++ f x
unfolding flat_map
flat_last f [] x = append-nil (f x)
flat_last f (y ∷ l) x = ap (λ m. f y ++ m) (flat_last f l x) ∙ sym (append_assoc (f y) (flat_map f l) (f x))

-- all certificates in turn, by their indices
flat_map_lem : {A : Type 0} (f : A → Conditions) (g : ℕ → A) (l : List ℕ) → flat_map f (map g l) ≡ flat_map (λ i. f (g i)) l
unfolding flat_map
flat_map_lem f g [] = refl
flat_map_lem f g (i ∷ l) = ap (λ m. f (g i) ++ m) (flat_map_lem f g l)

pub flat_all : (most : ℕ) (x : Stated)
    → flat_map (certificate_conditions most x.n x.representatives) x.certificates ≡ flat most x (length x.certificates)
unfolding certificate_at
flat_all most x =
    ap (flat_map (certificate_conditions most x.n x.representatives)) (by_index x.certificates _)
    ∙ flat_map_lem (certificate_conditions most x.n x.representatives) (λ i. get_or x.certificates i _) (up_to (length x.certificates))

-- a list for each number below i, and for one number more
pub row_suc : {A : Type 0} (f : ℕ → List A) (i : ℕ) → flat_map f (up_to (suc i)) ≡ flat_map f (up_to i) ++ f i
row_suc f i = ap (flat_map f) (up_to_suc i) ∙ flat_last f (up_to i) i

pub flat_suc : (most : ℕ) (x : Stated) (i : ℕ) → flat most x (suc i) ≡ flat most x i ++ each most x i
flat_suc most x i = row_suc (each most x) i

pub four_quiet : (most : ℕ) (x : Stated) (i : ℕ) → first_of (each most x i) ≡ 0 → Quiet (each most x i)
unfolding certificate_conditions
four_quiet most x i e =
    let p₁ = passed 6 _ _ e in
    let p₂ = passed 7 _ _ p₁.1 in
    let p₃ = passed 8 _ _ p₂.1 in
    let p₄ = passed 9 _ _ p₃.1 in
    passing p₁.0 (passing p₂.0 (passing p₃.0 (passing p₄.0 silent)))

pub flat_stop : (most : ℕ) (x : Stated) (i r k : ℕ) → Quiet (flat most x i) → first_of (each most x i) ≡ suc r
    → first_of (flat most x (suc i + k)) ≡ suc r
flat_stop most x i r zero q e =
    let z : suc i + 0 ≡ suc i = omega arith in
    ap (λ (y : ℕ). first_of (flat most x y)) z ∙ ap first_of (flat_suc most x i) ∙ first_quiet (each most x i) q ∙ e
flat_stop most x i r (suc k) q e =
    let z : suc i + suc k ≡ suc (suc i + k) = omega arith in
    ap (λ (y : ℕ). first_of (flat most x y)) z ∙ ap first_of (flat_suc most x (suc i + k))
    ∙ first_keep (flat most x (suc i + k)) (each most x (suc i + k)) r (flat_stop most x i r k q e)
