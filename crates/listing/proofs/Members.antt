-- What the loops write is what the listing's definition says.
--
--   rows_flat        pieces in turn are a list of lists made flat
--   members_are      the marked places are the defining set
--   digits_are      what g holds has the coefficients of the generator
use mathlib.Core.Path.{◌≡◌, refl, sym, ap, ap₂, ◌∙◌}
use mathlib.Core.Bool.{Bool, true, false}
use mathlib.Core.List.{List, [], ◌∷◌, ◌++◌, map, map-append, flat_map, append_assoc, append-nil}
use Prim.Native.Nat.{ℕ, zero, suc, ◌+◌, ◌-◌, ◌≤◌}
use native.Mathlib.Omega.{arith}
use lib.ListN.{length, get_or, take}
use lib.Seq.{take-suc, take-length}
use Rattle.field.specs.Search.{up_to, keep, bit}
use Rattle.field.specs.Mask.{coefficient}
use Rattle.field.proofs.Search.{keep_suc}
use Rattle.document.specs.Coset.{in_set, defining_set, dimension}
use Rattle.document.specs.Generator.{generator_poly, generator}
use Rattle.document.specs.Card.{spaced}
use Rattle.document.proofs.Sane.{poly_length}
use Rattle.document.proofs.Theory.{Length}
use Rattle.document.proofs.GeneratorIs.{generator_digit, generator_is}
use Rattle.sheet.specs.Stage.{Marks}
use Rattle.binary.specs.Packed.{packed}
use Rattle.listing.specs.Text.{rows, member, member_in, digit_in}

-- ---- lists of lists
flat_append : (f : ℕ → List ℕ) (l m : List ℕ) → flat_map f (l ++ m) ≡ flat_map f l ++ flat_map f m
unfolding flat_map
flat_append f [] m = refl
flat_append f (x ∷ l) m = ap (λ (r : List ℕ). f x ++ r) (flat_append f l m) ∙ sym (append_assoc (f x) (flat_map f l) (flat_map f m))

pub rows_flat : (f : ℕ → List ℕ) (n : ℕ) → rows f n ≡ flat_map f (up_to n)
unfolding rows up_to flat_map
rows_flat f zero = refl
rows_flat f (suc n) =
    ap₂ (λ (a b : List ℕ). a ++ b) (rows_flat f n) (sym (append-nil (f n))) ∙ sym (flat_append f (up_to n) (n ∷ []))

-- ---- the defining set
kept : (test : ℕ → Bool) (x mark : ℕ) (b : Bool) → test x ≡ b → mark ≡ bit b → member mark x ≡ flat_map spaced (keep test (x ∷ []))
unfolding keep flat_map
kept test x mark true e m = ap (λ (k : ℕ). member k x) m ∙ sym (rw (keep, e) (append-nil (spaced x)))
kept test x mark false e m = ap (λ (k : ℕ). member k x) m ∙ sym (rw (keep, e))

module _ {n : ℕ} {reps z : List ℕ} (h : Marks n reps z) where
  below : (k : ℕ) → k ≤ n → rows (member_in z) k ≡ flat_map spaced (keep (in_set n reps) (up_to k))
  unfolding rows keep up_to flat_map
  below zero l = refl
  below (suc k) l =
      ap₂ (λ (a b : List ℕ). a ++ b) (below k (omega arith))
      (kept (in_set n reps) k (get_or z k 0) (in_set n reps k) refl (h.at k (omega arith)))
      ∙ sym (flat_append spaced (keep (in_set n reps) (up_to k)) (keep (in_set n reps) (k ∷ [])))
      ∙ sym (ap (flat_map spaced) (keep_suc (in_set n reps) k))

  pub members_are : rows (member_in z) n ≡ flat_map spaced (defining_set n reps)
  unfolding defining_set
  members_are = below n (omega arith)

-- ---- the generator
module _ {n : ℕ} (l : Length n) (reps g : List ℕ) (h : packed g ≡ generator n reps) where
  digit_is : (i : ℕ) → coefficient i (packed g) ≡ get_or (generator_poly n reps) i 0
  digit_is i = ap (coefficient i) (h ∙ generator_is l reps) ∙ sym (generator_digit l reps i)

  first : (k : ℕ) → k ≤ length (generator_poly n reps) → rows (digit_in g) k ≡ map (λ (c : ℕ). 48 + c) (take k (generator_poly n reps))
  unfolding rows
  first zero b = refl
  first (suc k) b =
      ap₂ (λ (a : List ℕ) (x : ℕ). a ++ ((48 + x) ∷ [])) (first k (omega arith)) (digit_is k)
      ∙ sym (ap (map (λ (c : ℕ). 48 + c)) (take-suc (generator_poly n reps) k 0 (omega arith))
      ∙ map-append (λ (c : ℕ). 48 + c) (take k (generator_poly n reps)) (get_or (generator_poly n reps) k 0 ∷ []))

  pub digits_are : {m : ℕ} → m ≡ n - dimension n reps → rows (digit_in g) (m + 1) ≡ map (λ (c : ℕ). 48 + c) (generator_poly n reps)
  digits_are {m} e =
      let q : m + 1 ≡ length (generator_poly n reps) = omega (arith, poly_length n reps) in
      ap (rows (digit_in g)) q ∙ first (length (generator_poly n reps)) (omega arith)
      ∙ ap (map (λ (c : ℕ). 48 + c)) (take-length (generator_poly n reps))
