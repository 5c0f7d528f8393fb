-- Laws that a wrong definition would break.
--
--   distance_pos        a distance is at least 1
--   (that D is closed under doubling is set_doubles of Cosets.antt)
--   set_size            D has n - k members
--   poly_length, poly_top      the generator has degree n - k: n - k + 1 coefficients, the highest of them 1
--   empty_set, generator_nil      no representatives: D is empty, and the generator 1
--   empty_dimension, empty_generator      with no representatives stated, k = n and the generator is 1
--   accepted_dimension  an accepted sheet, of any kind, has 1 ≤ k
use mathlib.Core.Path.{◌≡◌, refl, sym, ap, ap₂, ◌∙◌}
use mathlib.Core.Logic.{◌≢◌}
use mathlib.Core.Bool.{Bool, true, false}
use mathlib.Core.List.{List, [], ◌∷◌, map}
use Prim.Native.Nat.{ℕ, zero, suc, ◌-◌, ◌≤◌}
use native.Mathlib.Nat.{sub-zero}
use native.Mathlib.Omega.{arith}
use lib.ListN.{length, get_or, length-map, get_or-eq_default}
use borrow.Author.Tests.{eqb-false}
use Rattle.field.specs.Search.{up_to, some, total}
use Rattle.field.specs.Mask.{◌⊕◌}
use Rattle.field.specs.Field.{field_multiply, field_power, order_of_two, α}
use Rattle.field.proofs.Search.{keep_none}
use Rattle.field.proofs.Search.{length_up_to, length_keep}
use Rattle.field.proofs.Xor.{⊕-zero-r, ⊕-zero-l}
use Rattle.document.specs.Answer.{Conditions, first_of, settle_in}
use Rattle.document.specs.Sheet.{Certificate, Stated, Kind, stated_by, wrong_length, wrong_code_length, wrong_header}
use Rattle.document.specs.Coset.{in_set, defining_set, dimension}
use Rattle.document.specs.Generator.{add_poly, times_root, root_product, generator_poly, mask_of_poly, generator}
use Rattle.document.specs.Certificate.{distance}
use Rattle.document.specs.Judge.{wrong_degree, wrong_representative, no_message, sheet_conditions, judge_conditions}
use Rattle.document.specs.Judge.{dimension_of}
use Rattle.document.specs.Entry.{generator_of}

pub distance_pos : (c : Certificate) → 1 ≤ distance c
unfolding distance
distance_pos c = omega arith

-- ---- the generator
pub add_at : (p q : List ℕ) (i : ℕ) → get_or (add_poly p q) i 0 ≡ get_or p i 0 ⊕ get_or q i 0
unfolding add_poly
add_at [] q i = sym (⊕-zero-l (get_or q i 0))
add_at (a ∷ p) [] i = sym (⊕-zero-r (get_or (a ∷ p) i 0))
add_at (a ∷ p) (b ∷ q) zero = refl
add_at (a ∷ p) (b ∷ q) (suc i) = add_at p q i

pub add_length : (p q : List ℕ) → length q ≤ length p → length (add_poly p q) ≡ length p
unfolding add_poly
add_length [] [] h = refl
add_length [] (b ∷ q) h = absurd (omega arith)
add_length (a ∷ p) [] h = refl
add_length (a ∷ p) (b ∷ q) h = ap suc (add_length p q (omega arith))

pub product_length : (s a : ℕ) (l : List ℕ) → length (root_product s a l) ≡ suc (length l)
unfolding root_product times_root
product_length s a [] = refl
product_length s a (i ∷ l) =
    let p : List ℕ = root_product s a l in
    add_length (0 ∷ p) (map (field_multiply s (field_power s a i)) p)
    (omega (arith, length-map p (field_multiply s (field_power s a i))))
    ∙ ap suc (product_length s a l)

pub product_top : (s a : ℕ) (l : List ℕ) → get_or (root_product s a l) (length l) 0 ≡ 1
unfolding root_product times_root
product_top s a [] = refl
product_top s a (i ∷ l) =
    let p : List ℕ = root_product s a l in
    let q : List ℕ = map (field_multiply s (field_power s a i)) p in
    add_at (0 ∷ p) q (suc (length l))
    ∙ ap₂ ◌⊕◌ (product_top s a l)
    (get_or-eq_default q 0 (omega (arith, length-map p (field_multiply s (field_power s a i)), product_length s a l)))
    ∙ ⊕-zero-r 1

pub set_size : (n : ℕ) (reps : List ℕ) → n - dimension n reps ≡ length (defining_set n reps)
unfolding dimension defining_set
set_size n reps = omega (arith, length_keep (in_set n reps) (up_to n), length_up_to n)

pub poly_length : (n : ℕ) (reps : List ℕ) → length (generator_poly n reps) ≡ suc (n - dimension n reps)
unfolding generator_poly
poly_length n reps =
    product_length (order_of_two n) (α (order_of_two n) n) (defining_set n reps) ∙ ap suc (sym (set_size n reps))

pub poly_top : (n : ℕ) (reps : List ℕ) → get_or (generator_poly n reps) (n - dimension n reps) 0 ≡ 1
unfolding generator_poly
poly_top n reps =
    ap (λ (x : ℕ). get_or (generator_poly n reps) x 0) (set_size n reps)
    ∙ product_top (order_of_two n) (α (order_of_two n) n) (defining_set n reps)

-- ---- no representatives
pub empty_set : (n : ℕ) → defining_set n [] ≡ []
unfolding defining_set in_set some
empty_set n = keep_none (in_set n []) n (λ k h. refl)

pub empty_dimension : (x : Stated) → x.representatives ≡ [] → dimension_of x ≡ x.n
unfolding dimension_of dimension
empty_dimension x e = ap (dimension x.n) e ∙ ap (λ l. x.n - length l) (empty_set x.n) ∙ sub-zero x.n

pub generator_nil : (n : ℕ) → generator n [] ≡ 1
unfolding generator generator_poly root_product mask_of_poly total
generator_nil n = ap (λ l. mask_of_poly (root_product (order_of_two n) (α (order_of_two n) n) l)) (empty_set n)

pub empty_generator : (x : Stated) → x.representatives ≡ [] → generator_of x ≡ 1
unfolding generator_of
empty_generator x e = ap (generator x.n) e ∙ generator_nil x.n

-- ---- accepted sheets
pub passed : (r : ℕ) (b : Bool) (rest : Conditions) → first_of ((suc r, b) ∷ rest) ≡ 0 → (b ≡ false) × (first_of rest ≡ 0)
unfolding first_of
passed r true rest e = absurd (omega arith)
passed r false rest e = (refl, e)

pub settle_number : {B : Type 0} (r : ℕ) (v : List ℕ) (w o : B) → (settle_in r v w o).0.number ≡ r
unfolding settle_in
settle_number zero v w o = refl
settle_number (suc r) v w o = refl

pub accepted_dimension : (kind : Kind) (sheet : List ℕ) → first_of (judge_conditions kind sheet) ≡ 0 → 1 ≤ dimension_of (stated_by kind sheet)
unfolding judge_conditions sheet_conditions no_message dimension_of
accepted_dimension kind sheet e =
    let x : Stated = stated_by kind sheet in
    let p₁ = passed 0 (wrong_length kind sheet) _ e in
    let p₂ = passed 1 (wrong_code_length kind x.n) _ p₁.1 in
    let p₃ = passed 2 (wrong_degree x.n) _ p₂.1 in
    let p₄ = passed 3 (wrong_header kind sheet) _ p₃.1 in
    let p₅ = passed 4 (wrong_representative x.n x.representatives) _ p₄.1 in
    let p₆ = passed 5 (no_message x.n x.representatives) _ p₅.1 in
    let n : dimension_of x ≢ 0 = eqb-false (dimension x.n x.representatives) 0 p₆.0 in
    omega arith
