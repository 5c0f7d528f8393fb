-- The generator of one representative more.
--
--   CosetApart n r reps      no member of the coset of r is in D
--   join_is             D of one representative more
--   join_size           where they are apart, D has as many more members as the coset of r
--   generator_join      and the generator is the product with that of r alone
--   alone_is            D of one representative is its coset
--   apart_of            the cosets of different represented, each the smallest of its own, are apart
--   product_any         the generator's coefficients are those of the product over D in any order
use mathlib.Core.Path.{◌≡◌, refl, sym, ap, ap₂, ◌∙◌, subst, fun_ext}
use mathlib.Core.Bool.{Bool, true, false, ◌||◌, or-false}
use mathlib.Core.List.{List, [], ◌∷◌, map}
use Prim.Native.Nat.{ℕ, ◌+◌, ◌-◌, ◌*◌, ◌/◌, ◌%◌, ◌^◌, ◌<◌}
use native.Mathlib.Omega.{arith}
use lib.Dec.{T}
use lib.ListN.{length, get_or, length-map}
use Rattle.algebra.proofs.Ring.{zero-mul, mul-zero}
use Rattle.algebra.proofs.Power.{pow, Order, pow_inj}
use Rattle.algebra.proofs.Lists.{In, Distinct, map_in, in_map, distinct_map}
use Rattle.field.specs.Search.{up_to, keep, some}
use Rattle.field.specs.Mask.{coefficient, clmul}
use Rattle.field.specs.Field.{Degree, order_of_two, α}
use Rattle.field.proofs.Search.{some_append, true_ne_false}
use Rattle.field.proofs.MaskProduct.{clmul_degree}
use Rattle.field.proofs.OrderOfTwo.{order_divides}
use Rattle.field.proofs.Elements.{F, GF, is_field, el, el_inj, root_order}
use Rattle.field.proofs.Numbers.{el_root}
use Rattle.field.proofs.Value.{value, value_mul}
use Rattle.cyclic.proofs.Monic.{Π, Π-any}
use Rattle.cyclic.proofs.Members.{members_in}
use Rattle.cyclic.proofs.CyclicCode.{Code}
use Rattle.cyclic.proofs.Generator as Generator
use Rattle.document.specs.Coset.{in_coset, smallest, in_set, defining_set, dimension}
use Rattle.document.specs.Generator.{root_product, generator_poly, generator}
use Rattle.document.proofs.Sane.{set_size}
use Rattle.document.proofs.Cosets.{coset_at, smallest_at, walk_on, walk_back}
use Rattle.document.proofs.Theory.{Length, degree, T_of, of_T, represented, members_are, code_of, checks_are}
use Rattle.document.proofs.GeneratorIs.{product_small, product_at, generator_digit, generator_is, generator_degree}

abbrev pub CosetApart : ℕ → ℕ → List ℕ → Type 0
CosetApart n r reps = (i : ℕ) → in_set n (r ∷ []) i ≡ true → in_set n reps i ≡ false

pub join_is : (n r : ℕ) (reps : List ℕ) (i : ℕ) → in_set n (r ∷ reps) i ≡ in_set n (r ∷ []) i || in_set n reps i
unfolding in_set
join_is n r reps i = some_append (λ r. in_coset n r i) (r ∷ []) reps

-- ---- sizes
keep_both : (a b : ℕ → Bool) (l : List ℕ) → ((i : ℕ) → a i ≡ true → b i ≡ false)
    → length (keep (λ i. a i || b i) l) ≡ length (keep a l) + length (keep b l)
unfolding keep
keep_both a b [] h = refl
keep_both a b (i ∷ l) h = go (a i) (b i) (h i) (keep_both a b l h)
  where
    go : (p q : Bool) → (p ≡ true → q ≡ false) → length (keep (λ i. a i || b i) l) ≡ length (keep a l) + length (keep b l)
        → length {A = ℕ} (elim (p || q) as (λ _. List ℕ) [ true ↦ i ∷ keep (λ i. a i || b i) l | false ↦ keep (λ i. a i || b i) l ])
        ≡ length {A = ℕ} (elim p as (λ _. List ℕ) [ true ↦ i ∷ keep a l | false ↦ keep a l ])
        + length {A = ℕ} (elim q as (λ _. List ℕ) [ true ↦ i ∷ keep b l | false ↦ keep b l ])
    go true true h e = absurd (true_ne_false refl (h refl))
    go true false h e = omega (arith, e)
    go false true h e = omega (arith, e)
    go false false h e = e

pub join_size : (n r : ℕ) (reps : List ℕ) → CosetApart n r reps
    → length (defining_set n (r ∷ reps)) ≡ length (defining_set n (r ∷ [])) + length (defining_set n reps)
unfolding defining_set
join_size n r reps h =
    ap (λ t. length (keep t (up_to n))) (fun_ext (join_is n r reps)) ∙ keep_both (in_set n (r ∷ [])) (in_set n reps) (up_to n) h

-- ---- the product has the right degree, and vanishes on all of D
module _ {n : ℕ} (l : Length n) (r : ℕ) (reps : List ℕ) (h : CosetApart n r reps) where
  abbrev f : ℕ
  f = generator n (r ∷ [])

  abbrev g : ℕ
  g = generator n reps

  abbrev C : Code (GF (degree l)) n
  C = code_of l (r ∷ reps)

  size_is : (n - dimension n (r ∷ [])) + (n - dimension n reps) ≡ Generator.checks C
  size_is =
      ap₂ ◌+◌ (set_size n (r ∷ [])) (set_size n reps) ∙ sym (join_size n r reps h) ∙ sym (set_size n (r ∷ reps))
      ∙ sym (checks_are l (r ∷ reps))

  product_degree : clmul f g / 2 ^ Generator.checks C ≡ 1
  product_degree =
      ap (λ (m : ℕ). clmul f g / 2 ^ m) (sym size_is)
      ∙ clmul_degree (n - dimension n (r ∷ [])) (n - dimension n reps) f g (generator_degree l (r ∷ [])) (generator_degree l reps)

  zero_at : (reps : List ℕ) (i : ℕ) → i < n → in_set n reps i ≡ true
      → value (GF (degree l)) (pow (GF (degree l)) C.α i) (generator n reps) ≡ (GF (degree l)).𝟘
  zero_at reps i k e =
      ap (value (GF (degree l)) (pow (GF (degree l)) C.α i)) (generator_is l reps)
      ∙ (Generator.generator_zero (code_of l reps) i k).1 (subst T (sym e) tt)

  product_vanishes : (i : ℕ) → i < n → T (in_set n (r ∷ reps) i)
      → value (GF (degree l)) (pow (GF (degree l)) C.α i) (clmul f g) ≡ (GF (degree l)).𝟘
  product_vanishes i k t =
      value_mul (GF (degree l)) (pow (GF (degree l)) C.α i) f g
      ∙ go (in_set n (r ∷ []) i) refl (sym (join_is n r reps i) ∙ of_T (in_set n (r ∷ reps) i) t)
    where
      x : F (order_of_two n)
      x = pow (GF (degree l)) C.α i

      go : (b : Bool) → in_set n (r ∷ []) i ≡ b → b || in_set n reps i ≡ true
          → (GF (degree l)).mul (value (GF (degree l)) x f) (value (GF (degree l)) x g) ≡ (GF (degree l)).𝟘
      go true e q =
          ap (λ y. (GF (degree l)).mul y (value (GF (degree l)) x g)) (zero_at (r ∷ []) i k e) ∙ zero-mul (GF (degree l)) _
      go false e q =
          ap (λ y. (GF (degree l)).mul (value (GF (degree l)) x f) y) (zero_at reps i k q) ∙ mul-zero (GF (degree l)) _

  pub generator_join : generator n (r ∷ reps) ≡ clmul f g
  generator_join = generator_is l (r ∷ reps) ∙ sym (Generator.generator_unique C (clmul f g) product_degree product_vanishes)

-- ---- represented
pub alone_is : (n r i : ℕ) → in_set n (r ∷ []) i ≡ in_coset n r i
unfolding in_set some
alone_is n r i = or-false (in_coset n r i)

pub apart_of : {n : ℕ} → Length n → (r : ℕ) (reps : List ℕ) → r < n
    → ((q : ℕ) → In q reps → (r < q) × (smallest n q ≡ true)) → CosetApart n r reps
apart_of {n} l r reps h f i e = go (in_set n reps i) refl
  where
    -- r is in the coset of q, so it is not below it
    none : in_set n reps i ≡ true → ⊥
    none t =
        let a = coset_at l.odd r i (sym (alone_is n r i) ∙ e) in
        let b = (represented l reps).cover i (T_of t) in
        let back = walk_on n b.0 b.1 (order_of_two n - a.0) b.3 in
        let least = smallest_at l.odd b.0 (f b.0 b.2).1 (b.1 + (order_of_two n - a.0)) in
        let is : b.0 * 2 ^ (b.1 + (order_of_two n - a.0)) % n ≡ r =
        sym back ∙ walk_back l.odd h a.0 (omega (arith, a.1)) a.2 in
        omega (arith, (f b.0 b.2).0)

    go : (x : Bool) → in_set n reps i ≡ x → x ≡ false
    go true q = absurd (none q)
    go false q = refl

-- ---- the product in any order
module _ {n : ℕ} (l : Length n) (reps w : List ℕ) where
  abbrev d : Degree (order_of_two n)
  d = degree l

  abbrev a : ℕ
  a = α (order_of_two n) n

  abbrev roots : List ℕ → List (F (order_of_two n))
  roots = map (pow (GF d) (el d a))

  order : Order (GF d) (el d a) n
  order = subst (λ y. Order (GF d) y n) (sym (el_root d n)) (root_order d n (order_divides l.odd))

  in_defining : (b : ℕ) → (b < n) × (in_set n reps b ≡ true) → In b (defining_set n reps)
  in_defining b q = subst (In b) (members_are l reps) (members_in (in_set n reps) n b q.0 (T_of q.1))

  module _ (e : length w ≡ length (defining_set n reps)) (f : Distinct w) (h : (x : ℕ) → In x w → (x < n) × (in_set n reps x ≡ true)) where
    same : Π (GF d) (roots w) ≡ Π (GF d) (roots (defining_set n reps))
    same =
        Π-any (GF d) (is_field d) (length-map w (pow (GF d) (el d a)) ∙ e ∙ sym (length-map (defining_set n reps) (pow (GF d) (el d a))))
        (distinct_map (pow (GF d) (el d a)) w f (λ b c p q. pow_inj (GF d) (el d a) n order b c (h b p).0 (h c q).0))
        (λ y m. let r = map_in (pow (GF d) (el d a)) m in
        subst (λ z. In z (roots (defining_set n reps))) r.2
        (in_map (pow (GF d) (el d a)) (in_defining r.0 (h r.0 r.1))))

    poly_same : (i : ℕ) → get_or (root_product (order_of_two n) a w) i 0 ≡ get_or (generator_poly n reps) i 0
    unfolding generator_poly
    poly_same i =
        el_inj d (product_small d a w i) (product_small d a (defining_set n reps) i)
        (product_at d a w i ∙ ap (λ p. p i) same ∙ sym (product_at d a (defining_set n reps) i))

    pub product_any : (i : ℕ) → get_or (root_product (order_of_two n) a w) i 0 ≡ coefficient i (generator n reps)
    product_any i = poly_same i ∙ generator_digit l reps i ∙ ap (coefficient i) (sym (generator_is l reps))
