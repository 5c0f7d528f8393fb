-- What the conditions and rules mean, in both directions, with no test and no search.
--
--   length_iff, code_length_iff, header_iff      conditions 1, 2 and 4 of document 01's kind of sheet
--   rule1_iff                  rule 1 of a certificate
--   set_iff                    D, by all powers of 2
--   representative_iff, degree_iff      conditions 5 and 3
--   differ_at, differ_count    whether two words differ in a place; the places in which they do, counted
--   dimension_sum              k and the members of D, counted, make n
--   no_message_iff             condition 6: every number below n is in D
--   spare_iff                  condition 12: a spare bit is 1
--   distance_least             d is the least number with L + u ≤ d·u + v; radius_is: t by d
use mathlib.Core.Path.{◌≡◌, refl, sym, ap, ap₂, ◌∙◌}
use mathlib.Core.Logic.Iff
use mathlib.Core.Logic.{◌↔◌, ◌≢◌, ◌⊎◌}
use mathlib.Core.Bool.{Bool, true, false, not}
use mathlib.Core.List.{List, [], ◌∷◌}
use Prim.Native.Nat.{ℕ, zero, suc, ◌+◌, ◌-◌, ◌*◌, ◌/◌, ◌%◌, ◌^◌, ◌≤◌, ◌<◌, ◌∣◌}
use native.Mathlib.Nat.{mod-eq-zero_of_dvd, div-add-mod, mod-lt, add-mul, mul_comm, one-mul, zero-mul, suc-mul, mul-le-mul_left}
use native.Mathlib.Decide.{dec_lt, ℕ_discrete}
use native.Mathlib.Omega.{arith}
use lib.Dec.{leb}
use lib.ListN.{length, get_or, length-append}
use borrow.Author.Tests.{leb-false, ltb-true, lt-ltb}
use Rattle.field.specs.Search.{up_to, keep, total, bit}
use Rattle.field.specs.Mask.{◌⊕◌, coefficient}
use Rattle.field.specs.Field.{OddLength, order_of_two}
use Rattle.field.proofs.Search.{keep_suc, length_up_to, length_keep, total_z, total_s, total_ext}
use Rattle.field.proofs.Xor.{bit_⊕}
use Rattle.field.proofs.OrderOfTwo.{order_pos, order_divides, order_least}
use Rattle.binary.specs.Factor.{degree}
use Rattle.binary.proofs.Coefficient.{sum_two}
use Rattle.binary.proofs.Meaning.{coprime_iff}
use Rattle.document.specs.Layout.{bytes_for, place, spare}
use Rattle.document.specs.Sheet.{Certificate, wrong_length, wrong_code_length, wrong_header}
use Rattle.document.specs.Coset.{in_coset, smallest, in_set, defining_set, dimension}
use Rattle.document.specs.Generator.{differences}
use Rattle.document.specs.Certificate.{steps, ratio, extent, rule1, distance, radius}
use Rattle.document.specs.Judge.{wrong_degree, wrong_representative}
use Rattle.document.specs.Short.{byte_at, number_at, short}
use Rattle.document.proofs.Reflect.{eqb_iff, leb_iff, ltb_iff, not_eq_iff, not_lt_iff, not_iff, or_of, and_of, right, left}
use Rattle.document.proofs.Reflect.{some_says, not_every_iff, member_iff}
use Rattle.document.proofs.Cosets.{coset_at, coset_of, smallest_at}
use Rattle.document.proofs.Sane.{distance_pos}

-- ---- conditions 1, 2 and 4
pub length_iff : (sheet : List ℕ) → (wrong_length short sheet ≡ true)
    ↔ ((length sheet < 10) ⊎ ((74 < length sheet) ⊎ (number_at sheet 0 ≢ length sheet)))
unfolding wrong_length
length_iff sheet =
    right (or_of (or_of (ltb_iff (length sheet) 10) (ltb_iff 74 (length sheet))) (not_eq_iff (number_at sheet 0) (length sheet)))

pub code_length_iff : (n : ℕ) → (wrong_code_length short n ≡ true) ↔ ((n % 2 ≡ 0) ⊎ ((n < 3) ⊎ (127 < n)))
unfolding wrong_code_length
code_length_iff n = right (or_of (or_of (eqb_iff (n % 2) 0) (ltb_iff n 3)) (ltb_iff 127 n))

pub header_iff : (sheet : List ℕ) → (wrong_header short sheet ≡ true)
    ↔ ((32 < byte_at sheet 3)
    ⊎ ((number_at sheet 4 ≢ 10)
    ⊎ ((byte_at sheet 6 < 1)
    ⊎ ((4 < byte_at sheet 6)
    ⊎ ((byte_at sheet 7 ≢ 0)
    ⊎ ((number_at sheet 8 ≢ 10 + byte_at sheet 3) ⊎ (length sheet ≢ 10 + byte_at sheet 3 + 8 * byte_at sheet 6)))))))
unfolding wrong_header
header_iff sheet =
    right (right (right (right (right
    (or_of
    (or_of
    (or_of
    (left
    (or_of (or_of (ltb_iff 32 (byte_at sheet 3)) (not_eq_iff (number_at sheet 4) 10))
    (or_of (ltb_iff (byte_at sheet 6) 1) (ltb_iff 4 (byte_at sheet 6)))))
    (not_eq_iff (byte_at sheet 7) 0)) (not_eq_iff (number_at sheet 8) (10 + byte_at sheet 3)))
    (not_eq_iff (length sheet) (10 + byte_at sheet 3 + 8 * byte_at sheet 6)))))))

-- ---- rule 1
pub rule1_iff : (most n : ℕ) (c : Certificate) → (rule1 most n c ≡ true)
    ↔ ((c.b < n)
    × (1 ≤ c.z)
    × (c.z ≤ n - 1)
    × ((d : ℕ) → 1 < d → d ∣ c.z → ¬ (d ∣ n))
    × (1 ≤ degree c.f)
    × (degree c.f ≤ 8)
    × (coefficient 0 c.f ≡ 1)
    × (c.h ≢ 0)
    × (degree c.h < degree c.f)
    × (1 ≤ c.L)
    × (c.L ≤ most)
    × (c.zero_field ≡ 0))
unfolding rule1 steps ratio extent
rule1_iff most n c =
    Iff.trans
    (and_of
    (and_of
    (and_of (and_of (and_of (ltb_iff c.b n) (leb_iff 1 c.z)) (leb_iff c.z (n - 1))) (coprime_iff c.z n))
    (and_of
    (and_of
    (and_of (and_of (leb_iff 1 (degree c.f)) (leb_iff (degree c.f) 8)) (eqb_iff (coefficient 0 c.f) 1))
    (not_eq_iff c.h 0)) (ltb_iff (degree c.h) (degree c.f))))
    (and_of (and_of (leb_iff 1 c.L) (leb_iff c.L most)) (eqb_iff c.zero_field 0))) (
      λ w. let s = w.0.0 in
          let r = w.0.1 in
          let x = w.1 in (
            s.0.0.0,
            s.0.0.1,
            s.0.1,
            s.1,
            r.0.0.0.0,
            r.0.0.0.1,
            r.0.0.1,
            r.0.1,
            r.1,
            x.0.0,
            x.0.1,
            x.1,
          ),
      λ v. (
        (
          (((v.0, v.1), v.2), v.3),
          ((((v.4, v.5), v.6), v.7), v.8),
        ),
        ((v.9, v.10), v.11),
      ),
    )

-- ---- cosets, and what is said by them
module _ {n : ℕ} (o : OddLength n) where
  pub set_iff : (reps : List ℕ) (i : ℕ) → (in_set n reps i ≡ true)
      ↔ ((m : ℕ) × (m < length reps) × ((j : ℕ) × (get_or reps m 0 * 2 ^ j % n ≡ i)))
  unfolding in_set
  set_iff reps i = Iff.trans (member_iff (λ r. in_coset n r i) reps) (
    λ w. let j = coset_at o (get_or reps w.0 0) i w.2 in (w.0, w.1, (j.0, j.2)),
    λ w. (w.0, w.1, coset_of o (get_or reps w.0 0) i w.2.0 w.2.1),
  )

  not_smallest : (r : ℕ) → (not (smallest n r) ≡ true) ↔ ((j : ℕ) × (r * 2 ^ j % n < r))
  unfolding smallest
  not_smallest r = (
    λ e. let w = (not_every_iff (λ j. leb r (r * 2 ^ j % n)) n).0 e in (w.0, leb-false r (r * 2 ^ w.0 % n) w.2),
    λ w. (not_iff (smallest n r)).1 (λ e. let h : r ≤ r * 2 ^ w.0 % n = smallest_at o r e w.0 in omega (arith, w.1)),
  )

  pub representative_iff : (reps : List ℕ) → (wrong_representative n reps ≡ true)
      ↔ ((i : ℕ)
      × (i < length reps)
      × ((n ≤ get_or reps i 0)
      ⊎ (((j : ℕ) × (get_or reps i 0 * 2 ^ j % n < get_or reps i 0)) ⊎ ((1 ≤ i) × (get_or reps i 0 ≤ get_or reps (i - 1) 0)))))
  unfolding wrong_representative
  representative_iff reps =
      some_says _ _ (length reps)
      (λ i. right
      (or_of (or_of (not_lt_iff (get_or reps i 0) n) (not_smallest (get_or reps i 0)))
      (and_of (leb_iff 1 i) (not_lt_iff (get_or reps (i - 1) 0) (get_or reps i 0)))))

  pub degree_iff : (wrong_degree n ≡ true) ↔ ((s : ℕ) → 0 < s → s ≤ 12 → ¬ (n ∣ 2 ^ s - 1))
  unfolding wrong_degree
  degree_iff = (
    λ e s h l d. order_least o s h (omega (arith, ltb-true 12 (order_of_two n) e)) (mod-eq-zero_of_dvd n d),
    λ h. elim (dec_lt 12 (order_of_two n)) [
      | yes l ↦ lt-ltb 12 (order_of_two n) l
      | no l ↦ absurd (h (order_of_two n) (order_pos n) (omega arith) (order_divides o))
    ],
  )

-- ---- counts
pub differ_at : (a b i : ℕ) → coefficient i (a ⊕ b) ≡ (coefficient i a + coefficient i b) % 2
differ_at a b i =
    let e : (a / 2 ^ i + b / 2 ^ i) % 2 ≡ (a / 2 ^ i % 2 + b / 2 ^ i % 2) % 2 = omega arith in
    bit_⊕ i a b ∙ sum_two (a / 2 ^ i) (b / 2 ^ i) ∙ e

pub differ_count : (n a b : ℕ) → differences n a b ≡ total n (λ i. (coefficient i a + coefficient i b) % 2)
unfolding differences
differ_count n a b =
    total_ext n (λ i. coefficient i (a ⊕ b)) (λ i. (coefficient i a + coefficient i b) % 2) (λ i h. differ_at a b i)

-- how many pass a test
module _ (test : ℕ → Bool) where
  keep_last : (x : ℕ) → length (keep test (x ∷ [])) ≡ bit (test x)
  unfolding keep
  keep_last x = go (test x)
    where
      go : (b : Bool) → length {A = ℕ} (elim b as (λ _. List ℕ) [ true ↦ x ∷ [] | false ↦ [] ]) ≡ bit b
      go true = refl
      go false = refl

  keep_count : (n : ℕ) → length (keep test (up_to n)) ≡ total n (λ i. bit (test i))
  unfolding keep up_to
  keep_count zero = sym (total_z (λ i. bit (test i)))
  keep_count (suc n) =
      ap length (keep_suc test n) ∙ length-append (keep test (up_to n)) (keep test (n ∷ []))
      ∙ ap₂ ◌+◌ (keep_count n) (keep_last n) ∙ sym (total_s n (λ i. bit (test i)))

  bit_le : (b : Bool) → bit b ≤ 1
  bit_le true = omega arith
  bit_le false = omega arith

  bit_one : (b : Bool) → bit b ≡ 1 → b ≡ true
  bit_one true e = refl
  bit_one false e = absurd (omega arith)

  count_le : (n : ℕ) → total n (λ i. bit (test i)) ≤ n
  count_le zero = omega (arith, total_z (λ i. bit (test i)))
  count_le (suc n) = omega (arith, total_s n (λ i. bit (test i)), count_le n, bit_le (test n))

  all_at : (n : ℕ) → total n (λ i. bit (test i)) ≡ n → (i : ℕ) → i < n → test i ≡ true
  all_at zero e i h = absurd (omega arith)
  all_at (suc n) e i h =
      let s : total (suc n) (λ i. bit (test i)) ≡ total n (λ i. bit (test i)) + bit (test n) = total_s n (λ i. bit (test i)) in
      let l : total n (λ i. bit (test i)) ≤ n = count_le n in
      let m : bit (test n) ≤ 1 = bit_le (test n) in
      elim (ℕ_discrete i n) [
        | yes q ↦ ap test q ∙ bit_one (test n) (omega arith)
        | no q ↦ all_at n (omega arith) i (omega arith)
      ]

  all_of : (n : ℕ) → ((i : ℕ) → i < n → test i ≡ true) → total n (λ i. bit (test i)) ≡ n
  all_of zero h = total_z (λ i. bit (test i))
  all_of (suc n) h =
      let b : bit (test n) ≡ 1 = ap bit (h n (omega arith)) in
      omega (arith, total_s n (λ i. bit (test i)), all_of n (λ i l. h i (omega arith)))

pub dimension_sum : (n : ℕ) (reps : List ℕ) → dimension n reps + total n (λ i. bit (in_set n reps i)) ≡ n
unfolding dimension defining_set
dimension_sum n reps = omega (arith, length_keep (in_set n reps) (up_to n), length_up_to n, keep_count (in_set n reps) n)

pub no_message_iff : {n : ℕ} (o : OddLength n) (reps : List ℕ) → (dimension n reps ≡ 0)
    ↔ ((i : ℕ) → i < n → (m : ℕ) × (m < length reps) × ((j : ℕ) × (get_or reps m 0 * 2 ^ j % n ≡ i)))
no_message_iff {n} o reps = (
  λ e i h. (set_iff o reps i).0 (all_at (in_set n reps) n (omega (arith, dimension_sum n reps)) i h),
  λ f. omega (arith, dimension_sum n reps, all_of (in_set n reps) n (λ i h. (set_iff o reps i).1 (f i h))),
)

-- ---- spare bits
pub spare_iff : (weight : ℕ → ℕ) (n : ℕ) (bytes : List ℕ) → (spare weight n bytes ≡ true)
    ↔ ((i : ℕ) × (n ≤ i) × (i < bytes_for n * 8) × (place weight bytes i ≡ 1))
unfolding spare
spare_iff weight n bytes =
    Iff.trans
    (some_says _ (λ k. place weight bytes (n + k) ≡ 1) (bytes_for n * 8 - n) (λ k. eqb_iff (place weight bytes (n + k)) 1)) (
      λ w. (n + w.0, omega arith, omega (arith, w.1), w.2),
      λ w. let e : n + (w.0 - n) ≡ w.0 = omega (arith, w.1) in
          (w.0 - n, omega (arith, w.1, w.2), ap (place weight bytes) e ∙ w.3),
    )

-- ---- distance and radius
pub distance_least : (c : Certificate) → 1 ≤ degree c.f → degree c.h < degree c.f
    → (c.L + degree c.f ≤ distance c * degree c.f + degree c.h)
    × ((e : ℕ) → c.L + degree c.f ≤ e * degree c.f + degree c.h → distance c ≤ e)
unfolding distance
distance_least c pos proper = (enough, none_less)
  where
    u : ℕ
    u = degree c.f

    v : ℕ
    v = degree c.h

    x : ℕ
    x = c.L - v + (u - 1)

    enough : c.L + u ≤ (x / u + 1) * u + v
    enough =
        let d : u * (x / u) + x % u ≡ x = div-add-mod x u in
        let l : x % u < u = mod-lt x pos in
        let m : (x / u + 1) * u ≡ u * (x / u) + u = add-mul (x / u) 1 u ∙ ap₂ ◌+◌ (mul_comm (x / u) u) (one-mul u) in
        omega arith

    none_less : (e : ℕ) → c.L + u ≤ e * u + v → x / u + 1 ≤ e
    none_less zero h = let z : 0 * u ≡ 0 = zero-mul u in absurd (omega arith)
    none_less (suc e) h = elim (dec_lt e (x / u)) [
      | yes l ↦
          (let d : u * (x / u) + x % u ≡ x = div-add-mod x u in
          let m : u * suc e ≤ u * (x / u) = mul-le-mul_left u l in
          let k : u * suc e ≡ suc e * u = mul_comm u (suc e) in
          let p : suc e * u ≡ e * u + u = suc-mul e u in
          absurd (omega arith))
      | no l ↦ omega arith
    ]

pub radius_is : (c : Certificate) → (2 * radius c + 1 ≤ distance c) × (distance c ≤ 2 * radius c + 2)
unfolding radius
radius_is c = let p : 1 ≤ distance c = distance_pos c in (omega arith, omega arith)
