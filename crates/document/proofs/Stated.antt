-- What a sheet states, by its bytes; and what it satisfies where it draws none of refusals 1 to 4. For any kind of sheet.
--
--   tabulated_at, tabulated_length, by_index      a list by its indices
--   representatives_length, representative_is, certificates_length, certificate_is, length_is      what is stated, by the kind's reading
--   or-false, not-false        tests that say false
--   OddTo, odd_to              n of a sheet that does not draw 2: odd, from 3 to the kind's largest; odd_length: so s is there
--   Counted, counted           what the header of a sheet that does not draw 4 satisfies
--   Headed, headed             what a sheet states that draws none of 2 to 4
use mathlib.Core.Path.{◌≡◌, refl, sym, ap, ◌∙◌}
use mathlib.Core.Logic.{◌≢◌}
use mathlib.Core.Bool.{Bool, true, false, ◌||◌, not}
use mathlib.Core.List.{List, [], ◌∷◌, ◌++◌, map}
use Prim.Native.Nat.{ℕ, zero, suc, ◌%◌, ◌≤◌, ◌<◌}
use native.Mathlib.Decide.{ℕ_discrete}
use native.Mathlib.Omega.{arith}
use lib.Dec.{eqb, ltb}
use lib.ListN.{length, get_or, length-map, get_or-append}
use lib.Seq.{get_or_at, ext_get_or}
use borrow.Author.Tests.{ltb-false, eqb-true, eqb-false}
use Rattle.field.specs.Search.{up_to}
use Rattle.field.specs.Field.{OddLength, order_of_two}
use Rattle.field.proofs.Search.{true_ne_false, length_up_to}
use Rattle.document.specs.Sheet.{Stated, certificate_at, Header, Kind, stated_by, wrong_code_length, wrong_header}
use Rattle.document.specs.Judge.{wrong_degree}
use Rattle.document.proofs.Theory.{Length}

-- ---- a list by its indices
up_to_at : (n k d : ℕ) → k < n → get_or (up_to n) k d ≡ k
unfolding up_to
up_to_at zero k d h = absurd (omega arith)
up_to_at (suc n) k d h = elim (ℕ_discrete k n) [
  | yes e ↦ ap (λ (x : ℕ). get_or (up_to n ++ (n ∷ [])) x d) e ∙ get_or_at (up_to n) n [] d n (length_up_to n) ∙ sym e
  | no e ↦
      (let l : k < n = omega arith in
      get_or-append (up_to n) (n ∷ []) d k (omega (arith, length_up_to n)) ∙ up_to_at n k d l)
]

module _ {A : Type 0} (f : ℕ → A) where
  map_at : (l : List ℕ) (k : ℕ) (d : ℕ) (e : A) → k < length l → get_or (map f l) k e ≡ f (get_or l k d)
  map_at [] k d e h = absurd (omega arith)
  map_at (x ∷ l) zero d e h = refl
  map_at (x ∷ l) (suc k) d e h = map_at l k d e (omega arith)

  pub tabulated_at : (n i : ℕ) (d : A) → i < n → get_or (map f (up_to n)) i d ≡ f i
  tabulated_at n i d h = map_at (up_to n) i 0 d (omega (arith, length_up_to n)) ∙ ap f (up_to_at n i 0 h)

  pub tabulated_length : (n : ℕ) → length (map f (up_to n)) ≡ n
  tabulated_length n = length-map (up_to n) f ∙ length_up_to n

pub by_index : {A : Type 0} (l : List A) (d : A) → l ≡ map (λ i. get_or l i d) (up_to (length l))
by_index l d =
    ext_get_or d l (map (λ i. get_or l i d) (up_to (length l))) (sym (tabulated_length (λ i. get_or l i d) (length l)))
    (λ i h. sym (tabulated_at (λ i. get_or l i d) (length l) i d h))

-- ---- what is stated, by the kind's reading
module _ (kind : Kind) (sheet : List ℕ) where
  pub representatives_length : length (stated_by kind sheet).representatives ≡ (kind.header sheet).R
  unfolding stated_by
  representatives_length = tabulated_length (kind.representative sheet) (kind.header sheet).R

  pub representative_is : (i : ℕ) → i < (kind.header sheet).R
      → get_or (stated_by kind sheet).representatives i 0 ≡ kind.representative sheet i
  unfolding stated_by
  representative_is i h = tabulated_at (kind.representative sheet) (kind.header sheet).R i 0 h

  pub certificates_length : length (stated_by kind sheet).certificates ≡ (kind.header sheet).C
  unfolding stated_by
  certificates_length = tabulated_length (kind.certificate sheet) (kind.header sheet).C

  pub certificate_is : (i : ℕ) → i < (kind.header sheet).C → certificate_at (stated_by kind sheet) i ≡ kind.certificate sheet i
  unfolding stated_by certificate_at
  certificate_is i h = tabulated_at (kind.certificate sheet) (kind.header sheet).C i _ h

  pub length_is : (stated_by kind sheet).n ≡ (kind.header sheet).n
  unfolding stated_by
  length_is = refl

-- ---- tests that say false
pub or-false : (a b : Bool) → a || b ≡ false → (a ≡ false) × (b ≡ false)
or-false true b e = absurd (true_ne_false refl e)
or-false false b e = (refl, e)

pub not-false : (b : Bool) → not b ≡ false → b ≡ true
not-false true e = refl
not-false false e = absurd (true_ne_false refl e)

-- ---- what refusals 2 to 4 leave
pub record OddTo (top n : ℕ) : Type 0 where
  pub least : 3 ≤ n
  pub odd : n % 2 ≡ 1
  pub most : n ≤ top

pub odd_to : (kind : Kind) (n : ℕ) → wrong_code_length kind n ≡ false → OddTo kind.most_places n
unfolding wrong_code_length
odd_to kind n e =
    let p = or-false (eqb (n % 2) 0 || ltb n 3) (ltb kind.most_places n) e in
    let q = or-false (eqb (n % 2) 0) (ltb n 3) p.0 in
    let o : n % 2 ≢ 0 = eqb-false (n % 2) 0 q.0 in
    record {
      least = ltb-false n 3 q.1;
      odd = omega arith;
      most = ltb-false kind.most_places n p.1;
    }

pub odd_length : {top n : ℕ} → top ≤ 65535 → OddTo top n → OddLength n
odd_length h o = record { least = o.least; most = omega (arith, o.most); odd = o.odd }

pub record Counted (kind : Kind) (sheet : List ℕ) : Type 0 where
  pub few : (kind.header sheet).R ≤ kind.most_representatives
  pub one : 1 ≤ (kind.header sheet).C
  pub four : (kind.header sheet).C ≤ 4
  pub long : length sheet ≡ kind.length_of (kind.header sheet).R (kind.header sheet).C

pub counted : (kind : Kind) (sheet : List ℕ) → wrong_header kind sheet ≡ false → Counted kind sheet
unfolding wrong_header
counted kind sheet e =
    let h : Header = kind.header sheet in
    let p₆ = or-false _ (not (eqb (length sheet) (kind.length_of h.R h.C))) e in
    let p₅ = or-false _ (not (eqb h.certificates_at (kind.certificates_from h.R))) p₆.0 in
    let p₄ = or-false _ (not (eqb h.zero_field 0)) p₅.0 in
    let p₃ = or-false _ (ltb h.C 1 || ltb 4 h.C) p₄.0 in
    let q₃ = or-false (ltb h.C 1) (ltb 4 h.C) p₃.1 in
    let q₁ = or-false (ltb kind.most_representatives h.R) (not (eqb h.representatives_at kind.representatives_from)) p₃.0 in
    record {
      few = ltb-false kind.most_representatives h.R q₁.0;
      one = ltb-false h.C 1 q₃.0;
      four = ltb-false 4 h.C q₃.1;
      long = eqb-true (length sheet) (kind.length_of h.R h.C) (not-false _ p₆.1);
    }

pub record Headed (x : Stated) : Type 0 where
  pub length_stated : Length x.n
  pub one : 1 ≤ length x.certificates
  pub four : length x.certificates ≤ 4

pub headed : (kind : Kind) → kind.most_places ≤ 65535 → (sheet : List ℕ) → wrong_code_length kind (stated_by kind sheet).n ≡ false
    → wrong_degree (stated_by kind sheet).n ≡ false → wrong_header kind sheet ≡ false → Headed (stated_by kind sheet)
unfolding wrong_degree
headed kind small sheet e₂ e₃ e₄ =
    let k = counted kind sheet e₄ in
    let l = certificates_length kind sheet in
    record {
      length_stated = record {
        odd = odd_length small (odd_to kind (stated_by kind sheet).n e₂);
        most = ltb-false 12 (order_of_two (stated_by kind sheet).n) e₃;
      };
      one = omega (arith, l, k.one);
      four = omega (arith, l, k.four);
    }
