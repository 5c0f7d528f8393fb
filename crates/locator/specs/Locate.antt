-- What the search for places is asked, and what it says.
--
--   Noted             place i written as entry c of a list, and counted where it is hit
--   NotedBelow        the same where it is below n, and else none
--   hits n test       the mask of the places below n that pass the test
--   Found             what a search for places says that stops as soon as there are more than t
--   Search, Located   the same for the places at which f(α^(i z) x) divides a locator
use Rattle.std.specs.Prelude.{◌≡◌, Bool, ◌↔◌, List, ℕ, ◌*◌, ◌^◌, ◌≤◌, ◌<◌, length, set}
use Rattle.algebra.proofs.Power.{pow}
use Rattle.algebra.proofs.Coprime.{Divides}
use Rattle.algebra.proofs.Poly.{Polys}
use Rattle.algebra.proofs.Substitute.{sub}
use Rattle.field.specs.Mask.{coefficient}
use Rattle.field.specs.Field.{Degree, OddLength, order_of_two}
use Rattle.field.proofs.Elements.{GF, root}
use Rattle.cyclic.proofs.Lift.{lift}
use Rattle.cyclic.proofs.Places.{gather, count}
use Rattle.binary.specs.Factor.{Modulus}
use Rattle.field.specs.Search.{bit}
use Rattle.syndrome.specs.Sums.{Listed}
use Rattle.poly.specs.Slice.{series}
use Rattle.locator.specs.declared.terms.Term.{Term}
use Rattle.locator.specs.declared.terms.Lanes.{Lanes}
use Rattle.locator.specs.Terms.{LocatorSlices}

pub record Noted (hit : Bool) (c i : ℕ) (places places' : List ℕ) (r : ℕ) : Type 0 where
  pub is : r ≡ bit hit
  pub made : places' ≡ set places c i

pub record NotedBelow (n : ℕ) (hit : Bool) (c i : ℕ) (places places' : List ℕ) (r : ℕ) : Type 0 where
  pub inside : i < n → Noted hit c i places places' r
  pub outside : n ≤ i → (r ≡ 0) × (places' ≡ places)

unfoldable pub hits : ℕ → (ℕ → Bool) → ℕ
hits n test = gather n (λ i. bit (test i))

-- r places if they are at most t, all of them listed; if not, there are more than t
pub record Found (n t mask : ℕ) (places : List ℕ) (r : ℕ) : Type 0 where
  pub all : r ≤ t → (r ≡ count n mask) × Listed n mask places r
  pub many : t < r → t < count n mask

pub record Search (n s z f u : ℕ) (lam : List ℕ) (terms : List Term) (words : List Lanes) (places : List ℕ) : Type 0 where
  pub odd : OddLength n
  pub s_is : s ≡ order_of_two n
  pub z_lo : 1 ≤ z
  pub z_hi : z < n
  pub modulus : Modulus f u
  pub locator : LocatorSlices s lam terms words
  pub list_long : n ≤ length places

pub record Located (n s z f t : ℕ) (lam places : List ℕ) (r : ℕ) : Type 0 where
  pub mask : ℕ
  pub small : mask < 2 ^ n
  pub means : (d : Degree s) (i : ℕ) → i < n
      → Divides (Polys (GF d)) (sub (GF d) (pow (GF d) (root d n) (i * z)) (lift (GF d) f)) (series d lam)
      ↔ (coefficient i mask ≡ 1)
  pub found : Found n t mask places r
