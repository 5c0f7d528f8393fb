-- The pieces that loops write, one turn more at a time.
--
--   member_none, member_marked      a place that is not marked, and one that is
--   rows_start, rows_more, rows_end      one piece more
use mathlib.Core.Path.{◌≡◌, refl, sym, ap}
use mathlib.Core.Logic.{◌≢◌}
use mathlib.Core.List.{List}
use Prim.Native.Nat.{ℕ, zero, suc, ◌+◌, ◌≤◌}
use native.Mathlib.Numerals.{add-one}
use lib.ListN.{length}
use Rattle.document.specs.Card.{spaced}
use Rattle.listing.specs.declared.piece.Page.{Page}
use Rattle.listing.specs.Wrote.{Adds}
use Rattle.listing.specs.Text.{rows, member}
use Rattle.listing.proofs.Writing.{adds_is, adds_none, then}

pub member_none : (mark i : ℕ) {a : Page} → mark ≡ 0 → a.end ≤ length a.out.now → Adds (member mark i) a a
member_none mark i e h = adds_is (sym (ap (λ (m : ℕ). member m i) e)) (adds_none h)

marked : (mark i : ℕ) → mark ≢ 0 → spaced i ≡ member mark i
marked zero i n = absurd (n refl)
marked (suc mark) i n = refl

pub member_marked : (mark i : ℕ) {a b : Page} → mark ≢ 0 → Adds (spaced i) a b → Adds (member mark i) a b
member_marked mark i n w = adds_is (marked mark i n) w

module _ (piece : ℕ → List ℕ) where
  pub rows_start : {a : Page} → a.end ≤ length a.out.now → Adds (rows piece 0) a a
  unfolding rows
  rows_start h = adds_none h

  pub rows_more : (i : ℕ) {a b c : Page} → Adds (rows piece i) a b → Adds (piece i) b c → Adds (rows piece (i + 1)) a c
  unfolding rows
  rows_more i x y = adds_is (sym (ap (rows piece) (add-one i))) (then x y)

  pub rows_end : {i n : ℕ} {a b : Page} → i ≡ n → Adds (rows piece i) a b → Adds (rows piece n) a b
  rows_end q w = adds_is (ap (rows piece) q) w
