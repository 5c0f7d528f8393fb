-- The walk through a coset: r, 2r, 4r, .. modulo n, until it is back at r.
--
--   walk n r j               the last of the coset's first j members r, 2r, 4r, .. to the first
--   length_walk              it has j members
--   length_stated, degree_of     what CosetOf says in the words of the theory and of the field
--   Walking n r m x          m members are met, x is the next, and since the first none was r
--   walking_start, walking_more      it holds at r, and is kept where the next is not r
--   walking_lt               the next is the s-th at the latest
--   walking_end              all members are met, where the next is r
--   walked_more              they are more than those of an earlier walk
use mathlib.Core.Path.{◌≡◌, refl, sym, ap, ◌∙◌, subst}
use mathlib.Core.Logic.{◌≢◌}
use mathlib.Core.List.{List, [], ◌∷◌}
use Prim.Native.Nat.{ℕ, zero, suc, ◌+◌, ◌*◌, ◌%◌, ◌^◌, ◌≤◌, ◌<◌}
use native.Mathlib.Decide.{ℕ_discrete, dec_lt}
use native.Mathlib.Omega.{arith}
use lib.ListN.{length}
use Rattle.field.specs.Field.{Degree}
use Rattle.field.proofs.OrderOfTwo.{order_pos, count_lt}
use Rattle.document.proofs.Theory.{Length, degree}
use Rattle.document.proofs.Cosets.{round, walk_start, walk_more}
use Rattle.generator.specs.Coset.{CosetOf, CosetWalked}

unfoldable pub walk : ℕ → ℕ → ℕ → List ℕ
walk n r zero = []
walk n r (suc j) = (r * 2 ^ j % n) ∷ walk n r j

pub length_walk : (n r m : ℕ) → length (walk n r m) ≡ m
unfolding walk
length_walk n r zero = refl
length_walk n r (suc m) = ap suc (length_walk n r m)

pub record Walking (n r m x : ℕ) : Type 0 where
  pub x_is : x ≡ r * 2 ^ m % n
  pub x_lt : x < n
  pub first : (j : ℕ) → 0 < j → j ≤ m → r * 2 ^ j % n ≢ r

module _ {n s r : ℕ} (w : CosetOf n s r) where
  pub length_stated : Length n
  length_stated = record { odd = w.odd; most = omega (arith, w.s_is, w.small) }

  pub degree_of : Degree s
  degree_of = subst Degree (sym w.s_is) (degree length_stated)

  pub walking_start : Walking n r 0 r
  walking_start = record { x_is = walk_start w.r_lt; x_lt = w.r_lt; first = λ j h k. absurd (omega arith) }

  module _ {m x : ℕ} (t : Walking n r m x) where
    pub walking_lt : m < s
    walking_lt =
        elim (dec_lt m s) [
          | yes h ↦ h
          | no h ↦ absurd
              (t.first s (omega (arith, w.s_is, order_pos n)) (omega arith)
              (ap (λ (k : ℕ). r * 2 ^ k % n) w.s_is ∙ round w.odd w.r_lt))
        ]

    module _ {y : ℕ} (e : y ≡ x * 2 % n) where
      next_is : y ≡ r * 2 ^ (m + 1) % n
      next_is = walk_more w.odd r m t.x_is e

      pub walking_more : y ≢ r → Walking n r (m + 1) y
      walking_more h = record {
        x_is = next_is;
        x_lt = count_lt w.odd x y e;
        first = λ j b c. elim (ℕ_discrete j (m + 1)) [
          | yes q ↦ λ z. h (next_is ∙ ap (λ (i : ℕ). r * 2 ^ i % n) (sym q) ∙ z)
          | no q ↦ t.first j b (omega arith)
        ];
      }

      pub walking_end : y ≡ r → CosetWalked n s r (m + 1)
      walking_end h = record {
        pos = omega arith;
        most = omega (arith, walking_lt);
        back = sym next_is ∙ h;
        first = λ j b c. t.first j b (omega arith);
      }

pub walked_more : {n s r m x k : ℕ} → Walking n r m x → CosetWalked n s r k → m < k
walked_more {m = m} {k = k} t w = elim (dec_lt m k) [ yes h ↦ h | no h ↦ absurd (t.first k (omega (arith, w.pos)) (omega arith) w.back) ]
