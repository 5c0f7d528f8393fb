-- The generator in the making. No entry's contract cites this file.
--
--   Rising n reps          representatives below n, strictly rising, each the smallest of its coset
--   Lengths n s            an odd length with its s, at most 12
--   RoomWhereSmall s e g   room for the tables of one round, where s is at most 8
--   Multiplied f p p' w'   p' holds f times what p held, without what came up past its last number, and w' holds 0
use Rattle.std.specs.Prelude.{◌≡◌, true, List, ℕ, ◌%◌, ◌^◌, ◌≤◌, ◌<◌, length, get_or}
use Rattle.field.specs.Mask.{clmul}
use Rattle.field.specs.Field.{OddLength, order_of_two}
use Rattle.field.specs.Tables.{RoundFillable}
use Rattle.document.specs.Coset.{smallest}
use Rattle.binary.specs.Packed.{packed, places_in}

pub record Rising (n : ℕ) (reps : List ℕ) : Type 0 where
  pub below : (i : ℕ) → i < length reps → get_or reps i 0 < n
  pub least : (i : ℕ) → i < length reps → smallest n (get_or reps i 0) ≡ true
  pub rising : (i j : ℕ) → i < j → j < length reps → get_or reps i 0 < get_or reps j 0

pub record Lengths (n s : ℕ) : Type 0 where
  pub odd : OddLength n
  pub s_is : s ≡ order_of_two n
  pub small : s ≤ 12

pub record RoomWhereSmall (s : ℕ) (e g : List ℕ) : Type 0 where
  pub room : s ≤ 8 → RoundFillable s e g

pub record Multiplied (f : ℕ) (p p' w' : List ℕ) : Type 0 where
  pub is : packed p' ≡ clmul f (packed p) % 2 ^ places_in p
  pub clear : packed w' ≡ 0
