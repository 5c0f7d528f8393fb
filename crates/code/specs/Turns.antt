-- The conditions of refusals as statements, in the order in which they are tried.
--
--   Turns                    conditions with the numbers of their refusals
--   FirstThatHolds turns r   r is the number of one that holds, and none before it does
--   NoneHolds turns          none of them holds
use Rattle.std.specs.Prelude.{◌≡◌, ◌⊎◌, List, [], ◌∷◌, ℕ}

abbrev pub Turns : Type 1
Turns = List (ℕ × Type 0)

abbrev pub FirstThatHolds : Turns → ℕ → Type 0
FirstThatHolds [] r = ⊥
FirstThatHolds (turn ∷ rest) r = ((turn.0 ≡ r) × turn.1) ⊎ (¬ turn.1 × FirstThatHolds rest r)

abbrev pub NoneHolds : Turns → Type 0
NoneHolds [] = Unit
NoneHolds (turn ∷ rest) = ¬ turn.1 × NoneHolds rest
