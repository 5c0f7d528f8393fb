-- Conditions that are computed, and the same as statements.
--
--   Says b P                 the test b is true exactly when P holds; stable: so P holds where it is not refuted; same: two numbers are equal there
--   Said top conditions turns      row by row: one number, from 1 to top; and where no row before holds, the test says the statement
--   said_none, said_first    so no test is true exactly when no statement holds, and the first true one is the first that holds
--   said_le                  its number is at most top; said_quiet: where none holds, the tests are quiet
--   said_append              lists one after the other
--   answered, judged_answered      what is answered by them
use mathlib.Core.Path.{◌≡◌, refl, sym, ◌∙◌, subst}
use mathlib.Core.Logic.{◌↔◌, ◌⊎◌, inl, inr}
use mathlib.Core.Bool.{Bool, true, false}
use mathlib.Core.List.{List, [], ◌∷◌, ◌++◌}
use Prim.Native.Nat.{ℕ, zero, suc, ◌≤◌, ◌<◌}
use native.Mathlib.Omega.{arith}
use Rattle.field.proofs.Search.{true_ne_false}
use Rattle.document.specs.Answer.{Conditions, first_of, settle_in, settle}
use Rattle.document.proofs.Sane.{settle_number}
use Rattle.document.proofs.Chain.{Quiet, silent, passing, first_true, first_false}
use Rattle.document.proofs.Reflect.{Says, eqb_iff}
use Rattle.code.specs.Turns.{Turns, FirstThatHolds, NoneHolds}
use Rattle.code.specs.Table.{last_refusal, Answered}

abbrev pub Said : ℕ → Conditions → Turns → Type 0
Said top [] [] = Unit
Said top [] (turn ∷ turns) = ⊥
Said top (c ∷ conditions) [] = ⊥
Said top (c ∷ conditions) (turn ∷ turns) =
    (0 < c.0) × (c.0 ≤ top) × (c.0 ≡ turn.0) × Says c.1 turn.1 × (¬ turn.1 → Said top conditions turns)

-- one row, by the way the test comes out
holds_or : (b : Bool) (P : Type 0) → Says b P → ((b ≡ true) × P) ⊎ ((b ≡ false) × ¬ P)
holds_or true P w = inl (refl, w.0 refl)
holds_or false P w = inr (refl, λ p. true_ne_false (w.1 p) refl)

pub stable : {b : Bool} {P : Type 0} → Says b P → ¬ ¬ P → P
stable {b} {P} w n = elim (holds_or b P w) [ inl h ↦ h.1 | inr h ↦ absurd (n h.1) ]

pub same : {a b : ℕ} → ¬ ¬ (a ≡ b) → a ≡ b
same {a} {b} n = stable (eqb_iff a b) n

module _ (top : ℕ) where
  pub said_none : (l : Conditions) (t : Turns) → Said top l t → (first_of l ≡ 0) ↔ NoneHolds t
  unfolding first_of
  said_none [] [] s = (λ e. tt, λ u. refl)
  said_none [] (turn ∷ t) s = absurd s
  said_none (c ∷ l) [] s = absurd s
  said_none (c ∷ l) (turn ∷ t) s =
      elim (holds_or c.1 turn.1 s.3) [
        | inl h ↦ (
          λ e. absurd (omega (arith, s.0, first_true c l h.0, e)),
          λ n. absurd (n.0 h.1),
        )
        | inr h ↦ (let ih = said_none l t (s.4 h.1) in (
          λ e. (h.1, ih.0 (sym (first_false c l h.0) ∙ e)),
          λ n. first_false c l h.0 ∙ ih.1 n.1,
        ))
      ]

  pub said_first : (l : Conditions) (t : Turns) → Said top l t → (r : ℕ) → 0 < r → (first_of l ≡ r) ↔ FirstThatHolds t r
  unfolding first_of
  said_first [] [] s r p = (λ e. absurd (omega arith), λ h. absurd h)
  said_first [] (turn ∷ t) s r p = absurd s
  said_first (c ∷ l) [] s r p = absurd s
  said_first (c ∷ l) (turn ∷ t) s r p =
      elim (holds_or c.1 turn.1 s.3) [
        | inl h ↦ (
          λ e. inl (sym s.2 ∙ sym (first_true c l h.0) ∙ e, h.1),
          λ f. elim f [ inl g ↦ first_true c l h.0 ∙ s.2 ∙ g.0 | inr g ↦ absurd (g.0 h.1) ],
        )
        | inr h ↦ (let ih = said_first l t (s.4 h.1) r p in (
          λ e. inr (h.1, ih.0 (sym (first_false c l h.0) ∙ e)),
          λ f. elim f [ inl g ↦ absurd (h.1 g.1) | inr g ↦ first_false c l h.0 ∙ ih.1 g.1 ],
        ))
      ]

  pub said_le : (l : Conditions) (t : Turns) → Said top l t → first_of l ≤ top
  unfolding first_of
  said_le [] [] s = omega arith
  said_le [] (turn ∷ t) s = absurd s
  said_le (c ∷ l) [] s = absurd s
  said_le (c ∷ l) (turn ∷ t) s =
      elim (holds_or c.1 turn.1 s.3) [
        | inl h ↦ subst (λ (r : ℕ). r ≤ top) (sym (first_true c l h.0)) s.1
        | inr h ↦ subst (λ (r : ℕ). r ≤ top) (sym (first_false c l h.0)) (said_le l t (s.4 h.1))
      ]

  pub said_quiet : (l : Conditions) (t : Turns) → Said top l t → NoneHolds t → Quiet l
  said_quiet [] [] s n = silent
  said_quiet [] (turn ∷ t) s n = absurd s
  said_quiet (c ∷ l) [] s n = absurd s
  said_quiet (c ∷ l) (turn ∷ t) s n =
      elim (holds_or c.1 turn.1 s.3) [
        | inl h ↦ absurd (n.0 h.1)
        | inr h ↦ passing h.0 (said_quiet l t (s.4 h.1) n.1)
      ]

  pub said_append : (a : Conditions) (s : Turns) (b : Conditions) (t : Turns) → Said top a s → (NoneHolds s → Said top b t)
      → Said top (a ++ b) (s ++ t)
  said_append [] [] b t p q = q tt
  said_append [] (turn ∷ s) b t p q = absurd p
  said_append (c ∷ a) [] b t p q = absurd p
  said_append (c ∷ a) (turn ∷ s) b t p q =
      (p.0, p.1, p.2, p.3, λ n. said_append a s b t (p.4 n) (λ h. q (n, h)))

-- ---- what is answered
settled_alone : {B : Type 0} (r : ℕ) (v : List ℕ) (w old : B) → 0 < (settle_in r v w old).0.number
    → ((settle_in r v w old).0.values ≡ []) × ((settle_in r v w old).1 ≡ old)
unfolding settle_in
settled_alone zero v w old h = absurd (omega arith)
settled_alone (suc r) v w old h = (refl, refl)

pub answered : {B : Type 0} (l : Conditions) (t : Turns) → Said last_refusal l t → (v : List ℕ) (w old : B)
    → Answered t (settle_in (first_of l) v w old) old
answered l t s v w old =
    let e : (settle_in (first_of l) v w old).0.number ≡ first_of l = settle_number (first_of l) v w old in
    record {
      range = subst (λ (r : ℕ). r ≤ last_refusal) (sym e) (said_le last_refusal l t s);
      done = (λ q. (said_none last_refusal l t s).0 (sym e ∙ q), λ n. e ∙ (said_none last_refusal l t s).1 n);
      refused = λ r p. (λ q. (said_first last_refusal l t s r p).0 (sym e ∙ q), λ h. e ∙ (said_first last_refusal l t s r p).1 h);
      alone = settled_alone (first_of l) v w old;
    }

-- judging has no lent buffer
judged_pair : (r : ℕ) (v : List ℕ) → settle r v [] [] ≡ ((settle r v [] []).0, [])
unfolding settle_in
judged_pair zero v = refl
judged_pair (suc r) v = refl

pub judged_answered : (l : Conditions) (t : Turns) → Said last_refusal l t → (v : List ℕ) → Answered {B = List ℕ} t ((settle (first_of l) v [] []).0, []) []
judged_answered l t s v = subst (λ y. Answered {B = List ℕ} t y []) (judged_pair (first_of l) v) (answered {B = List ℕ} l t s v [] [])
