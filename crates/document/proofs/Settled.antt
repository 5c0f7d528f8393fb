-- What an entry answers, by its conditions; of any lent buffers.
--
--   entry_sheet                 a refused sheet, for any entry
--   entry_quiet                 an accepted one: its conditions may be left out
--   sheet_before, entry_between      a refused sheet where conditions stand between the sheet's and the entry's own, and one of these
--   entry_refused, entry_done   a later condition, none
--   first_nil            no condition is left
--   size_wrong, size_right      a buffer's length
use mathlib.Core.Path.{◌≡◌, refl, sym, ap, ◌∙◌}
use mathlib.Core.Logic.{◌≢◌}
use mathlib.Core.Bool.{true, false, not}
use mathlib.Core.List.{List, [], ◌++◌, append_assoc}
use Prim.Native.Nat.{ℕ, zero, suc, ◌<◌}
use native.Mathlib.Omega.{arith}
use lib.ListN.{length}
use borrow.Author.Tests.{eq-eqb, ne_eqb}
use Rattle.document.specs.Answer.{Answer, returned, refused, Conditions, first_of, settle_in}
use Rattle.document.specs.Layout.{bytes_for}
use Rattle.document.specs.Sheet.{Stated}
use Rattle.document.specs.Judge.{record_of, judge_entry}
use Rattle.document.specs.Entry.{wrong_size}
use Rattle.document.proofs.Sane.{settle_number}
use Rattle.document.proofs.Chain.{Quiet, first_quiet, first_keep}

-- ---- any entry: the sheet's conditions, and its own
module _ {B : Type 0} (sheet : Conditions) (x : Stated) (conds : Conditions) (v : List ℕ) (w old : B) where
  abbrev answer : Answer × B
  answer = settle_in (first_of (sheet ++ conds)) v w old

  settled : (r : ℕ) → first_of (sheet ++ conds) ≡ suc r → (refused (suc r), old) ≡ answer
  unfolding settle_in
  settled r e = sym (ap (λ (x : ℕ). settle_in x v w old) e)

  judged_first : (r : ℕ) → refused (suc r) ≡ judge_entry sheet x → first_of sheet ≡ suc r
  unfolding judge_entry
  judged_first r e = sym (settle_number {B = List ℕ} (first_of sheet) (record_of x) [] []) ∙ sym (ap (λ (a : Answer). a.number) e)

  pub entry_sheet : (r : ℕ) → 0 < r → refused r ≡ judge_entry sheet x → (refused r, old) ≡ answer
  entry_sheet zero h e = absurd (omega arith)
  entry_sheet (suc r) h e = settled r (first_keep sheet conds r (judged_first r e))

-- ---- conditions between the sheet's and the entry's own
module _ {B : Type 0} (sheet between conds : Conditions) (x : Stated) (v : List ℕ) (w old : B) where
  three : first_of (sheet ++ (between ++ conds)) ≡ first_of ((sheet ++ between) ++ conds)
  three = ap first_of (sym (append_assoc sheet between conds))

  pub sheet_before : (r : ℕ) → 0 < r → refused r ≡ judge_entry sheet x → (refused r, old) ≡ settle_in (first_of ((sheet ++ between) ++ conds)) v w old
  sheet_before r h e = entry_sheet sheet x (between ++ conds) v w old r h e ∙ ap (λ (q : ℕ). settle_in q v w old) three

  pub entry_between : (r : ℕ) → Quiet sheet → first_of between ≡ suc r → (refused (suc r), old) ≡ settle_in (first_of ((sheet ++ between) ++ conds)) v w old
  unfolding settle_in
  entry_between r q e =
      sym (ap (λ (i : ℕ). settle_in i v w old) (sym three ∙ first_quiet (between ++ conds) q ∙ first_keep between conds r e))

-- ---- an accepted sheet: its conditions are quiet
module _ {B : Type 0} (conds : Conditions) (v : List ℕ) (w old : B) where
  pub entry_quiet : {sheet : Conditions} → Quiet sheet → settle_in (first_of conds) v w old ≡ settle_in (first_of (sheet ++ conds)) v w old
  entry_quiet q = ap (λ (r : ℕ). settle_in r v w old) (sym (first_quiet conds q))

  pub entry_refused : (r : ℕ) → first_of conds ≡ suc r → (refused (suc r), old) ≡ settle_in (first_of conds) v w old
  unfolding settle_in
  entry_refused r e = sym (ap (λ (x : ℕ). settle_in x v w old) e)

  pub entry_done : {w' : B} → first_of conds ≡ 0 → w' ≡ w → (returned v, w') ≡ settle_in (first_of conds) v w old
  unfolding settle_in
  entry_done e f = ap (λ (x : B). (returned v, x)) f ∙ sym (ap (λ (x : ℕ). settle_in x v w old) e)

-- ---- conditions
pub first_nil : first_of [] ≡ 0
unfolding first_of
first_nil = refl

pub size_wrong : (k : ℕ) (b : List ℕ) → length b ≢ bytes_for k → wrong_size k b ≡ true
size_wrong k b h = ap not (ne_eqb (length b) (bytes_for k) h)

pub size_right : (k : ℕ) (b : List ℕ) → length b ≡ bytes_for k → wrong_size k b ≡ false
size_right k b h = ap not (eq-eqb (length b) (bytes_for k) h)
