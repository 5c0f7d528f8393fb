-- What does not go into a buffer of more than 74 bytes does not matter: a stream of more than 74 bytes has the listing of refusal 1,
-- whatever they are.
--
--   long_refused    "more than 74 bytes is refusal 1"
--   read_enough     so a stream's listing is that of what a buffer of more than 74 bytes takes of it
--   listed_within   and the buffer for it holds it
use mathlib.Core.Path.{◌≡◌, refl, sym, ap, ◌∙◌}
use mathlib.Core.Bool.{Bool, true, false, ◌||◌}
use mathlib.Core.List.{List, [], ◌∷◌, ◌++◌}
use Prim.Native.Nat.{ℕ, ◌≤◌, ◌<◌}
use native.Mathlib.Decide.{dec_lt}
use native.Mathlib.Omega.{arith}
use lib.Dec.{ltb, lt→ltb, T}
use lib.ListN.{length, get_or, take, drop, length-take}
use lib.Seq.{length-take-le, take_all}
use Rattle.std.specs.Prelude.{Result, Ok}
use Rattle.document.specs.declared.types.Refusal.{Refusal}
use Rattle.document.specs.Answer.{Answer, Conditions, first_of, settle, replied_as}
use Rattle.document.specs.Sheet.{wrong_length}
use Rattle.document.specs.Judge.{judge_conditions, sheet_conditions}
use Rattle.document.specs.Card.{listing_for, listing_of, refused_line, card_conditions, card_entry}
use Rattle.document.specs.Short.{short, stated, refusals_of, listing, card_of}
use Rattle.code.proofs.Fits.{card_fits}

over : (a b c : Bool) → T b → (a || b || c) ≡ true
over true b c t = refl
over false true c t = refl
over false false c t = absurd t

first : (b : Bool) (rest : Conditions) → b ≡ true → first_of ((1, b) ∷ rest) ≡ 1
unfolding first_of
first b rest e = ap (λ (x : Bool). elim x [ true ↦ 1 | false ↦ first_of rest ]) e

long_first : (stream : List ℕ) → 74 < length stream → first_of (refusals_of stream) ≡ 1
unfolding judge_conditions sheet_conditions wrong_length
long_first stream h = first (wrong_length short stream) _ (over (ltb (length stream) 10) (ltb 74 (length stream)) _ (lt→ltb 74 (length stream) h))

pub long_refused : (stream : List ℕ) → 74 < length stream → listing stream ≡ refused_line 1
unfolding listing_of listing_for
long_refused stream h = ap (λ (r : ℕ). listing_for r (stated stream)) (long_first stream h)

-- the buffer after a text was put into it
filled : List ℕ → List ℕ → Answer × List ℕ
filled out text = settle (first_of (card_conditions 1024 out)) (length text ∷ []) (text ++ drop (length text) out) out

pub read_enough : (room : ℕ) → 74 < room → (stream out : List ℕ) → card_of (take room stream) out ≡ card_of stream out
unfolding card_entry filled
read_enough room b stream out = go (dec_lt room (length stream))
  where
    go : Dec (room < length stream) → card_of (take room stream) out ≡ card_of stream out
    go (yes h) =
        let e : length (take room stream) ≡ room = length-take-le room stream (omega arith) in
        ap (filled out) (long_refused (take room stream) (omega arith) ∙ sym (long_refused stream (omega arith)))
    go (no h) = ap (λ (x : List ℕ). card_of x out) (take_all room stream (omega arith))

pub listed_within : {reply : Result ℕ Refusal} {end : ℕ} {o : List ℕ} (room size : ℕ) (buffer out : List ℕ) → length buffer ≡ room
    → length o ≡ 1024 → ((stream : List ℕ) → take room stream ≡ take size buffer → (replied_as reply, o) ≡ card_of stream out)
    → reply ≡ Ok end → end ≤ length o
listed_within {reply} {end} {o} room size buffer out b l h e =
    let read : List ℕ = take size buffer in
    let v : get_or (replied_as reply).values 0 0 ≡ get_or (card_of read out).0.values 0 0 =
    ap (λ (p : Answer × List ℕ). get_or p.0.values 0 0) (h read (take_all room read (omega (arith, length-take size buffer)))) in
    let r : get_or (replied_as reply).values 0 0 ≡ end = ap (λ (q : Result ℕ Refusal). get_or (replied_as q).values 0 0) e in
    omega (arith, v, r, card_fits read out)
