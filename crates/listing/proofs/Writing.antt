-- Pieces written one after the other.
--
--   wrote_none, wrote_one      nothing, and a byte
--   wrote_length     the slice keeps its length
--   after            a piece after a piece
--   piece_is         the same piece by another name
--   adds_is, adds_none, then, join      the same on a page; and a piece that has two parts
--   page             what a whole text leaves, as an entry answers it
use mathlib.Core.Path.{◌≡◌, refl, sym, ap, ap₂, ◌∙◌, subst}
use mathlib.Core.List.{List, [], ◌∷◌, ◌++◌, append_assoc, append-nil}
use Prim.Native.Nat.{ℕ, suc, ◌+◌, ◌≤◌, ◌<◌}
use native.Mathlib.Nat.{zero-add}
use native.Mathlib.Numerals.{add-one}
use native.Mathlib.Omega.{arith}
use lib.ListN.{length, take, drop, set, length-append, length-drop, take-append-drop}
use lib.Seq.{length-take-le, append_snoc, set_split, take_at, drop-append-add, drop-drop}
use Rattle.document.specs.Answer.{Answer, returned}
use Rattle.listing.specs.declared.piece.Page.{Page}
use Rattle.listing.specs.Wrote.{Wrote, Adds}

pub piece_is : {p q : List ℕ} {at end : ℕ} {out out' : List ℕ} → p ≡ q → Wrote p at out out' end → Wrote q at out out' end
piece_is {p} {q} {at} {end} {out} {out'} e w = subst (λ (x : List ℕ). Wrote x at out out' end) e w

pub wrote_none : {at : ℕ} {out : List ℕ} → at ≤ length out → Wrote [] at out out at
wrote_none {at} {out} h = record {
  end_is = omega arith;
  within = h;
  is = let e : at + 0 ≡ at = omega arith in
      sym (ap (λ (k : ℕ). take at out ++ [] ++ drop k out) e ∙ ap (λ (r : List ℕ). r ++ drop at out) (append-nil (take at out))
      ∙ take-append-drop at out);
}

pub wrote_one : {at byte : ℕ} {out : List ℕ} → at < length out → Wrote (byte ∷ []) at out (set out at byte) (at + 1)
wrote_one {at} {byte} {out} h = record {
  end_is = refl;
  within = omega arith;
  is = set_split out at byte h ∙ sym (append_snoc (take at out) byte (drop (suc at) out))
      ∙ ap (λ (k : ℕ). take at out ++ (byte ∷ []) ++ drop k out) (sym (add-one at));
}

module _ {p : List ℕ} {at e : ℕ} {o o₁ : List ℕ} (a : Wrote p at o o₁ e) where
  start_le : at ≤ length o
  start_le = omega (arith, a.end_is, a.within)

  head_length : length (take at o ++ p) ≡ e
  head_length = omega (arith, length-append (take at o) p, length-take-le at o start_le, a.end_is)

  pub wrote_length : length o₁ ≡ length o
  wrote_length =
      let tail : List ℕ = drop (at + length p) o in
      ap length a.is
      ∙ omega (arith, length-append (take at o ++ p) tail, head_length, length-drop (at + length p) o, a.end_is, a.within)

  pub after : {q : List ℕ} {e₂ : ℕ} {o₂ : List ℕ} → Wrote q e o₁ o₂ e₂ → Wrote (p ++ q) at o o₂ e₂
  after {q} {e₂} {o₂} b = record {
    end_is = omega (arith, a.end_is, b.end_is, length-append p q);
    within = omega (arith, b.within, wrote_length);
    is = b.is ∙ ap₂ (λ (x y : List ℕ). x ++ q ++ y) front back
        ∙ ap (λ (x : List ℕ). x ++ drop (at + length (p ++ q)) o) (append_assoc (take at o) p q);
  }
    where
      front : take e o₁ ≡ take at o ++ p
      front = ap (take e) a.is ∙ take_at (take at o ++ p) (drop (at + length p) o) e head_length

      back : drop (e + length q) o₁ ≡ drop (at + length (p ++ q)) o
      back =
          let s : at + length p + length q ≡ at + length (p ++ q) = omega (arith, length-append p q) in
          ap (drop (e + length q)) a.is
          ∙ ap (λ (k : ℕ). drop (k + length q) (take at o ++ p ++ drop (at + length p) o)) (sym head_length)
          ∙ drop-append-add (take at o ++ p) (drop (at + length p) o) (length q)
          ∙ drop-drop (length q) (at + length p) o
          ∙ ap (λ (k : ℕ). drop k o) s

-- ---- pages
pub adds_is : {p q : List ℕ} {a b : Page} → p ≡ q → Adds p a b → Adds q a b
adds_is e w = record { same = w.same; long = w.long; wrote = piece_is e w.wrote }

pub adds_none : {a : Page} → a.end ≤ length a.out.now → Adds [] a a
adds_none h = record { same = refl; long = refl; wrote = wrote_none h }

module _ {p : List ℕ} {a b : Page} (x : Adds p a b) where
  pub then : {q : List ℕ} {c : Page} → Adds q b c → Adds (p ++ q) a c
  then y = record { same = y.same ∙ x.same; long = y.long ∙ x.long; wrote = after x.wrote y.wrote }

  -- lines are left-nested sums of words and numbers, and a word goes with the number after it
  pub join : (q r : List ℕ) {c : Page} → Adds (q ++ r) b c → Adds (p ++ q ++ r) a c
  join q r y = adds_is (sym (append_assoc p q r)) (then y)

pub page : {text out out' : List ℕ} {r : ℕ} → Wrote text 0 out out' r
    → ◌≡◌ {A = Answer × List ℕ} (returned (r ∷ []), out') (returned (length text ∷ []), text ++ drop (length text) out)
page {text} {out} {out'} {r} w =
    ap₂ (λ (k : ℕ) (l : List ℕ). (returned (k ∷ []), l)) (w.end_is ∙ zero-add (length text))
    (w.is ∙ ap (λ (k : ℕ). text ++ drop k out) (zero-add (length text)))
