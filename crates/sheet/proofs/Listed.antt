-- The loop over the representatives: refusal 5, and D marked coset by coset.
--
--   MarkedUpTo i least z        the first i representatives are right, and z marks their cosets
--   listed_more, listed_end      the loop
--   wrong_range, wrong_order, wrong_coset      its exits
--   Walk, walk_range .. walk_end      the same with s, as the code holds it
use mathlib.Core.Path.{◌≡◌, refl, sym, ap, ap₂, ◌∙◌, subst}
use mathlib.Core.Logic.{◌≢◌}
use mathlib.Core.Bool.{Bool, true, false, not, ◌||◌, ◌&&◌}
use mathlib.Core.List.{List, [], ◌∷◌, ◌++◌}
use Prim.Native.Nat.{ℕ, suc, ◌+◌, ◌-◌, ◌≤◌, ◌<◌}
use native.Mathlib.Decide.{ℕ_discrete}
use native.Mathlib.Numerals.{add-one}
use native.Mathlib.Omega.{arith}
use lib.Dec.{leb, ltb}
use lib.ListN.{length, get_or, take}
use lib.Seq.{take-suc, take_all}
use borrow.Author.Tests.{lt-ltb, le-ltb, le-leb, lt-leb}
use Rattle.field.specs.Search.{up_to, some, bit}
use Rattle.field.specs.Field.{OddLength, order_of_two}
use Rattle.field.proofs.Search.{some_of, some_false, some_append}
use Rattle.document.specs.Coset.{in_coset, smallest, in_set}
use Rattle.document.specs.Judge.{wrong_representative}
use Rattle.sheet.specs.Stage.{Marks, Marked, SetMarked}

abbrev rep : List ℕ → ℕ → ℕ
rep reps i = get_or reps i 0

abbrev wrong : ℕ → List ℕ → ℕ → Bool
wrong n reps i =
    not (ltb (rep reps i) n)
    || not (smallest n (rep reps i))
    || (leb 1 i && not (ltb (rep reps (i - 1)) (rep reps i)))

wrong_is : (n : ℕ) (reps : List ℕ) → wrong_representative n reps ≡ some (wrong n reps) (up_to (length reps))
unfolding wrong_representative
wrong_is n reps = refl

module _ (n : ℕ) (reps : List ℕ) where
  pub record MarkedUpTo (i least : ℕ) (z : List ℕ) : Type 0 where
    pub right : (k : ℕ) → k < i → wrong n reps k ≡ false
    pub first : i ≡ 0 → least ≡ 0
    pub later : 0 < i → least ≡ suc (rep reps (i - 1))
    pub marks : Marks n (take i reps) z

  found : {i : ℕ} → i < length reps → wrong n reps i ≡ true → true ≡ wrong_representative n reps
  found {i} h e = sym (wrong_is n reps ∙ some_of (wrong n reps) (length reps) i h e)

  pub wrong_range : {i : ℕ} → i < length reps → n ≤ rep reps i → true ≡ wrong_representative n reps
  wrong_range {i} h l = found h (simp (le-ltb (rep reps i) n l))

  or_true : (a : Bool) → a || true ≡ true
  or_true true = refl
  or_true false = refl

  pub wrong_coset : {i : ℕ} → i < length reps → smallest n (rep reps i) ≡ false
      → true ≡ wrong_representative n reps
  wrong_coset {i} h e =
      found h
      (ap (λ b. not (ltb (rep reps i) n) || not b || (leb 1 i && not (ltb (rep reps (i - 1)) (rep reps i)))) e
      ∙ ap (λ b. b || (leb 1 i && not (ltb (rep reps (i - 1)) (rep reps i)))) (or_true (not (ltb (rep reps i) n))))

  pub wrong_order : {i least : ℕ} {z : List ℕ} → i < length reps → MarkedUpTo i least z → rep reps i < least
      → true ≡ wrong_representative n reps
  wrong_order {i} {least} h v l =
      let p : 0 < i = pos (ℕ_discrete i 0) in
      let q : least ≡ suc (rep reps (i - 1)) = v.later p in
      found h
      (ap (λ b. not (ltb (rep reps i) n) || not (smallest n (rep reps i)) || b)
      (ap₂ (λ a b. a && not b) (le-leb 1 i p) (le-ltb (rep reps (i - 1)) (rep reps i) (omega arith)))
      ∙ or_true (not (ltb (rep reps i) n) || not (smallest n (rep reps i))))
    where
      pos : Dec (i ≡ 0) → 0 < i
      pos (yes e) = let z : least ≡ 0 = v.first e in absurd (omega arith)
      pos (no e) = omega arith

  right_one : {i least : ℕ} {z : List ℕ} → MarkedUpTo i least z → rep reps i < n → least ≤ rep reps i
      → smallest n (rep reps i) ≡ true → wrong n reps i ≡ false
  right_one {i} {least} v a b c =
      ap₂ (λ x y. not x || not y || (leb 1 i && not (ltb (rep reps (i - 1)) (rep reps i)))) (lt-ltb (rep reps i) n a) c
      ∙ go (ℕ_discrete i 0)
    where
      go : Dec (i ≡ 0) → leb 1 i && not (ltb (rep reps (i - 1)) (rep reps i)) ≡ false
      go (yes e) = ap (λ b. b && not (ltb (rep reps (i - 1)) (rep reps i))) (lt-leb 1 i (omega arith))
      go (no e) =
          let q : least ≡ suc (rep reps (i - 1)) = v.later (omega arith) in
          ap₂ (λ x y. x && not y) (le-leb 1 i (omega arith)) (lt-ltb (rep reps (i - 1)) (rep reps i) (omega arith))

  set_more : (l : List ℕ) (n r k : ℕ) → in_set n (l ++ (r ∷ [])) k ≡ in_set n l k || in_coset n r k
  unfolding in_set some
  set_more l n r k = some_append (λ r. in_coset n r k) l (r ∷ []) ∙ ap (λ b. in_set n l k || b) (or-false (in_coset n r k))
    where
      or-false : (a : Bool) → a || false ≡ a
      or-false true = refl
      or-false false = refl

  pub listed_more : {i least low : ℕ} {z z' : List ℕ} → i < length reps → MarkedUpTo i least z
      → rep reps i < n → least ≤ rep reps i → length z' ≡ length z → Marked n (rep reps i) z z' low → low ≡ 0
      → MarkedUpTo (i + 1) (rep reps i + 1) z'
  listed_more {i} {least} {low} {z} {z'} h v a b same m e = record {
    right = λ k l. elim (ℕ_discrete k i) [
      | yes q ↦ subst (λ (x : ℕ). wrong n reps x ≡ false) (sym q) (right_one v a b (m.is_smallest e))
      | no q ↦ v.right k (omega arith)
    ];
    first = λ q. absurd (omega arith);
    later = λ l. let q : i + 1 - 1 ≡ i = omega arith in add-one (rep reps i) ∙ ap (λ (x : ℕ). suc (rep reps x)) (sym q);
    marks = record {
      long = omega (arith, v.marks.long);
      at = λ k l. at k l (in_coset n (rep reps i) k) refl ∙ ap bit (sym (more k));
    };
  }
    where
      more : (k : ℕ) → in_set n (take (i + 1) reps) k
          ≡ in_set n (take i reps) k || in_coset n (rep reps i) k
      more k =
          ap (λ l. in_set n l k)
          (ap (λ (x : ℕ). take x reps) (add-one i) ∙ take-suc reps i 0 h)
          ∙ set_more (take i reps) n (rep reps i) k

      at : (k : ℕ) → k < n → (c : Bool) → in_coset n (rep reps i) k ≡ c
          → get_or z' k 0 ≡ bit (in_set n (take i reps) k || in_coset n (rep reps i) k)
      at k l true q =
          m.inside k l q
          ∙ sym (ap bit (ap (λ b. in_set n (take i reps) k || b) q ∙ or_true (in_set n (take i reps) k)))
      at k l false q =
          m.outside k l q ∙ v.marks.at k l
          ∙ ap bit (sym (ap (λ b. in_set n (take i reps) k || b) q ∙ or-false (in_set n (take i reps) k)))
        where
          or-false : (a : Bool) → a || false ≡ a
          or-false true = refl
          or-false false = refl

  pub listed_end : {i least : ℕ} {z : List ℕ} → i ≡ length reps → MarkedUpTo i least z → SetMarked n reps z false
  listed_end {i} {least} {z} e v = record {
    is = sym (wrong_is n reps ∙ some_false (wrong n reps) (length reps) (λ k h. v.right k (omega arith)));
    marks = λ q. subst (λ l. Marks n l z) (take_all i reps (omega arith)) v.marks;
  }

  pub refuse : {z : List ℕ} → true ≡ wrong_representative n reps → SetMarked n reps z true
  refuse e = record { is = e; marks = λ q. let z : ◌≡◌ {A = ℕ} 0 1 = cc in absurd (omega arith) }

-- ---- the loop: s is that of n
pub record Walk (n s : ℕ) (reps : List ℕ) (i least : ℕ) (z : List ℕ) : Type 0 where
  pub odd : OddLength n
  pub s_is : s ≡ order_of_two n
  pub listed : MarkedUpTo n reps i least z

module _ {n s : ℕ} {reps : List ℕ} where
  module _ {i least : ℕ} {z : List ℕ} (w : Walk n s reps i least z) where
    pub walk_range : i < length reps → n ≤ rep reps i → SetMarked n reps z true
    walk_range h l = refuse n reps (wrong_range n reps {i = i} h l)

    pub walk_order : i < length reps → rep reps i < least → SetMarked n reps z true
    walk_order h l = refuse n reps (wrong_order n reps h w.listed l)

    pub walk_coset : {low : ℕ} {z' : List ℕ} → i < length reps → Marked n (rep reps i) z z' low → low ≢ 0 → SetMarked n reps z' true
    walk_coset h m k = refuse n reps (wrong_coset n reps {i = i} h (m.not_smallest k))

    pub walk_more : {low : ℕ} {z' : List ℕ} → i < length reps → rep reps i < n → least ≤ rep reps i → length z' ≡ length z
        → Marked n (rep reps i) z z' low → low ≡ 0 → Walk n s reps (i + 1) (rep reps i + 1) z'
    walk_more h a b same m k = record { odd = w.odd; s_is = w.s_is; listed = listed_more n reps h w.listed a b same m k }

    pub walk_end : length reps ≤ i → i ≤ length reps → SetMarked n reps z false
    walk_end a b = listed_end n reps (omega arith) w.listed
