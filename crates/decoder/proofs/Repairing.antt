-- Bytes copied, and places changed one by one.
--
--   Copying, copying_start, copying_more, copying_end          bytes copied, one by one
--   bit_le          a place is 0 or 1
--   places_put      a place set to its other value is x^i added to the mask
--   repaired_start, repaired_more      places changed, one by one
--   reached_front, repairable_front, repaired_front      the first places of a list, as a list of their own
use mathlib.Core.Path.{◌≡◌, sym, ap, ap₂, ◌∙◌, subst}
use mathlib.Core.Bool.{Bool}
use mathlib.Core.List.{List}
use Prim.Native.Nat.{ℕ, zero, suc, ◌+◌, ◌-◌, ◌*◌, ◌^◌, ◌≤◌, ◌<◌}
use native.Mathlib.Decide.{ℕ_discrete}
use native.Mathlib.Numerals.{add-one}
use native.Mathlib.Omega.{arith}
use lib.ListN.{length, get_or, set, length-set, take}
use lib.Seq.{get_or-set_same, get_or-set_other, ext_get_or, get_or-take, length-take-le}
use Rattle.field.specs.Mask.{◌⊕◌, coefficient}
use Rattle.field.proofs.Xor.{digit, ⊕-zero-l, ⊕-zero-r, ⊕-self, ⊕-assoc, bit_⊕}
use Rattle.document.specs.Layout.{word_weight, place}
use Rattle.binary.proofs.Digits.{pow_same, pow_other}
use Rattle.syndrome.specs.Sums.{sum_over}
use Rattle.syndrome.proofs.Listing.{over_z, over_s}
use Rattle.codeword.specs.Place.{Put}
use Rattle.codeword.proofs.Places.{place_lt}
use Rattle.decoder.specs.Repair.{PlacesOf, Repairable, Repaired, Reached}

-- ---- bytes
pub record Copying (i : ℕ) (from to : List ℕ) : Type 0 where
  pub long : length to ≡ length from
  pub at : (j : ℕ) → j < i → get_or to j 0 ≡ get_or from j 0

pub copying_start : {from to : List ℕ} → length to ≡ length from → Copying 0 from to
copying_start e = record { long = e; at = λ j h. absurd (omega arith) }

pub copying_more : {i v : ℕ} {from to : List ℕ} → i < length from → v ≡ get_or from i 0 → Copying i from to
    → Copying (i + 1) from (set to i v)
copying_more {i} {v} {from} {to} h e t = record {
  long = simp length-set t.long;
  at = λ j l. elim (ℕ_discrete j i) [
    | yes q ↦ ap (λ (k : ℕ). get_or (set to i v) k 0) q ∙ get_or-set_same to i v 0 (omega (arith, t.long)) ∙ e
        ∙ sym (ap (λ (k : ℕ). get_or from k 0) q)
    | no q ↦ get_or-set_other to i j v 0 q ∙ t.at j (omega arith)
  ];
}

pub copying_end : {i : ℕ} {from to : List ℕ} → length from ≤ i → Copying i from to → to ≡ from
copying_end {i} {from} {to} h t = ext_get_or 0 to from t.long (λ j l. t.at j (omega (arith, t.long)))

-- ---- one place
pub bit_le : (i : ℕ) {bit : ℕ} (bytes : List ℕ) → bit ≡ place word_weight bytes i → bit ≤ 1
bit_le i bytes e = let l : place word_weight bytes i < 2 = place_lt word_weight bytes i in omega arith

other : (x : ℕ) → x < 2 → 1 - x ≡ x ⊕ 1
other = digit (λ x. 1 - x ≡ x ⊕ 1) (sym (⊕-zero-l 1)) (sym (⊕-self 1))

pub places_put : {a i bit : ℕ} {bytes bytes' : List ℕ} → bit ≡ 1 - place word_weight bytes i → Put word_weight i bit bytes bytes'
    → PlacesOf a bytes → PlacesOf (a ⊕ 2 ^ i) bytes'
places_put {a} {i} {bit} {bytes} {bytes'} e p t = record {
  at = λ j h. go j (omega (arith, p.long)) (ℕ_discrete j i) ∙ sym (bit_⊕ j a (2 ^ i));
}
  where
    go : (j : ℕ) → j < length bytes * 8 → Dec (j ≡ i) → place word_weight bytes' j ≡ coefficient j a ⊕ coefficient j (2 ^ i)
    go j h (yes q) =
        subst (λ (k : ℕ). place word_weight bytes' k ≡ coefficient k a ⊕ coefficient k (2 ^ i)) (sym q)
        (p.here ∙ e ∙ other (place word_weight bytes i) (place_lt word_weight bytes i)
        ∙ ap₂ ◌⊕◌ (t.at i (omega arith)) (sym (pow_same i)))
    go j h (no q) =
        p.other j q ∙ t.at j h ∙ sym (⊕-zero-r (coefficient j a)) ∙ ap (λ (x : ℕ). coefficient j a ⊕ x) (sym (pow_other i j q))

-- ---- the places of a list
pub repaired_start : {word list : List ℕ} → Repaired word list 0 word
repaired_start {word} {list} = record {
  at = λ a t. subst (λ (x : ℕ). PlacesOf x word) (sym (ap (λ (x : ℕ). a ⊕ x) (over_z (λ j. 2 ^ j) list) ∙ ⊕-zero-r a)) t;
}

pub repaired_more : {k i bit : ℕ} {word list out out' : List ℕ} → i ≡ get_or list k 0 → bit ≡ 1 - place word_weight out i
    → Put word_weight i bit out out' → Repaired word list k out → Repaired word list (k + 1) out'
repaired_more {k} {i} {bit} {word} {list} {out} {out'} q e p r = record {
  at = λ a t. subst (λ (x : ℕ). PlacesOf x out') (step a) (places_put e p (r.at a t));
}
  where
    step : (a : ℕ) → (a ⊕ sum_over (λ j. 2 ^ j) list k) ⊕ 2 ^ i ≡ a ⊕ sum_over (λ j. 2 ^ j) list (k + 1)
    step a =
        ⊕-assoc a (sum_over (λ j. 2 ^ j) list k) (2 ^ i)
        ∙ ap (λ (x : ℕ). a ⊕ x)
        (ap (λ (x : ℕ). sum_over (λ j. 2 ^ j) list k ⊕ 2 ^ x) q
        ∙ sym (ap (sum_over (λ j. 2 ^ j) list) (add-one k) ∙ over_s (λ j. 2 ^ j) list k))

-- ---- the first places of a list, as a list of their own
module _ (list : List ℕ) (m : ℕ) (h : m ≤ length list) where
  front_long : length (take m list) ≡ m
  front_long = length-take-le m list h

  pub reached_front : {end : ℕ} {r : Bool} → Reached (take m list) (length (take m list)) end r → Reached list m end r
  reached_front {end} t = record {
    yes = λ e.
        let k = t.yes e in
        let l : k.0 < m = omega (arith, k.1, front_long) in
        (k.0, l, subst (λ (x : ℕ). end ≤ x) (get_or-take m list k.0 0 l) k.2);
    no = λ e k l. subst (λ (x : ℕ). x < end) (get_or-take m list k 0 l) (t.no e k (omega (arith, l, front_long)));
  }

  pub repairable_front : {word out : List ℕ} → Repairable word list m out → Repairable word (take m list) (length (take m list)) out
  repairable_front {word} t = record {
    long = t.long;
    listed = omega arith;
    below = λ k l.
        let b : k < m = omega (arith, l, front_long) in
        subst (λ (x : ℕ). x < length word * 8) (sym (get_or-take m list k 0 b)) (t.below k b);
  }

  over_front : (f : ℕ → ℕ) (k : ℕ) → k ≤ m → sum_over f (take m list) k ≡ sum_over f list k
  over_front f zero l = over_z f (take m list) ∙ sym (over_z f list)
  over_front f (suc k) l =
      over_s f (take m list) k
      ∙ ap₂ (λ (y z : ℕ). y ⊕ f z) (over_front f k (omega arith)) (get_or-take m list k 0 (omega arith))
      ∙ sym (over_s f list k)

  pub repaired_front : {word out : List ℕ} → Repaired word (take m list) (length (take m list)) out → Repaired word list m out
  repaired_front {out = out} t = record {
    at = λ a p.
        subst (λ (x : ℕ). PlacesOf (a ⊕ x) out)
        (ap (sum_over (λ j. 2 ^ j) (take m list)) front_long ∙ over_front (λ j. 2 ^ j) m (omega arith)) (t.at a p);
  }
