-- From the parts of a word's journey to the definitions: the generator as feedback, the codeword test, encoding, reading out.
--
--   lengths_of, split_long      lengths
--   for_most             bytes have fewer than eight spare places
--   feedback_made        the generator times x^(places - m), without what came up past the last number
--   fresh, tables_room   arrays as they are made
--   tested               a word's remainder tells whether it is a codeword
--   message_places, remainder_places, joint_places      eight places of a message above a remainder
--   Placing, placing_start, placing_more, placing_end      all places, eight at a time
--   encoded_bytes        with the remainder of the message, the bytes of its codeword
--   ReadingBytes, bytes_read_start, bytes_read_more, bytes_read_end      a message's whole bytes
--   part_long, joined_long, Reading, reading_start, reading_more, reading_end      and the places of the last one
use mathlib.Core.Path.{◌≡◌, refl, sym, ap, ap₂, ◌∙◌, subst}
use mathlib.Core.Logic.{◌⊎◌, inl, inr}
use mathlib.Core.Bool.{Bool, not}
use mathlib.Core.List.{List, ◌++◌}
use Prim.Native.Nat.{ℕ, ◌+◌, ◌-◌, ◌*◌, ◌/◌, ◌%◌, ◌^◌, ◌≤◌, ◌<◌}
use native.Mathlib.Nat.{add_comm, add-mul, add-mul-div_right, div-one, mod-lt, mul_assoc, mul_comm, zero-mul, zero-div}
use native.Mathlib.Decide.{ℕ_discrete}
use native.Mathlib.Omega.{arith}
use lib.Bits.{bit_and, and_mask}
use lib.Dec.{eqb}
use lib.ListN.{length, get_or, set, take, drop, length-set, length-append, length-drop, replicate, length-replicate, get_or-replicate, get_or-eq_default}
use lib.Pow.{pow_pos, pow-add, pow_mono, shl-shr, shr-shr, high}
use lib.Seq.{get_or-set_same, get_or-set_other}
use borrow.Author.Tests.{eq-eqb, ne_eqb}
use Rattle.std.proofs.lemmas.List.{length-take-le, get_or_append_left, get_or-append_right, get_or-drop}
use Rattle.algebra.proofs.Poly.{le_or_lt}
use Rattle.field.specs.Mask.{coefficient, clmul, remainder}
use Rattle.field.specs.Field.{Degree}
use Rattle.field.proofs.MaskProduct.{clmul_pow}
use Rattle.cyclic.proofs.Places.{coefficient_zero}
use Rattle.document.specs.Layout.{word_weight, message_weight, bytes_for, place, mask_of}
use Rattle.document.specs.Coset.{dimension}
use Rattle.document.specs.Generator.{generator, is_codeword, encode_mask, message_of}
use Rattle.document.proofs.Theory.{Length, degree}
use Rattle.document.proofs.GeneratorIs.{generator_degree}
use Rattle.document.proofs.Encoding.{raised_is}
use Rattle.binary.specs.Packed.{packed, places_in, TopHolds, Taken}
use Rattle.binary.proofs.Digits.{digit_low}
use Rattle.binary.proofs.Passing.{packed_none}
use Rattle.binary.proofs.Feeding.{raised_low}
use Rattle.generator.specs.Building.{Lengths, RoomWhereSmall, Multiplied}
use Rattle.generator.proofs.LowPlaces.{clmul_low}
use Rattle.codeword.specs.Place.{Put, turned, whole_mask}
use Rattle.codeword.specs.Codewords.{Coded, Usable, Fresh, FeedbackMade, RemainderTested, Encodable, EightOf, PlacesWritten, CodewordWritten, BytesRead, MessageRead}
use Rattle.codeword.proofs.Places.{word_weights, message_weights, place_is, mask_coefficient, mask_above, bytes_same}
use Rattle.codeword.proofs.Eight.{turned_digit, whole_is}

-- ---- lengths
pub lengths_of : {n s : ℕ} {reps : List ℕ} → Coded n s reps → Lengths n s
lengths_of u = record { odd = u.length_stated.odd; s_is = u.s_is; small = omega (arith, u.s_is, u.length_stated.most) }

pub for_most : (n : ℕ) → bytes_for n * 8 ≤ n + 7
unfolding bytes_for
for_most n = omega arith

-- what is sent of a word is the message's bits and the remainder
pub split_long : (n k m : ℕ) {x : ℕ} → m ≤ k → k ≤ n → x ≡ bytes_for (n - m) → x ≡ bytes_for (n - k + (k - m))
split_long n k m l h e = let q : n - m ≡ n - k + (k - m) = omega arith in e ∙ ap bytes_for q

-- ---- the generator as feedback
module _ (reps f : List ℕ) {n m : ℕ} {f₁ f₂ r₂ : List ℕ} (l : Length n) (em : m ≡ n - dimension n reps) (room : n ≤ places_in f)
    (l₁ : length f₁ ≡ length f) (l₂ : length f₂ ≡ length f₁) (pw : packed f₁ ≡ 2 ^ (places_in f - m) % 2 ^ places_in f)
    (t : Multiplied (generator n reps) f₁ f₂ r₂) where
  held : TopHolds m (generator n reps % 2 ^ m) f₂
  held =
      let all : places_in f ≡ m + (places_in f - m) = omega (arith, em, room) in
      record {
        room = omega (arith, em, l₁, l₂, room);
        small = mod-lt (generator n reps) (pow_pos m);
        is = t.is ∙ ap₂ (λ (x y : ℕ). clmul (generator n reps) x % 2 ^ (64 * y)) pw l₁ ∙ clmul_low (generator n reps) (2 ^ (places_in f - m)) (places_in f)
            ∙ ap (λ (x : ℕ). x % 2 ^ places_in f) (clmul_pow (generator n reps) (places_in f - m))
            ∙ ap (λ (x : ℕ). generator n reps * 2 ^ (places_in f - m) % 2 ^ x) all
            ∙ raised_low (generator n reps) m (places_in f - m) ∙ ap (λ (x : ℕ). generator n reps % 2 ^ m * 2 ^ (64 * x - m)) (sym (l₂ ∙ l₁));
      }

  pub feedback_made : FeedbackMade n reps f₂ r₂
  feedback_made = record {
    feedback = record { top = generator_degree l reps; held = subst (λ (d : ℕ). TopHolds d (generator n reps % 2 ^ d) f₂) em held };
    empty = t.clear;
  }

-- ---- the test
not_none : (p k : ℕ) → eqb (p * 2 ^ k) 0 ≡ eqb p 0
not_none p k = elim (ℕ_discrete p 0) [
  | yes e ↦ eq-eqb (p * 2 ^ k) 0 (ap (λ (x : ℕ). x * 2 ^ k) e ∙ zero-mul (2 ^ k)) ∙ sym (eq-eqb p 0 e)
  | no e ↦ ne_eqb (p * 2 ^ k) 0 (λ z. e (sym (shl-shr p k) ∙ ap (λ (x : ℕ). x / 2 ^ k) z ∙ zero-div (2 ^ k))) ∙ sym (ne_eqb p 0 e)
]

pub tested : {n sent : ℕ} {reps word f r₀ r : List ℕ} {b : Bool} → Length n → FeedbackMade n reps f r₀
    → Taken (mask_of word_weight sent word) 0 f r → b ≡ eqb (packed r) 0 → RemainderTested n sent reps word (not b)
unfolding is_codeword
tested {n} {sent} {reps} {word} {f} {r₀} {r} {b} l t a e =
    let m : ℕ = n - dimension n reps in
    let c : ℕ = mask_of word_weight sent word in
    let h = a.holds t.feedback in
    record {
      is = ap not
          (e ∙ ap (λ (x : ℕ). eqb x 0) h.is ∙ not_none (remainder m (generator n reps) (c / 2 ^ 0 * 2 ^ m)) (places_in r - m)
          ∙ ap (λ (x : ℕ). is_codeword m (generator n reps) (x * 2 ^ m)) (div-one c) ∙ raised_is l reps m c);
    }

-- ---- eight places of a message above a remainder
-- places from i on of p, and above them a
above : (a m p i : ℕ) → i ≤ m → (a * 2 ^ m + p) / 2 ^ i ≡ a * 2 ^ (m - i) + p / 2 ^ i
above a m p i h =
    let e : m ≡ m - i + i = omega arith in
    ap (λ (y : ℕ). (y + p) / 2 ^ i) (ap (λ (k : ℕ). a * 2 ^ k) e ∙ ap (λ (y : ℕ). a * y) (pow-add 2 (m - i) i) ∙ sym (mul_assoc a (2 ^ (m - i)) (2 ^ i)))
    ∙ ap (λ (y : ℕ). y / 2 ^ i) (add_comm (a * 2 ^ (m - i) * 2 ^ i) p)
    ∙ add-mul-div_right p (a * 2 ^ (m - i)) (pow_pos i) ∙ add_comm (p / 2 ^ i) (a * 2 ^ (m - i))

-- what a register holds, from place i on
from : {m p : ℕ} {r : List ℕ} (i : ℕ) {j : ℕ} → TopHolds m p r → j ≡ places_in r - m + i → packed r / 2 ^ j ≡ p / 2 ^ i
from {m} {p} {r} i {j} t e =
    ap₂ (λ (x y : ℕ). x / 2 ^ y) t.is e ∙ sym (shr-shr (p * 2 ^ (places_in r - m)) (places_in r - m) i)
    ∙ ap (λ (x : ℕ). x / 2 ^ i) (shl-shr p (places_in r - m))

pub message_places : (message : List ℕ) {m i j x : ℕ} {r : List ℕ} → m ≤ i → j ≡ i - m → x ≡ whole_mask message_weight message / 2 ^ j % 256
    → EightOf message m r i x
message_places message {m} {i} {j} {x} {r} h e q = record {
  small = omega (arith, q);
  is = λ {p} t.
      let d : i ≡ m + (i - m) = omega arith in
      q ∙ ap (λ (k : ℕ). whole_mask message_weight message / 2 ^ k % 256) e
      ∙ sym (ap (λ (k : ℕ). (whole_mask message_weight message * 2 ^ m + p) / 2 ^ k % 256) d
      ∙ ap (λ (y : ℕ). y % 256)
      (sym (shr-shr (whole_mask message_weight message * 2 ^ m + p) m (i - m)) ∙ ap (λ (y : ℕ). y / 2 ^ (i - m)) (high (whole_mask message_weight message) m t.small)));
}

pub remainder_places : (message r : List ℕ) {m i j x : ℕ} → i + 8 ≤ m → j ≡ places_in r - m + i → x ≡ packed r / 2 ^ j % 256
    → EightOf message m r i x
remainder_places message r {m} {i} {j} {x} h e q = record {
  small = omega (arith, q);
  is = λ {p} t. q ∙ ap (λ (y : ℕ). y % 256) (from i t e) ∙ low (whole_mask message_weight message) p;
}
  where
    drop : (y z : ℕ) → (y * 256 + z) % 256 ≡ z % 256
    drop y z = omega arith

    low : (a p : ℕ) → p / 2 ^ i % 256 ≡ (a * 2 ^ m + p) / 2 ^ i % 256
    low a p =
        let d : m - i ≡ m - i - 8 + 8 = omega arith in
        let u : a * 2 ^ (m - i) ≡ a * 2 ^ (m - i - 8) * 256 =
        ap (λ (k : ℕ). a * 2 ^ k) d ∙ ap (λ (y : ℕ). a * y) (pow-add 2 (m - i - 8) 8) ∙ sym (mul_assoc a (2 ^ (m - i - 8)) 256) in
        sym (ap (λ (y : ℕ). y % 256) (above a m p i (omega arith) ∙ ap (λ (y : ℕ). y + p / 2 ^ i) u) ∙ drop (a * 2 ^ (m - i - 8)) (p / 2 ^ i))

pub joint_places : (message r : List ℕ) {m i j low up : ℕ} → i < m → j ≡ places_in r - m + i → low ≡ packed r / 2 ^ j % 256
    → up ≡ whole_mask message_weight message / 2 ^ 0 % 256 → EightOf message m r i (bit_and (low + up * 2 ^ (m - i) % 2 ^ 64) 255)
joint_places message r {m} {i} {j} {low} {up} h e ql qu = record {
  small = omega (arith, and_mask (low + up * 2 ^ (m - i) % 2 ^ 64) 8);
  is = λ {p} t.
      and_mask (low + up * 2 ^ (m - i) % 2 ^ 64) 8
      ∙ ap₂ (λ (y z : ℕ). (y + z * 2 ^ (m - i) % 2 ^ 64) % 256) (ql ∙ ap (λ (y : ℕ). y % 256) (from i t e))
      (qu ∙ ap (λ (y : ℕ). y % 256) (div-one (whole_mask message_weight message)))
      ∙ join (whole_mask message_weight message) p;
}
  where
    whole : (a k : ℕ) → a % 256 * k + a / 256 * k * 256 ≡ a * k
    whole a k =
        let d : a / 256 * k * 256 ≡ a / 256 * 256 * k =
        mul_assoc (a / 256) k 256 ∙ ap (λ (y : ℕ). a / 256 * y) (mul_comm k 256) ∙ sym (mul_assoc (a / 256) 256 k) in
        let s : a / 256 * 256 + a % 256 ≡ a = omega arith in
        let w : (a / 256 * 256 + a % 256) * k ≡ a / 256 * 256 * k + a % 256 * k = add-mul (a / 256 * 256) (a % 256) k in
        let z : (a / 256 * 256 + a % 256) * k ≡ a * k = ap (λ (y : ℕ). y * k) s in
        omega arith

    sum : (y b c a : ℕ) → b + c * 256 ≡ a → (y % 256 + b % 2 ^ 64) % 256 ≡ (a + y) % 256
    sum y b c a e = omega arith

    join : (a p : ℕ) → (p / 2 ^ i % 256 + a % 256 * 2 ^ (m - i) % 2 ^ 64) % 256 ≡ (a * 2 ^ m + p) / 2 ^ i % 256
    join a p =
        sum (p / 2 ^ i) (a % 256 * 2 ^ (m - i)) (a / 256 * 2 ^ (m - i)) (a * 2 ^ (m - i)) (whole a (2 ^ (m - i)))
        ∙ sym (ap (λ (y : ℕ). y % 256) (above a m p i (omega arith)))

-- ---- all places, eight at a time
pub record Placing (message : List ℕ) (m : ℕ) (r : List ℕ) (j : ℕ) (out : List ℕ) : Type 0 where
  pub at : {p : ℕ} → TopHolds m p r → (i : ℕ) → i < j * 8 → place word_weight out i ≡ coefficient i (whole_mask message_weight message * 2 ^ m + p)

pub placing_start : {message : List ℕ} {m : ℕ} {r out : List ℕ} → Placing message m r 0 out
placing_start = record { at = λ t i h. absurd (omega arith) }

pub placing_more : {message : List ℕ} {m j i₀ x v : ℕ} {r out : List ℕ} → Placing message m r j out → i₀ ≡ 8 * j → EightOf message m r i₀ x
    → v ≡ turned x → j < length out → Placing message m r (j + 1) (set out j v)
placing_more {message} {m} {j} {i₀} {x} {v} {r} {out} t e w q h = record {
  at = λ {p} u i l. elim (ℕ_discrete (i / 8) j) [
    | yes s ↦ (let d : i ≡ i₀ + i % 8 = omega arith in
        place_is word_weights (set out j v) i
        ∙ ap (coefficient (7 - i % 8)) (ap (λ (k : ℕ). get_or (set out j v) k 0) s ∙ get_or-set_same out j v 0 h ∙ q)
        ∙ turned_digit x (i % 8) (omega arith) ∙ ap (coefficient (i % 8)) (w.is u)
        ∙ digit_low (i % 8) 8 ((whole_mask message_weight message * 2 ^ m + p) / 2 ^ i₀) (omega arith)
        ∙ ap (λ (y : ℕ). y % 2) (shr-shr (whole_mask message_weight message * 2 ^ m + p) i₀ (i % 8))
        ∙ sym (ap (λ (k : ℕ). coefficient k (whole_mask message_weight message * 2 ^ m + p)) d))
    | no s ↦ place_is word_weights (set out j v) i ∙ ap (coefficient (7 - i % 8)) (get_or-set_other out j (i / 8) v 0 s)
        ∙ sym (place_is word_weights out i) ∙ t.at u i (omega arith)
  ];
}

pub placing_end : {message : List ℕ} {m j : ℕ} {r out : List ℕ} → length out ≤ j → Placing message m r j out → PlacesWritten message m r out
placing_end h t = record { at = λ u i l. t.at u i (omega arith) }

pub encoded_bytes : {n k s m sent bits : ℕ} {reps message f r₀ r out₀ out : List ℕ} → Usable n k s reps → Encodable sent bits message out₀ → m ≡ n - k
    → FeedbackMade n reps f r₀ → Taken (mask_of message_weight bits message) 0 f r → PlacesWritten message m r out → length out ≡ length out₀
    → ((i : ℕ) → get_or out i 0 < 256) → CodewordWritten n sent bits reps message out
unfolding encode_mask
encoded_bytes {n} {k} {s} {m} {sent} {bits} {reps} {message} {f} {r₀} {r} {out₀} {out} u c em t a p long bytes =
    let is : m ≡ n - dimension n reps = em ∙ ap (λ (x : ℕ). n - x) u.k_is in
    let h : TopHolds (n - dimension n reps) (remainder (n - dimension n reps) (generator n reps) (mask_of message_weight bits message * 2 ^ (n - dimension n reps))) r =
    subst (λ (x : ℕ). TopHolds (n - dimension n reps) (remainder (n - dimension n reps) (generator n reps) (x * 2 ^ (n - dimension n reps))) r) (div-one (mask_of message_weight bits message))
    (a.holds t.feedback) in
    let w : whole_mask message_weight message ≡ mask_of message_weight bits message = whole_is message_weight bits message c.message_long c.no_spare in
    let q : PlacesWritten message (n - dimension n reps) r out = subst (λ (x : ℕ). PlacesWritten message x r out) is p in
    record {
      is = bytes_same word_weights sent (encode_mask (n - dimension n reps) (generator n reps) (mask_of message_weight bits message)) out (long ∙ c.out_long) bytes
          (λ i b. q.at h i (omega (arith, long, c.out_long))
          ∙ ap (λ (x : ℕ). coefficient i (x * 2 ^ (n - dimension n reps) + remainder (n - dimension n reps) (generator n reps) (mask_of message_weight bits message * 2 ^ (n - dimension n reps)))) w);
    }

-- ---- reading out
-- the first j bytes of it
pub record ReadingBytes (m : ℕ) (word : List ℕ) (j : ℕ) (out : List ℕ) : Type 0 where
  pub at : (i : ℕ) → i < j * 8 → place message_weight out i ≡ place word_weight word (m + i)

pub bytes_read_start : {m : ℕ} {word out : List ℕ} → ReadingBytes m word 0 out
bytes_read_start = record { at = λ j h. absurd (omega arith) }

pub bytes_read_more : {m j i₀ v : ℕ} {word out : List ℕ} → ReadingBytes m word j out → i₀ ≡ m + 8 * j → i₀ + 8 ≤ length word * 8
    → v ≡ whole_mask word_weight word / 2 ^ i₀ % 256 → j < length out → ReadingBytes m word (j + 1) (set out j v)
bytes_read_more {m} {j} {i₀} {v} {word} {out} t e room q h = record {
  at = λ i l. elim (ℕ_discrete (i / 8) j) [
    | yes s ↦ (let d : i₀ + i % 8 ≡ m + i = omega arith in
        place_is message_weights (set out j v) i
        ∙ ap (coefficient (i % 8)) (ap (λ (k : ℕ). get_or (set out j v) k 0) s ∙ get_or-set_same out j v 0 h ∙ q)
        ∙ digit_low (i % 8) 8 (whole_mask word_weight word / 2 ^ i₀) (omega arith)
        ∙ ap (λ (y : ℕ). y % 2) (shr-shr (whole_mask word_weight word) i₀ (i % 8))
        ∙ mask_coefficient word_weight (length word * 8) word (i₀ + i % 8) (omega arith) ∙ ap (place word_weight word) d)
    | no s ↦ place_is message_weights (set out j v) i ∙ ap (coefficient (i % 8)) (get_or-set_other out j (i / 8) v 0 s)
        ∙ sym (place_is message_weights out i) ∙ t.at i (omega arith)
  ];
}

pub bytes_read_end : {m j : ℕ} {word out : List ℕ} → length out ≤ j → ReadingBytes m word j out → BytesRead m word out
bytes_read_end h t = record { at = λ i l. t.at i (omega arith) }

pub record Reading (m k : ℕ) (word : List ℕ) (i : ℕ) (out : List ℕ) : Type 0 where
  pub at : (j : ℕ) → j < i → place message_weight out j ≡ place word_weight word (m + j)
  pub clear : (j : ℕ) → k ≤ j → j < bytes_for k * 8 → place message_weight out j ≡ 0
  pub bytes : (j : ℕ) → get_or out j 0 < 256

-- the whole bytes of a buffer, and with what stays of it
pub part_long : (out : List ℕ) (k e : ℕ) → length out ≡ bytes_for k → length (take (k / 8) (set out e 0)) ≡ k / 8
unfolding bytes_for
part_long out k e long = length-take-le (k / 8) (set out e 0) (omega (arith, long, length-set out e 0))

pub joined_long : (out part : List ℕ) (k e : ℕ) → length out ≡ bytes_for k → length part ≡ k / 8 → length (part ++ drop (k / 8) (set out e 0)) ≡ bytes_for k
unfolding bytes_for
joined_long out part k e long lp =
    omega (arith, long, lp, length-set out e 0, length-drop (k / 8) (set out e 0), length-append part (drop (k / 8) (set out e 0)))

pub reading_start : (out : List ℕ) {m k e : ℕ} {word part : List ℕ} → 1 ≤ k → length out ≡ bytes_for k → e ≡ length out - 1
    → length part ≡ k / 8 → BytesRead m word part → ((j : ℕ) → get_or (part ++ drop (k / 8) (set out e 0)) j 0 < 256)
    → Reading m k word (k / 8 * 8) (part ++ drop (k / 8) (set out e 0))
unfolding bytes_for
reading_start out {m} {k} {e} {word} {part} pos long ee lp t small = record {
  at = λ j h.
      place_is message_weights (part ++ drop (k / 8) (set out e 0)) j
      ∙ ap (coefficient (j % 8)) (get_or_append_left part (drop (k / 8) (set out e 0)) 0 (j / 8) (omega (arith, lp)))
      ∙ sym (place_is message_weights part j) ∙ t.at j (omega (arith, lp));
  clear = λ j a b.
      let s : k / 8 + (j / 8 - k / 8) ≡ e = omega arith in
      place_is message_weights (part ++ drop (k / 8) (set out e 0)) j
      ∙ ap (coefficient (j % 8))
      (get_or-append_right part (drop (k / 8) (set out e 0)) (k / 8) (j / 8) 0 lp (omega arith)
      ∙ get_or-drop (k / 8) (set out e 0) (j / 8 - k / 8) 0
      ∙ ap (λ (x : ℕ). get_or (set out e 0) x 0) s ∙ get_or-set_same out e 0 0 (omega arith)) ∙ coefficient_zero (j % 8);
  bytes = small;
}

pub reading_more : {m k i at bit : ℕ} {word out out' : List ℕ} → i < k → at ≡ m + i → bit ≡ place word_weight word at → Reading m k word i out
    → Put message_weight i bit out out' → ((j : ℕ) → get_or out' j 0 < 256) → Reading m k word (i + 1) out'
reading_more {m} {k} {i} {at} {bit} {word} {out} {out'} b ea e t p small = record {
  at = λ j h. elim (ℕ_discrete j i) [
    | yes q ↦ ap (place message_weight out') q ∙ p.here ∙ e ∙ ap (place word_weight word) (ea ∙ ap (λ (x : ℕ). m + x) (sym q))
    | no q ↦ p.other j q ∙ t.at j (omega arith)
  ];
  clear = λ j a c. p.other j (λ q. omega arith) ∙ t.clear j a c;
  bytes = small;
}

pub reading_end : {m k i : ℕ} {word out : List ℕ} → k ≤ i → length out ≡ bytes_for k → Reading m k word i out
    → MessageRead m k word out
unfolding message_of
reading_end {m} {k} {i} {word} {out} h long t = record {
  is = bytes_same message_weights k (mask_of word_weight (m + k) word / 2 ^ m) out long t.bytes (λ j b. go j b (le_or_lt k j) ∙ sym (ap (λ (x : ℕ). x % 2) (shr-shr (mask_of word_weight (m + k) word) m j)));
}
  where
    go : (j : ℕ) → j < bytes_for k * 8 → (k ≤ j) ⊎ (j < k) → place message_weight out j ≡ coefficient (m + j) (mask_of word_weight (m + k) word)
    go j b (inl a) = t.clear j a b ∙ sym (mask_above word_weight (m + k) word (m + j) (omega arith))
    go j b (inr a) = t.at j (omega arith) ∙ sym (mask_coefficient word_weight (m + k) word (m + j) (omega arith))

-- ---- arrays
none_packed : (w : ℕ) → packed (replicate w 0) ≡ 0
none_packed w = packed_none (replicate w 0) (λ i. go i (le_or_lt w i))
  where
    go : (i : ℕ) → (w ≤ i) ⊎ (i < w) → ◌≡◌ {A = ℕ} (get_or (replicate w 0) i 0) 0
    go i (inl h) = get_or-eq_default (replicate w 0) 0 (omega (arith, length-replicate {A = ℕ} w 0))
    go i (inr h) = get_or-replicate {A = ℕ} w i 0 0 h

pub fresh : {n : ℕ} (w : ℕ) → 1 ≤ n → n ≤ 64 * w → w ≤ 1023 → Fresh n (replicate w 0) (replicate w 0)
fresh {n} w some room fits = record {
  none = none_packed w;
  empty = none_packed w;
  room = omega (arith, length-replicate {A = ℕ} w 0);
  some = omega (arith, length-replicate {A = ℕ} w 0);
  fits = omega (arith, length-replicate {A = ℕ} w 0);
  long = refl;
}

pub tables_room : {n s : ℕ} {reps : List ℕ} (e g : ℕ) → Coded n s reps → 255 ≤ e → 256 ≤ g
    → RoomWhereSmall s (replicate e 0) (replicate g 0)
tables_room {n} {s} e g u he hg = record {
  room = λ h. let small : 2 ^ s ≤ 2 ^ 8 = pow_mono {i = s} {j = 8} h in record {
    degree = subst Degree (sym u.s_is) (degree u.length_stated);
    e_long = omega (arith, length-replicate {A = ℕ} e 0);
    g_long = omega (arith, length-replicate {A = ℕ} g 0);
  };
}
