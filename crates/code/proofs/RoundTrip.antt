-- Demand 2 in bytes, in the words of the definitions alone: for every accepted sheet of any kind.
--
--   Placed               places in bytes, as many as they take, with no spare bit; Message, Word: those of the sheet
--   codeword_of, message_in      the codeword of a message, and the message in a word, in bytes
--   generator_top, codeword_raised      the generator's degree, and x^j times a codeword
--   encodes              every message is encoded, into codeword_of
--   codeword_word, codeword_is      which is a word, and a codeword
--   reads                a codeword is read into message_in
--   codeword_place       message bit i stands in place n - k + i,
--   codeword_low         and the places below hold the remainder
--   codeword_multiple, codeword_set, codeword_representatives      what a codeword is, three times
--   read_back            reading it gives the message back
--   codewords_distinct   distinct messages have distinct codewords
--   message_message, encode_back      a codeword is what encoding makes of the message that reading gives
--   none_refused         a word that is no codeword is refused with 14
use mathlib.Core.Path.{◌≡◌, refl, sym, ap, ap₂, ◌∙◌}
use mathlib.Core.Logic.{◌↔◌}
use mathlib.Core.Bool.{Bool, true, false, not}
use mathlib.Core.List.{List, [], ◌∷◌}
use Prim.Native.Nat.{ℕ, ◌+◌, ◌-◌, ◌*◌, ◌/◌, ◌%◌, ◌^◌, ◌≤◌, ◌<◌}
use native.Mathlib.Omega.{arith}
use lib.ListN.{length}
use lib.Pow.{shr-shr}
use Rattle.algebra.proofs.Lists.{All}
use Rattle.field.specs.Mask.{coefficient, clmul, remainder}
use Rattle.field.specs.Field.{field_power, order_of_two, α}
use Rattle.cyclic.proofs.Places.{coefficient_above}
use Rattle.document.specs.Answer.{returned, refused, Conditions}
use Rattle.document.specs.Layout.{word_weight, message_weight, bytes_for, place, mask_of, bytes_of, spare}
use Rattle.document.specs.Coset.{in_set}
use Rattle.document.specs.Sheet.{Stated, Kind, stated_by}
use Rattle.document.specs.Generator.{value_at, is_codeword, encode_mask, message_of}
use Rattle.document.specs.Judge.{judge_conditions, dimension_of}
use Rattle.document.specs.Entry.{generator_of, word_of, encoded_word, encode_entry, read_entry}
use Rattle.document.proofs.Theory.{Length}
use Rattle.document.proofs.Chain.{Quiet}
use Rattle.document.proofs.Acceptance.{judge_by, accepted_iff, judge_number}
use Rattle.document.proofs.GeneratorIs.{generator_degree}
use Rattle.document.proofs.Encoding.{raised_is, multiple_iff, defining_iff, representatives_iff, encode_is_codeword, encode_systematic, encode_checks, encode_lt, message_lt, codeword_is_encoding}
use Rattle.codeword.proofs.Places.{Weights, word_weights, message_weights, mask_lt, mask_coefficient, for_le, spare_clear, bytes_length, bytes_place, mask_of_bytes, bytes_of_mask}
use Rattle.codeword.specs.Codewords.{Usable, RemainderTested}
use Rattle.code.specs.Published.{Bytes}
use Rattle.code.proofs.Accepted.{usable}
use Rattle.code.proofs.Entries.{encode_accepted, read_accepted, unshortened_encoding, unshortened_reading, encode_done, read_none, read_done}

-- places of n in bytes: as many as they take, and no spare bit
pub record Placed (weight : ℕ → ℕ) (n : ℕ) (bytes : List ℕ) : Type 0 where
  pub long : length bytes ≡ bytes_for n
  pub clear : spare weight n bytes ≡ false

pub placed_bytes : {w : ℕ → ℕ} (W : Weights w) (n c : ℕ) → c < 2 ^ n → Placed w n (bytes_of w n c)
placed_bytes {w} W n c h = record {
  long = bytes_length w n c;
  clear = spare_clear w n (bytes_of w n c) (λ i a b. bytes_place W n c i b ∙ coefficient_above h i a);
}

module _ (kind : Kind) (sheet : List ℕ) where
  abbrev x : Stated
  x = stated_by kind sheet

  abbrev refusals : Conditions
  refusals = judge_conditions kind sheet

  abbrev n : ℕ
  n = x.n

  abbrev k : ℕ
  k = dimension_of x

  abbrev s : ℕ
  s = order_of_two n

  abbrev g : ℕ
  g = generator_of x

  abbrev pub Message : List ℕ → Type 0
  Message = Placed message_weight k

  abbrev pub Word : List ℕ → Type 0
  Word = Placed word_weight n

  abbrev pub codeword_of : List ℕ → List ℕ
  codeword_of message = bytes_of word_weight n (encoded_word x message)

  abbrev pub message_in : List ℕ → List ℕ
  message_in word = bytes_of message_weight k (message_of (n - k) (word_of x word))

  module _ (small : kind.most_places ≤ 65535) (e : (judge_by kind sheet).number ≡ 0) where
    u : Usable n k s x.representatives
    u = usable kind sheet small (sym (judge_number kind sheet) ∙ e)

    l : Length n
    l = u.coded.length_stated

    quiet : Quiet refusals
    quiet = (accepted_iff kind sheet).0 e

    -- ---- the theorems of masks, for this sheet
    in_code : (m : ℕ) → is_codeword (n - k) g (encode_mask (n - k) g m) ≡ true
    unfolding dimension_of generator_of
    in_code m = encode_is_codeword l x.representatives m

    systematic : (m : ℕ) → message_of (n - k) (encode_mask (n - k) g m) ≡ m
    unfolding dimension_of generator_of
    systematic m = encode_systematic l x.representatives m

    low : (m : ℕ) → encode_mask (n - k) g m % 2 ^ (n - k) ≡ remainder (n - k) g (m * 2 ^ (n - k))
    unfolding dimension_of generator_of
    low m = encode_checks l x.representatives m

    mask_lt_n : (m : ℕ) → m < 2 ^ k → encode_mask (n - k) g m < 2 ^ n
    unfolding dimension_of generator_of
    mask_lt_n m h = encode_lt l x.representatives m h

    message_lt_k : (c : ℕ) → c < 2 ^ n → message_of (n - k) c < 2 ^ k
    unfolding dimension_of
    message_lt_k c h = message_lt l x.representatives c h

    back : (c : ℕ) → is_codeword (n - k) g c ≡ true → encode_mask (n - k) g (message_of (n - k) c) ≡ c
    unfolding dimension_of generator_of
    back c h = codeword_is_encoding l x.representatives c h

    encoded_lt : (message : List ℕ) → encoded_word x message < 2 ^ n
    unfolding encoded_word
    encoded_lt message = mask_lt_n (mask_of message_weight k message) (mask_lt message_weight k message)

    pub generator_top : g / 2 ^ (n - k) ≡ 1
    unfolding dimension_of generator_of
    generator_top = generator_degree l x.representatives

    pub codeword_raised : (j c : ℕ) → is_codeword (n - k) g (c * 2 ^ j) ≡ is_codeword (n - k) g c
    unfolding dimension_of generator_of
    codeword_raised j c = raised_is l x.representatives j c

    -- ---- all places are sent
    bits_all : k - 0 ≡ k
    bits_all = omega arith

    places_all : n - 0 ≡ n
    places_all = omega arith

    split_all : n - k + (k - 0) ≡ n
    split_all = omega (arith, u.k_le)

    -- ---- encoding
    pub encodes : {message : List ℕ} (out : List ℕ) → Message message → length out ≡ bytes_for n
        → (returned (0 ∷ []), codeword_of message) ≡ encode_entry refusals x message out
    unfolding encoded_word dimension_of generator_of
    encodes {message} out m b =
        (encode_done u {m = 0} (omega (arith, u.k_pos)) message out (m.long ∙ ap bytes_for (sym bits_all)) (b ∙ ap bytes_for (sym places_all))
        (ap (λ (i : ℕ). spare message_weight i message) bits_all ∙ m.clear)
        (record { is = ap₂ (λ (i j : ℕ). bytes_of word_weight i (encode_mask (n - k) g (mask_of message_weight j message))) (sym split_all) (sym bits_all) })
        ).is x refl refl
        ∙ unshortened_encoding x message out ∙ encode_accepted refusals x message out quiet

    pub codeword_word : (message : List ℕ) → Word (codeword_of message)
    codeword_word message = placed_bytes word_weights n (encoded_word x message) (encoded_lt message)

    word_is : (message : List ℕ) → word_of x (codeword_of message) ≡ encoded_word x message
    word_is message = mask_of_bytes word_weights n (encoded_word x message) (encoded_lt message)

    pub codeword_is : (message : List ℕ) → is_codeword (n - k) g (word_of x (codeword_of message)) ≡ true
    unfolding encoded_word
    codeword_is message = ap (is_codeword (n - k) g) (word_is message) ∙ in_code (mask_of message_weight k message)

    -- message bit i stands in place n - k + i
    pub codeword_place : (message : List ℕ) (i : ℕ) → i < k
        → place word_weight (codeword_of message) (n - k + i) ≡ place message_weight message i
    unfolding encoded_word message_of
    codeword_place message i h =
        bytes_place word_weights n (encoded_word x message) (n - k + i) (omega (arith, u.k_le, for_le n))
        ∙ sym (ap (λ (x : ℕ). x % 2) (shr-shr (encoded_word x message) (n - k) i))
        ∙ ap (coefficient i) (systematic (mask_of message_weight k message)) ∙ mask_coefficient message_weight k message i h

    -- and the places below n - k hold the remainder of x^(n-k) m(x) by the generator
    pub codeword_low : (message : List ℕ)
        → word_of x (codeword_of message) % 2 ^ (n - k) ≡ remainder (n - k) g (mask_of message_weight k message * 2 ^ (n - k))
    unfolding encoded_word
    codeword_low message = ap (λ (x : ℕ). x % 2 ^ (n - k)) (word_is message) ∙ low (mask_of message_weight k message)

    -- ---- what a codeword is
    pub codeword_multiple : (c : ℕ) → (is_codeword (n - k) g c ≡ true) ↔ ((q : ℕ) × (c ≡ clmul g q))
    unfolding dimension_of generator_of
    codeword_multiple c = multiple_iff l x.representatives c

    pub codeword_set : (c : ℕ) → (is_codeword (n - k) g c ≡ true) ↔ ((i : ℕ) → in_set n x.representatives i ≡ true → value_at s (field_power s (α s n) i) c ≡ 0)
    unfolding dimension_of generator_of
    codeword_set c = defining_iff l x.representatives c

    pub codeword_representatives : (c : ℕ) → (is_codeword (n - k) g c ≡ true) ↔ All (λ r. value_at s (field_power s (α s n) r) c ≡ 0) x.representatives
    unfolding dimension_of generator_of
    codeword_representatives c = representatives_iff l x.representatives c

    -- ---- reading out
    tested : (word : List ℕ) (r : Bool) → r ≡ not (is_codeword (n - k) g (word_of x word)) → RemainderTested n (n - 0) x.representatives word r
    unfolding dimension_of generator_of
    tested word r q = record { is = q ∙ ap (λ (i : ℕ). not (is_codeword (n - k) g (mask_of word_weight i word))) (sym places_all) }

    clear_all : {word : List ℕ} → Word word → spare word_weight (n - 0) word ≡ false
    clear_all {word} w = ap (λ (i : ℕ). spare word_weight i word) places_all ∙ w.clear

    pub reads : {word : List ℕ} (out : List ℕ) → Word word → length out ≡ bytes_for k → is_codeword (n - k) g (word_of x word) ≡ true
        → (returned (0 ∷ []), message_in word) ≡ read_entry refusals x word out
    reads {word} out w b c =
        (read_done u {m = 0} (omega (arith, u.k_pos)) word out (w.long ∙ ap bytes_for (sym places_all)) (b ∙ ap bytes_for (sym bits_all)) (clear_all w) {r = false}
        (tested word false (sym (ap not c))) refl
        (record { is = ap₂ (λ (i j : ℕ). bytes_of message_weight j (message_of (n - k) (mask_of word_weight i word))) (sym split_all) (sym bits_all) })).is x refl refl
        ∙ unshortened_reading x word out ∙ read_accepted refusals x word out quiet

    pub message_back : {message : List ℕ} → Message message → Bytes message → message_in (codeword_of message) ≡ message
    unfolding encoded_word
    message_back {message} m small =
        ap (bytes_of message_weight k) (ap (message_of (n - k)) (word_is message) ∙ systematic (mask_of message_weight k message))
        ∙ sym (bytes_of_mask message_weights k message m.long small m.clear)

    pub read_back : {message : List ℕ} (out : List ℕ) → Message message → Bytes message → length out ≡ bytes_for k
        → (returned (0 ∷ []), message) ≡ read_entry refusals x (codeword_of message) out
    read_back {message} out m small b =
        ap (λ (x : List ℕ). (returned (0 ∷ []), x)) (sym (message_back m small)) ∙ reads out (codeword_word message) b (codeword_is message)

    pub codewords_distinct : {a b : List ℕ} → Message a → Bytes a → Message b → Bytes b → codeword_of a ≡ codeword_of b → a ≡ b
    codewords_distinct a v b w q = sym (message_back a v) ∙ ap message_in q ∙ message_back b w

    -- ---- and back
    pub message_message : (word : List ℕ) → Message (message_in word)
    message_message word =
        placed_bytes message_weights k (message_of (n - k) (word_of x word)) (message_lt_k (word_of x word) (mask_lt word_weight n word))

    pub encode_back : {word : List ℕ} → Word word → Bytes word → is_codeword (n - k) g (word_of x word) ≡ true → codeword_of (message_in word) ≡ word
    unfolding encoded_word
    encode_back {word} w small c =
        let m : ℕ = message_of (n - k) (word_of x word) in
        ap (λ (x : ℕ). bytes_of word_weight n (encode_mask (n - k) g x))
        (mask_of_bytes message_weights k m (message_lt_k (word_of x word) (mask_lt word_weight n word)))
        ∙ ap (bytes_of word_weight n) (back (word_of x word) c)
        ∙ sym (bytes_of_mask word_weights n word w.long small w.clear)

    pub none_refused : {word : List ℕ} (out : List ℕ) → Word word → length out ≡ bytes_for k → is_codeword (n - k) g (word_of x word) ≡ false
        → (refused 14, out) ≡ read_entry refusals x word out
    none_refused {word} out w b c =
        (read_none u {m = 0} (omega (arith, u.k_pos)) word out (w.long ∙ ap bytes_for (sym places_all)) (b ∙ ap bytes_for (sym bits_all)) (clear_all w) {r = true}
        (tested word true (sym (ap not c))) refl).is x refl refl
        ∙ unshortened_reading x word out ∙ read_accepted refusals x word out quiet
