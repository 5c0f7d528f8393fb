-- The exits of the entries on words.
--
--   encode_sheet, read_sheet, decode_sheet, marked_sheet      a refused sheet at each
--   encode_accepted, read_accepted, decode_accepted, marked_accepted      an accepted one: its conditions may be left out
--   encode_short_sheet, read_short_sheet, decode_short_sheet      a refused sheet where the code is shortened
--   encode_short_m, read_short_m, decode_short_m      16 of an accepted one
--   encode_short_accepted, read_short_accepted, decode_short_accepted      an accepted one, and m is right
--   block_sheet, block_m, block_accepted      the same of a block of words: a refused sheet, 17, and an accepted one with a right m
--   unshortened_encoding, unshortened_reading      with m = 0 they are encoding and reading out
--   encode_message, encode_out, encode_spare, encode_done      the exits of encoding a message, of whatever was stated
--   read_word, read_out, read_spare, read_none, read_done      those of reading out
use mathlib.Core.Path.{◌≡◌, refl, sym, ap, ap₂, ◌∙◌}
use mathlib.Core.Logic.{◌≢◌}
use mathlib.Core.Bool.{Bool, true, false, not}
use mathlib.Core.List.{List, [], ◌∷◌, ◌++◌}
use Prim.Native.Nat.{ℕ, ◌+◌, ◌-◌, ◌<◌}
use native.Mathlib.Omega.{arith}
use lib.ListN.{length}
use Rattle.document.specs.declared.types.Refusal.{Refusal}
use Rattle.document.specs.Answer.{Answer, returned, refused, number_of, Conditions, first_of}
use Rattle.document.specs.Layout.{word_weight, message_weight, bytes_for, mask_of, bytes_of, spare}
use Rattle.document.specs.Sheet.{Stated}
use Rattle.document.specs.Coset.{dimension}
use Rattle.document.specs.Generator.{generator, is_codeword, encode_mask, message_of}
use Rattle.document.specs.Judge.{dimension_of, judge_entry}
use Rattle.document.specs.Entry.{wrong_size, generator_of, encode_conditions, encoded_word, encode_entry, read_conditions, read_entry}
use Rattle.document.specs.Entry.{decode_conditions, decode_entry}
use Rattle.document.specs.Shortened.{wrong_shortening, shortening_conditions, sent_places, sent_bits, sent_word_of, encoded_shortened}
use Rattle.document.specs.Shortened.{encode_shortened_conditions, encode_shortened_entry, read_shortened_conditions, read_shortened_entry}
use Rattle.document.specs.Shortened.{decode_shortened_conditions, decode_shortened_entry}
use Rattle.document.specs.Marked.{marked_conditions, marked_entry}
use Rattle.document.specs.Block.{wrong_depth, depth_conditions, block_conditions, block_entry}
use Rattle.document.proofs.Settled.{entry_sheet, sheet_before, entry_between, entry_quiet, entry_refused, entry_done, first_nil, size_wrong, size_right}
use Rattle.document.proofs.Chain.{Quiet, silent, passing, quiet_append, first_true, first_false}
use Rattle.judging.proofs.Weighing.{number_pos}
use Rattle.codeword.specs.Codewords.{Usable, RemainderTested, CodewordWritten, MessageRead}
use Rattle.code.specs.Stating.{Stating}

-- ---- a refused sheet, and an accepted one
module _ (sheet : Conditions) (x : Stated) (input out : List ℕ) where
  pub encode_sheet : (q : Refusal) → refused (number_of q) ≡ judge_entry sheet x → (refused (number_of q), out) ≡ encode_entry sheet x input out
  unfolding encode_entry
  encode_sheet q e = entry_sheet sheet x (encode_conditions x input out) _ _ out (number_of q) (number_pos q) e

  pub encode_accepted : Quiet sheet → encode_entry [] x input out ≡ encode_entry sheet x input out
  unfolding encode_entry
  encode_accepted q = entry_quiet (encode_conditions x input out) _ _ out q

  pub read_sheet : (q : Refusal) → refused (number_of q) ≡ judge_entry sheet x → (refused (number_of q), out) ≡ read_entry sheet x input out
  unfolding read_entry
  read_sheet q e = entry_sheet sheet x (read_conditions x input out) _ _ out (number_of q) (number_pos q) e

  pub read_accepted : Quiet sheet → read_entry [] x input out ≡ read_entry sheet x input out
  unfolding read_entry
  read_accepted q = entry_quiet (read_conditions x input out) _ _ out q

  pub decode_sheet : (q : Refusal) → refused (number_of q) ≡ judge_entry sheet x → (refused (number_of q), out) ≡ decode_entry sheet x input out
  unfolding decode_entry
  decode_sheet q e = entry_sheet sheet x (decode_conditions x input out) _ _ out (number_of q) (number_pos q) e

  pub decode_accepted : Quiet sheet → decode_entry [] x input out ≡ decode_entry sheet x input out
  unfolding decode_entry
  decode_accepted q = entry_quiet (decode_conditions x input out) _ _ out q

module _ (sheet : Conditions) (x : Stated) (word marks zeros ones : List ℕ) where
  pub marked_sheet : (q : Refusal) → refused (number_of q) ≡ judge_entry sheet x
      → (refused (number_of q), (zeros, ones)) ≡ marked_entry sheet x word marks zeros ones
  unfolding marked_entry
  marked_sheet q e = entry_sheet sheet x (marked_conditions x word marks zeros ones) _ _ (zeros, ones) (number_of q) (number_pos q) e

  pub marked_accepted : Quiet sheet → marked_entry [] x word marks zeros ones ≡ marked_entry sheet x word marks zeros ones
  unfolding marked_entry
  marked_accepted q = entry_quiet (marked_conditions x word marks zeros ones) _ _ (zeros, ones) q

-- ---- the same of a shortened code
module _ (sheet : Conditions) (x : Stated) (m : ℕ) (input out : List ℕ) where
  abbrev all : Conditions
  all = sheet ++ shortening_conditions m x

  sixteen : wrong_shortening m x ≡ true → first_of (shortening_conditions m x) ≡ 16
  sixteen e = first_true (16, wrong_shortening m x) [] e

  all_quiet : Quiet sheet → wrong_shortening m x ≡ false → Quiet all
  all_quiet q e = quiet_append q (passing e silent)

  module _ (q : Refusal) (e : refused (number_of q) ≡ judge_entry sheet x) where
    pub encode_short_sheet : (refused (number_of q), out) ≡ encode_shortened_entry all m x input out
    unfolding encode_shortened_entry
    encode_short_sheet = sheet_before sheet (shortening_conditions m x) (encode_shortened_conditions m x input out) x _ _ out (number_of q) (number_pos q) e

    pub read_short_sheet : (refused (number_of q), out) ≡ read_shortened_entry all m x input out
    unfolding read_shortened_entry
    read_short_sheet = sheet_before sheet (shortening_conditions m x) (read_shortened_conditions m x input out) x _ _ out (number_of q) (number_pos q) e

    pub decode_short_sheet : (refused (number_of q), out) ≡ decode_shortened_entry all m x input out
    unfolding decode_shortened_entry
    decode_short_sheet = sheet_before sheet (shortening_conditions m x) (decode_shortened_conditions m x input out) x _ _ out (number_of q) (number_pos q) e

  module _ (q : Quiet sheet) (e : wrong_shortening m x ≡ true) where
    pub encode_short_m : (refused 16, out) ≡ encode_shortened_entry all m x input out
    unfolding encode_shortened_entry
    encode_short_m = entry_between sheet (shortening_conditions m x) (encode_shortened_conditions m x input out) x _ _ out 15 q (sixteen e)

    pub read_short_m : (refused 16, out) ≡ read_shortened_entry all m x input out
    unfolding read_shortened_entry
    read_short_m = entry_between sheet (shortening_conditions m x) (read_shortened_conditions m x input out) x _ _ out 15 q (sixteen e)

    pub decode_short_m : (refused 16, out) ≡ decode_shortened_entry all m x input out
    unfolding decode_shortened_entry
    decode_short_m = entry_between sheet (shortening_conditions m x) (decode_shortened_conditions m x input out) x _ _ out 15 q (sixteen e)

  module _ (q : Quiet sheet) (e : wrong_shortening m x ≡ false) where
    pub encode_short_accepted : encode_shortened_entry [] m x input out ≡ encode_shortened_entry all m x input out
    unfolding encode_shortened_entry
    encode_short_accepted = entry_quiet (encode_shortened_conditions m x input out) _ _ out (all_quiet q e)

    pub read_short_accepted : read_shortened_entry [] m x input out ≡ read_shortened_entry all m x input out
    unfolding read_shortened_entry
    read_short_accepted = entry_quiet (read_shortened_conditions m x input out) _ _ out (all_quiet q e)

    pub decode_short_accepted : decode_shortened_entry [] m x input out ≡ decode_shortened_entry all m x input out
    unfolding decode_shortened_entry
    decode_short_accepted = entry_quiet (decode_shortened_conditions m x input out) _ _ out (all_quiet q e)

-- ---- the same of a block of words
module _ (sheet : Conditions) (x : Stated) (m : ℕ) (block out verdicts : List ℕ) where
  pub block_sheet : (q : Refusal) → refused (number_of q) ≡ judge_entry sheet x
      → (refused (number_of q), (out, verdicts)) ≡ block_entry (sheet ++ depth_conditions m) m x block out verdicts
  unfolding block_entry
  block_sheet q e =
      sheet_before sheet (depth_conditions m) (block_conditions m x block out verdicts) x _ _ (out, verdicts) (number_of q) (number_pos q) e

  pub block_m : Quiet sheet → wrong_depth m ≡ true
      → (refused 17, (out, verdicts)) ≡ block_entry (sheet ++ depth_conditions m) m x block out verdicts
  unfolding block_entry
  block_m q e =
      entry_between sheet (depth_conditions m) (block_conditions m x block out verdicts) x _ _ (out, verdicts) 16 q
      (first_true (17, wrong_depth m) [] e)

  pub block_accepted : Quiet sheet → wrong_depth m ≡ false
      → block_entry [] m x block out verdicts ≡ block_entry (sheet ++ depth_conditions m) m x block out verdicts
  unfolding block_entry
  block_accepted q e = entry_quiet (block_conditions m x block out verdicts) _ _ (out, verdicts) (quiet_append q (passing e silent))

-- ---- with m = 0
module _ (x : Stated) (input out : List ℕ) where
  n_whole : x.n - 0 ≡ x.n
  n_whole = omega arith

  k_whole : dimension_of x - 0 ≡ dimension_of x
  k_whole = omega arith

  pub unshortened_encoding : encode_shortened_entry [] 0 x input out ≡ encode_entry [] x input out
  unfolding encode_shortened_entry encode_shortened_conditions encoded_shortened encode_entry encode_conditions encoded_word
  unshortened_encoding = rw (n_whole, k_whole) refl

  pub unshortened_reading : read_shortened_entry [] 0 x input out ≡ read_entry [] x input out
  unfolding read_shortened_entry read_shortened_conditions read_entry read_conditions
  unshortened_reading = rw (n_whole, k_whole) refl

-- ---- what is stated, with the code's numbers; m places are not sent
module _ {n k s : ℕ} {reps : List ℕ} (u : Usable n k s reps) {m : ℕ} (less : m < k) (x : Stated) (en : n ≡ x.n) (er : reps ≡ x.representatives) where
  k_is : k ≡ dimension_of x
  unfolding dimension_of
  k_is = u.k_is ∙ ap₂ dimension en er

  bits_is : k - m ≡ sent_bits m x
  bits_is = ap (λ (i : ℕ). i - m) k_is

  sent_is : n - m ≡ sent_places m x
  sent_is = ap (λ (i : ℕ). i - m) en

  -- what is sent is the message and its remainder
  split : n - k + (k - m) ≡ n - m
  split = omega (arith, u.k_le)

  checks_is : n - dimension n reps ≡ x.n - dimension_of x
  unfolding dimension_of
  checks_is = ap₂ (λ (m : ℕ) (l : List ℕ). m - dimension m l) en er

  generator_is : generator n reps ≡ generator_of x
  unfolding generator_of
  generator_is = ap₂ generator en er

  -- ---- encoding
  module _ (message out : List ℕ) where
    abbrev written : List ℕ
    written = bytes_of word_weight (sent_places m x) (encoded_shortened m x message)

    wrong_message : length message ≢ bytes_for (k - m) → (refused 11, out) ≡ encode_shortened_entry [] m x message out
    unfolding encode_shortened_entry encode_shortened_conditions
    wrong_message h =
        entry_refused (encode_shortened_conditions m x message out) (0 ∷ []) written out 10
        (first_true (11, wrong_size (sent_bits m x) message) _
        (size_wrong (sent_bits m x) message (λ e. h (e ∙ ap bytes_for (sym bits_is)))))

    module _ (a : length message ≡ bytes_for (k - m)) where
      one : wrong_size (sent_bits m x) message ≡ false
      one = size_right (sent_bits m x) message (a ∙ ap bytes_for bits_is)

      wrong_codeword : length out ≢ bytes_for (n - m) → (refused 11, out) ≡ encode_shortened_entry [] m x message out
      unfolding encode_shortened_entry encode_shortened_conditions
      wrong_codeword h =
          entry_refused (encode_shortened_conditions m x message out) (0 ∷ []) written out 10
          (first_false (11, wrong_size (sent_bits m x) message) _ one
          ∙ first_true (11, wrong_size (sent_places m x) out) _ (size_wrong (sent_places m x) out (λ e. h (e ∙ ap bytes_for (sym sent_is)))))

      module _ (b : length out ≡ bytes_for (n - m)) where
        two : wrong_size (sent_places m x) out ≡ false
        two = size_right (sent_places m x) out (b ∙ ap bytes_for sent_is)

        spare_message : spare message_weight (k - m) message ≡ true → (refused 12, out) ≡ encode_shortened_entry [] m x message out
        unfolding encode_shortened_entry encode_shortened_conditions
        spare_message h =
            entry_refused (encode_shortened_conditions m x message out) (0 ∷ []) written out 11
            (first_false (11, wrong_size (sent_bits m x) message) _ one
            ∙ first_false (11, wrong_size (sent_places m x) out) _ two
            ∙ first_true (12, spare message_weight (sent_bits m x) message) _
            (ap (λ (i : ℕ). spare message_weight i message) (sym bits_is) ∙ h))

        encoded_is : encode_mask (n - dimension n reps) (generator n reps) (mask_of message_weight (k - m) message) ≡ encoded_shortened m x message
        unfolding encoded_shortened
        encoded_is =
            ap₂ (λ (i g : ℕ). encode_mask i g (mask_of message_weight (k - m) message)) checks_is generator_is
            ∙ ap (λ (i : ℕ). encode_mask (x.n - dimension_of x) (generator_of x) (mask_of message_weight i message)) bits_is

        codeword_done : {out' : List ℕ} → spare message_weight (k - m) message ≡ false → CodewordWritten n (n - k + (k - m)) (k - m) reps message out'
            → (returned (0 ∷ []), out') ≡ encode_shortened_entry [] m x message out
        unfolding encode_shortened_entry encode_shortened_conditions
        codeword_done h w =
            entry_done (encode_shortened_conditions m x message out) (0 ∷ []) written out
            (first_false (11, wrong_size (sent_bits m x) message) _ one
            ∙ first_false (11, wrong_size (sent_places m x) out) _ two
            ∙ first_false (12, spare message_weight (sent_bits m x) message) []
            (ap (λ (i : ℕ). spare message_weight i message) (sym bits_is) ∙ h) ∙ first_nil)
            (w.is ∙ ap₂ (bytes_of word_weight) (split ∙ sent_is) encoded_is)

  -- ---- reading out
  module _ (word out : List ℕ) where
    abbrev message : List ℕ
    message = bytes_of message_weight (sent_bits m x) (message_of (x.n - dimension_of x) (sent_word_of m x word))

    abbrev none : Bool
    none = not (is_codeword (x.n - dimension_of x) (generator_of x) (sent_word_of m x word))

    wrong_word : length word ≢ bytes_for (n - m) → (refused 11, out) ≡ read_shortened_entry [] m x word out
    unfolding read_shortened_entry read_shortened_conditions
    wrong_word h =
        entry_refused (read_shortened_conditions m x word out) (0 ∷ []) message out 10
        (first_true (11, wrong_size (sent_places m x) word) _ (size_wrong (sent_places m x) word (λ e. h (e ∙ ap bytes_for (sym sent_is)))))

    module _ (a : length word ≡ bytes_for (n - m)) where
      first : wrong_size (sent_places m x) word ≡ false
      first = size_right (sent_places m x) word (a ∙ ap bytes_for sent_is)

      wrong_out : length out ≢ bytes_for (k - m) → (refused 11, out) ≡ read_shortened_entry [] m x word out
      unfolding read_shortened_entry read_shortened_conditions
      wrong_out h =
          entry_refused (read_shortened_conditions m x word out) (0 ∷ []) message out 10
          (first_false (11, wrong_size (sent_places m x) word) _ first
          ∙ first_true (11, wrong_size (sent_bits m x) out) _ (size_wrong (sent_bits m x) out (λ e. h (e ∙ ap bytes_for (sym bits_is)))))

      module _ (b : length out ≡ bytes_for (k - m)) where
        second : wrong_size (sent_bits m x) out ≡ false
        second = size_right (sent_bits m x) out (b ∙ ap bytes_for bits_is)

        spare_word : spare word_weight (n - m) word ≡ true → (refused 12, out) ≡ read_shortened_entry [] m x word out
        unfolding read_shortened_entry read_shortened_conditions
        spare_word h =
            entry_refused (read_shortened_conditions m x word out) (0 ∷ []) message out 11
            (first_false (11, wrong_size (sent_places m x) word) _ first
            ∙ first_false (11, wrong_size (sent_bits m x) out) _ second
            ∙ first_true (12, spare word_weight (sent_places m x) word) _ (ap (λ (i : ℕ). spare word_weight i word) (sym sent_is) ∙ h))

        module _ (c : spare word_weight (n - m) word ≡ false) {r : Bool} (t : RemainderTested n (n - m) reps word r) where
          third : spare word_weight (sent_places m x) word ≡ false
          third = ap (λ (i : ℕ). spare word_weight i word) (sym sent_is) ∙ c

          none_is : r ≡ none
          none_is =
              t.is ∙ ap₂ (λ (i g : ℕ). not (is_codeword i g (mask_of word_weight (n - m) word))) checks_is generator_is
              ∙ ap (λ (i : ℕ). not (is_codeword (x.n - dimension_of x) (generator_of x) (mask_of word_weight i word))) sent_is

          no_codeword : r ≡ true → (refused 14, out) ≡ read_shortened_entry [] m x word out
          unfolding read_shortened_entry read_shortened_conditions
          no_codeword e =
              entry_refused (read_shortened_conditions m x word out) (0 ∷ []) message out 13
              (first_false (11, wrong_size (sent_places m x) word) _ first
              ∙ first_false (11, wrong_size (sent_bits m x) out) _ second
              ∙ first_false (12, spare word_weight (sent_places m x) word) _ third ∙ first_true (14, none) _ (sym none_is ∙ e))

          message_done : {out' : List ℕ} → r ≡ false → MessageRead (n - k) (k - m) word out' → (returned (0 ∷ []), out') ≡ read_shortened_entry [] m x word out
          unfolding read_shortened_entry read_shortened_conditions
          message_done e y =
              entry_done (read_shortened_conditions m x word out) (0 ∷ []) message out
              (first_false (11, wrong_size (sent_places m x) word) _ first
              ∙ first_false (11, wrong_size (sent_bits m x) out) _ second
              ∙ first_false (12, spare word_weight (sent_places m x) word) _ third ∙ first_false (14, none) [] (sym none_is ∙ e) ∙ first_nil)
              (y.is ∙ ap (λ (i : ℕ). bytes_of message_weight (k - m) (message_of (n - k) (mask_of word_weight i word))) split
              ∙ ap₂ (λ (i j : ℕ). bytes_of message_weight (j - m) (message_of (i - j) (mask_of word_weight (i - m) word))) en k_is)

-- ---- of whatever was stated
module _ {n k s : ℕ} {reps : List ℕ} (u : Usable n k s reps) {m : ℕ} (less : m < k) (message out : List ℕ) where
  abbrev encoding : Stated → Answer × List ℕ
  encoding x = encode_shortened_entry [] m x message out

  pub encode_message : length message ≢ bytes_for (k - m) → Stating n reps encoding (refused 11, out)
  encode_message h = record { is = λ x en er. wrong_message u less x en er message out h }

  module _ (a : length message ≡ bytes_for (k - m)) where
    pub encode_out : length out ≢ bytes_for (n - m) → Stating n reps encoding (refused 11, out)
    encode_out h = record { is = λ x en er. wrong_codeword u less x en er message out a h }

    module _ (b : length out ≡ bytes_for (n - m)) where
      pub encode_spare : spare message_weight (k - m) message ≡ true → Stating n reps encoding (refused 12, out)
      encode_spare h = record { is = λ x en er. spare_message u less x en er message out a b h }

      pub encode_done : {out' : List ℕ} → spare message_weight (k - m) message ≡ false → CodewordWritten n (n - k + (k - m)) (k - m) reps message out'
          → Stating n reps encoding (returned (0 ∷ []), out')
      encode_done h w = record { is = λ x en er. codeword_done u less x en er message out a b h w }

module _ {n k s : ℕ} {reps : List ℕ} (u : Usable n k s reps) {m : ℕ} (less : m < k) (word out : List ℕ) where
  abbrev reading : Stated → Answer × List ℕ
  reading x = read_shortened_entry [] m x word out

  pub read_word : length word ≢ bytes_for (n - m) → Stating n reps reading (refused 11, out)
  read_word h = record { is = λ x en er. wrong_word u less x en er word out h }

  module _ (a : length word ≡ bytes_for (n - m)) where
    pub read_out : length out ≢ bytes_for (k - m) → Stating n reps reading (refused 11, out)
    read_out h = record { is = λ x en er. wrong_out u less x en er word out a h }

    module _ (b : length out ≡ bytes_for (k - m)) where
      pub read_spare : spare word_weight (n - m) word ≡ true → Stating n reps reading (refused 12, out)
      read_spare h = record { is = λ x en er. spare_word u less x en er word out a b h }

      module _ (c : spare word_weight (n - m) word ≡ false) {r : Bool} (t : RemainderTested n (n - m) reps word r) where
        pub read_none : r ≡ true → Stating n reps reading (refused 14, out)
        read_none e = record { is = λ x en er. no_codeword u less x en er word out a b c t e }

        pub read_done : {out' : List ℕ} → r ≡ false → MessageRead (n - k) (k - m) word out' → Stating n reps reading (returned (0 ∷ []), out')
        read_done e y = record { is = λ x en er. message_done u less x en er word out a b c t e y }
