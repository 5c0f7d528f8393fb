-- Entries that are handed m, of shortened codes (2026-06) and of blocks of words (2026-07). One condition stands "after the sheet's and before
-- 11": it is 16 or 17.
--
--   Between r b P            such a condition: its number, its test, and what the test says
--   none_front, none_back    none of two lists of turns holds
--   between_answered         what an entry answers by the sheet's conditions, such a one and its own
--   between_sheet            it refuses with the sheet's refusal, if it has one
--   between_iff, later_iff   what the number of such a condition says, and a later one, whatever was handed over
--   shortening, depth        16 and 17 are such
--   encode_short_answered, read_short_answered, decode_short_answered, block_answered      what each entry answers
--   shortened_first, block_first      the sheet's refusal
--   sixteen_iff, thirteen_short_iff, fourteen_short_iff, seventeen_iff      what 16 says, 13 and 14 of a shortened code, and 17
use mathlib.Core.Path.{◌≡◌, refl, sym, ap, ◌∙◌}
use mathlib.Core.Logic.Iff
use mathlib.Core.Logic.{◌↔◌, inl, inr}
use mathlib.Core.Bool.{Bool, true, false}
use mathlib.Core.List.{List, [], ◌∷◌, ◌++◌, append_assoc}
use Prim.Native.Nat.{ℕ, zero, suc, ◌+◌, ◌-◌, ◌*◌, ◌/◌, ◌^◌, ◌≤◌, ◌<◌}
use native.Mathlib.Nat.{lt_of_lt_of_le}
use native.Mathlib.Omega.{arith}
use lib.ListN.{length}
use lib.Pow.{pow_mono}
use Rattle.codeword.proofs.Places.{mask_lt}
use Rattle.document.specs.Answer.{Answer, refused, Conditions, first_of, settle_in}
use Rattle.document.specs.Layout.{word_weight, message_weight, bytes_for}
use Rattle.document.specs.Sheet.{Stated}
use Rattle.document.specs.Generator.{is_codeword}
use Rattle.document.specs.Judge.{dimension_of}
use Rattle.document.specs.Entry.{generator_of}
use Rattle.document.specs.Shortened.{wrong_shortening, sent_word_of, ShortenedCodeword, shortened_message}
use Rattle.document.specs.Shortened.{encode_shortened_conditions, encode_shortened_entry, read_shortened_conditions, read_shortened_entry}
use Rattle.document.specs.Shortened.{decode_shortened_conditions, decode_shortened_entry}
use Rattle.document.specs.Block.{wrong_depth, block_conditions, block_entry}
use Rattle.document.specs.Short.{stated, refusals_of, judge_of, encode_shortened_of, read_shortened_of, decode_shortened_of, decode_block_of}
use Rattle.document.proofs.Sane.{settle_number}
use Rattle.document.proofs.Chain.{first_true, first_false}
use Rattle.document.proofs.Settled.{sheet_before}
use Rattle.document.proofs.Reflect.{Says, not_iff, eqb_iff, leb_iff, ltb_iff, or_of, not_eq_iff}
use Rattle.certificate.proofs.Sheets as Sheets
use Rattle.certificate.proofs.Shortening.{shortened_none}
use Rattle.code.specs.Turns.{Turns, FirstThatHolds, NoneHolds}
use Rattle.code.specs.Published.{IsAccepted}
use Rattle.code.specs.Table.{sheet_turns, last_refusal, Answered, WrongShortening, NoneNearShortenedSaid, NoShortenedCodewordSaid}
use Rattle.code.specs.Table.{encode_shortened_own, read_shortened_own, decode_shortened_own, encode_shortened_turns, read_shortened_turns, decode_shortened_turns}
use Rattle.code.specs.Table.{WrongDepth, block_own, block_turns}
use Rattle.code.proofs.InTurn.{Said, same, said_first, said_append, answered}
use Rattle.code.proofs.Tried.{sheet_said, accepted_of, size_said, spare_said}
use Rattle.code.proofs.Refusing.{never_zero, own_first, is_accepted, accepted_is, usable}

-- r, b and P: its number, its test and its statement. The number is above those of the entries' own conditions.
record Between (r : ℕ) (b : Bool) (P : Type 0) : Type 0 where
  above : 15 < r
  most : r ≤ last_refusal
  says : Says b P

-- an entry's own conditions have numbers up to 15, so the first that holds has
abbrev Own : Conditions → Type 0
Own [] = Unit
Own (c ∷ l) = (c.0 ≤ 15) × Own l

own_le : (l : Conditions) → Own l → first_of l ≤ 15
unfolding first_of
own_le [] h = omega arith
own_le (c ∷ l) h = go c.1 refl (own_le l h.1)
  where
    go : (b : Bool) → c.1 ≡ b → first_of l ≤ 15 → first_of (c ∷ l) ≤ 15
    go true q rest = omega (arith, first_true c l q, h.0)
    go false q rest = omega (arith, first_false c l q)

pub none_front : (s t : Turns) → NoneHolds (s ++ t) → NoneHolds s
none_front [] t none = tt
none_front (turn ∷ s) t none = (none.0, none_front s t none.1)

pub none_back : (s t : Turns) → NoneHolds (s ++ t) → NoneHolds t
none_back [] t none = none
none_back (turn ∷ s) t none = none_back s t none.1

module _ (sheet : List ℕ) where
  abbrev x : Stated
  x = stated sheet

  -- ---- a condition between the sheet's and an entry's own. B: the bytes of one lent buffer, or of two
  module _ {r : ℕ} {b : Bool} {P : Type 0} (c : Between r b P) {B : Type 0} (own : Conditions) (v : List ℕ) (w old : B) where
    abbrev reply : Answer × B
    reply = settle_in (first_of ((refusals_of sheet ++ (r, b) ∷ []) ++ own)) v w old

    between_answered : (turns : Turns) → (first_of (refusals_of sheet) ≡ 0 → Said last_refusal own turns)
        → Answered ((sheet_turns sheet ++ (r, P) ∷ []) ++ turns) reply old
    between_answered turns s =
        answered ((refusals_of sheet ++ (r, b) ∷ []) ++ own) ((sheet_turns sheet ++ (r, P) ∷ []) ++ turns)
        (said_append last_refusal (refusals_of sheet ++ (r, b) ∷ []) (sheet_turns sheet ++ (r, P) ∷ []) own turns
        (said_append last_refusal (refusals_of sheet) (sheet_turns sheet) ((r, b) ∷ []) ((r, P) ∷ []) (sheet_said sheet)
        (λ none. (omega (arith, c.above), c.most, refl, c.says, λ n. tt)))
        (λ none. s (accepted_of sheet (none_front (sheet_turns sheet) ((r, P) ∷ []) none)))) v w old

    between_sheet : (q : ℕ) → judge_of sheet ≡ refused q → reply ≡ (refused q, old)
    between_sheet zero e = absurd (never_zero sheet e)
    between_sheet (suc q) e = sym (sheet_before (refusals_of sheet) ((r, b) ∷ []) own x v w old (suc q) (omega arith) (sym e))

    number_iff : (q : ℕ) → 10 < q → (reply.0.number ≡ q) ↔ ((first_of (refusals_of sheet) ≡ 0) × (first_of ((r, b) ∷ own) ≡ q))
    number_iff q h =
        let e : reply.0.number ≡ first_of (refusals_of sheet ++ (r, b) ∷ own) =
        settle_number _ v w old ∙ ap first_of (append_assoc (refusals_of sheet) ((r, b) ∷ []) own) in
        let f = own_first sheet ((r, b) ∷ own) q h in (λ n. f.0 (sym e ∙ n), λ z. e ∙ f.1 z)

    between_iff : Own own → (reply.0.number ≡ r) ↔ (IsAccepted sheet × P)
    between_iff h =
        let f = number_iff r (omega (arith, c.above)) in (
          λ n. (let z = f.0 n in (is_accepted sheet z.0, c.says.0 (wrong b refl z.1))),
          λ y. f.1 (accepted_is sheet y.0, first_true (r, b) own (c.says.1 y.1)),
        )
      where
        wrong : (a : Bool) → b ≡ a → first_of ((r, b) ∷ own) ≡ r → b ≡ true
        wrong true q z = q
        wrong false q z = absurd (omega (arith, c.above, own_le own h, first_false (r, b) own q, z))

    later_iff : (turns : Turns) → (first_of (refusals_of sheet) ≡ 0 → Said last_refusal own turns) → (q : ℕ) → 10 < q
        → (reply.0.number ≡ q) ↔ (IsAccepted sheet × FirstThatHolds ((r, P) ∷ turns) q)
    later_iff turns s q h =
        let f = number_iff q h in (
          λ n. (let z = f.0 n in (is_accepted sheet z.0, (rows z.0).0 z.1)),
          λ y. (let a = accepted_is sheet y.0 in f.1 (a, (rows a).1 y.1)),
        )
      where
        rows : first_of (refusals_of sheet) ≡ 0 → (first_of ((r, b) ∷ own) ≡ q) ↔ FirstThatHolds ((r, P) ∷ turns) q
        rows a =
            said_first last_refusal ((r, b) ∷ own) ((r, P) ∷ turns) (omega (arith, c.above), c.most, refl, c.says, λ n. s a) q (omega arith)

  module _ (m : ℕ) where
    -- ---- shortened codes
    shortening : Between 16 (wrong_shortening m x) (WrongShortening m x)
    shortening = record { above = omega arith; most = omega arith; says = or_of (eqb_iff m 0) (leb_iff (dimension_of x) m) }

    module _ (input out : List ℕ) where
      encode_short_own : Said last_refusal (encode_shortened_conditions m x input out) (encode_shortened_own m x input out)
      unfolding encode_shortened_conditions
      encode_short_own = (
        omega arith,
        omega arith,
        refl,
        size_said (dimension_of x - m) input,
        λ n₁. (
          omega arith,
          omega arith,
          refl,
          size_said (x.n - m) out,
          λ n₂. (omega arith, omega arith, refl, spare_said message_weight (dimension_of x - m) input, λ n₃. tt),
        ),
      )

      word_said : Says (is_codeword (x.n - dimension_of x) (generator_of x) (sent_word_of m x input)) (ShortenedCodeword m x (sent_word_of m x input))
      unfolding dimension_of generator_of
      word_said = (
        λ e. record {
          in_code = record { small = lt_of_lt_of_le (mask_lt word_weight (x.n - m) input) (pow_mono (omega arith)); is = e };
          top_is_zero = mask_lt word_weight (x.n - m) input;
        },
        λ c. c.in_code.is,
      )

      read_short_own : Said last_refusal (read_shortened_conditions m x input out) (read_shortened_own m x input out)
      unfolding read_shortened_conditions
      read_short_own = (
        omega arith,
        omega arith,
        refl,
        size_said (x.n - m) input,
        λ n₁. (
          omega arith,
          omega arith,
          refl,
          size_said (dimension_of x - m) out,
          λ n₂. (
            omega arith,
            omega arith,
            refl,
            spare_said word_weight (x.n - m) input,
            λ n₃. (
              omega arith,
              omega arith,
              refl,
              Iff.trans (not_iff (is_codeword (x.n - dimension_of x) (generator_of x) (sent_word_of m x input))) (Iff.not word_said),
              λ n₄. tt,
            ),
          ),
        ),
      )

      decode_short_own : Sheets.Accepted x → Said last_refusal (decode_shortened_conditions m x input out) (decode_shortened_own m x input out)
      unfolding decode_shortened_conditions
      decode_short_own a = (
        omega arith,
        omega arith,
        refl,
        size_said (x.n - m) input,
        λ n₁. (
          omega arith,
          omega arith,
          refl,
          size_said (x.n - m) out,
          λ n₂. (
            omega arith,
            omega arith,
            refl,
            spare_said word_weight (x.n - m) input,
            λ n₃. (
              omega arith,
              omega arith,
              refl,
              Iff.trans (eqb_iff (shortened_message m x input) (2 ^ dimension_of x)) (shortened_none a m input),
              λ n₄. tt,
            ),
          ),
        ),
      )

      pub encode_short_answered : Answered (encode_shortened_turns sheet m input out) (encode_shortened_of sheet m input out) out
      unfolding encode_shortened_entry
      encode_short_answered =
          between_answered shortening (encode_shortened_conditions m x input out) _ _ out (encode_shortened_own m x input out) (λ a. encode_short_own)

      pub read_short_answered : Answered (read_shortened_turns sheet m input out) (read_shortened_of sheet m input out) out
      unfolding read_shortened_entry
      read_short_answered =
          between_answered shortening (read_shortened_conditions m x input out) _ _ out (read_shortened_own m x input out) (λ a. read_short_own)

      pub decode_short_answered : Answered (decode_shortened_turns sheet m input out) (decode_shortened_of sheet m input out) out
      unfolding decode_shortened_entry
      decode_short_answered =
          between_answered shortening (decode_shortened_conditions m x input out) _ _ out (decode_shortened_own m x input out)
          (λ a. decode_short_own (usable sheet a))

      pub shortened_first : (r : ℕ) → judge_of sheet ≡ refused r
          → (encode_shortened_of sheet m input out ≡ (refused r, out)) × (read_shortened_of sheet m input out ≡ (refused r, out))
          × (decode_shortened_of sheet m input out ≡ (refused r, out))
      unfolding encode_shortened_entry read_shortened_entry decode_shortened_entry
      shortened_first r e = (
        between_sheet shortening (encode_shortened_conditions m x input out) _ _ out r e,
        between_sheet shortening (read_shortened_conditions m x input out) _ _ out r e,
        between_sheet shortening (decode_shortened_conditions m x input out) _ _ out r e,
      )

      pub sixteen_iff : (((encode_shortened_of sheet m input out).0.number ≡ 16) ↔ (IsAccepted sheet × WrongShortening m x))
          × (((read_shortened_of sheet m input out).0.number ≡ 16) ↔ (IsAccepted sheet × WrongShortening m x))
          × (((decode_shortened_of sheet m input out).0.number ≡ 16) ↔ (IsAccepted sheet × WrongShortening m x))
      unfolding encode_shortened_entry read_shortened_entry decode_shortened_entry encode_shortened_conditions read_shortened_conditions decode_shortened_conditions
      sixteen_iff = (
        between_iff shortening (encode_shortened_conditions m x input out) _ _ out (omega arith, (omega arith, (omega arith, tt))),
        between_iff shortening (read_shortened_conditions m x input out) _ _ out (omega arith, (omega arith, (omega arith, (omega arith, tt)))),
        between_iff shortening (decode_shortened_conditions m x input out) _ _ out (omega arith, (omega arith, (omega arith, (omega arith, tt)))),
      )

      thirteen_short_rows : IsAccepted sheet → FirstThatHolds ((16, WrongShortening m x) ∷ decode_shortened_own m x input out) 13
          → NoneNearShortenedSaid sheet m input out
      thirteen_short_rows a (inl h) = absurd (omega (arith, h.0))
      thirteen_short_rows a (inr (n₀, inl h)) = absurd (omega (arith, h.0))
      thirteen_short_rows a (inr (n₀, inr (n₁, inl h))) = absurd (omega (arith, h.0))
      thirteen_short_rows a (inr (n₀, inr (n₁, inr (n₂, inl h)))) = absurd (omega (arith, h.0))
      thirteen_short_rows a (inr (n₀, inr (n₁, inr (n₂, inr (n₃, inl h))))) =
          record { accepted = a; right = n₀; word_long = same n₁; out_long = same n₂; no_spare = n₃; none = h.1 }
      thirteen_short_rows a (inr (n₀, inr (n₁, inr (n₂, inr (n₃, inr h))))) = absurd h.1

      pub thirteen_short_iff : ((decode_shortened_of sheet m input out).0.number ≡ 13) ↔ NoneNearShortenedSaid sheet m input out
      unfolding decode_shortened_entry
      thirteen_short_iff =
          Iff.trans
          (later_iff shortening (decode_shortened_conditions m x input out) _ _ out (decode_shortened_own m x input out)
          (λ a. decode_short_own (usable sheet a)) 13 (omega arith)) (
            λ y. thirteen_short_rows y.0 y.1,
            λ s. (s.accepted, inr (s.right, inr (λ n. n s.word_long, inr (λ n. n s.out_long, inr (s.no_spare, inl (refl, s.none)))))),
          )

      fourteen_short_rows : IsAccepted sheet → FirstThatHolds ((16, WrongShortening m x) ∷ read_shortened_own m x input out) 14
          → NoShortenedCodewordSaid sheet m input out
      fourteen_short_rows a (inl h) = absurd (omega (arith, h.0))
      fourteen_short_rows a (inr (n₀, inl h)) = absurd (omega (arith, h.0))
      fourteen_short_rows a (inr (n₀, inr (n₁, inl h))) = absurd (omega (arith, h.0))
      fourteen_short_rows a (inr (n₀, inr (n₁, inr (n₂, inl h)))) = absurd (omega (arith, h.0))
      fourteen_short_rows a (inr (n₀, inr (n₁, inr (n₂, inr (n₃, inl h))))) =
          record { accepted = a; right = n₀; word_long = same n₁; out_long = same n₂; no_spare = n₃; none = h.1 }
      fourteen_short_rows a (inr (n₀, inr (n₁, inr (n₂, inr (n₃, inr h))))) = absurd h.1

      pub fourteen_short_iff : ((read_shortened_of sheet m input out).0.number ≡ 14) ↔ NoShortenedCodewordSaid sheet m input out
      unfolding read_shortened_entry
      fourteen_short_iff =
          Iff.trans
          (later_iff shortening (read_shortened_conditions m x input out) _ _ out (read_shortened_own m x input out) (λ a. read_short_own) 14
          (omega arith)) (
            λ y. fourteen_short_rows y.0 y.1,
            λ s. (s.accepted, inr (s.right, inr (λ n. n s.word_long, inr (λ n. n s.out_long, inr (s.no_spare, inl (refl, s.none)))))),
          )

    -- ---- a block of words
    depth : Between 17 (wrong_depth m) (WrongDepth m)
    depth = record { above = omega arith; most = omega arith; says = or_of (ltb_iff m 2) (ltb_iff 16 m) }

    module _ (block out verdicts : List ℕ) where
      block_own_lem : Said last_refusal (block_conditions m x block out verdicts) (block_own m x block out verdicts)
      unfolding block_conditions bytes_for
      block_own_lem = (
        omega arith,
        omega arith,
        refl,
        size_said (x.n * m) block,
        λ n₁. (
          omega arith,
          omega arith,
          refl,
          not_eq_iff (length out) (m * ((x.n + 7) / 8)),
          λ n₂. (
            omega arith,
            omega arith,
            refl,
            not_eq_iff (length verdicts) m,
            λ n₃. (omega arith, omega arith, refl, spare_said word_weight (x.n * m) block, λ n₄. tt),
          ),
        ),
      )

      pub block_answered : Answered (block_turns sheet m block out verdicts) (decode_block_of sheet m block out verdicts) (out, verdicts)
      unfolding block_entry
      block_answered =
          between_answered depth (block_conditions m x block out verdicts) _ _ (out, verdicts) (block_own m x block out verdicts) (λ a. block_own_lem)

      pub block_first : (r : ℕ) → judge_of sheet ≡ refused r → decode_block_of sheet m block out verdicts ≡ (refused r, (out, verdicts))
      unfolding block_entry
      block_first = between_sheet depth (block_conditions m x block out verdicts) _ _ (out, verdicts)

      pub seventeen_iff : ((decode_block_of sheet m block out verdicts).0.number ≡ 17) ↔ (IsAccepted sheet × WrongDepth m)
      unfolding block_entry block_conditions
      seventeen_iff =
          between_iff depth (block_conditions m x block out verdicts) _ _ (out, verdicts) (omega arith, (omega arith, (omega arith, (omega arith, tt))))
