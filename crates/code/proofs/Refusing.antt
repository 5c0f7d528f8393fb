-- What single refusals say.
--
--   read_sheet_bytes         what is stated is what a sheet's bytes say
--   never_zero               judging refuses with no 0; sheet_first, marked_first: every entry but card refuses with the sheet's refusal
--   card_writes, text_refused_iff, text_listed_iff      the text that card writes
--   own_first                a number above 10 is that of the entry's own conditions, on an accepted sheet
--   is_accepted, accepted_is, usable      accepted, by judging and by the sheet's conditions; what that grants
--   thirteen_iff, fourteen_iff, fifteen_iff      what 13 to 15 say, whatever was handed over
use mathlib.Core.Path.{◌≡◌, refl, sym, ap, ◌∙◌}
use mathlib.Core.Logic.{◌↔◌, inl, inr}
use mathlib.Core.List.{List, [], ◌∷◌, ◌++◌}
use Prim.Native.Nat.{ℕ, zero, suc, ◌+◌, ◌*◌, ◌<◌}
use native.Mathlib.Omega.{arith}
use lib.ListN.{length, drop}
use Rattle.document.specs.Answer.{Answer, returned, refused, Conditions, first_of, settle_in, settle}
use Rattle.document.specs.Sheet.{Certificate, Stated, certificate_at}
use Rattle.document.specs.Judge.{record_of, judge_entry}
use Rattle.document.specs.Entry.{encode_conditions, encode_entry, read_conditions, read_entry, decode_conditions, decode_entry}
use Rattle.document.specs.Marked.{marked_conditions, marked_entry}
use Rattle.document.specs.Card.{refused_line, accepted_lines, listing_for, listing_of, card_conditions, card_entry}
use Rattle.document.specs.Short.{short, byte_at, stated, refusals_of, judge_of, encode_of, read_of, decode_of, decode_marked_of, listing, card_of}
use Rattle.document.proofs.Sane.{settle_number}
use Rattle.document.proofs.Stated.{representatives_length, representative_is, certificates_length, certificate_is, length_is}
use Rattle.document.proofs.Chain.{first_quiet, first_keep}
use Rattle.document.proofs.Acceptance.{judge_number, judge_le, quiet_of}
use Rattle.document.proofs.Settled.{entry_sheet}
use Rattle.document.proofs.CardIs.{refused_injective, accepted_other}
use Rattle.certificate.proofs.Sheets as Sheets
use Rattle.code.specs.Turns.{Turns, FirstThatHolds}
use Rattle.code.specs.Published.{IsAccepted, CertificateRead, SheetRead}
use Rattle.code.specs.Table.{NoneNearSaid, NoCodewordSaid, NoneWithMarksSaid, decode_own, read_own, marked_own, last_refusal}
use Rattle.code.proofs.InTurn.{same, said_none, said_first}
use Rattle.code.proofs.Tried.{card_said, read_own_lem, decode_own_lem, marked_own_lem}

-- ---- the text, by the number of the sheet's first condition
text_accepted : (x : Stated) (r : ℕ) → (listing_for 0 x ≡ refused_line r) ↔ ((settle 0 (record_of x) [] []).0 ≡ refused r)
unfolding listing_for settle_in record_of
text_accepted x r = (
  λ e. absurd (accepted_other x r e),
  λ e. let z : ◌≡◌ {A = ℕ} 7 0 = ap (λ (a : Answer). length a.values) e in absurd (omega arith),
)

text_refused : (x : Stated) (q r : ℕ) → (listing_for (suc q) x ≡ refused_line r) ↔ ((settle (suc q) (record_of x) [] []).0 ≡ refused r)
unfolding listing_for settle_in
text_refused x q r = (
  λ e. ap refused (refused_injective (suc q) r e),
  λ e. ap (λ (a : Answer). refused_line a.number) e,
)

-- what is returned has values, and a refusal none
never_zero_at : (x : Stated) (q : ℕ) → ¬ ((settle q (record_of x) [] []).0 ≡ refused 0)
unfolding settle_in record_of
never_zero_at x zero e = let z : ◌≡◌ {A = ℕ} 7 0 = ap (λ (a : Answer). length a.values) e in omega arith
never_zero_at x (suc q) e = let z : suc q ≡ 0 = ap (λ (a : Answer). a.number) e in omega arith

module _ (sheet : List ℕ) where
  abbrev x : Stated
  x = stated sheet

  -- ---- bytes
  certificate_bytes : (i : ℕ) → i < byte_at sheet 6 → CertificateRead sheet (10 + byte_at sheet 3 + 8 * i) (certificate_at x i)
  certificate_bytes i h =
      let e = certificate_is short sheet i h in
      let at : ℕ = 10 + byte_at sheet 3 + 8 * i in
      let e₃ : at + 2 + 1 ≡ at + 3 = omega arith in
      let e₇ : at + 6 + 1 ≡ at + 7 = omega arith in
      record {
        b = ap (λ (c : Certificate). c.b) e;
        z = ap (λ (c : Certificate). c.z) e;
        f = ap (λ (c : Certificate). c.f) e ∙ ap (λ (k : ℕ). byte_at sheet (at + 2) + 256 * byte_at sheet k) e₃;
        h = ap (λ (c : Certificate). c.h) e;
        zero = ap (λ (c : Certificate). c.zero_field) e;
        L = ap (λ (c : Certificate). c.L) e ∙ ap (λ (k : ℕ). byte_at sheet (at + 6) + 256 * byte_at sheet k) e₇;
      }

  pub read_sheet_bytes : SheetRead sheet x
  read_sheet_bytes = record {
    n = length_is short sheet;
    R = representatives_length short sheet;
    representative = representative_is short sheet;
    C = certificates_length short sheet;
    certificate = certificate_bytes;
  }

  -- ---- the sheet's refusal
  pub never_zero : ¬ (judge_of sheet ≡ refused 0)
  unfolding judge_entry
  never_zero = never_zero_at x (first_of (refusals_of sheet))

  pub sheet_first : (input out : List ℕ) (r : ℕ) → judge_of sheet ≡ refused r
      → (encode_of sheet input out ≡ (refused r, out)) × (read_of sheet input out ≡ (refused r, out)) × (decode_of sheet input out ≡ (refused r, out))
  unfolding encode_entry read_entry decode_entry
  sheet_first input out zero e = absurd (never_zero e)
  sheet_first input out (suc q) e = let r : ℕ = suc q in let h : 0 < suc q = omega arith in (
    sym (entry_sheet (refusals_of sheet) x (encode_conditions x input out) _ _ out r h (sym e)),
    sym (entry_sheet (refusals_of sheet) x (read_conditions x input out) _ _ out r h (sym e)),
    sym (entry_sheet (refusals_of sheet) x (decode_conditions x input out) _ _ out r h (sym e)),
  )

  pub marked_first : (word marks zeros ones : List ℕ) (r : ℕ) → judge_of sheet ≡ refused r
      → decode_marked_of sheet word marks zeros ones ≡ (refused r, (zeros, ones))
  unfolding marked_entry
  marked_first word marks zeros ones zero e = absurd (never_zero e)
  marked_first word marks zeros ones (suc q) e =
      sym (entry_sheet (refusals_of sheet) x (marked_conditions x word marks zeros ones) _ _ (zeros, ones) (suc q) (omega arith) (sym e))

  -- ---- card
  pub card_writes : (out : List ℕ) → length out ≡ 1024
      → card_of sheet out ≡ (returned (length (listing sheet) ∷ []), listing sheet ++ drop (length (listing sheet)) out)
  unfolding card_entry settle_in
  card_writes out e =
      ap (λ (r : ℕ). settle r (length (listing sheet) ∷ []) (listing sheet ++ drop (length (listing sheet)) out) out)
      ((said_none last_refusal (card_conditions 1024 out) _ (card_said out)).1 (λ n. n e, tt))

  pub text_refused_iff : (r : ℕ) → (listing sheet ≡ refused_line r) ↔ (judge_of sheet ≡ refused r)
  unfolding listing_of judge_entry
  text_refused_iff r = go (first_of (refusals_of sheet))
    where
      go : (q : ℕ) → (listing_for q x ≡ refused_line r) ↔ ((settle q (record_of x) [] []).0 ≡ refused r)
      go zero = text_accepted x r
      go (suc q) = text_refused x q r

  pub text_listed_iff : (listing sheet ≡ accepted_lines x) ↔ IsAccepted sheet
  unfolding listing_of listing_for judge_entry settle_in
  text_listed_iff = go (first_of (refusals_of sheet))
    where
      go : (q : ℕ) → (listing_for q x ≡ accepted_lines x) ↔ ((settle q (record_of x) [] []).0.number ≡ 0)
      go zero = (λ e. refl, λ e. refl)
      go (suc q) = (λ e. absurd (accepted_other x (suc q) (sym e)), λ e. absurd (omega arith))

  -- ---- 13, 14 and 15
  pub own_first : (own : Conditions) (r : ℕ) → 10 < r → (first_of (refusals_of sheet ++ own) ≡ r) ↔ ((first_of (refusals_of sheet) ≡ 0) × (first_of own ≡ r))
  own_first own r h = (
    there (first_of (refusals_of sheet)) refl,
    λ e. first_quiet own (quiet_of short sheet e.0) ∙ e.1,
  )
    where
      there : (q : ℕ) → first_of (refusals_of sheet) ≡ q → first_of (refusals_of sheet ++ own) ≡ r
          → (first_of (refusals_of sheet) ≡ 0) × (first_of own ≡ r)
      there zero q e = (q, sym (first_quiet own (quiet_of short sheet q)) ∙ e)
      there (suc k) q e = absurd (omega (arith, judge_le short sheet, q, first_keep (refusals_of sheet) own k q, e))

  pub is_accepted : first_of (refusals_of sheet) ≡ 0 → IsAccepted sheet
  is_accepted e = judge_number short sheet ∙ e

  pub accepted_is : IsAccepted sheet → first_of (refusals_of sheet) ≡ 0
  accepted_is e = sym (judge_number short sheet) ∙ e

  pub usable : first_of (refusals_of sheet) ≡ 0 → Sheets.Accepted x
  usable e = Sheets.accepted short (omega arith) sheet e

  -- the row of the number is the only one that gives it
  thirteen_rows : (word out : List ℕ) → IsAccepted sheet → FirstThatHolds (decode_own x word out) 13 → NoneNearSaid sheet word out
  thirteen_rows word out a (inl h) = absurd (omega (arith, h.0))
  thirteen_rows word out a (inr (n₁, inl h)) = absurd (omega (arith, h.0))
  thirteen_rows word out a (inr (n₁, inr (n₂, inl h))) = absurd (omega (arith, h.0))
  thirteen_rows word out a (inr (n₁, inr (n₂, inr (n₃, inl h)))) =
      record { accepted = a; word_long = same n₁; out_long = same n₂; no_spare = n₃; none = h.1 }
  thirteen_rows word out a (inr (n₁, inr (n₂, inr (n₃, inr h)))) = absurd h.1

  fourteen_rows : (word out : List ℕ) → IsAccepted sheet → FirstThatHolds (read_own x word out) 14 → NoCodewordSaid sheet word out
  fourteen_rows word out a (inl h) = absurd (omega (arith, h.0))
  fourteen_rows word out a (inr (n₁, inl h)) = absurd (omega (arith, h.0))
  fourteen_rows word out a (inr (n₁, inr (n₂, inl h))) = absurd (omega (arith, h.0))
  fourteen_rows word out a (inr (n₁, inr (n₂, inr (n₃, inl h)))) =
      record { accepted = a; word_long = same n₁; out_long = same n₂; no_spare = n₃; none = h.1 }
  fourteen_rows word out a (inr (n₁, inr (n₂, inr (n₃, inr h)))) = absurd h.1

  pub thirteen_iff : (word out : List ℕ) → ((decode_of sheet word out).0.number ≡ 13) ↔ NoneNearSaid sheet word out
  unfolding decode_entry
  thirteen_iff word out =
      let l : Conditions = decode_conditions x word out in
      let t : Turns = decode_own x word out in
      let e : (decode_of sheet word out).0.number ≡ first_of (refusals_of sheet ++ l) = settle_number _ _ _ _ in
      let w = own_first l 13 (omega arith) in (
        λ q. (let z = w.0 (sym e ∙ q) in
            thirteen_rows word out (is_accepted z.0) ((said_first last_refusal l t (decode_own_lem sheet word out (usable z.0)) 13 (omega arith)).0 z.1)),
        λ s. (let z : first_of (refusals_of sheet) ≡ 0 = accepted_is s.accepted in
            e ∙ w.1 (
              z,
              (said_first last_refusal l t (decode_own_lem sheet word out (usable z)) 13 (omega arith)).1
                  (inr (λ n. n s.word_long, inr (λ n. n s.out_long, inr (s.no_spare, inl (refl, s.none))))),
            )),
      )

  pub fourteen_iff : (word out : List ℕ) → ((read_of sheet word out).0.number ≡ 14) ↔ NoCodewordSaid sheet word out
  unfolding read_entry
  fourteen_iff word out =
      let l : Conditions = read_conditions x word out in
      let t : Turns = read_own x word out in
      let e : (read_of sheet word out).0.number ≡ first_of (refusals_of sheet ++ l) = settle_number _ _ _ _ in
      let w = own_first l 14 (omega arith) in (
        λ q. (let z = w.0 (sym e ∙ q) in
            fourteen_rows word out (is_accepted z.0) ((said_first last_refusal l t (read_own_lem sheet word out) 14 (omega arith)).0 z.1)),
        λ s. (let z : first_of (refusals_of sheet) ≡ 0 = accepted_is s.accepted in
            e ∙ w.1 (
              z,
              (said_first last_refusal l t (read_own_lem sheet word out) 14 (omega arith)).1
                  (inr (λ n. n s.word_long, inr (λ n. n s.out_long, inr (s.no_spare, inl (refl, s.none))))),
            )),
      )

  fifteen_rows : (word marks zeros ones : List ℕ) → IsAccepted sheet → FirstThatHolds (marked_own x word marks zeros ones) 15
      → NoneWithMarksSaid sheet word marks zeros ones
  fifteen_rows word marks zeros ones a (inl h) = absurd (omega (arith, h.0))
  fifteen_rows word marks zeros ones a (inr (n₁, inl h)) = absurd (omega (arith, h.0))
  fifteen_rows word marks zeros ones a (inr (n₁, inr (n₂, inl h))) = absurd (omega (arith, h.0))
  fifteen_rows word marks zeros ones a (inr (n₁, inr (n₂, inr (n₃, inl h)))) = absurd (omega (arith, h.0))
  fifteen_rows word marks zeros ones a (inr (n₁, inr (n₂, inr (n₃, inr (n₄, inl h))))) = absurd (omega (arith, h.0))
  fifteen_rows word marks zeros ones a (inr (n₁, inr (n₂, inr (n₃, inr (n₄, inr (n₅, inl h)))))) = absurd (omega (arith, h.0))
  fifteen_rows word marks zeros ones a (inr (n₁, inr (n₂, inr (n₃, inr (n₄, inr (n₅, inr (n₆, inl h))))))) = record {
    accepted = a;
    word_long = same n₁;
    marks_long = same n₂;
    zeros_long = same n₃;
    ones_long = same n₄;
    no_spare = n₅;
    no_spare_mark = n₆;
    none = h.1;
  }
  fifteen_rows word marks zeros ones a (inr (n₁, inr (n₂, inr (n₃, inr (n₄, inr (n₅, inr (n₆, inr h))))))) = absurd h.1

  pub fifteen_iff : (word marks zeros ones : List ℕ) → ((decode_marked_of sheet word marks zeros ones).0.number ≡ 15)
      ↔ NoneWithMarksSaid sheet word marks zeros ones
  unfolding marked_entry
  fifteen_iff word marks zeros ones =
      let l : Conditions = marked_conditions x word marks zeros ones in
      let t : Turns = marked_own x word marks zeros ones in
      let e : (decode_marked_of sheet word marks zeros ones).0.number ≡ first_of (refusals_of sheet ++ l) = settle_number _ _ _ _ in
      let w = own_first l 15 (omega arith) in (
        λ q. (let z = w.0 (sym e ∙ q) in
            fifteen_rows word marks zeros ones (is_accepted z.0)
            ((said_first last_refusal l t (marked_own_lem sheet word marks zeros ones (usable z.0)) 15 (omega arith)).0 z.1)),
        λ s. (let z : first_of (refusals_of sheet) ≡ 0 = accepted_is s.accepted in
            e ∙ w.1 (
              z,
              (said_first last_refusal l t (marked_own_lem sheet word marks zeros ones (usable z)) 15 (omega arith)).1
                  (inr (
                    λ n. n s.word_long,
                    inr (
                      λ n. n s.marks_long,
                      inr (
                        λ n. n s.zeros_long,
                        inr (
                          λ n. n s.ones_long,
                          inr (s.no_spare, inr (s.no_spare_mark, inl (refl, s.none))),
                        ),
                      ),
                    ),
                  )),
            )),
      )
