-- The listing of every sheet of document 01's kind, a refused one too, takes at most 1,024 bytes.
--
--   listing_fits         so the buffer that `card` asks for holds it
--   card_fits            and the length that `card` returns is that of a part of it
--   accepted_fits        an accepted sheet's: by lines 20, 641, 139, four times 35, and 27
use mathlib.Core.Path.{◌≡◌, refl, ap, subst}
use mathlib.Core.Bool.{Bool, true, false}
use mathlib.Core.List.{List, [], ◌∷◌, ◌++◌, map, flat_map}
use Prim.Native.Nat.{ℕ, zero, suc, ◌+◌, ◌-◌, ◌*◌, ◌≤◌, ◌<◌}
use native.Mathlib.Nat.{suc-mul, div-le_self}
use native.Mathlib.Omega.{arith}
use lib.ListN.{length, get_or, length-append, length-map}
use Rattle.field.specs.Search.{up_to, keep}
use Rattle.field.specs.Field.{order_of_two}
use Rattle.field.proofs.Search.{keep_suc}
use Rattle.binary.specs.Factor.{degree}
use Rattle.document.specs.Answer.{first_of, settle_in}
use Rattle.document.specs.Sheet.{Certificate, Stated, certificate_at}
use Rattle.document.specs.Coset.{in_set, defining_set, dimension}
use Rattle.document.specs.Generator.{generator_poly}
use Rattle.document.specs.Certificate.{distance, radius}
use Rattle.document.specs.Judge.{dimension_of, working_of, working_certificate}
use Rattle.document.specs.Card.{spaced, newline, code_word, zeros_word, generator_word, cert_word, terms_word, distance_word, radius_word, from_word}
use Rattle.document.specs.Card.{refused_word, code_text, certificate_text, radius_text, code_line, zeros_line, generator_line, certificate_line, radius_line}
use Rattle.document.specs.Card.{refused_line, accepted_lines, listing_for, listing_of, card_entry}
use Rattle.document.specs.Short.{short, stated, refusals_of, listing, card_of}
use Rattle.document.proofs.Sane.{poly_length}
use Rattle.document.proofs.Stated.{odd_to}
use Rattle.document.proofs.Acceptance.{judge_le, quiet_of, quiet_rules}
use Rattle.document.proofs.Meaning.{rule1_iff}
use Rattle.listing.proofs.Decimals.{decimal_length}
use Rattle.certificate.proofs.Sheets as Sheets
use Rattle.code.proofs.Accepted.{conditions}

-- ---- pieces
both : (a b : List ℕ) {m n : ℕ} → length a ≤ m → length b ≤ n → length (a ++ b) ≤ m + n
both a b h l = omega (arith, length-append a b)

number : (x : ℕ) → x < 10000 → length (spaced x) ≤ 5
number x h = omega (arith, decimal_length x h)

all_kept : (l : List ℕ) → keep (λ _. true) l ≡ l
unfolding keep
all_kept [] = refl
all_kept (x ∷ l) = ap (λ r. x ∷ r) (all_kept l)

-- pieces in turn, of at most so many bytes each
module _ (piece : ℕ → List ℕ) (most : ℕ) where
  flat_append : (l m : List ℕ) → length (flat_map piece (l ++ m)) ≡ length (flat_map piece l) + length (flat_map piece m)
  unfolding flat_map
  flat_append [] m = omega arith
  flat_append (x ∷ l) m =
      omega (arith, length-append (piece x) (flat_map piece (l ++ m)), length-append (piece x) (flat_map piece l), flat_append l m)

  kept_one : (test : ℕ → Bool) (x : ℕ) → length (piece x) ≤ most → length (flat_map piece (keep test (x ∷ []))) ≤ most
  unfolding keep flat_map
  kept_one test x h = go (test x)
    where
      go : (b : Bool) → length (flat_map piece (elim b as (λ _. List ℕ) [ true ↦ x ∷ [] | false ↦ [] ])) ≤ most
      go true = omega (arith, length-append (piece x) [])
      go false = omega arith

  kept_le : (test : ℕ → Bool) (n : ℕ) → ((i : ℕ) → i < n → length (piece i) ≤ most)
      → length (flat_map piece (keep test (up_to n))) ≤ n * most
  unfolding keep up_to flat_map
  kept_le test zero h = omega arith
  kept_le test (suc n) h =
      let e : length (flat_map piece (keep test (up_to (suc n)))) ≡ length (flat_map piece (keep test (up_to n) ++ keep test (n ∷ []))) =
      ap (λ l. length (flat_map piece l)) (keep_suc test n) in
      omega (
        arith,
        flat_append (keep test (up_to n)) (keep test (n ∷ [])),
        kept_le test n (λ i l. h i (omega arith)),
        kept_one test n (h n (omega arith)),
        suc-mul n most,
      )

  flat_le : (n : ℕ) → ((i : ℕ) → i < n → length (piece i) ≤ most) → length (flat_map piece (up_to n)) ≤ n * most
  flat_le n h = subst (λ l. length (flat_map piece l) ≤ n * most) (all_kept (up_to n)) (kept_le (λ _. true) n h)

-- ---- texts by their numbers
code_le : (n k s : ℕ) → n < 10000 → k < 10000 → s < 10000 → length (code_text n k s) ≤ 20
code_le n k s hn hk hs =
    both (code_word ++ spaced n ++ spaced k ++ spaced s) newline {m = 19} {n = 1}
    (both (code_word ++ spaced n ++ spaced k) (spaced s) {m = 14} {n = 5}
    (both (code_word ++ spaced n) (spaced k) {m = 9} {n = 5} (both code_word (spaced n) {m = 4} {n = 5} (omega arith) (number n hn)) (number k hk))
    (number s hs)) (omega arith)

certificate_le : (c terms d : ℕ) → c < 10000 → terms < 10000 → d < 10000 → length (certificate_text c terms d) ≤ 35
certificate_le c terms d hc ht hd =
    both (cert_word ++ spaced c ++ terms_word ++ spaced terms ++ distance_word ++ spaced d) newline {m = 34} {n = 1}
    (both (cert_word ++ spaced c ++ terms_word ++ spaced terms ++ distance_word) (spaced d) {m = 29} {n = 5}
    (both (cert_word ++ spaced c ++ terms_word ++ spaced terms) distance_word {m = 20} {n = 9}
    (both (cert_word ++ spaced c ++ terms_word) (spaced terms) {m = 15} {n = 5}
    (both (cert_word ++ spaced c) terms_word {m = 9} {n = 6} (both cert_word (spaced c) {m = 4} {n = 5} (omega arith) (number c hc)) (omega arith))
    (number terms ht)) (omega arith)) (number d hd)) (omega arith)

radius_le : (t index : ℕ) → t < 10000 → index < 10000 → length (radius_text t index) ≤ 27
radius_le t index ht hi =
    both (radius_word ++ spaced t ++ from_word ++ spaced index) newline {m = 26} {n = 1}
    (both (radius_word ++ spaced t ++ from_word) (spaced index) {m = 21} {n = 5}
    (both (radius_word ++ spaced t) from_word {m = 11} {n = 10} (both radius_word (spaced t) {m = 6} {n = 5} (omega arith) (number t ht)) (omega arith))
    (number index hi)) (omega arith)

refused_le : (r : ℕ) → r < 10000 → length (refused_line r) ≤ 13
unfolding refused_line
refused_le r h =
    both (refused_word ++ spaced r) newline {m = 12} {n = 1} (both refused_word (spaced r) {m = 7} {n = 5} (omega arith) (number r h)) (omega arith)

-- ---- an accepted sheet
distance_le : (c : Certificate) → degree c.f ≤ 8 → c.L ≤ 1023 → distance c ≤ 1031
unfolding distance
distance_le c h l =
    let q : ℕ = c.L - degree c.h + (degree c.f - 1) in
    omega (arith, div-le_self q (degree c.f))

radius_small : (c : Certificate) → distance c ≤ 1031 → radius c < 10000
unfolding radius
radius_small c h = omega arith

module _ (sheet : List ℕ) (e : first_of (refusals_of sheet) ≡ 0) where
  abbrev x : Stated
  x = stated sheet

  a : Sheets.Accepted x
  a = Sheets.accepted short (omega arith) sheet e

  places : x.n ≤ 127
  places = (odd_to short x.n (conditions short sheet e).0).most

  dimension_le : dimension_of x ≤ x.n
  unfolding dimension_of dimension
  dimension_le = omega arith

  numbers : (i : ℕ) → i < length x.certificates → ((certificate_at x i).L ≤ 1023) × (distance (certificate_at x i) ≤ 1031)
  numbers i h =
      let w = (rule1_iff 1023 x.n (certificate_at x i)).0 (quiet_rules short sheet (quiet_of short sheet e) i h).range in
      (w.10, distance_le (certificate_at x i) w.5 w.10)

  first_line : length (code_line x) ≤ 20
  unfolding code_line
  first_line =
      code_le x.n (dimension_of x) (order_of_two x.n) (omega (arith, places)) (omega (arith, places, dimension_le))
      (omega (arith, a.head.length_stated.most))

  zeros_line_lem : length (zeros_line x) ≤ 641
  unfolding zeros_line defining_set
  zeros_line_lem =
      let test : ℕ → Bool = in_set x.n x.representatives in
      let members : List ℕ = flat_map spaced (keep test (up_to x.n)) in
      let m : length members ≤ x.n * 5 = kept_le spaced 5 test x.n (λ i h. number i (omega (arith, places))) in
      both (zeros_word ++ members) newline {m = 640} {n = 1}
      (both zeros_word members {m = 5} {n = 635} (omega arith) (omega (arith, places))) (omega arith)

  generator_line_lem : length (generator_line x) ≤ 139
  unfolding generator_line
  generator_line_lem =
      let p : List ℕ = generator_poly x.n x.representatives in
      let digits : List ℕ = map (λ c. 48 + c) p in
      let m : length digits ≤ 128 = omega (arith, length-map p (λ c. 48 + c), poly_length x.n x.representatives, places) in
      both (generator_word ++ digits) newline {m = 138} {n = 1} (both generator_word digits {m = 10} {n = 128} (omega arith) m) (omega arith)

  certificate_lines : length (flat_map (certificate_line x) (up_to (length x.certificates))) ≤ 140
  unfolding certificate_line
  certificate_lines =
      let four : length x.certificates ≤ 4 = a.head.four in
      let m : length (flat_map (certificate_line x) (up_to (length x.certificates))) ≤ length x.certificates * 35 =
      flat_le (certificate_line x) 35 (length x.certificates)
      (λ i h. certificate_le i (certificate_at x i).L (distance (certificate_at x i)) (omega arith) (omega (arith, (numbers i h).0))
      (omega (arith, (numbers i h).1))) in
      omega arith

  last_line : length (radius_line x) ≤ 27
  unfolding radius_line working_certificate
  last_line =
      let l : working_of x < length x.certificates = Sheets.working_lt a in
      radius_le (radius (certificate_at x (working_of x))) (working_of x)
      (radius_small (certificate_at x (working_of x)) (numbers (working_of x) l).1) (omega (arith, a.head.four))

  accepted_fits : length (accepted_lines x) ≤ 967
  unfolding accepted_lines
  accepted_fits =
      let c : List ℕ = code_line x in
      let z : List ℕ = zeros_line x in
      let g : List ℕ = generator_line x in
      let l : List ℕ = flat_map (certificate_line x) (up_to (length x.certificates)) in
      both (c ++ z ++ g ++ l) (radius_line x) {m = 940} {n = 27}
      (both (c ++ z ++ g) l {m = 800} {n = 140}
      (both (c ++ z) g {m = 661} {n = 139} (both c z {m = 20} {n = 641} first_line zeros_line_lem) generator_line_lem) certificate_lines) last_line

-- ---- any sheet
pub listing_fits : (sheet : List ℕ) → length (listing sheet) ≤ 1024
unfolding listing_of listing_for
listing_fits sheet = go (first_of (refusals_of sheet)) refl
  where
    go : (r : ℕ) → first_of (refusals_of sheet) ≡ r → length (listing_for r (stated sheet)) ≤ 1024
    go zero e = omega (arith, accepted_fits sheet e)
    go (suc r) e = omega (arith, refused_le (suc r) (omega (arith, judge_le short sheet, e)))

settled_within : {B : Type 0} (x v m : ℕ) (w old : B) → v ≤ m → get_or (settle_in x (v ∷ []) w old).0.values 0 0 ≤ m
unfolding settle_in
settled_within zero v m w old h = h
settled_within (suc r) v m w old h = omega arith

pub card_fits : (sheet out : List ℕ) → get_or (card_of sheet out).0.values 0 0 ≤ 1024
unfolding card_entry
card_fits sheet out = settled_within _ (length (listing sheet)) 1024 _ _ (listing_fits sheet)
