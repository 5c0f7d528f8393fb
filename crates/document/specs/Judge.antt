-- A sheet judged: the conditions of refusals 1 to 10 in document 01's order, and the record of a sheet that draws none.
--
--   wrong_degree, wrong_representative, no_message      the conditions 3, 5 and 6 (1, 2 and 4 are in Sheet.antt)
--   sheet_conditions, certificate_conditions      the table, with the numbers
--   judge_conditions kind sheet    all of them, in the order in which they are tried
--   dimension_of x, working_of x, working_certificate x      what is stated says of its code
--   record_of x                    n, k, s, working certificate, d, t, number of terms
--   judge_entry conditions x       the answer, by the conditions of a sheet's refusals and what it states
use Rattle.std.specs.Prelude.{Bool, not, ◌&&◌, ◌||◌, ℕ, ◌-◌, eqb, leb, ltb, length, get_or}
use mathlib.Core.List.{List, [], ◌∷◌, ◌++◌, flat_map}
use Rattle.field.specs.Search.{up_to, some}
use Rattle.field.specs.Field.{order_of_two}
use Rattle.document.specs.Answer.{Answer, Conditions, first_of, settle}
use Rattle.document.specs.Sheet.{Certificate, Stated, certificate_at, Kind, stated_by, wrong_length, wrong_code_length, wrong_header}
use Rattle.document.specs.Coset.{smallest, dimension}
use Rattle.document.specs.Certificate.{rule1, rule2, rule3, rule4, distance, radius, working}

-- 3: "s above 12"
unfoldable pub wrong_degree : ℕ → Bool
wrong_degree n = ltb 12 (order_of_two n)

-- 5: "a representative isn't below n, smallest in its coset, or above the one before"
unfoldable pub wrong_representative : ℕ → List ℕ → Bool
wrong_representative n reps =
    some
    (λ i. not (ltb (get_or reps i 0) n)
    || not (smallest n (get_or reps i 0))
    || (leb 1 i && not (ltb (get_or reps (i - 1) 0) (get_or reps i 0)))) (up_to (length reps))

-- 6: "k is 0"
unfoldable pub no_message : ℕ → List ℕ → Bool
no_message n reps = eqb (dimension n reps) 0

unfoldable pub sheet_conditions : Kind → List ℕ → Conditions
sheet_conditions kind sheet =
    let x : Stated = stated_by kind sheet in
    (1, wrong_length kind sheet)
    ∷ (2, wrong_code_length kind x.n)
    ∷ (3, wrong_degree x.n)
    ∷ (4, wrong_header kind sheet)
    ∷ (5, wrong_representative x.n x.representatives)
    ∷ (6, no_message x.n x.representatives)
    ∷ []

-- 7 to 10: a rule fails. L is at most `most`.
unfoldable pub certificate_conditions : ℕ → ℕ → List ℕ → Certificate → Conditions
certificate_conditions most n reps c =
    (7, not (rule1 most n c))
    ∷ (8, not (rule2 c))
    ∷ (9, not (rule3 n c))
    ∷ (10, not (rule4 n reps c))
    ∷ []

-- "The sheet's conditions are tried in the order 1 to 6, then for each certificate in turn 7 to 10."
unfoldable pub judge_conditions : Kind → List ℕ → Conditions
judge_conditions kind sheet =
    let x : Stated = stated_by kind sheet in
    sheet_conditions kind sheet ++ flat_map (certificate_conditions kind.most_terms x.n x.representatives) x.certificates

-- k of what is stated
unfoldable pub dimension_of : Stated → ℕ
dimension_of x = dimension x.n x.representatives

-- the index of the working certificate
unfoldable pub working_of : Stated → ℕ
working_of x = working (length x.certificates) (certificate_at x)

unfoldable pub working_certificate : Stated → Certificate
working_certificate x = certificate_at x (working_of x)

-- "the sheet's d and t are its own"; 2026-04: "keeps d, t and the number of terms, and these always belong to that one certificate"
unfoldable pub record_of : Stated → List ℕ
record_of x =
    let c : Certificate = working_certificate x in
    x.n
    ∷ dimension_of x
    ∷ order_of_two x.n
    ∷ working_of x
    ∷ distance c
    ∷ radius c
    ∷ c.L
    ∷ []

-- "A sheet that draws none of 1 to 10 is accepted." No buffer is lent for judging.
unfoldable pub judge_entry : Conditions → Stated → Answer
judge_entry conditions x = (settle (first_of conditions) (record_of x) [] []).0
