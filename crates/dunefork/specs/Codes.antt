-- Answers as C has them.
--
--   code_for, return_code a       one number for an answer: what is returned, or minus the refusal's number
--   coded_as p      the same beside the bytes of the lent buffer, or of two
--   marked_code_for, marked_code a, marked_coded_as p      the same of decoding with marks: 2·e + trial, beside the bytes of both buffers
use Rattle.std.specs.Prelude.{List, ℕ, zero, suc, ◌+◌, ◌*◌, ℤ, pos, neg_ℤ, get_or}
use Rattle.document.specs.Answer.{Answer}

-- The value that is returned (0 for encoding, reading out and decoding a block), where the answer's number is 0; else minus that number.
unfoldable pub code_for : ℕ → List ℕ → ℤ
code_for zero values = pos (get_or values 0 0)
code_for (suc r) values = neg_ℤ (pos (suc r))

abbrev pub return_code : Answer → ℤ
return_code a = code_for a.number a.values

abbrev pub coded_as : {B : Type 0} → Answer × B → ℤ × B
coded_as p = (return_code p.0, p.1)

-- 2·e + trial: e is half of it, rounded down, and the trial is its lowest bit
unfoldable pub marked_code_for : ℕ → List ℕ → ℤ
marked_code_for zero values = pos (2 * get_or values 0 0 + get_or values 1 0)
marked_code_for (suc r) values = neg_ℤ (pos (suc r))

abbrev pub marked_code : Answer → ℤ
marked_code a = marked_code_for a.number a.values

abbrev pub marked_coded_as : Answer × (List ℕ × List ℕ) → ℤ × (List ℕ × List ℕ)
marked_coded_as p = (marked_code p.0, p.1)
