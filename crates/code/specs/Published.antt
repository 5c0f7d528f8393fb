-- What document 01 publishes, with document 02's layout of words, rule 3, choice of a certificate, words with marked places, shortened codes and blocks of words, as statements: the words in which
-- proofs/Demands.antt says the three demands and the requests. The conditions of a certificate have no search in them; s, k, the generator and the working certificate,
-- which the definitions search for or compute, are named, and fields of the demands say what they are (degree, dimension, generator, working).
--
--   IsAccepted sheet                 judging refuses nothing
--   CertificateRead, SheetRead     what a sheet's bytes state
--   Places, Bytes, Word, Message   words and messages in bytes
--   InDefiningSet, SetSize, ZeroAt      D and its size, and a mask's value at α^i
--   HasDegree, Divides, Coprime    the degree of a mask; d divides a; no number above 1 divides both
--   PolynomialOver, DividesOver    polynomials over the field, and their divisors
--   Rule1 .. Rule4, Published      the rules of a certificate
--   Rounded, Working, WorkingIs      d, and the working certificate with d, t and its number of terms
--   MarkedCall                     a call of decoding with marks that draws none of 1 to 12
--   Shortenable sheet m            the sheet is accepted, and its code can be shortened by m (2026-06)
--   ShortenedWord, ShortenedMessage      words and messages of a shortened code in bytes
--   Systematic, WordDecoded, WordShown      what encoding, decoding, and decoding with marks write
--   ShortenedSystematic, ShortenedDecoded      the same of a shortened code
--   BlockCall, RunSpoiled          a call of decoding a block that draws no refusal, and a run of spoiled bits (2026-07)
--   kept m g k a j                 what is kept after the highest j of the k bits of a (2026-02)
-- No contract of an entry cites this file.
use Rattle.std.specs.Prelude.{◌≡◌, ◌≢◌, ◌↔◌, ◌⊎◌, List, [], ◌∷◌, ℕ, zero, suc, ◌+◌, ◌-◌, ◌*◌, ◌/◌, ◌%◌, ◌^◌, ◌≤◌, ◌<◌, length, get_or}
use Rattle.std.specs.Int.{◌∣◌}
use Rattle.field.specs.Search.{total}
use Rattle.field.specs.Mask.{◌⊕◌, coefficient, remainder}
use Rattle.field.specs.Field.{field_power, order_of_two, α}
use Rattle.document.specs.Answer.{Answer}
use Rattle.document.specs.Layout.{word_weight, message_weight, place, mask_of}
use Rattle.document.specs.Sheet.{Certificate, Stated, certificate_at}
use Rattle.document.specs.Generator.{value_at, differences}
use Rattle.document.specs.Apart.{product_at, at_root}
use Rattle.document.specs.Certificate.{distance, radius}
use Rattle.document.specs.Judge.{dimension_of}
use Rattle.document.specs.Entry.{generator_of, radius_of, CodewordOf, word_of, changed}
use Rattle.document.specs.Marked.{unmarked_changed, WithinMarks, shown_of}
use Rattle.document.specs.Shortened.{sent_word_of, sent_message_of, ShortenedCodeword}
use Rattle.document.specs.Short.{byte_at, stated, judge_of}

-- ---- the words
-- "A sheet that draws none of 1 to 10 is accepted."
abbrev pub IsAccepted : List ℕ → Type 0
IsAccepted sheet = (judge_of sheet).number ≡ 0

-- what a sheet's bytes state: "A header of counts and offsets, 16-bit numbers low byte first .. Then R bytes: representatives .. Then C
-- times 8 bytes: b, z, f (two bytes), h, a byte 0, L (two bytes)."
pub record CertificateRead (sheet : List ℕ) (at : ℕ) (c : Certificate) : Type 0 where
  pub b : c.b ≡ byte_at sheet at
  pub z : c.z ≡ byte_at sheet (at + 1)
  pub f : c.f ≡ byte_at sheet (at + 2) + 256 * byte_at sheet (at + 3)
  pub h : c.h ≡ byte_at sheet (at + 4)
  pub zero : c.zero_field ≡ byte_at sheet (at + 5)
  pub L : c.L ≡ byte_at sheet (at + 6) + 256 * byte_at sheet (at + 7)

pub record SheetRead (sheet : List ℕ) (x : Stated) : Type 0 where
  pub n : x.n ≡ byte_at sheet 2
  pub R : length x.representatives ≡ byte_at sheet 3
  pub representative : (i : ℕ) → i < byte_at sheet 3 → get_or x.representatives i 0 ≡ byte_at sheet (10 + i)
  pub C : length x.certificates ≡ byte_at sheet 6
  pub certificate : (i : ℕ) → i < byte_at sheet 6 → CertificateRead sheet (10 + byte_at sheet 3 + 8 * i) (certificate_at x i)

-- "A word has n/8 bytes and a message k/8, each rounded up. Spare bits of the last byte are 0."
pub record Places (weight : ℕ → ℕ) (n : ℕ) (bytes : List ℕ) : Type 0 where
  pub long : length bytes ≡ (n + 7) / 8
  pub clear : (i : ℕ) → n ≤ i → i < (n + 7) / 8 * 8 → place weight bytes i ≡ 0

-- a byte is below 256
abbrev pub Bytes : List ℕ → Type 0
Bytes l = (i : ℕ) → get_or l i 0 < 256

abbrev pub Word : Stated → List ℕ → Type 0
Word x = Places word_weight x.n

abbrev pub Message : Stated → List ℕ → Type 0
Message x = Places message_weight (dimension_of x)

-- i is r·2^j mod n for a representative r and some j
abbrev pub InDefiningSet : ℕ → List ℕ → ℕ → Type 0
InDefiningSet n reps i = (m : ℕ) × (m < length reps) × ((j : ℕ) × (get_or reps m 0 * 2 ^ j % n ≡ i))

-- how many numbers below n are in D: as many as a mark of 1 for each, and 0 for the others, amounts to
pub record SetSize (n : ℕ) (reps : List ℕ) (size : ℕ) : Type 0 where
  pub mark : ℕ → ℕ
  pub marks : (i : ℕ) → i < n → ((mark i ≡ 1) × InDefiningSet n reps i) ⊎ ((mark i ≡ 0) × ¬ InDefiningSet n reps i)
  pub sum : total n mark ≡ size

-- the value of the mask c at α^i is 0
abbrev pub ZeroAt : Stated → ℕ → ℕ → Type 0
ZeroAt x i c = let s : ℕ = order_of_two x.n in value_at s (field_power s (α s x.n) i) c ≡ 0

-- ---- the published conditions of a certificate, with no search in them
pub record HasDegree (f u : ℕ) : Type 0 where
  pub low : 2 ^ u ≤ f
  pub high : f < 2 ^ suc u

-- the mask d times some mask q is a: coefficient j of a product is the sum of d's j - i and q's i
abbrev pub Divides : ℕ → ℕ → Type 0
Divides d a = (q : ℕ) × ((j : ℕ) → total (suc j) (λ i. coefficient (j - i) d * coefficient i q) % 2 ≡ coefficient j a)

-- no number above 1 divides both
abbrev pub Coprime : ℕ → ℕ → Type 0
Coprime a b = (d : ℕ) → 1 < d → d ∣ a → ¬ (d ∣ b)

-- "1. b is below n; z is 1 to n - 1 and coprime to n; u is 1 to 8 and f has constant term 1; h isn't 0 and v < u; L is 1 to 1,023; its
-- zero byte on the sheet is 0"
pub record Rule1 (n : ℕ) (c : Certificate) : Type 0 where
  pub b_below : c.b < n
  pub z_range : (1 ≤ c.z) × (c.z ≤ n - 1)
  pub z_coprime : Coprime c.z n
  pub u : ℕ
  pub u_is : HasDegree c.f u
  pub u_range : (1 ≤ u) × (u ≤ 8)
  pub constant : coefficient 0 c.f ≡ 1
  pub h_nonzero : c.h ≢ 0
  pub v : ℕ
  pub v_is : HasDegree c.h v
  pub v_range : v < u
  pub L-range : (1 ≤ c.L) × (c.L ≤ 1023)
  pub zero_byte : c.zero_field ≡ 0

-- "2. h and f have no common factor": no mask of degree 1 or more, which is a number above 1, divides both
abbrev pub Rule2 : Certificate → Type 0
Rule2 c = (d : ℕ) → 1 < d → Divides d c.h → ¬ Divides d c.f

-- a polynomial over the field of 2^s elements, by its coefficients: elements all, and 0 from some exponent on
pub record PolynomialOver (s : ℕ) (p : ℕ → ℕ) : Type 0 where
  pub element : (i : ℕ) → p i < 2 ^ s
  pub end : ℕ
  pub ends : (i : ℕ) → end ≤ i → p i ≡ 0

-- the polynomial d times some polynomial q is p: coefficient k of a product is the sum of d's i times q's k - i, in the field
abbrev pub DividesOver : ℕ → (ℕ → ℕ) → (ℕ → ℕ) → Type 0
DividesOver s d p = (q : ℕ → ℕ) × PolynomialOver s q × ((k : ℕ) → product_at s d q k ≡ p k)

-- 3, as 2026-03 has it: "f(α^i·x) and f(α^j·x) .. have no common factor for different i and j below n": no polynomial of degree 1 or more
-- over the field, one with a coefficient that is not 0 of some x^k, k above 0, divides both
abbrev pub Rule3 : ℕ → Certificate → Type 0
Rule3 n c =
    let s : ℕ = order_of_two n in
    (i j : ℕ) → i < n → j < n → i ≢ j → (d : ℕ → ℕ) → PolynomialOver s d → (k : ℕ) → 0 < k → d k ≢ 0
    → DividesOver s d (at_root s n c.f i) → ¬ DividesOver s d (at_root s n c.f j)

-- "The sequence a0, a1, .. is the power series h/f over two elements": f times the series a is h.
-- "4. for each j below L, aj is 0 or (b + j·z) mod n is in D."
pub record Rule4 (n : ℕ) (reps : List ℕ) (c : Certificate) : Type 0 where
  pub a : ℕ → ℕ
  pub two : (j : ℕ) → a j < 2
  pub series : (j : ℕ) → total (suc j) (λ i. coefficient (j - i) c.f * a i) % 2 ≡ coefficient j c.h
  pub covered : (j : ℕ) → j < c.L → (a j ≡ 0) ⊎ InDefiningSet n reps ((c.b + j * c.z) % n)

pub record Published (n : ℕ) (reps : List ℕ) (c : Certificate) : Type 0 where
  pub rule1 : Rule1 n c
  pub rule2 : Rule2 c
  pub rule3 : Rule3 n c
  pub rule4 : Rule4 n reps c

-- "Its distance is d = (L - v)/u + 1, rounded up": the least d with d·u ≥ L - v + u, with v on the other side, since L may be below v
pub record Rounded (c : Certificate) (d : ℕ) : Type 0 where
  pub u : ℕ
  pub u_is : HasDegree c.f u
  pub v : ℕ
  pub v_is : HasDegree c.h v
  pub enough : c.L + u ≤ d * u + v
  pub least : (e : ℕ) → c.L + u ≤ e * u + v → d ≤ e

-- 2026-04: "The working certificate becomes the one with the largest d, then the fewest terms, then the earliest."
pub record Working (x : Stated) (w : ℕ) : Type 0 where
  pub below : w < length x.certificates
  pub largest : (i : ℕ) → i < length x.certificates → distance (certificate_at x i) ≤ distance (certificate_at x w)
  pub fewest : (i : ℕ) → i < length x.certificates → distance (certificate_at x i) ≡ distance (certificate_at x w)
      → (certificate_at x w).L ≤ (certificate_at x i).L
  pub earliest : (i : ℕ) → i < length x.certificates → distance (certificate_at x i) ≡ distance (certificate_at x w)
      → (certificate_at x i).L ≡ (certificate_at x w).L → w ≤ i

-- "t = (d - 1)/2 rounded down; the sheet's d and t are its own", and so is the number of terms
pub record WorkingIs (x : Stated) (w d t terms : ℕ) : Type 0 where
  pub working : Working x w
  pub d_is : d ≡ distance (certificate_at x w)
  pub rounded : Rounded (certificate_at x w) d
  pub t_is : t ≡ radius (certificate_at x w)
  pub halves : (i : ℕ) → i < length x.certificates
      → (2 * radius (certificate_at x i) + 1 ≤ distance (certificate_at x i)) × (distance (certificate_at x i) ≤ 2 * radius (certificate_at x i) + 2)
  pub terms_is : terms ≡ (certificate_at x w).L

-- the word that a message is encoded into
pub record Systematic (x : Stated) (message word : List ℕ) : Type 0 where
  pub is_word : Word x word
  pub is_bytes : Bytes word
  pub in_code : CodewordOf x (word_of x word)
  -- "Message bit i stands in place n - k + i."
  pub high : (i : ℕ) → i < dimension_of x → place word_weight word (x.n - dimension_of x + i) ≡ place message_weight message i
  -- "Places below n - k hold the remainder of x^(n-k)·m(x) by the generator."
  pub low : word_of x word % 2 ^ (x.n - dimension_of x)
      ≡ remainder (x.n - dimension_of x) (generator_of x) (mask_of message_weight (dimension_of x) message * 2 ^ (x.n - dimension_of x))

-- "take the message bits in, highest first, and keep only a remainder" (2026-02): nothing at first, and with one bit more the remainder
-- of x·p + bit·x^m, where p was kept, by g, of degree m. That this is what the request says of each bit is `after_each_bit` of Request02.
unfoldable pub kept : ℕ → ℕ → ℕ → ℕ → ℕ → ℕ
kept m g k a zero = 0
kept m g k a (suc j) = remainder m g (kept m g k a j * 2 ⊕ coefficient (k - suc j) a * 2 ^ m)

-- the buffer after decoding, and what is returned
pub record WordDecoded (x : Stated) (word : List ℕ) (reply : Answer × List ℕ) : Type 0 where
  pub is_word : Word x reply.1
  pub is_bytes : Bytes reply.1
  pub in_code : CodewordOf x (word_of x reply.1)
  pub near : changed x word (word_of x reply.1) ≤ radius_of x
  pub counted : reply.0.values ≡ changed x word (word_of x reply.1) ∷ []
  pub others : (c : ℕ) → CodewordOf x c → c ≢ word_of x reply.1 → radius_of x < changed x word c

-- a call of decoding with marks that draws none of 1 to 12
pub record MarkedCall (sheet word marks zeros ones : List ℕ) : Type 0 where
  pub accepted : IsAccepted sheet
  pub is_word : Word (stated sheet) word
  pub is_marks : Word (stated sheet) marks
  pub zeros_long : length zeros ≡ ((stated sheet).n + 7) / 8
  pub ones_long : length ones ≡ ((stated sheet).n + 7) / 8

-- both buffers after decoding with marks, and what is told (2026-05): the second call, handed the trial, gives a codeword with 2·e + r at most
-- d - 1, and no other codeword has it
pub record WordShown (x : Stated) (word marks : List ℕ) (reply : Answer × (List ℕ × List ℕ)) : Type 0 where
  pub e : ℕ
  pub trial : ℕ
  pub told : reply.0.values ≡ e ∷ trial ∷ []
  pub shown : List ℕ
  pub shown_is : shown ≡ shown_of trial x.n reply.1.0 reply.1.1
  pub is_word : Word x shown
  pub is_bytes : Bytes shown
  pub in_code : CodewordOf x (word_of x shown)
  pub within : WithinMarks x word marks (word_of x shown)
  pub counted : e ≡ unmarked_changed x word marks (word_of x shown)
  -- "0 the zeros, 1 the ones"; "if both hold the answer, the one of the zeros is handed back"
  pub zeros_first : (trial ≡ 0) ↔ (word_of x reply.1.0 ≡ word_of x shown)
  pub else_ones : trial ≢ 0 → trial ≡ 1
  pub others : (c : ℕ) → CodewordOf x c → c ≢ word_of x shown → ¬ WithinMarks x word marks c

-- ---- shortened codes (2026-06)
pub record Shortenable (sheet : List ℕ) (m : ℕ) : Type 0 where
  pub accepted : IsAccepted sheet
  pub some : 0 < m
  pub less : m < dimension_of (stated sheet)

-- "messages have k - m bits and words n - m"
abbrev pub ShortenedWord : ℕ → Stated → List ℕ → Type 0
ShortenedWord m x = Places word_weight (x.n - m)

abbrev pub ShortenedMessage : ℕ → Stated → List ℕ → Type 0
ShortenedMessage m x = Places message_weight (dimension_of x - m)

-- the word that a message is encoded into: as Systematic, without the top m places
pub record ShortenedSystematic (m : ℕ) (x : Stated) (message word : List ℕ) : Type 0 where
  pub is_word : ShortenedWord m x word
  pub is_bytes : Bytes word
  pub in_code : ShortenedCodeword m x (sent_word_of m x word)
  pub high : (i : ℕ) → i < dimension_of x - m → place word_weight word (x.n - dimension_of x + i) ≡ place message_weight message i
  pub low : sent_word_of m x word % 2 ^ (x.n - dimension_of x)
      ≡ remainder (x.n - dimension_of x) (generator_of x) (sent_message_of m x message * 2 ^ (x.n - dimension_of x))

-- the buffer after decoding, and what is returned: as WordDecoded, among the shortened codewords; and no other codeword at all is so near
pub record ShortenedDecoded (m : ℕ) (x : Stated) (word : List ℕ) (reply : Answer × List ℕ) : Type 0 where
  pub is_word : ShortenedWord m x reply.1
  pub is_bytes : Bytes reply.1
  pub in_code : ShortenedCodeword m x (sent_word_of m x reply.1)
  pub near : differences x.n (sent_word_of m x word) (sent_word_of m x reply.1) ≤ radius_of x
  pub counted : reply.0.values ≡ differences x.n (sent_word_of m x word) (sent_word_of m x reply.1) ∷ []
  pub others : (c : ℕ) → CodewordOf x c → c ≢ sent_word_of m x reply.1 → radius_of x < differences x.n (sent_word_of m x word) c

-- ---- blocks of interleaved words (2026-07)
-- a call of decoding a block that draws no refusal, exactly (`right_call` of Request07)
pub record BlockCall (sheet : List ℕ) (m : ℕ) (block out verdicts : List ℕ) : Type 0 where
  pub accepted : IsAccepted sheet
  pub depth : (2 ≤ m) × (m ≤ 16)
  pub is_block : Places word_weight ((stated sheet).n * m) block
  pub out_long : length out ≡ m * (((stated sheet).n + 7) / 8)
  pub verdicts_long : length verdicts ≡ m

-- a block that was sent, and what was received: the bits below n·m are the same but for a run of neighbouring ones, each of which may be wrong
-- or right. That none spare is spoiled is `below`, and `is_block` of BlockCall.
pub record RunSpoiled (m : ℕ) (x : Stated) (sent received : List ℕ) (start run : ℕ) : Type 0 where
  pub below : start + run ≤ x.n * m
  pub outside : (p : ℕ) → p < x.n * m → (p < start) ⊎ (start + run ≤ p) → place word_weight received p ≡ place word_weight sent p
