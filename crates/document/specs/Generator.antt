-- The generator, codewords, encoding and reading out, on masks; and what decoding is to find, said with no way to find it.
--
--   times_root s a p            the polynomial p over the field, low coefficient first, times x - a
--   generator_poly n reps       the product of x - α^i over D
--   mask_of_poly p               a polynomial with coefficients 0 and 1 as a mask
--   generator n reps           the mask that its coefficients are
--   value_at s a c              the value of the mask c at the element a
--   is_codeword m g c           c is a multiple of the generator g of degree m
--   Codeword n reps c          c is a codeword of n places
--   encode_mask m g message     the codeword of a message; message_of m c: the message of a codeword
--   differences n a b          in how many of n places two words differ
--   nearest k m g n t r        the first message whose codeword differs from r in at most t places; 2^k if there is none
use Rattle.std.specs.Prelude.{◌≡◌, Bool, true, List, [], ◌∷◌, map, ℕ, zero, suc, ◌+◌, ◌-◌, ◌*◌, ◌/◌, ◌^◌, ◌<◌, eqb, leb, length, get_or}
use Rattle.field.specs.Search.{least, total}
use Rattle.field.specs.Mask.{◌⊕◌, coefficient, size, remainder}
use Rattle.field.specs.Field.{field_multiply, field_power, order_of_two, α}
use Rattle.document.specs.Coset.{defining_set, dimension}

-- coefficient by coefficient; the sum of elements is xor
unfoldable pub add_poly : List ℕ → List ℕ → List ℕ
add_poly [] q = q
add_poly (a ∷ p) [] = a ∷ p
add_poly (a ∷ p) (b ∷ q) = (a ⊕ b) ∷ add_poly p q

-- x p + a p: minus is plus
unfoldable pub times_root : ℕ → ℕ → List ℕ → List ℕ
times_root s a p = add_poly (0 ∷ p) (map (field_multiply s a) p)

unfoldable pub root_product : ℕ → ℕ → List ℕ → List ℕ
root_product s a [] = 1 ∷ []
root_product s a (i ∷ l) = times_root s (field_power s a i) (root_product s a l)

-- "The generator is the product of x - α^i over all i in D."
unfoldable pub generator_poly : ℕ → List ℕ → List ℕ
generator_poly n reps = root_product (order_of_two n) (α (order_of_two n) n) (defining_set n reps)

unfoldable pub mask_of_poly : List ℕ → ℕ
mask_of_poly p = total (length p) (λ i. get_or p i 0 * 2 ^ i)

-- "It has coefficients 0 and 1 only."
unfoldable pub generator : ℕ → List ℕ → ℕ
generator n reps = mask_of_poly (generator_poly n reps)

-- what demand 2 says of codewords: the sum of a^i over the first m places i of c that hold a 1, and over all
unfoldable pub value_below : ℕ → ℕ → ℕ → ℕ → ℕ
value_below s a zero c = 0
value_below s a (suc m) c = value_below s a m c ⊕ coefficient m c * field_power s a m

unfoldable pub value_at : ℕ → ℕ → ℕ → ℕ
value_at s a c = value_below s a (size c) c

-- "A codeword is a word of n bits, place i the coefficient of x^i, that is a multiple of the generator." m is n - k.
unfoldable pub is_codeword : ℕ → ℕ → ℕ → Bool
is_codeword m g c = eqb (remainder m g c) 0

pub record Codeword (n : ℕ) (reps : List ℕ) (c : ℕ) : Type 0 where
  pub small : c < 2 ^ n
  pub is : is_codeword (n - dimension n reps) (generator n reps) c ≡ true

-- "Message bit i stands in place n - k + i. Places below n - k hold the remainder of x^(n-k)·m(x) by the generator."
unfoldable pub encode_mask : ℕ → ℕ → ℕ → ℕ
encode_mask m g message = message * 2 ^ m + remainder m g (message * 2 ^ m)

unfoldable pub message_of : ℕ → ℕ → ℕ
message_of m c = c / 2 ^ m

-- "Two words of one length differ in a place where one has 1 and the other 0. Spare bits are no places."
unfoldable pub differences : ℕ → ℕ → ℕ → ℕ
differences n a b = total n (λ i. coefficient i (a ⊕ b))

-- All 2^k messages are gone through: this says what is right, and never runs. That no two codewords lie within t of one word
-- is a theorem.
unfoldable pub nearest : ℕ → ℕ → ℕ → ℕ → ℕ → ℕ → ℕ
nearest k m g n t r = least (λ message. leb (differences n r (encode_mask m g message)) t) (2 ^ k)
