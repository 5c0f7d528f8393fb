-- Words and messages in bytes. A word or message is a mask: place i is the coefficient of x^i.
--
--   word_weight, message_weight      the weight of place i in its byte: all that is particular to a layout
--   bytes_for n                     how many bytes n places take
--   mask_of weight n bytes          the mask that the first n places of the bytes are
--   bytes_of weight n mask          the bytes that hold n places
--   spare weight n bytes           whether a spare bit is 1
use Rattle.std.specs.Prelude.{Bool, List, map, ℕ, ◌+◌, ◌-◌, ◌*◌, ◌/◌, ◌%◌, ◌^◌, eqb, get_or}
use Rattle.field.specs.Search.{up_to, some, total}
use Rattle.field.specs.Mask.{coefficient}

-- "place i of a word has weight 2^(7 - i mod 8) in byte i div 8." (2026-01)
unfoldable pub word_weight : ℕ → ℕ
word_weight i = 2 ^ (7 - i % 8)

-- "Messages keep 01's order": "In bytes, place i has weight 2^(i mod 8) in byte i div 8".
unfoldable pub message_weight : ℕ → ℕ
message_weight i = 2 ^ (i % 8)

-- "A word has n/8 bytes and a message k/8, each rounded up."
unfoldable pub bytes_for : ℕ → ℕ
bytes_for n = (n + 7) / 8

unfoldable pub place : (ℕ → ℕ) → List ℕ → ℕ → ℕ
place weight bytes i = get_or bytes (i / 8) 0 / weight i % 2

unfoldable pub mask_of : (ℕ → ℕ) → ℕ → List ℕ → ℕ
mask_of weight n bytes = total n (λ i. place weight bytes i * 2 ^ i)

-- the eight places of byte j
unfoldable pub byte_of : (ℕ → ℕ) → ℕ → ℕ → ℕ
byte_of weight mask j = total 8 (λ i. coefficient (j * 8 + i) mask * weight (j * 8 + i))

-- "Spare bits of the last byte are 0", since a mask of n places has no coefficient from n on.
unfoldable pub bytes_of : (ℕ → ℕ) → ℕ → ℕ → List ℕ
bytes_of weight n mask = map (byte_of weight mask) (up_to (bytes_for n))

-- the places from n on in the bytes that n places take. "A word's spare bits are then the low bits of its last byte." (2026-01)
unfoldable pub spare : (ℕ → ℕ) → ℕ → List ℕ → Bool
spare weight n bytes = some (λ i. eqb (place weight bytes (n + i)) 1) (up_to (bytes_for n * 8 - n))
