-- Numbers as bytes, "All high byte first", and a list with other entries from a place on.
use Rattle.std.specs.Prelude.{ℕ, ◌+◌, ◌*◌, cond, List, [], ◌∷◌, ◌++◌, ℤ, pos, ◌-ℤ◌, length, take, drop, ltb}

-- the values of a byte; the values of 64 bits, and the half of them that stands for the numbers from 0 on
abbrev pub byte_room : ℕ
byte_room = 256

abbrev pub word_room : ℕ
word_room = 18446744073709551616

abbrev pub positive_room : ℕ
positive_room = 9223372036854775808

-- the bytes of 64 bits
abbrev pub word_bytes : ℕ
word_bytes = 8

-- a number with further bytes behind it
unfoldable pub followed : (n : ℕ) → (bytes : List ℕ) → ℕ
followed n [] = n
followed n (b ∷ bs) = followed (n * byte_room + b) bs

unfoldable pub bytes_number : (bytes : List ℕ) → ℕ
bytes_number bs = followed 0 bs

-- the number in the n bytes from a place on
unfoldable pub number_in : (bytes : List ℕ) → (at n : ℕ) → ℕ
number_in bs at n = bytes_number (take n (drop at bs))

-- a number of 64 bits in two's complement: from 2^63 on it stands for the negative number that is 2^64 less
unfoldable pub twos_complement : (n : ℕ) → ℤ
twos_complement n = cond (ltb n positive_room) (pos n) (pos n -ℤ pos word_room)

unfoldable pub signed64 : (bytes : List ℕ) → ℤ
signed64 bs = twos_complement (bytes_number bs)

-- other entries from a place on; those before and behind stay
unfoldable pub placed : {A : Type 0} → (entries : List A) → (at : ℕ) → (others : List A) → List A
placed xs at ys = take at xs ++ ys ++ drop (at + length ys) xs
