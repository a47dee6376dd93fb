-- Numbers as printed: "Decimal, no leading zeros", with a minus sign before a negative number.
use Rattle.std.specs.Prelude.{ℕ, zero, suc, ◌+◌, ◌-◌, ◌*◌, ◌/◌, ◌%◌, cond, List, [], ◌∷◌, ◌++◌, ℤ, pos, negsuc, ltb}

-- the character 0, and the character of a digit
abbrev pub zero_digit : ℕ
zero_digit = 48

abbrev pub digit : (d : ℕ) → ℕ
digit d = zero_digit + d

-- the digits of n, of which there are at most `most`. The `let` means nothing to a reader: the checker computes it only where it is read
unfoldable pub digits_to : (most n : ℕ) → List ℕ
digits_to zero n = []
digits_to (suc most) n =
    let more = digits_to most (n / 10) ++ (digit (n % 10) ∷ []) in
    cond (ltb n 10) (digit n ∷ []) more

-- a number has no more digits than its size and one
unfoldable pub decimal : (n : ℕ) → List ℕ
decimal n = digits_to (suc n) n

abbrev pub minus_sign : ℕ
minus_sign = 45

unfoldable pub signed_decimal : ℤ → List ℕ
signed_decimal (pos n) = decimal n
signed_decimal (negsuc n) = minus_sign ∷ decimal (suc n)

-- the number that digits stand for
unfoldable pub digits_following : (n : ℕ) → (text : List ℕ) → ℕ
digits_following n [] = n
digits_following n (c ∷ cs) = digits_following (n * 10 + (c - zero_digit)) cs

unfoldable pub decimal_number : (text : List ℕ) → ℕ
decimal_number cs = digits_following 0 cs
