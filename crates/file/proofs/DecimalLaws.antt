-- Laws of decimal numbers: the last digit behind the digits of the tenth part, how many digits there are, no leading zero, and that reading
-- the digits back gives the number. By recursion on the number of digits allowed, which is more than enough. Assumes nothing.
use Prim.Native.Nat.{ℕ, zero, suc, ◌+◌, ◌-◌, ◌*◌, ◌/◌, ◌%◌, ◌^◌, ◌≤◌, ◌<◌}
use mathlib.Core.Path.{◌≡◌, refl, sym, ap, ◌∙◌}
use mathlib.Core.List.{List, [], ◌∷◌, ◌++◌}
use lib.ListN.{length, get_or, length-append, get_or-append}
use lib.Dec.{ltb}
use native.Mathlib.Nat.{pow-suc}
use native.Mathlib.Omega.{arith}
use borrow.Author.Tests.{lt-ltb, le-ltb, ltb-true, ltb-false}
use Rattle.rules.proofs.Tests.{cases}
use Rattle.file.specs.Decimal.{digit, digits_to, decimal, digits_following, decimal_number}

digits-small : (most n : ℕ) → n < 10 → digits_to (suc most) n ≡ digit n ∷ []
unfolding digits_to
digits-small most n h = rw (lt-ltb n 10 h)

digits_more : (most n : ℕ) → 10 ≤ n → digits_to (suc most) n ≡ digits_to most (n / 10) ++ (digit (n % 10) ∷ [])
unfolding digits_to
digits_more most n h = rw (le-ltb n 10 h)

-- more digits allowed than needed change nothing
digits_same : (m k n : ℕ) → n < m → n < k → digits_to m n ≡ digits_to k n
digits_same zero k n h l = absurd (omega arith)
digits_same (suc m) zero n h l = absurd (omega arith)
digits_same (suc m) (suc k) n h l = cases (ltb n 10)
    (λ t. let s = ltb-true n 10 t in digits-small m n s ∙ sym (digits-small k n s))
    (λ t. let s = ltb-false n 10 t in
    digits_more m n s ∙ ap (λ (ds : List ℕ). ds ++ (digit (n % 10) ∷ [])) (digits_same m k (n / 10) (omega arith) (omega arith))
    ∙ sym (digits_more k n s))

pub decimal-small : (n : ℕ) → n < 10 → decimal n ≡ digit n ∷ []
unfolding decimal
decimal-small n h = digits-small n n h

pub decimal_more : (n : ℕ) → 10 ≤ n → decimal n ≡ decimal (n / 10) ++ (digit (n % 10) ∷ [])
unfolding decimal
decimal_more n h =
    digits_more n n h ∙ ap (λ (ds : List ℕ). ds ++ (digit (n % 10) ∷ []))
    (digits_same n (suc (n / 10)) (n / 10) (omega arith) (omega arith))

-- every number by its digits: what holds of numbers below 10, and of a number where it holds of the tenth part
pub by_digits : {P : ℕ → Type 0} → ((n : ℕ) → n < 10 → P n) → ((n : ℕ) → 10 ≤ n → P (n / 10) → P n) → (n : ℕ) → P n
by_digits {P} small more n = below (suc n) n (omega arith)
  where
    below : (most n : ℕ) → n < most → P n
    below zero n h = absurd (omega arith)
    below (suc most) n h =
        cases (ltb n 10) (λ t. small n (ltb-true n 10 t)) (λ t. let s = ltb-false n 10 t in more n s (below most (n / 10) (omega arith)))

-- ---- how many digits

pub decimal-length : (k n : ℕ) → n < 10 ^ suc k → length (decimal n) ≤ suc k
decimal-length zero n h = rw (decimal-small n (omega arith)) (omega arith)
decimal-length (suc k) n h = cases (ltb n 10)
    (λ t. rw (decimal-small n (ltb-true n 10 t)) (omega arith))
    (λ t. let p = pow-suc 10 (suc k) in
    let l : n < 10 ^ suc k * 10 = rw pow-suc at h in
    rw (decimal_more n (ltb-false n 10 t), length-append) (omega (arith, decimal-length k (n / 10) (omega arith))))

-- a number of 64 bits
pub decimal-short : (n : ℕ) → n < 18446744073709551616 → length (decimal n) ≤ 20
decimal-short n h = decimal-length 19 n (omega arith)

pub some-digit : (n : ℕ) → 0 < length (decimal n)
some-digit n = cases (ltb n 10)
    (λ t. rw (decimal-small n (ltb-true n 10 t)) (omega arith))
    (λ t. rw (decimal_more n (ltb-false n 10 t), length-append) (omega arith))

-- ---- checks of the definition, which no proof cites

-- "no leading zeros": the first digit of a positive number is 1 to 9

pub no_leading_zero : (n : ℕ) → 0 < n → 49 ≤ get_or (decimal n) 0 0
no_leading_zero n = by_digits {P = λ m. 0 < m → 49 ≤ get_or (decimal m) 0 0}
    (λ m s h. rw (decimal-small m s) (omega arith))
    (λ m s p h. rw (decimal_more m s, get_or-append (decimal (m / 10)) (digit (m % 10) ∷ []) 0 0 (some-digit (m / 10)))
    (p (omega arith)))
    n

following_more : (n : ℕ) (cs : List ℕ) (c : ℕ) → digits_following n (cs ++ (c ∷ [])) ≡ digits_following n cs * 10 + (c - 48)
unfolding digits_following
following_more n [] c = refl
following_more n (a ∷ cs) c = following_more (n * 10 + (a - 48)) cs c

number_small : (c : ℕ) → decimal_number (c ∷ []) ≡ c - 48
unfolding decimal_number digits_following
number_small c = omega arith

number_more : (cs : List ℕ) (c : ℕ) → decimal_number (cs ++ (c ∷ [])) ≡ decimal_number cs * 10 + (c - 48)
unfolding decimal_number
number_more cs c = following_more 0 cs c

-- the digits, read back, are the number
pub read_back : (n : ℕ) → decimal_number (decimal n) ≡ n
read_back = by_digits {P = λ m. decimal_number (decimal m) ≡ m}
    (λ m s. rw (decimal-small m s, number_small (48 + m)) (omega arith))
    (λ m s p. rw (decimal_more m s, number_more (decimal (m / 10)) (48 + m % 10), p) (omega arith))
