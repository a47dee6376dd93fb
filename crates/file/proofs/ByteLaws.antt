-- Laws of numbers as bytes: one byte more, the size of a number by its width, and that a number of a list's front does not see what
-- follows. Each is by recursion on the list, or by laws of powers. Assumes nothing.
use Prim.Native.Nat.{ℕ, ◌+◌, ◌-◌, ◌*◌, ◌^◌, ◌≤◌, ◌<◌}
use mathlib.Core.Path.{◌≡◌, refl}
use mathlib.Core.List.{List, [], ◌∷◌, ◌++◌}
use lib.IntN.{pos, negsuc, ◌-ℤ◌}
use lib.ListN.{length, get_or, take, drop, length-drop}
use lib.Seq.{take-suc, take-append-le, drop-append-le}
use lib.Dec.{lit<}
use native.Mathlib.Nat.{pow-suc, pow-le-pow_right}
use native.Mathlib.Numerals.{add-one}
use native.Mathlib.Omega.{arith}
use borrow.Author.Tests.{lt-ltb, le-ltb}
use Rattle.integers.proofs.Linear.{lin, #, nat, ◌⊝◌}
use Rattle.file.specs.Bytes.{followed, bytes_number, number_in, twos_complement}

-- ---- one byte more

followed_more : (n : ℕ) (bs : List ℕ) (b : ℕ) → followed n (bs ++ (b ∷ [])) ≡ followed n bs * 256 + b
unfolding followed
followed_more n [] b = refl
followed_more n (a ∷ bs) b = followed_more (n * 256 + a) bs b

pub bytes_more : (bs : List ℕ) (b : ℕ) → bytes_number (bs ++ (b ∷ [])) ≡ bytes_number bs * 256 + b
unfolding bytes_number
bytes_more bs b = followed_more 0 bs b

pub bytes_none : bytes_number [] ≡ 0
unfolding bytes_number followed
bytes_none = refl

pub bytes_next : (bs : List ℕ) (i : ℕ) → i < length bs
    → bytes_number (take (i + 1) bs) ≡ bytes_number (take i bs) * 256 + get_or bs i 0
bytes_next bs i h = rw (add-one i, take-suc bs i 0 h) (bytes_more (take i bs) (get_or bs i 0))

-- ---- the size of a number of i bytes

pub size_more : (v b i : ℕ) → v < 256 ^ i → b < 256 → v * 256 + b < 256 ^ (i + 1)
size_more v b i h k = rw (add-one i, pow-suc 256 i) (omega arith)

pub fits_more : (v i : ℕ) → v < 256 ^ i → i < 8 → v * 256 + 255 < 18446744073709551616
fits_more v i h k = let m : 256 ^ i ≤ 256 ^ 7 = pow-le-pow_right {n = 256} (lit< tt) {j = 7} (omega arith) in omega arith

-- ---- places

-- what follows does not matter
pub number-front : (bs rest : List ℕ) (at n : ℕ) → at + n ≤ length bs → number_in (bs ++ rest) at n ≡ number_in bs at n
unfolding number_in
number-front bs rest at n h =
    let k : n ≤ length (drop at bs) = rw length-drop (omega arith) in
    rw (drop-append-le at bs rest (omega arith), take-append-le n (drop at bs) rest k)

-- ---- two's complement, by the half in which the number lies

pub low_half : (n : ℕ) → n < 9223372036854775808 → twos_complement n ≡ pos n
unfolding twos_complement
low_half n h = rw (lt-ltb n 9223372036854775808 h)

pub high_half : (n : ℕ) → 9223372036854775808 ≤ n → n ≤ 18446744073709551615
    → negsuc 0 -ℤ pos (18446744073709551615 - n) ≡ twos_complement n
unfolding twos_complement
high_half n h k =
    rw (le-ltb n 9223372036854775808 h)
    (lin (# (negsuc 0) ⊝ nat (18446744073709551615 - n)) (nat n ⊝ nat 18446744073709551616) (omega arith))
