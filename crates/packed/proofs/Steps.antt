-- The definitions of packed decimal, step by step as the loops go: a digit by the tenth part, half-bytes by their place, one digit more.
use Prim.Native.Nat.{ℕ, ◌+◌, ◌*◌, ◌/◌, ◌^◌, ◌≤◌, ◌<◌}
use mathlib.Core.Path.{◌≡◌, refl, sym, ◌∙◌}
use mathlib.Core.Bool.{true}
use mathlib.Core.List.{List}
use lib.IntN.{pos, neg_ℤ, ◌-ℤ◌}
use lib.ListN.{length, get_or}
use borrow.Author.Tests.{eq-eqb, ne_eqb}
use native.Mathlib.Nat.{pow-le-pow_right, pow-suc, div-div-eq-div-mul}
use native.Mathlib.Numerals.{add-one}
use native.Mathlib.Omega.{arith}
use mir.Syntax.{w64}
use mir.Val.{to_z, of_z}
use Rattle.integers.proofs.Integers.{sub_abs, zero-sub, cast_is, abs_back}
use Rattle.rules.specs.Packed.{digit_count, sign_below, half_in, digits_in}
use Rattle.rules.specs.Basics.{list_to}
use Rattle.rules.specs.Packed.{packed_size, packed_byte, packed_bytes, sign_in, digits_right, is_packed, packed_amount}
use lib.Seq.{ext_get_or}
use Rattle.rules.proofs.Ranges.{length-list_to, get_d_list_to}
use Rattle.rules.proofs.Packed.{digits-small, digit_low, packed_parts}

-- ---- writing

-- the number without one digit more
pub tenth : (n i : ℕ) → n / 10 ^ i / 10 ≡ n / 10 ^ (i + 1)
tenth n i = rw (add-one i, pow-suc) (div-div-eq-div-mul n (10 ^ i) 10)

-- all eight bytes written
pub whole-packed : (size sign : ℕ) (bytes : List ℕ) → length bytes ≡ packed_size
    → ((k : ℕ) → k < packed_size → get_or bytes k 0 ≡ packed_byte size sign k) → bytes ≡ packed_bytes size sign
unfolding packed_bytes
whole-packed size sign bytes l h =
    ext_get_or 0 bytes (list_to (packed_byte size sign) packed_size)
    (l ∙ sym (length-list_to (packed_byte size sign) packed_size))
    (λ k m. h k (omega arith) ∙ sym (get_d_list_to (packed_byte size sign) packed_size k 0 (omega arith)))

-- ---- reading

pub digits_none : (bs : List ℕ) → 0 ≡ digits_in bs 0
unfolding digits_in
digits_none bs = refl

pub digits_more : (bs : List ℕ) (n : ℕ) → digits_in bs (n + 1) ≡ digits_in bs n * 10 + half_in bs n
unfolding digits_in
digits_more bs n = rw (add-one n)

-- the digits before a place make a number of so many digits, and one more fits
pub digits-below : (bs : List ℕ) → digits_right bs ≡ true → (n : ℕ) → n < digit_count
    → (digits_in bs n * 10 < 10 ^ digit_count) × (half_in bs n ≤ 9)
digits-below bs h n l =
    let low = digit_low bs h in
    let a = digits-small bs n (λ i k. low i (omega arith)) in
    let k : n ≤ 14 = omega arith in
    let b : 10 ^ n ≤ 10 ^ 14 = pow-le-pow_right (omega arith) k in
    (omega arith, low n l)

-- ---- what is a packed number

pub packed-small : (bs : List ℕ) → is_packed bs ≡ true → digits_in bs digit_count < 10 ^ digit_count
packed-small bs h = digits-small bs digit_count (digit_low bs (packed_parts bs h).digits)

-- its amount, by the sign
pub amount-below : (bs : List ℕ) → sign_in bs ≡ sign_below → neg_ℤ (pos (digits_in bs digit_count)) ≡ packed_amount bs
unfolding packed_amount
amount-below bs e = rw (eq-eqb (sign_in bs) sign_below e)

pub amount_other : (bs : List ℕ) → (sign_in bs ≡ sign_below → ⊥) → pos (digits_in bs digit_count) ≡ packed_amount bs
unfolding packed_amount
amount_other bs e = rw (ne_eqb (sign_in bs) sign_below e)

-- a number that was negated, read back
pub negated : (n : ℕ) → n < 2 ^ 63 → to_z w64 (of_z w64 (pos 0 -ℤ to_z w64 n)) ≡ neg_ℤ (pos n)
negated n h = rw (cast_is n h, abs_back (pos 0 -ℤ pos n) (omega (arith, sub_abs (pos 0) (pos n)))) (zero-sub (pos n))
