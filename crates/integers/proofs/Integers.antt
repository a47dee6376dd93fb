-- Signed numbers by their natural numbers: the positive part, the negative part and the magnitude, `nat_abs`; what fits an i64.
-- Everything is by cases on the two constructors of ℤ. Assumes nothing.
use mathlib.Core.Path.{◌≡◌, refl, ap, ◌∙◌}
use mathlib.Core.Bool.{Bool, true, false, not, cond}
use Prim.Native.Nat.{ℕ, zero, suc, ◌+◌, ◌*◌, ◌-◌, ◌^◌, ◌≤◌, ◌<◌, max}
use native.Mathlib.Omega.{arith}
use lib.Dec.{T, ltb, ltb→lt, nltb→le}
use lib.IntN.{ℤ, pos, negsuc, nat_abs, neg_ℤ, sub_ℕ, ◌+ℤ◌, ◌-ℤ◌, ◌*ℤ◌, +ℤ_idl}
use lib.Signed.{mag, lt_z, non_neg}
use borrow.Author.Tests.{ltb-true}
use mir.Syntax.{w64}
use mir.Val.{SFits, Fits, to_z, of_z}
use mir.Facts.{to_z_pos, to_z-of_z}
use borrow.Author.Rules.{rules}

-- the positive part of a number and its negative part: one of them is 0, and the number is their difference
abbrev pub pos_part : ℤ → ℕ
pos_part (pos n) = n
pos_part (negsuc n) = 0

abbrev pub neg_part : ℤ → ℕ
neg_part (pos n) = 0
neg_part (negsuc n) = suc n

-- two integers are equal where the differences of their parts are
pub equal_by_parts : (x y : ℤ) → pos_part x + neg_part y ≡ pos_part y + neg_part x → x ≡ y
equal_by_parts (pos a) (pos b) e = ap pos (omega arith)
equal_by_parts (pos a) (negsuc b) e = absurd (omega arith)
equal_by_parts (negsuc a) (pos b) e = absurd (omega arith)
equal_by_parts (negsuc a) (negsuc b) e = ap negsuc (omega arith)

-- a - b for two naturals, by its parts
sub-cond : (a b : ℕ) (t : Bool) → (T t → a < b) → (T (not t) → b ≤ a)
    → pos_part (cond t (negsuc (b - suc a)) (pos (a - b))) + b ≡ neg_part (cond t (negsuc (b - suc a)) (pos (a - b))) + a
sub-cond a b true f g = let h : a < b = f tt in omega arith
sub-cond a b false f g = let h : b ≤ a = g tt in omega arith

pub sub_parts : (a b : ℕ) → pos_part (sub_ℕ a b) + b ≡ neg_part (sub_ℕ a b) + a
sub_parts a b = sub-cond a b (ltb a b) (ltb→lt a b) (nltb→le a b)

-- the parts of a sum, a negation
pub add_parts : (x y : ℤ) → pos_part (x +ℤ y) + (neg_part x + neg_part y) ≡ neg_part (x +ℤ y) + (pos_part x + pos_part y)
add_parts (pos a) (pos b) = omega arith
add_parts (pos a) (negsuc b) = omega (arith, sub_parts a (suc b))
add_parts (negsuc a) (pos b) = omega (arith, sub_parts b (suc a))
add_parts (negsuc a) (negsuc b) = omega arith

pub neg_pos : (x : ℤ) → pos_part (neg_ℤ x) ≡ neg_part x
neg_pos (pos zero) = refl
neg_pos (pos (suc n)) = refl
neg_pos (negsuc n) = refl

pub neg_neg : (x : ℤ) → neg_part (neg_ℤ x) ≡ pos_part x
neg_neg (pos zero) = refl
neg_neg (pos (suc n)) = refl
neg_neg (negsuc n) = refl

pub abs_parts : (x : ℤ) → nat_abs x ≡ pos_part x + neg_part x
abs_parts (pos n) = omega arith
abs_parts (negsuc n) = omega arith

-- one of the parts is 0
pub disjoint : (x : ℤ) → pos_part x + neg_part x ≤ max (pos_part x) (neg_part x)
disjoint (pos n) = omega arith
disjoint (negsuc n) = omega arith

-- what `SFits` bounds is at most the magnitude
pub mag_le : (x : ℤ) → mag x ≤ nat_abs x
mag_le (pos n) = omega arith
mag_le (negsuc n) = omega arith

-- the magnitude of a sum, a negation, a difference, a product
pub add_abs : (x y : ℤ) → nat_abs (x +ℤ y) ≤ nat_abs x + nat_abs y
add_abs x y = omega (arith, abs_parts (x +ℤ y), abs_parts x, abs_parts y, add_parts x y, disjoint (x +ℤ y))

pub neg_abs : (x : ℤ) → nat_abs (neg_ℤ x) ≡ nat_abs x
neg_abs x = omega (arith, abs_parts (neg_ℤ x), abs_parts x, neg_pos x, neg_neg x)

pub sub_abs : (x y : ℤ) → nat_abs (x -ℤ y) ≤ nat_abs x + nat_abs y
sub_abs x y = omega (arith, add_abs x (neg_ℤ y), neg_abs y)

pub mul_abs : (x y : ℤ) → nat_abs (x *ℤ y) ≡ nat_abs x * nat_abs y
mul_abs (pos a) (pos b) = refl
mul_abs (pos a) (negsuc b) = neg_abs (pos (a * suc b))
mul_abs (negsuc a) (pos b) = neg_abs (pos (suc a * b))
mul_abs (negsuc a) (negsuc b) = refl

-- what a need of the code asks, from bounds on magnitudes
pub abs_fits : (x : ℤ) → nat_abs x < 2 ^ 63 → SFits w64 x
abs_fits x h = record { sfits = omega (arith, mag_le x) }

pub add-fits : (x y : ℤ) → nat_abs x + nat_abs y < 2 ^ 63 → SFits w64 (x +ℤ y)
add-fits x y h = abs_fits _ (omega (arith, add_abs x y))

pub sub-fits : (x y : ℤ) → nat_abs x + nat_abs y < 2 ^ 63 → SFits w64 (x -ℤ y)
sub-fits x y h = abs_fits _ (omega (arith, sub_abs x y))

pub mul-fits : (x y : ℤ) → nat_abs x * nat_abs y < 2 ^ 63 → SFits w64 (x *ℤ y)
mul-fits x y h = abs_fits _ (rw mul_abs h)

pub neg_fits : (x : ℤ) → nat_abs x < 2 ^ 63 → SFits w64 (pos 0 -ℤ x)
neg_fits x h = abs_fits _ (omega (arith, sub_abs (pos 0) x))

pub zero-sub : (x : ℤ) → pos 0 -ℤ x ≡ neg_ℤ x
zero-sub x = +ℤ_idl (neg_ℤ x)

pub pos-fits : (n : ℕ) → n < 2 ^ 63 → SFits w64 (pos n)
pos-fits n h = record { sfits = h }

-- what a call returned, read back: `back c.f.result c.f.ok`
pub back : (z : ℤ) → mag z < 2 ^ 63 → to_z w64 (of_z w64 z) ≡ z
back z h = to_z-of_z {w = w64} (record { sfits = h })

-- the same from a bound: `abs-back c.args.a.kroner (omega arith)`
pub abs_back : (z : ℤ) → nat_abs z < 2 ^ 63 → to_z w64 (of_z w64 z) ≡ z
abs_back z h = to_z-of_z (abs_fits z h)

-- a cast from u64, read back
pub cast_is : (n : ℕ) → n < 2 ^ 63 → to_z w64 n ≡ pos n
cast_is n h = to_z_pos w64 h

-- what the test `a < 0` tells
pub below_parts : (x : ℤ) → lt_z x (pos 0) ≡ true → (pos_part x ≡ 0) × (neg_part x ≡ nat_abs x)
below_parts (pos n) e = let h : n < 0 = ltb-true n 0 e in absurd (omega arith)
below_parts (negsuc n) e = (refl, refl)

pub not_below_parts : (x : ℤ) → lt_z x (pos 0) ≡ false → (pos_part x ≡ nat_abs x) × (neg_part x ≡ 0)
not_below_parts (pos n) e = (refl, refl)
not_below_parts (negsuc n) e = let z : ◌≡◌ {A = ℕ} 0 1 = cc in absurd (omega arith)

-- and that a cast to u64 may follow it
pub below-zero : (x : ℤ) → lt_z x (pos 0) ≡ true → T (non_neg (pos 0 -ℤ x))
below-zero (pos n) e = let h : n < 0 = ltb-true n 0 e in absurd (omega arith)
below-zero (negsuc n) e = tt

pub not_below-zero : (x : ℤ) → lt_z x (pos 0) ≡ false → T (non_neg x)
not_below-zero (pos n) e = tt
not_below-zero (negsuc n) e = let z : ◌≡◌ {A = ℕ} 0 1 = cc in absurd (omega arith)

pub abs_fits_unsigned : (x : ℤ) → nat_abs x < 2 ^ 63 → Fits w64 (nat_abs x)
abs_fits_unsigned x h = record { fits = omega arith }

pub zero-sub_abs : (x : ℤ) → nat_abs (pos 0 -ℤ x) ≡ nat_abs x
zero-sub_abs x = ap nat_abs (zero-sub x) ∙ neg_abs x

pub neg_fits_unsigned : (x : ℤ) → nat_abs x < 2 ^ 63 → Fits w64 (nat_abs (pos 0 -ℤ x))
neg_fits_unsigned x h = record { fits = omega (arith, zero-sub_abs x) }

-- what `search` is handed at a need over signed numbers
pub ruleset signed = (
  add_abs,
  sub_abs,
  add-fits,
  sub-fits,
  mul-fits,
  neg_fits,
  pos-fits,
  zero-sub,
  zero-sub_abs,
  below-zero,
  not_below-zero,
  abs_fits_unsigned,
  neg_fits_unsigned,
  to_z_pos,
  rules,
)
