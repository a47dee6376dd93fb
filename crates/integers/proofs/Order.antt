-- Orders of signed numbers, as orders of their parts, which `omega` reads, and equal numbers by their bits. By cases on the signs. Assumes
-- nothing.
use mathlib.Core.Path.{◌≡◌, sym, ap, ◌∙◌}
use mathlib.Core.Bool.{true, false}
use Prim.Native.Nat.{ℕ, ◌+◌, ◌≤◌, ◌<◌}
use native.Mathlib.Omega.{arith}
use borrow.Author.Tests.{ltb-true, ltb-false, leb-true, leb-false}
use lib.IntN.{ℤ, pos, negsuc}
use mir.Syntax.{w64}
use mir.Val.{SFits, to_z, of_z}
use mir.Facts.{to_z-of_z}
use lib.Signed.{lt_z, le_z}
use Rattle.integers.proofs.Integers.{pos_part, neg_part}

-- the orders of the parts, from what a test gave
pub lt_z_yes : (a b : ℤ) → lt_z a b ≡ true → pos_part a + neg_part b < pos_part b + neg_part a
lt_z_yes (pos a) (pos b) e = omega (arith, ltb-true a b e)
lt_z_yes (pos a) (negsuc b) e = let z : ◌≡◌ {A = ℕ} 0 1 = cc in omega arith
lt_z_yes (negsuc a) (pos b) e = omega arith
lt_z_yes (negsuc a) (negsuc b) e = omega (arith, ltb-true b a e)

pub lt_z_no : (a b : ℤ) → lt_z a b ≡ false → pos_part b + neg_part a ≤ pos_part a + neg_part b
lt_z_no (pos a) (pos b) e = omega (arith, ltb-false a b e)
lt_z_no (pos a) (negsuc b) e = omega arith
lt_z_no (negsuc a) (pos b) e = let z : ◌≡◌ {A = ℕ} 0 1 = cc in omega arith
lt_z_no (negsuc a) (negsuc b) e = omega (arith, ltb-false b a e)

-- numbers with the same bits are the same
pub bits_same : {a b : ℤ} → SFits w64 a → SFits w64 b → of_z w64 a ≡ of_z w64 b → a ≡ b
bits_same fa fb e = sym (to_z-of_z fa) ∙ ap (to_z w64) e ∙ to_z-of_z fb

pub le_z_yes : (a b : ℤ) → le_z a b ≡ true → pos_part a + neg_part b ≤ pos_part b + neg_part a
le_z_yes (pos a) (pos b) e = omega (arith, leb-true a b e)
le_z_yes (pos a) (negsuc b) e = let z : ◌≡◌ {A = ℕ} 0 1 = cc in omega arith
le_z_yes (negsuc a) (pos b) e = omega arith
le_z_yes (negsuc a) (negsuc b) e = omega (arith, leb-true b a e)

pub le_z_no : (a b : ℤ) → le_z a b ≡ false → pos_part b + neg_part a < pos_part a + neg_part b
le_z_no (pos a) (pos b) e = omega (arith, leb-false a b e)
le_z_no (pos a) (negsuc b) e = omega arith
le_z_no (negsuc a) (pos b) e = let z : ◌≡◌ {A = ℕ} 0 1 = cc in omega arith
le_z_no (negsuc a) (negsuc b) e = omega (arith, leb-false b a e)

-- a number that is neither below n nor n
pub above : (a : ℤ) (n : ℕ) → lt_z a (pos n) ≡ false → (a ≡ pos n → ⊥) → n + neg_part a < pos_part a
above (pos m) n e other =
    let low = ltb-false m n e in
    let apart : (m ≡ n → ⊥) = λ s. other (ap pos s) in
    omega arith
above (negsuc m) n e other = let z : ◌≡◌ {A = ℕ} 0 1 = cc in omega arith
