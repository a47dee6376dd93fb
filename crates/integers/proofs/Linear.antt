-- Linear equations of signed numbers, by `omega`: an expression over signed numbers is written once more, as a value of `Exp`,
-- and its positive and its negative part are sums of natural numbers, which `omega` reads: `# z` is the number z, `nat n` is `pos n`,
-- `⊕ ⊝ ⊖` are sum, difference and negation, and `e ⊙ k` is `e *ℤ pos k`. Assumes nothing.
--
--     lin (# a ⊕ # b ⊝ (# c ⊕ # b) ⊕ # c) (# a) (omega arith)
--       proves  (a +ℤ b) -ℤ (c +ℤ b) +ℤ c ≡ a
--     lin (# a) (# c ⊝ (# d ⊕ # b)) (omega (arith, read (# a ⊕ # b) (# c ⊝ # d) h))
--       proves  a ≡ c -ℤ (d +ℤ b)  from  h : a +ℤ b ≡ c -ℤ d
use mathlib.Core.Path.{◌≡◌, refl, ap, ◌∙◌}
use Prim.Native.Nat.{ℕ, suc, ◌+◌, ◌*◌}
use native.Mathlib.Omega.{arith}
use lib.IntN.{ℤ, pos, negsuc, neg_ℤ, ◌+ℤ◌, ◌-ℤ◌, ◌*ℤ◌, *ℤ-negsuc}
use Rattle.integers.proofs.Integers.{pos_part, neg_part, equal_by_parts, add_parts, neg_pos, neg_neg}

infixl 6 ◌⊕◌ ◌⊝◌
infixl 7 ◌⊙◌
pub data Exp : Type 0 where
  # : ℤ → Exp
  nat : ℕ → Exp
  ◌⊕◌ : Exp → Exp → Exp
  ◌⊝◌ : Exp → Exp → Exp
  ⊖ : Exp → Exp
  ◌⊙◌ : Exp → ℕ → Exp

-- the number that it stands for
abbrev pub val : Exp → ℤ
val (# z) = z
val (nat n) = pos n
val (a ⊕ b) = val a +ℤ val b
val (a ⊝ b) = val a -ℤ val b
val (⊖ a) = neg_ℤ (val a)
val (a ⊙ k) = val a *ℤ pos k

abbrev mutual
  -- what is added, and what is taken away
  pub up : Exp → ℕ
  up (# z) = pos_part z
  up (nat n) = n
  up (a ⊕ b) = up a + up b
  up (a ⊝ b) = up a + down b
  up (⊖ a) = down a
  up (a ⊙ k) = up a * k

  pub down : Exp → ℕ
  down (# z) = neg_part z
  down (nat n) = 0
  down (a ⊕ b) = down a + down b
  down (a ⊝ b) = down a + up b
  down (⊖ a) = up a
  down (a ⊙ k) = down a * k

mul_parts : (x : ℤ) (k : ℕ) → (pos_part (x *ℤ pos k) ≡ pos_part x * k) × (neg_part (x *ℤ pos k) ≡ neg_part x * k)
mul_parts (pos a) k = (refl, omega arith)
mul_parts (negsuc a) k = (neg_pos (pos (suc a * k)) ∙ omega arith, neg_neg (pos (suc a * k)))

pub parts : (e : Exp) → pos_part (val e) + down e ≡ neg_part (val e) + up e
parts (# z) = omega arith
parts (nat n) = omega arith
parts (a ⊕ b) = omega (arith, add_parts (val a) (val b), parts a, parts b)
parts (a ⊝ b) = omega (arith, add_parts (val a) (neg_ℤ (val b)), neg_pos (val b), neg_neg (val b), parts a, parts b)
parts (⊖ a) = omega (arith, neg_pos (val a), neg_neg (val a), parts a)
parts (a ⊙ k) = scaled (mul_parts (val a) k) (parts a)
  where
    scaled : (pos_part (val a *ℤ pos k) ≡ pos_part (val a) * k) × (neg_part (val a *ℤ pos k) ≡ neg_part (val a) * k)
        → pos_part (val a) + down a ≡ neg_part (val a) + up a
        → pos_part (val a *ℤ pos k) + down a * k ≡ neg_part (val a *ℤ pos k) + up a * k
    scaled m h = omega (arith, m.0, m.1, ap (λ (n : ℕ). n * k) h)

-- an equation of two expressions: `lin LEFT RIGHT (omega arith)`
pub lin : (a b : Exp) → up a + down b ≡ up b + down a → val a ≡ val b
lin a b h = equal_by_parts (val a) (val b) (omega (arith, parts a, parts b))

-- and an equation in hand, as `omega` reads it: `omega (arith, read LEFT RIGHT h)`
pub read : (a b : Exp) → val a ≡ val b → up a + down b ≡ up b + down a
read a b h = omega (arith, parts a, parts b, ap pos_part h, ap neg_part h)

-- laws of the product that lib.IntN does not have
pub add-mul : (a b y : ℤ) → (a +ℤ b) *ℤ y ≡ a *ℤ y +ℤ b *ℤ y
add-mul a b (pos k) = lin ((# a ⊕ # b) ⊙ k) (# a ⊙ k ⊕ # b ⊙ k) (omega arith)
add-mul a b (negsuc k) =
    rw (*ℤ-negsuc (a +ℤ b) k, *ℤ-negsuc a k, *ℤ-negsuc b k)
    (lin (⊖ ((# a ⊕ # b) ⊙ suc k)) (⊖ (# a ⊙ suc k) ⊕ ⊖ (# b ⊙ suc k)) (omega arith))

-- rearrangements that come up as they stand
pub back_again : (a b : ℤ) → a +ℤ (b -ℤ a) ≡ b
back_again a b = lin (# a ⊕ (# b ⊝ # a)) (# b) (omega arith)

pub less_itself : (a : ℤ) → a -ℤ a ≡ pos 0
less_itself a = lin (# a ⊝ # a) (nat 0) (omega arith)
