-- Boolean tests and what they say.
use Prim.Native.Nat.{ℕ}
use mathlib.Core.Path.{◌≡◌, refl, sym, ap₂, ◌∙◌}
use mathlib.Core.Logic.{◌≢◌}
use mathlib.Core.Bool.{Bool, true, false, ◌&&◌, ◌||◌, cond, false≢true}
use Rattle.std.specs.Prelude.{Option, None, Some}
use lib.Dec.{eqb}
use borrow.Author.Tests.{ltb-true, ltb-false, leb-true, leb-false, eqb-true, eqb-false, le-leb, lt-leb, eq-eqb, ne_eqb}
use native.Mathlib.Omega.{arith}

pub eqb_ne : (a b : ℕ) → eqb a b ≡ false → a ≢ b
eqb_ne a b h = eqb-false a b h

-- what omega reads of tests, and what it proves of them
pub ruleset tests = (ltb-true, ltb-false, leb-true, leb-false, eqb-true, eqb_ne, le-leb, lt-leb, eq-eqb, ne_eqb)

-- both cases of a test
pub cases : {P : Type 0} (b : Bool) → (b ≡ true → P) → (b ≡ false → P) → P
cases true f g = f refl
cases false f g = g refl

pub both : (a b : Bool) → (a && b) ≡ true → (a ≡ true) × (b ≡ true)
both true b h = (refl, h)
both false b h = absurd (false≢true h)

-- a test of tests, each of which is what a definition says
pub two_are : {r a b x y : Bool} → r ≡ (a && b) → a ≡ x → b ≡ y → r ≡ (x && y)
two_are h p q = h ∙ ap₂ ◌&&◌ p q

pub three_are : {r a b c x y z : Bool} → r ≡ (a && (b && c)) → a ≡ x → b ≡ y → c ≡ z → r ≡ (x && (y && z))
three_are h p q s = h ∙ ap₂ ◌&&◌ p (ap₂ ◌&&◌ q s)

pub neither : (a b : Bool) → (a || b) ≡ false → (a ≡ false) × (b ≡ false)
neither true b h = absurd (false≢true (sym h))
neither false b h = (refl, h)

-- none is not some
pub none_some : {A : Type 0} (a : A) → ◌≡◌ {A = Option A} None (Some a) → ⊥
none_some a l = let z : ◌≡◌ {A = ℕ} 0 1 = cc in omega arith

pub cond_same : {A : Type 0} (b : Bool) (x : A) → cond b x x ≡ x
cond_same true x = refl
cond_same false x = refl

pub eqb_comm : (a b : ℕ) → eqb a b ≡ eqb b a
eqb_comm a b = cases (eqb b a) (λ h. rw h (omega (arith, tests))) (λ h. rw h (omega (arith, tests)))
