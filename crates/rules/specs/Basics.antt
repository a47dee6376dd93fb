-- Tests over ranges and lists, the first number that passes one, and the latest of dated values: the words that the definitions are written
-- in.
use Rattle.std.specs.Prelude.{ℕ, zero, suc, Bool, true, false, ◌&&◌, ◌||◌, cond, List, [], ◌∷◌, ◌++◌, leb}
use Rattle.std.specs.Prelude.{Option, None, Some}

-- a ≤ x ≤ b
unfoldable pub within : (low high x : ℕ) → Bool
within a b x = leb a x && leb x b

-- f holds of each number below n
unfoldable pub all_to : (ℕ → Bool) → ℕ → Bool
all_to f zero = true
all_to f (suc n) = all_to f n && f n

-- f holds of some number below n
unfoldable pub any_to : (ℕ → Bool) → ℕ → Bool
any_to f zero = false
any_to f (suc n) = let below = any_to f n in f n || below

-- f holds of each entry
unfoldable pub all_in : {A : Type 0} → (A → Bool) → List A → Bool
all_in f [] = true
all_in f (x ∷ xs) = f x && all_in f xs

-- f holds of each two neighbours
unfoldable pub chained : (ℕ → ℕ → Bool) → List ℕ → Bool
chained f [] = true
chained f (x ∷ []) = true
chained f (x ∷ y ∷ ys) = f x y && chained f (y ∷ ys)

-- the entries of which f holds, in their order
unfoldable pub keep : (ℕ → Bool) → List ℕ → List ℕ
keep f [] = []
keep f (x ∷ xs) = cond (f x) (x ∷ keep f xs) (keep f xs)

-- f 0, f 1, .., f (n − 1)
unfoldable pub list_to : {A : Type 0} → (ℕ → A) → ℕ → List A
list_to f zero = []
list_to f (suc n) = list_to f n ++ (f n ∷ [])

-- a value where a test holds
unfoldable pub when : {A : Type 0} → Bool → A → Option A
when holds a = cond holds (Some a) None

-- a test of a value, passed where there is none
unfoldable pub asked : {A : Type 0} → (A → Bool) → Option A → Bool
asked test None = true
asked test (Some a) = test a

-- the value, or the other where there is none
unfoldable pub or_else : Option ℕ → (other : ℕ) → ℕ
or_else None other = other
or_else (Some v) other = v

-- the first of n numbers from a on of which f holds
unfoldable pub first_from : (ℕ → Bool) → (from count : ℕ) → Option ℕ
first_from f a zero = None
first_from f a (suc n) = cond (f a) (Some a) (first_from f (suc a) n)

-- what was recorded on the latest day up to d, or 0 where nothing was
unfoldable pub latest : ((day : ℕ) → Option ℕ) → (day : ℕ) → ℕ
latest f zero = or_else (f zero) 0
latest f (suc d) = let earlier = latest f d in or_else (f (suc d)) earlier
