-- Tests and lists by number, as the definitions say them, are those that a chain of iterators speaks of: by induction over the list or the
-- count.
use Rattle.std.specs.Prelude.{ℕ, zero, suc, ◌+◌, Bool, true, false, ◌&&◌, ◌||◌, cond, List, [], ◌∷◌, ◌++◌, length, get_or, map}
use mathlib.Core.Path.{◌≡◌, refl, sym, ap, ap₂, ◌∙◌}
use mathlib.Core.Bool.{and-true, and_assoc}
use Rattle.rules.proofs.Ranges.{all_cong}
use Rattle.std.specs.List.{list_all, range_with_len}
use native.Mathlib.Omega.{arith}
use Rattle.rules.specs.Basics.{all_to, any_to, all_in, list_to}

module _ {A : Type 0} where
  pub all_in-list : (f : A → Bool) (xs : List A) → all_in f xs ≡ list_all f xs
  unfolding all_in
  all_in-list f [] = refl
  all_in-list f (x ∷ xs) = ap (λ b. f x && b) (all_in-list f xs)

-- one more number at the front
pub all_to-front : (f : ℕ → Bool) (n : ℕ) → all_to f (suc n) ≡ (f 0 && all_to (λ i. f (suc i)) n)
unfolding all_to
all_to-front f zero = sym (and-true (f 0))
all_to-front f (suc n) = ap (λ b. b && f (suc n)) (all_to-front f n) ∙ and_assoc (f 0) (all_to (λ i. f (suc i)) n) (f (suc n))

-- all numbers from a on, n of them; and all below n
pub all_to-from : (f : ℕ → Bool) (a n : ℕ) → all_to (λ i. f (a + i)) n ≡ list_all f (range_with_len a n)
unfolding all_to
all_to-from f a zero = refl
all_to-from f a (suc n) =
    all_to-front (λ i. f (a + i)) n
    ∙ ap₂ (λ b c. b && c) (ap f (omega arith)) (all_cong (λ i. f (a + suc i)) (λ i. f (a + 1 + i)) n (λ i k. ap f (omega arith))
    ∙ all_to-from f (a + 1) n)

pub all_to-range : (f : ℕ → Bool) (n : ℕ) → all_to f n ≡ list_all f (range_with_len 0 n)
all_to-range f n = all_cong _ _ n (λ i k. ap f (omega arith)) ∙ all_to-from f 0 n

-- all places of a list
pub all_to-list : {A : Type 0} (p : A → Bool) (d : A) (xs : List A) → all_to (λ i. p (get_or xs i d)) (length xs) ≡ list_all p xs
unfolding all_to
all_to-list p d [] = refl
all_to-list p d (x ∷ xs) = all_to-front (λ i. p (get_or (x ∷ xs) i d)) (length xs) ∙ ap (λ b. p x && b) (all_to-list p d xs)
