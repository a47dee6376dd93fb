-- Laws of finite sums of signed numbers, each by recursion on the number of terms. Assumes nothing.
use mathlib.Core.Path.{◌≡◌, refl, sym, ap, ◌∙◌}
use Prim.Native.Nat.{ℕ, zero, suc, ◌+◌, ◌*◌, ◌≤◌, ◌<◌}
use native.Mathlib.Decide.{ℕ_discrete}
use native.Mathlib.Numerals.{add-one}
use native.Mathlib.Omega.{arith}
use lib.IntN.{ℤ, pos, nat_abs, neg_ℤ, ◌+ℤ◌, ◌-ℤ◌}
use Rattle.integers.proofs.Integers.{add_abs}
use Rattle.integers.proofs.Linear.{lin, #, nat, ◌⊕◌, ◌⊝◌, ⊖}
use Rattle.integers.specs.Sums.{sum_to}

pub sum_none : (f : ℕ → ℤ) → sum_to f 0 ≡ pos 0
unfolding sum_to
sum_none f = refl

-- one term more, as the code counts
pub sum_more : (f : ℕ → ℤ) (n : ℕ) → sum_to f (n + 1) ≡ sum_to f n +ℤ f n
unfolding sum_to
sum_more f n = rw add-one

pub sum_cong : (f g : ℕ → ℤ) (n : ℕ) → ((i : ℕ) → i < n → f i ≡ g i) → sum_to f n ≡ sum_to g n
unfolding sum_to
sum_cong f g zero h = refl
sum_cong f g (suc n) h = cc (sum_cong f g n (λ i l. h i (omega arith)), h n (omega arith))

-- terms that are all zero
pub sum-zero : (f : ℕ → ℤ) (n : ℕ) → ((i : ℕ) → i < n → f i ≡ pos 0) → sum_to f n ≡ pos 0
unfolding sum_to
sum-zero f zero h = refl
sum-zero f (suc n) h = rw (sum-zero f n (λ i l. h i (omega arith)), h n (omega arith))

pub sum_zeros : (n : ℕ) → sum_to (λ i. pos 0) n ≡ pos 0
sum_zeros n = sum-zero (λ i. pos 0) n (λ i l. refl)

pub sum-add : (f g : ℕ → ℤ) (n : ℕ) → sum_to (λ i. f i +ℤ g i) n ≡ sum_to f n +ℤ sum_to g n
unfolding sum_to
sum-add f g zero = refl
sum-add f g (suc n) =
    rw (sum-add f g n)
    (lin (# (sum_to f n) ⊕ # (sum_to g n) ⊕ (# (f n) ⊕ # (g n))) (# (sum_to f n) ⊕ # (f n) ⊕ (# (sum_to g n) ⊕ # (g n))) (omega arith))

pub sum_neg : (f : ℕ → ℤ) (n : ℕ) → sum_to (λ i. neg_ℤ (f i)) n ≡ neg_ℤ (sum_to f n)
unfolding sum_to
sum_neg f zero = refl
sum_neg f (suc n) = rw (sum_neg f n) (lin (⊖ (# (sum_to f n)) ⊕ ⊖ (# (f n))) (⊖ (# (sum_to f n) ⊕ # (f n))) (omega arith))

pub sum-sub : (f g : ℕ → ℤ) (n : ℕ) → sum_to (λ i. f i -ℤ g i) n ≡ sum_to f n -ℤ sum_to g n
sum-sub f g n = sum-add f (λ i. neg_ℤ (g i)) n ∙ ap (λ x. sum_to f n +ℤ x) (sum_neg g n)

pub sum_swap : (f : ℕ → ℕ → ℤ) (n m : ℕ) → sum_to (λ i. sum_to (f i) m) n ≡ sum_to (λ j. sum_to (λ i. f i j) n) m
unfolding sum_to
sum_swap f zero m = sym (sum_zeros m)
sum_swap f (suc n) m = rw (sum_swap f n m) (sym (sum-add (λ j. sum_to (λ i. f i j) n) (f n) m))

-- terms that change at the one index p
pub sum-at : (f g : ℕ → ℤ) (p n : ℕ) → p < n → ((i : ℕ) → i < n → (i ≡ p → ⊥) → g i ≡ f i) → sum_to g n ≡ sum_to f n +ℤ (g p -ℤ f p)
unfolding sum_to
sum-at f g p zero l h = absurd (omega arith)
sum-at f g p (suc n) l h = go (ℕ_discrete n p) (λ m. sum-at f g p n m (λ i j. h i (omega arith)))
  where
    go : Dec (n ≡ p) → (p < n → sum_to g n ≡ sum_to f n +ℤ (g p -ℤ f p)) → sum_to g n +ℤ g n ≡ sum_to f n +ℤ f n +ℤ (g p -ℤ f p)
    go (yes e) ih =
        rw (← e, sum_cong g f n (λ i j. h i (omega arith) (λ q. omega arith)))
        (lin (# (sum_to f n) ⊕ # (g n)) (# (sum_to f n) ⊕ # (f n) ⊕ (# (g n) ⊝ # (f n))) (omega arith))
    go (no e) ih =
        rw (ih (omega arith), h n (omega arith) e)
        (lin (# (sum_to f n) ⊕ (# (g p) ⊝ # (f p)) ⊕ # (f n)) (# (sum_to f n) ⊕ # (f n) ⊕ (# (g p) ⊝ # (f p))) (omega arith))

-- terms that are zero but at the one index p
pub sum_one : (f : ℕ → ℤ) (p n : ℕ) → p < n → ((i : ℕ) → i < n → (i ≡ p → ⊥) → f i ≡ pos 0) → sum_to f n ≡ f p
sum_one f p n l h =
    sum-at (λ i. pos 0) f p n l h
    ∙ ap (λ x. x +ℤ (f p -ℤ pos 0)) (sum_zeros n)
    ∙ lin (nat 0 ⊕ (# (f p) ⊝ nat 0)) (# (f p)) (omega arith)

-- a bound on each term bounds the sum
pub sum_abs : (f : ℕ → ℤ) (b n : ℕ) → ((i : ℕ) → i < n → nat_abs (f i) ≤ b) → nat_abs (sum_to f n) ≤ n * b
unfolding sum_to
sum_abs f b zero h = omega arith
sum_abs f b (suc n) h = omega (arith, add_abs (sum_to f n) (f n), sum_abs f b n (λ i l. h i (omega arith)), h n (omega arith))
