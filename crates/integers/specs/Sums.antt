-- Finite sums of signed numbers.
use Rattle.std.specs.Prelude.{ℕ, zero, suc, ℤ, pos, ◌+ℤ◌}

-- f 0 + f 1 + .. + f (n - 1)
unfoldable pub sum_to : (f : ℕ → ℤ) → (n : ℕ) → ℤ
sum_to f zero = pos 0
sum_to f (suc n) = sum_to f n +ℤ f n
