-- Who pays for a point on a day, whichever states count.
use Rattle.std.specs.Prelude.{ℕ, Bool, cond}
use Rattle.rules.specs.World.{Opening, Tables, counting_states, holder_on, state_on}

-- the holder where the state counts, else nobody (0)
abbrev pub payer_of : (counts : (state : ℕ) → Bool) → (state holder : ℕ) → ℕ
payer_of counts s h = cond (counts s) h 0

unfoldable pub payer_on : (counts : (state : ℕ) → Bool) → Tables → (point day : ℕ) → ℕ
payer_on counts t p d = payer_of counts (state_on t p d) (holder_on t p d)

-- in a book's month, by the set that its year chooses
abbrev pub month_payer : Opening → Tables → (point day : ℕ) → ℕ
month_payer o t = payer_on (counting_states o.year) t
