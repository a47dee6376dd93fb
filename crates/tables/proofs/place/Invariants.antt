-- `tables::place` meets its contract: `low` and `high` bracket the place; the rows are in order, so a middle row decides for all on its
-- side.
use Prim.Native.Nat.{ℕ, ◌-◌, ◌≤◌, ◌<◌}
use lib.ListN.{get_or, length}
use Rattle.tables.proofs.place.Given as goal

abbrev pub invariant-loop-low : goal.invariant-loop-low
invariant-loop-low l =
    (l.low ≤ l.high) × (l.high ≤ length l.rows) × ((k : ℕ) → k < l.low → get_or l.rows k 0 < l.word)
    × ((k : ℕ) → l.high ≤ k → k < length l.rows → l.word ≤ get_or l.rows k 0)

abbrev pub decreases-loop-low : goal.decreases-loop-low
decreases-loop-low l = l.high - l.low
