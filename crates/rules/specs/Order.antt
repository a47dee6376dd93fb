-- Periods in order and apart: the rows of a link table that can be searched.
use Rattle.std.specs.Prelude.{ℕ, ◌+◌, ◌*◌, ◌≤◌, ◌<◌, false, Bool, ◌||◌, List, [], ◌∷◌}
use Rattle.rules.specs.Sizes.{element_room, day_room}
use Rattle.rules.specs.Rows.{period_point, period_element, period_first, period_end, period_quantity, covers}

-- a period as a stretch of one line: the days of each pair of point and element stand behind those of the pair before
abbrev pub from : (row : ℕ) → ℕ
from w = (period_point w * element_room + period_element w) * day_room + period_first w

abbrev pub upto : (row : ℕ) → ℕ
upto w = (period_point w * element_room + period_element w) * day_room + period_end w

-- the rows from k on: each starts no earlier than the one before ends, has a day and a quantity
pub data Run : ℕ → List ℕ → Type 0 where
  done : {k : ℕ} → Run k []
  next : {k w : ℕ} {ws : List ℕ} → k ≤ from w → from w < upto w → 1 ≤ period_quantity w → Run (upto w) ws → Run k (w ∷ ws)

-- does a row cover the day
unfoldable pub linked_in : (rows : List ℕ) → (point element day : ℕ) → Bool
linked_in [] p e d = false
linked_in (w ∷ ws) p e d = covers p e d w || linked_in ws p e d
