-- What a message asks of the tables that it writes into, and what it leaves.
use Rattle.std.specs.Prelude.{ℕ, ◌≤◌, ◌<◌, ◌≡◌, true, List, length}
use Rattle.rules.specs.declared.Book.{Book}
use Rattle.rules.specs.declared.Body.{Body}
use Rattle.rules.specs.declared.Body.TheVariants.{Link, Stop, Quantity, Holder, State, Reading, Block, Round}
use Rattle.rules.specs.Sizes.{end_of_days, holder_size, most_energy, most_points, quantity_room, state_size}
use Rattle.rules.specs.World.{World, reading_at}
use Rattle.rules.specs.Effects.{told}
use Rattle.rules.specs.Order.{linked_in}
use Rattle.rules.specs.Lent.{Lists, opening_in}
use Rattle.tables.specs.Order.{PairFits, DayFits}
use Rattle.facts.specs.Readings.{HourOfMonth}

-- ---- what is asked

-- messages 1 to 5, with their fields within their ranges, and a quantity is for a linked day
abbrev pub RowFits : (link_rows : List ℕ) → Body → Type 0
RowFits rows (Link p e d q) = PairFits p e × DayFits d × (q < quantity_room)
RowFits rows (Stop p e d) = PairFits p e × DayFits d
RowFits rows (Quantity p e d q) = PairFits p e × DayFits d × (q < quantity_room) × (linked_in rows p e d ≡ true)
RowFits rows (Holder p d h) = (p < most_points) × (d < end_of_days) × (h < holder_size)
RowFits rows (State p d s) = (p < most_points) × (d < end_of_days) × (s < state_size)
RowFits rows (Reading p d h n) = ⊥
RowFits rows (Block p b) = ⊥
RowFits rows Round = ⊥

-- a reading of an hour of a day of the month, and its place
pub record ReadingFits (b : Book) (readings : List ℕ) (point day hour energy : ℕ) : Type 0 where
  pub of_month : HourOfMonth b point day hour
  pub energy-below : energy ≤ most_energy
  pub place : (o : Lists) → reading_at (opening_in b o) point day hour < length readings

-- ---- what is left

-- the world where a message is told: with other tables, and all else as it was
abbrev pub recorded_in : World → Body → World
recorded_in w b = record w { position = record w.position { tables = told w.opening w.position.tables b } }
