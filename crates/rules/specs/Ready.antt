-- What is known of a message that has passed questions 2 to 16.
use Rattle.std.specs.Prelude.{ℕ, ◌≤◌, ◌<◌, ◌≡◌, true, length}
use Rattle.rules.specs.declared.Body.{Body}
use Rattle.rules.specs.declared.Body.TheVariants.{Link, Stop, Quantity, Holder, State, Reading, Block, Round}
use Rattle.rules.specs.World.{Opening, Tables, new_state, closed}
use Rattle.rules.specs.WellFormed.{reading_count}
use Rattle.rules.specs.Questions.{question7, question8, own_question}
use Rattle.rules.specs.Whole.{Limits, TablesRight}
use Rattle.rules.specs.Sizes.{end_of_days, hour_places, most_energy, most_quantity}

-- a body's fields, as question 6 leaves them
abbrev pub Ranged : (suppliers : ℕ) → Body → Type 0
Ranged suppliers (Link p e d q) = (d < end_of_days) × (1 ≤ q) × (q ≤ most_quantity)
Ranged suppliers (Stop p e d) = d < end_of_days
Ranged suppliers (Quantity p e d q) = (d < end_of_days) × (1 ≤ q) × (q ≤ most_quantity)
Ranged suppliers (Holder p d h) = (d < end_of_days) × (h ≤ suppliers)
Ranged suppliers (State p d v) = (d < end_of_days) × (new_state ≤ v) × (v ≤ closed)
Ranged suppliers (Reading p d h n) = (d < end_of_days) × (h < hour_places) × (n ≤ most_energy)
Ranged suppliers (Block p b) = b ≤ 1
Ranged suppliers Round = Unit {0}

-- ---- all that a body is known by when it is told

pub record Ready (o : Opening) (t : Tables) (b : Body) : Type 0 where
  pub limited : Limits o
  pub readings : length t.readings ≡ reading_count o
  pub right : TablesRight o t
  pub point : question7 o b ≡ true
  pub element : question8 o b ≡ true
  pub own : own_question o t b ≡ true
  pub range : Ranged o.suppliers b
