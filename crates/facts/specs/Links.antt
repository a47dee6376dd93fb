-- Up to which day a new link runs.
use Rattle.std.specs.Prelude.{ℕ, ◌+◌, ◌*◌, ◌<◌, List, length}
use Rattle.rules.specs.declared.Body.{Body}
use Rattle.rules.specs.declared.Body.TheVariants.{Link, Stop, Quantity, Holder, State, Reading, Block, Round}
use Rattle.rules.specs.Sizes.{element_size}
use Rattle.rules.specs.World.{Opening, Tables}
use Rattle.rules.specs.Effects.{link_end}
use Rattle.tables.specs.Order.{PairFits, DayFits}

-- the end of the period that a link adds; a message that adds none has 0
unfoldable pub link_ends : Opening → Tables → Body → ℕ
link_ends o t (Link p e d q) = link_end o t p e d
link_ends o t (Stop p e d) = 0
link_ends o t (Quantity p e d q) = 0
link_ends o t (Holder p d h) = 0
link_ends o t (State p d s) = 0
link_ends o t (Reading p d h n) = 0
link_ends o t (Block p b) = 0
link_ends o t Round = 0

-- a link of an element that there is, on a day
abbrev pub LinkFits : (element_data : List ℕ) → Body → Type 0
LinkFits bytes (Link p e d q) = PairFits p e × DayFits d × (e * element_size + 2 < length bytes)
LinkFits bytes (Stop p e d) = Unit {0}
LinkFits bytes (Quantity p e d q) = Unit {0}
LinkFits bytes (Holder p d h) = Unit {0}
LinkFits bytes (State p d s) = Unit {0}
LinkFits bytes (Reading p d h n) = Unit {0}
LinkFits bytes (Block p b) = Unit {0}
LinkFits bytes Round = Unit {0}
