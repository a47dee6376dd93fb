-- The tables at the program's own sizes, and the parts of them that a book uses: its own tables are their fronts.
use Rattle.std.specs.Prelude.{ℕ, ◌*◌, ◌≤◌, ◌≡◌, length, take}
use Rattle.calendar.specs.Gregorian.{days_of_month, longest_month, InRange}
use Rattle.rules.specs.declared.Book.{Book}
use Rattle.rules.specs.Basics.{all_to}
use Rattle.rules.specs.Sizes.{element_size, hour_places, line_size, most_elements}
use Rattle.rules.specs.Sizes.{most_lines, most_suppliers, places, price_places, record_size}
use Rattle.rules.specs.World.{Opening, World}
use Rattle.rules.specs.WellFormed.{element_right}
use Rattle.rules.specs.Effects.{ask}
use Rattle.rules.specs.Lent.{Lists, world_in, given}
use Rattle.recording.specs.Opened.{fresh_book}
use Rattle.file.specs.Program.{settle_points, settle_records}
use Rattle.runner.specs.declared.parts.Ends.{Ends}
use Rattle.runner.specs.declared.parts.Store.{Store}

-- 64 elements, 16 suppliers, and 16 points of 31 days of 24 hours
pub record Sized (t : Lists) : Type 0 where
  pub element_data : length t.element_data ≡ most_elements * element_size
  pub prices : length t.prices ≡ most_elements * price_places
  pub links : length t.links ≡ places
  pub holders : length t.holders ≡ places
  pub states : length t.states ≡ places
  pub readings : length t.readings ≡ settle_points * longest_month * hour_places
  pub blocks : length t.blocks ≡ settle_points
  pub lines : length t.lines ≡ most_lines * line_size
  pub sent : length t.sent ≡ most_lines * line_size

-- the tables of the program, as they are
abbrev pub lists_in : Store → Lists
lists_in s =
    given s.element_data.now s.prices.now s.links.now s.holders.now s.states.now s.readings.now s.blocks.now s.lines.now s.sent.now

-- with room for the records of a round
pub record Stocked (s : Store) : Type 0 where
  pub tables : Sized (lists_in s)
  pub records : length s.records.now ≡ settle_records * record_size

-- they stay the same slices: their content alone changes
pub record SameSlices (s t : Store) : Type 0 where
  pub element_data : t.element_data.ghost_name ≡ s.element_data.ghost_name
  pub prices : t.prices.ghost_name ≡ s.prices.ghost_name
  pub links : t.links.ghost_name ≡ s.links.ghost_name
  pub holders : t.holders.ghost_name ≡ s.holders.ghost_name
  pub states : t.states.ghost_name ≡ s.states.ghost_name
  pub readings : t.readings.ghost_name ≡ s.readings.ghost_name
  pub blocks : t.blocks.ghost_name ≡ s.blocks.ghost_name
  pub lines : t.lines.ghost_name ≡ s.lines.ghost_name
  pub sent : t.sent.ghost_name ≡ s.sent.ghost_name
  pub records : t.records.ghost_name ≡ s.records.ghost_name

-- a month of the calendar, and counts that the tables have room for
pub record Fitted (b : Book) : Type 0 where
  pub month : InRange b.year b.month
  pub points : b.points ≤ settle_points
  pub suppliers : b.suppliers ≤ most_suppliers
  pub elements : b.elements ≤ most_elements

-- where the parts of a book end
unfoldable pub ends_of : Book → Ends
ends_of b =
    record {
      described = b.elements * element_size;
      priced = b.elements * price_places;
      readings = b.points * days_of_month b.year b.month * hour_places;
      blocks = b.points;
      lines = b.suppliers * b.elements * line_size;
    }

-- the tables up to those ends
abbrev pub cut_to : Ends → Lists → Lists
cut_to e t =
    record {
      element_data = take e.described t.element_data;
      prices = take e.priced t.prices;
      links = t.links;
      holders = t.holders;
      states = t.states;
      readings = take e.readings t.readings;
      blocks = take e.blocks t.blocks;
      lines = take e.lines t.lines;
      sent = take e.lines t.sent;
    }

-- the parts that a book uses, as its own tables
abbrev pub fronts : Book → Lists → Lists
fronts b t = cut_to (ends_of b) t

-- the world of a book whose tables they are
abbrev pub fronts_world : Book → Lists → World
fronts_world b t = world_in b (fronts b t)

abbrev pub fronts_opening : Book → Lists → Opening
fronts_opening b t = (fronts_world b t).opening

-- question 4
abbrev pub elements_answer : Opening → ℕ
elements_answer o = ask (all_to (element_right o) o.elements) 4 0

-- the same month and counts, with no row in use
abbrev pub anew : Book → Book
anew b = fresh_book b.year b.month b.points b.suppliers b.elements
