-- A book with all that it was lent, as one value, and what it says of the month.
use Rattle.std.specs.Prelude.{ℕ, ◌+◌, ◌-◌, ◌*◌, ◌/◌, ◌%◌, ◌≤◌, ◌<◌, Bool, not, ◌||◌, cond, List, ◌++◌, ℤ, pos}
use Rattle.std.specs.Prelude.{negsuc, ◌+ℤ◌, ◌*ℤ◌, length, get_or, take, replicate, eqb, leb}
use Rattle.calendar.specs.Gregorian.{first_day, days_of_month}
use Rattle.rules.specs.declared.Book.{Book}
use Rattle.rules.specs.Basics.{within, latest}
use Rattle.rules.specs.Rows.{quantity_on, recorded_on}
use Rattle.rules.specs.Sizes.{holder_size, state_size, billion, element_size, hour_places, line_size, places, price_places}
use Rattle.rules.specs.Sizes.{last_year_of_every_state}
use Rattle.rules.specs.Lines.{Facts, Terms, Measure, tariff}

-- ---- the parts of a world

-- what the opening fixes: the month, the counts, each element's kind, owner and marks, and the prices
pub record Opening : Type 0 where
  pub year : ℕ
  pub month : ℕ
  pub points : ℕ
  pub suppliers : ℕ
  pub elements : ℕ
  pub element_data : List ℕ
  pub prices : List ℤ

-- a table of rows: how many places are in use, and the words at all its places
pub record Table : Type 0 where
  pub used : ℕ
  pub words : List ℕ

-- what messages 1 to 7 record
pub record Tables : Type 0 where
  pub links : Table
  pub holders : Table
  pub states : Table
  pub readings : List ℕ
  pub blocks : List ℕ

-- what is recorded and what is owed by it: three numbers a line
pub record Position : Type 0 where
  pub tables : Tables
  pub lines : List ℤ

-- what the rounds so far have sent, three numbers a line, and the kind of the next round
pub record Sent : Type 0 where
  pub totals : List ℤ
  pub round : ℕ

-- what the book keeps of its month: the first day, and how many days there are
pub record Dates : Type 0 where
  pub first : ℕ
  pub days : ℕ

pub record World : Type 0 where
  pub opening : Opening
  pub position : Position
  pub sent : Sent
  pub dates : Dates

-- the book's own numbers
abbrev pub book_of : World → Book
book_of w =
    record {
      year = w.opening.year;
      month = w.opening.month;
      points = w.opening.points;
      suppliers = w.opening.suppliers;
      elements = w.opening.elements;
      periods = w.position.tables.links.used;
      holders = w.position.tables.holders.used;
      states = w.position.tables.states.used;
      round = w.sent.round;
      first = w.dates.first;
      days = w.dates.days;
    }

-- ---- tables of rows

unfoldable pub rows_of : Table → List ℕ
rows_of t = take t.used t.words

-- "places past the last period, holder or state are 0"
unfoldable pub table_of : (rows : List ℕ) → Table
table_of rows = record { used = length rows; words = rows ++ replicate (places - length rows) 0 }

-- ---- the month and the elements

unfoldable pub month_first : Opening → ℕ
month_first o = first_day o.year o.month

unfoldable pub month_days : Opening → ℕ
month_days o = days_of_month o.year o.month

abbrev pub month_dates : Opening → Dates
month_dates o = record { first = month_first o; days = month_days o }

unfoldable pub kind_of : Opening → (element : ℕ) → ℕ
kind_of o e = get_or o.element_data (e * element_size) 0

unfoldable pub owner_of : Opening → (element : ℕ) → ℕ
owner_of o e = get_or o.element_data (e * element_size + 1) 0

unfoldable pub marks_of : Opening → (element : ℕ) → ℕ
marks_of o e = get_or o.element_data (e * element_size + 2) 0

-- the two owners of elements
abbrev pub grid_company : ℕ
grid_company = 1

abbrev pub energinet : ℕ
energinet = 2

-- "marks (1 VAT, 2 pass-on, 4 tax, 8 hourly; other bits are question 4)"
abbrev pub pass_on : ℕ
pass_on = 2

abbrev pub tax : ℕ
tax = 4

abbrev pub hourly : ℕ
hourly = 8

-- all marks together
abbrev pub all_marks : ℕ
all_marks = 15

-- is one mark among them
abbrev pub is_set : (marks mark : ℕ) → Bool
is_set marks mark = eqb (marks / mark % 2) 1

unfoldable pub marked : Opening → (mark element : ℕ) → Bool
marked o mark e = is_set (marks_of o e) mark

unfoldable pub is_tariff : Opening → (element : ℕ) → Bool
is_tariff o e = eqb (kind_of o e) tariff

-- "Every day has 24 hours, 0 to 23"
unfoldable pub hours_of : (day : ℕ) → ℕ
hours_of d = hour_places

-- "An hourly tariff has 24 prices, any other element one"
unfoldable pub price_of : Opening → (element day hour : ℕ) → ℤ
price_of o e d h = get_or o.prices (e * price_places + cond (marked o hourly e) h 0) (pos 0)

-- ---- states

-- "1 new, 2 connected, 3 disconnected, 4 closed. Before its first state a point does not exist": 0
abbrev pub not_existing : ℕ
not_existing = 0

abbrev pub new_state : ℕ
new_state = 1

abbrev pub connected : ℕ
connected = 2

abbrev pub disconnected : ℕ
disconnected = 3

abbrev pub closed : ℕ
closed = 4

-- the two sets of states in which a day counts. "the state is connected or disconnected (H3 4.1.1)"
unfoldable pub connected_or_disconnected : (state : ℕ) → Bool
connected_or_disconnected s = eqb s connected || eqb s disconnected

-- request 8: "every state, new and closed included, once the point exists"
unfoldable pub every_state : (state : ℕ) → Bool
every_state s = within new_state closed s

-- the set for a book of the year: "A book for a month up to December 2018 shall count a day in every state"
unfoldable pub counting_states : (year : ℕ) → (state : ℕ) → Bool
counting_states year = cond (leb year last_year_of_every_state) every_state connected_or_disconnected

-- ---- what the opening settles by

-- whichever states count
unfoldable pub terms_by : (counts : (state : ℕ) → Bool) → Opening → Terms
terms_by counts o =
    record {
      first = month_first o;
      days = month_days o;
      points = o.points;
      kind = kind_of o;
      price = price_of o;
      hours = hours_of;
      counts = counts;
    }

-- in a book's month, by the set of its year
abbrev pub terms_of : Opening → Terms
terms_of o = terms_by (counting_states o.year) o

-- ---- what the tables say of a day

-- "Holder from D, up to the next recorded holder": 0 where nobody holds the point
unfoldable pub holder_on : Tables → (point day : ℕ) → ℕ
holder_on t p d = latest (recorded_on holder_size (rows_of t.holders) p) d

-- "State from D, likewise": 0 before the first
unfoldable pub state_on : Tables → (point day : ℕ) → ℕ
state_on t p d = latest (recorded_on state_size (rows_of t.states) p) d

unfoldable pub linked_on : Tables → (point element day : ℕ) → Bool
linked_on t p e d = not (eqb (quantity_on (rows_of t.links) p e d) 0)

-- where the reading of an hour of a day of the month stands
unfoldable pub reading_at : Opening → (point day hour : ℕ) → ℕ
reading_at o p d h = (p * month_days o + (d - month_first o)) * hour_places + h

-- "An hour without a reading has 0 Wh"
unfoldable pub energy_of : Opening → Tables → (point day hour : ℕ) → ℕ
energy_of o t p d h = get_or t.readings (reading_at o p d h) 0

unfoldable pub facts_of : Opening → Tables → Facts
facts_of o t =
    record {
      holder = holder_on t;
      state = state_on t;
      quantity = quantity_on (rows_of t.links);
      energy = energy_of o t;
    }

-- ---- stored lines: quantity, kroner, billionths

-- how many lines a book has, and how many numbers they take
unfoldable pub line_count : Opening → ℕ
line_count o = o.suppliers * o.elements

-- where a line's three numbers begin
unfoldable pub line_at : Opening → (supplier element : ℕ) → ℕ
line_at o s e = ((s - 1) * o.elements + e) * line_size

-- "An amount is whole kroner and billionths from 0 to 999,999,999 that count upwards"
unfoldable pub kroner_of : (amount : ℤ) → ℤ
kroner_of (pos n) = pos (n / billion)
kroner_of (negsuc n) = negsuc (n / billion)

unfoldable pub billionths_of : (amount : ℤ) → ℕ
billionths_of (pos n) = n % billion
billionths_of (negsuc n) = (billion - 1) - n % billion

-- the amount in billionths
unfoldable pub amount_of : (kroner billionths : ℤ) → ℤ
amount_of kroner billionths = kroner *ℤ pos billion +ℤ billionths

-- what is stored from place i on
unfoldable pub stored_at : (lines : List ℤ) → Measure → (place : ℕ) → ℤ
stored_at ls Measure.quantity i = get_or ls i (pos 0)
stored_at ls Measure.amount i = amount_of (get_or ls (i + 1) (pos 0)) (get_or ls (i + 2) (pos 0))

-- what is stored for a supplier and element
unfoldable pub stored : Opening → (lines : List ℤ) → Measure → (supplier element : ℕ) → ℤ
stored o ls m s e = stored_at ls m (line_at o s e)

-- a supplier and an element of the book
pub record InBook (o : Opening) (s e : ℕ) : Type 0 where
  pub someone : 1 ≤ s
  pub supplier : s ≤ o.suppliers
  pub element : e < o.elements
