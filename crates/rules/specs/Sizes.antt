-- The limits and sizes of document 01, each named once.
use Rattle.std.specs.Prelude.{ℕ, ◌*◌}
use Rattle.calendar.specs.Gregorian.{year_months}
-- "Is the month within 2000 to 2099": the calendar's years and months
pub use Rattle.calendar.specs.Gregorian.{first_year, last_year}

abbrev pub last_month : ℕ
last_month = year_months

-- "Points: 1 to 256", "Suppliers: 1 to 16", "Elements: 1 to 64"
abbrev pub most_points : ℕ
most_points = 256

abbrev pub most_suppliers : ℕ
most_suppliers = 16

abbrev pub most_elements : ℕ
most_elements = 64

-- "36,524 is 31 December 2099": the first day after the last, where a period that nothing ends runs to
abbrev pub end_of_days : ℕ
end_of_days = 36525

-- "1,024 periods, 1,024 holders, 1,024 states"
abbrev pub places : ℕ
places = 1024

-- "kind, owner, marks": the bytes of an element
abbrev pub element_size : ℕ
element_size = 3

-- "24 prices per element"
abbrev pub price_places : ℕ
price_places = 24

-- "24 readings per point and day"
abbrev pub hour_places : ℕ
hour_places = 24

-- a line is a quantity, kroner and billionths
abbrev pub line_size : ℕ
line_size = 3

-- a supplier and an element each
abbrev pub most_lines : ℕ
most_lines = 1024

-- a record is a kind, a supplier, an element, a quantity, kroner and billionths, and the line's quantity, kroner and billionths after it
abbrev pub record_size : ℕ
record_size = 9

-- "up to 9,999,999,999 in size per month or per fee, up to 9,999,999 per k_wh"
abbrev pub most_price : ℕ
most_price = 9999999999

abbrev pub most_tariff_price : ℕ
most_tariff_price = 9999999

-- "quantity 1 to 999, Wh 0 to 9,999,999"
abbrev pub most_quantity : ℕ
most_quantity = 999

abbrev pub most_energy : ℕ
most_energy = 9999999

-- "at most 1,095 after the received day, and at most 90 (grid company) or 21 (supplier) before it"
abbrev pub days_ahead : ℕ
days_ahead = 1095

abbrev pub grid_days_back : ℕ
grid_days_back = 90

abbrev pub supplier_days_back : ℕ
supplier_days_back = 21

-- "within ±10^12 kroner and ±10^13 quantity": what a line holds at most
abbrev pub most_line_quantity : ℕ
most_line_quantity = 10000000000000

abbrev pub most_line_kroner : ℕ
most_line_kroner = 1000000000000

-- request 8: "a month up to December 2018" is one of a year up to this
abbrev pub last_year_of_every_state : ℕ
last_year_of_every_state = 2018

-- what a message changes a line by at most, in number or Wh and in billionths
abbrev pub most_change : ℕ
most_change = 1000000000000000000

-- "eight bytes, fifteen digits of øre": an amount for the ledger, and the billionths of an øre
abbrev pub packed_size : ℕ
packed_size = 8

abbrev pub digit_count : ℕ
digit_count = 15

abbrev pub ore : ℕ
ore = 10000000

-- the billionths of a krone, and of a millionth of it
abbrev pub billion : ℕ
billion = 1000000000

abbrev pub millionth : ℕ
millionth = 1000

-- the kinds of rounds: 1 fixing, 2 refixing, 3 any later
abbrev pub last_round : ℕ
last_round = 3

-- ---- rows are packed words: how many values a field has room for, and the word that one of it stands for

abbrev pub element_room : ℕ
element_room = 64

abbrev pub day_room : ℕ
day_room = 65536

abbrev pub quantity_room : ℕ
quantity_room = 1024

abbrev pub end_unit : ℕ
end_unit = quantity_room

abbrev pub first_unit : ℕ
first_unit = end_unit * day_room

abbrev pub element_unit : ℕ
element_unit = first_unit * day_room

abbrev pub point_unit : ℕ
point_unit = element_unit * element_room

-- dated values: one more than the largest holder or state that a row has room for
abbrev pub holder_size : ℕ
holder_size = 32

abbrev pub state_size : ℕ
state_size = 8
