-- Questions 2 to 5: is what was lent a book that the rules speak of.
use Rattle.std.specs.Prelude.{ℕ, suc, ◌+◌, ◌-◌, ◌*◌, ◌/◌, Bool, not, ◌&&◌, ◌||◌, cond, List, ℤ, pos, nat_abs, length}
use Rattle.std.specs.Prelude.{get_or, drop, leb, ltb, eqb}
use Rattle.std.specs.Int.Signed.{le_z}
use Rattle.rules.specs.Basics.{within, all_to, all_in, chained}
use Rattle.rules.specs.Sizes.{first_year, last_year, last_month, end_of_days, most_points, most_suppliers, most_elements, last_round}
use Rattle.rules.specs.Sizes.{most_price, most_tariff_price, most_quantity, most_energy, most_line_quantity, most_line_kroner, billion}
use Rattle.rules.specs.Sizes.{element_size, price_places, hour_places, line_size, places, holder_size, state_size}
use Rattle.rules.specs.Rows.{period_point, period_element, period_first, period_end, period_quantity, of_pair}
use Rattle.rules.specs.Rows.{value_point, value_first, value_of}
use Rattle.rules.specs.Lines.{Measure, subscription, fee, tariff}
use Rattle.rules.specs.World.{Opening, Table, Tables, Dates, World, rows_of, month_first, month_days, kind_of, owner_of, marks_of}
use Rattle.rules.specs.World.{line_count, stored_at}
use Rattle.rules.specs.World.{grid_company, energinet, marked, pass_on, tax, hourly, all_marks, new_state, closed}

-- ---- 2: "Is the month within 2000 to 2099 and every count within its limit?"

unfoldable pub within_limits : Opening → Bool
within_limits o =
    within first_year last_year o.year && (within 1 last_month o.month
    && (within 1 most_points o.points && (within 1 most_suppliers o.suppliers && within 1 most_elements o.elements)))

-- the rows in use
unfoldable pub rows_fit : Tables → Bool
rows_fit t = leb t.links.used places && (leb t.holders.used places && leb t.states.used places)

unfoldable pub question2 : World → Bool
question2 w = within_limits w.opening && rows_fit w.position.tables

-- ---- 3: "Has each lent table its exact length"

-- the lengths of the readings and of the lines
unfoldable pub reading_count : Opening → ℕ
reading_count o = o.points * month_days o * hour_places

unfoldable pub line_places : Opening → ℕ
line_places o = line_count o * line_size

unfoldable pub opening_sized : Opening → Bool
opening_sized o = eqb (length o.element_data) (o.elements * element_size) && eqb (length o.prices) (o.elements * price_places)

unfoldable pub tables_sized : Opening → Tables → Bool
tables_sized o t =
    eqb (length t.links.words) places && (eqb (length t.holders.words) places && (eqb (length t.states.words) places
    && (eqb (length t.readings) (reading_count o) && eqb (length t.blocks) o.points)))

unfoldable pub lines_sized : Opening → (lines : List ℤ) → Bool
lines_sized o ls = eqb (length ls) (line_places o)

unfoldable pub question3 : World → Bool
question3 w =
    opening_sized w.opening && (tables_sized w.opening w.position.tables
    && (lines_sized w.opening w.position.lines && lines_sized w.opening w.sent.totals))

-- ---- 4: "Does each element obey the rules above?"

-- "up to 9,999,999,999 in size per month or per fee, up to 9,999,999 per k_wh"
unfoldable pub price_limit : (kind : ℕ) → ℕ
price_limit kind = cond (eqb kind tariff) most_tariff_price most_price

-- the size of the price at one of an element's places
unfoldable pub price_size : Opening → (element place : ℕ) → ℕ
price_size o e h = nat_abs (get_or o.prices (e * price_places + h) (pos 0))

-- "A fee is never passed on (H3 3.2). Only Energinet's tariffs are taxes; only tariffs are hourly." "An hourly tariff has 24 prices, any
-- other element one, its 23 further places being 0." "other bits are question 4"
unfoldable pub element_right : Opening → (element : ℕ) → Bool
element_right o e =
    within subscription tariff (kind_of o e) && (within grid_company energinet (owner_of o e) && (leb (marks_of o e) all_marks
    && (not (marked o pass_on e && eqb (kind_of o e) fee)
    && ((not (marked o tax e) || (eqb (kind_of o e) tariff && eqb (owner_of o e) energinet))
    && ((not (marked o hourly e) || eqb (kind_of o e) tariff)
    && (all_to (λ h. leb (price_size o e h) (price_limit (kind_of o e))) price_places
    && (marked o hourly e || all_to (λ h. eqb (price_size o e (suc h)) 0) (price_places - 1))))))))

unfoldable pub question4 : World → Bool
question4 w = all_to (element_right w.opening) w.opening.elements

-- ---- 5: "Is the book well formed: tables sorted without overlap or repeats, fields in range, fees one day long, tariff quantities 1,
-- places past the last 0, lines and sent totals within ±10^12 kroner and ±10^13 quantity?"

unfoldable pub period_right : Opening → (row : ℕ) → Bool
period_right o r =
    ltb (period_point r) o.points && (ltb (period_element r) o.elements && (ltb (period_first r) (period_end r)
    && (leb (period_end r) end_of_days && (within 1 most_quantity (period_quantity r)
    && ((not (eqb (kind_of o (period_element r)) fee) || eqb (period_end r) (suc (period_first r)))
    && (not (eqb (kind_of o (period_element r)) tariff) || eqb (period_quantity r) 1))))))

-- sorted, and without overlap where both are of one point and element
unfoldable pub apart : (row next : ℕ) → Bool
apart r s = ltb r s && (not (of_pair (period_point s) (period_element s) r) || leb (period_end r) (period_first s))

unfoldable pub value_right : (size low high : ℕ) → Opening → (row : ℕ) → Bool
value_right size low high o r =
    ltb (value_point size r) o.points && (ltb (value_first size r) end_of_days && within low high (value_of size r))

-- sorted by point and first day, without repeats
unfoldable pub earlier : (size row next : ℕ) → Bool
earlier size r s = ltb (r / size) (s / size)

-- a table's rows stand in order, each is right by itself, and every place past the last is 0
unfoldable pub table_right : (order : (row next : ℕ) → Bool) → (right : (row : ℕ) → Bool) → Table → Bool
table_right order right t = chained order (rows_of t) && (all_in right (rows_of t) && all_in (λ x. eqb x 0) (drop t.used t.words))

unfoldable pub links_right : Opening → Table → Bool
links_right o t = table_right apart (period_right o) t

unfoldable pub holders_right : Opening → Table → Bool
holders_right o t = table_right (earlier holder_size) (value_right holder_size 0 o.suppliers o) t

unfoldable pub states_right : Opening → Table → Bool
states_right o t = table_right (earlier state_size) (value_right state_size new_state closed o) t

unfoldable pub tables_right : Opening → Tables → Bool
tables_right o t =
    links_right o t.links && (holders_right o t.holders && (states_right o t.states
    && (all_in (λ x. leb x most_energy) t.readings && all_in (λ x. leb x 1) t.blocks)))

-- 10^13, and 10^12 kroner in billionths
unfoldable pub line_limit : Measure → ℕ
line_limit Measure.quantity = most_line_quantity
line_limit Measure.amount = most_line_kroner * billion

-- the three numbers from place i on: both measures within their limits, and the amount in its one form
unfoldable pub line_right : (lines : List ℤ) → (place : ℕ) → Bool
line_right ls i =
    leb (nat_abs (stored_at ls Measure.quantity i)) (line_limit Measure.quantity)
    && (leb (nat_abs (stored_at ls Measure.amount i)) (line_limit Measure.amount)
    && (le_z (pos 0) (get_or ls (i + 2) (pos 0)) && le_z (get_or ls (i + 2) (pos 0)) (pos (billion - 1))))

unfoldable pub lines_right : Opening → (lines : List ℤ) → Bool
lines_right o ls = all_to (λ k. line_right ls (k * line_size)) (line_count o)

-- the first day and the days of the month are those of the calendar
unfoldable pub dates_right : Opening → Dates → Bool
dates_right o d = eqb d.first (month_first o) && eqb d.days (month_days o)

unfoldable pub question5 : World → Bool
question5 w =
    tables_right w.opening w.position.tables
    && (lines_right w.opening w.position.lines
    && (lines_right w.opening w.sent.totals && (within 1 last_round w.sent.round && dates_right w.opening w.dates)))
