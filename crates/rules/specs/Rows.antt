-- Rows of the link, holder and state tables: packed words, what they say of a day, and what a message makes of them. "Periods are kept
-- sorted by point, element, first day, holders and states by point, first day": a row is one word whose numeric order is that order.
use Rattle.std.specs.Prelude.{ℕ, ◌+◌, ◌*◌, ◌/◌, ◌%◌, min, Bool, false, ◌&&◌, ◌||◌, cond, List, [], ◌∷◌, leb, ltb, eqb}
use Rattle.std.specs.Prelude.{Option, None, Some}
use Rattle.rules.specs.Sizes.{end_of_days, element_room, day_room, quantity_room, end_unit, first_unit, element_unit, point_unit}
use Rattle.rules.specs.Basics.{keep}

-- ---- periods: one element linked to one point from a first day up to an end day (the first day after), with a quantity

unfoldable pub pack_period : (point element first end quantity : ℕ) → ℕ
pack_period p e a b q = (((p * element_room + e) * day_room + a) * day_room + b) * quantity_room + q

unfoldable pub period_point : (row : ℕ) → ℕ
period_point w = w / point_unit

unfoldable pub period_element : (row : ℕ) → ℕ
period_element w = w / element_unit % element_room

unfoldable pub period_first : (row : ℕ) → ℕ
period_first w = w / first_unit % day_room

unfoldable pub period_end : (row : ℕ) → ℕ
period_end w = w / end_unit % day_room

unfoldable pub period_quantity : (row : ℕ) → ℕ
period_quantity w = w % quantity_room

-- is the row one of the point and element
unfoldable pub of_pair : (point element row : ℕ) → Bool
of_pair p e w = eqb (period_point w) p && eqb (period_element w) e

-- does the row cover the day for the point and element
unfoldable pub covers : (point element day row : ℕ) → Bool
covers p e d w = of_pair p e w && (leb (period_first w) d && ltb d (period_end w))

-- the quantity linked on a day, 0 where the element is not linked
unfoldable pub quantity_on : (rows : List ℕ) → (point element day : ℕ) → ℕ
quantity_on [] p e d = 0
quantity_on (w ∷ ws) p e d = cond (covers p e d w) (period_quantity w) (quantity_on ws p e d)

-- does a period start that day
unfoldable pub starts_on : (rows : List ℕ) → (point element day : ℕ) → Bool
starts_on [] p e d = false
starts_on (w ∷ ws) p e d = (of_pair p e w && eqb (period_first w) d) || starts_on ws p e d

-- the first day after d on which a period starts, or the end of days
unfoldable pub next_start : (rows : List ℕ) → (point element day : ℕ) → ℕ
next_start [] p e d = end_of_days
next_start (w ∷ ws) p e d =
    cond (of_pair p e w && ltb d (period_first w)) (min (period_first w) (next_start ws p e d)) (next_start ws p e d)

-- everything recorded for one point and element
unfoldable pub pair_rows : (point element : ℕ) → (rows : List ℕ) → List ℕ
pair_rows p e ws = keep (of_pair p e) ws

-- "A new period goes in at its place and those behind move down by one"
unfoldable pub insert_row : (row : ℕ) → (rows : List ℕ) → List ℕ
insert_row w [] = w ∷ []
insert_row w (x ∷ xs) = cond (ltb w x) (w ∷ x ∷ xs) (x ∷ insert_row w xs)

-- "every day from D on becomes unlinked, later periods included": those that start at d or later go, the one that covers d ends there
unfoldable pub stop_rows : (point element day : ℕ) → (rows : List ℕ) → List ℕ
stop_rows p e d [] = []
stop_rows p e d (w ∷ ws) =
    cond (of_pair p e w && leb d (period_first w))
    (stop_rows p e d ws)
    (cond (of_pair p e w && ltb d (period_end w))
    (pack_period p e (period_first w) d (period_quantity w) ∷ stop_rows p e d ws)
    (w ∷ stop_rows p e d ws))

-- "holds from D to the end of the period that covers D": the period is cut in two, unless it starts at d
unfoldable pub split_rows : (point element day quantity : ℕ) → (rows : List ℕ) → List ℕ
split_rows p e d q [] = []
split_rows p e d q (w ∷ ws) =
    cond (covers p e d w)
    (cond (eqb (period_first w) d)
    (pack_period p e d (period_end w) q ∷ ws)
    (pack_period p e (period_first w) d (period_quantity w) ∷ pack_period p e d (period_end w) q ∷ ws))
    (w ∷ split_rows p e d q ws)

-- ---- dated values of a point: holders and states. `size` is one more than the largest value that the row has room for

unfoldable pub pack_value : (size : ℕ) → (point first value : ℕ) → ℕ
pack_value size p d v = (p * day_room + d) * size + v

unfoldable pub value_point : (size row : ℕ) → ℕ
value_point size w = w / size / day_room

unfoldable pub value_first : (size row : ℕ) → ℕ
value_first size w = w / size % day_room

unfoldable pub value_of : (size row : ℕ) → ℕ
value_of size w = w % size

-- the value recorded for a point from that very day
unfoldable pub recorded_on : (size : ℕ) → (rows : List ℕ) → (point day : ℕ) → Option ℕ
recorded_on size [] p d = None
recorded_on size (w ∷ ws) p d =
    cond (eqb (value_point size w) p && eqb (value_first size w) d) (Some (value_of size w)) (recorded_on size ws p d)

-- "one already recorded for D is replaced": a row goes in at its place, or replaces the row of the same point and day
unfoldable pub record_row : (size row : ℕ) → (rows : List ℕ) → List ℕ
record_row size w [] = w ∷ []
record_row size w (x ∷ xs) =
    cond (eqb (x / size) (w / size)) (w ∷ xs) (cond (ltb w x) (w ∷ x ∷ xs) (x ∷ record_row size w xs))
