-- The queries: "a query 2 to 5, then 6 for a supplier number (0 is refused), 7, 8". None changes anything.
use Rattle.std.specs.Prelude.{ℕ, suc, ◌+◌, Bool, ◌&&◌, ◌||◌, cond, List, [], ◌∷◌, ℤ, pos, nat_abs, get_or, eqb, ltb}
use Rattle.std.specs.Prelude.{Option}
use Rattle.rules.specs.Basics.{within, any_to, first_from}
use Rattle.rules.specs.Rows.{period_point, period_element, pair_rows}
use Rattle.rules.specs.Lines.{Facts, Measure, line}
use Rattle.rules.specs.World.{Opening, Tables, World, rows_of, terms_of, facts_of, holder_on, state_on, counting_states, linked_on}
use Rattle.rules.specs.World.{line_at, amount_of, kroner_of, billionths_of, month_first, month_days}
use Rattle.rules.specs.Effects.{ask, ask_book}

-- ---- the line query

-- its answer: 0 and the line's two numbers, the amount as kroner and billionths; or the number of a question, and zeros
pub record LineResult : Type 0 where
  pub number : ℕ
  pub quantity : ℤ
  pub kroner : ℤ
  pub billionths : ℕ

unfoldable pub line_number : World → (supplier element : ℕ) → ℕ
line_number w s e = ask_book w (ask (within 1 w.opening.suppliers s) 6 (ask (ltb e w.opening.elements) 8 0))

unfoldable pub line_refused : (number : ℕ) → LineResult
line_refused number = record { number = number; quantity = pos 0; kroner = pos 0; billionths = 0 }

-- "it names the stored line"
unfoldable pub line_stored : World → (place : ℕ) → LineResult
line_stored w i =
    record {
      number = 0;
      quantity = get_or w.position.lines i (pos 0);
      kroner = get_or w.position.lines (i + 1) (pos 0);
      billionths = nat_abs (get_or w.position.lines (i + 2) (pos 0));
    }

unfoldable pub line_query : World → (supplier element : ℕ) → LineResult
line_query w s e =
    cond (eqb (line_number w s e) 0) (line_stored w (line_at w.opening s e)) (line_refused (line_number w s e))

-- the answer that names a quantity and an amount
unfoldable pub line_named : (quantity amount : ℤ) → LineResult
line_named quantity amount = record { number = 0; quantity = quantity; kroner = kroner_of amount; billionths = billionths_of amount }

-- the answer that names both sums that the rules give from some facts
abbrev pub line_given : Opening → Facts → (supplier element : ℕ) → LineResult
line_given o f s e = line_named (line (terms_of o) f Measure.quantity s e) (line (terms_of o) f Measure.amount s e)

-- "the sum that those rules give from links, holders, connection states, prices and readings", the book's own
abbrev pub own_line : World → (supplier element : ℕ) → LineResult
own_line w s e = line_given w.opening (facts_of w.opening w.position.tables) s e

-- the number that an answer names, in one measure
unfoldable pub named : Measure → LineResult → ℤ
named Measure.quantity r = r.quantity
named Measure.amount r = amount_of r.kroner (pos r.billionths)

-- ---- the periods of a point and element

unfoldable pub periods_number : World → (point element : ℕ) → ℕ
periods_number w p e = ask_book w (ask (ltb p w.opening.points) 7 (ask (ltb e w.opening.elements) 8 0))

-- "Everything recorded for one point and element is answered as that part of the link table, not as a copy; a refused query gives the empty
-- part"
unfoldable pub periods_query : World → (point element : ℕ) → List ℕ
periods_query w p e = cond (eqb (periods_number w p e) 0) (pair_rows p e (rows_of w.position.tables.links)) []

-- is the period "beyond the point and element sought": of a later point, or of the point and a later element
unfoldable pub beyond_pair : (point element row : ℕ) → Bool
beyond_pair p e w = ltb p (period_point w) || (eqb (period_point w) p && ltb e (period_element w))

-- how many of the periods the search reads, which "shall end at the first period beyond the point and element sought": "that one and all
-- before it, or all where none is beyond"
unfoldable pub read_to : (point element : ℕ) → (rows : List ℕ) → ℕ
read_to p e [] = 0
read_to p e (w ∷ ws) = cond (beyond_pair p e w) 1 (suc (read_to p e ws))

-- "and name how many periods it read", "0 where refused"
unfoldable pub periods_read : World → (point element : ℕ) → ℕ
periods_read w p e = cond (eqb (periods_number w p e) 0) (read_to p e (rows_of w.position.tables.links)) 0

-- ---- the earliest day without a holder

-- its answer: the day, or none where there is none; or the number of a question
pub data DayResult : Type 0 where
  answered : (day : Option ℕ) → DayResult
  refused : (number : ℕ) → DayResult

unfoldable pub day_number : World → (point : ℕ) → ℕ
day_number w p = ask_book w (ask (ltb p w.opening.points) 7 0)

-- a day "on which a given point counts but for a missing holder and has a link"
unfoldable pub lacks_holder : Opening → Tables → (point day : ℕ) → Bool
lacks_holder o t p d =
    eqb (holder_on t p d) 0 && (counting_states o.year (state_on t p d) && any_to (λ e. linked_on t p e d) o.elements)

-- "The query that names some such day shall name the earliest in the month."
unfoldable pub earliest_without_holder : Opening → Tables → (point : ℕ) → Option ℕ
earliest_without_holder o t p = first_from (lacks_holder o t p) (month_first o) (month_days o)

unfoldable pub day_query : World → (point : ℕ) → DayResult
day_query w p =
    cond (eqb (day_number w p) 0)
    (DayResult.answered (earliest_without_holder w.opening w.position.tables p))
    (DayResult.refused (day_number w p))

-- the number of an answer: 0 where no question says no
abbrev pub day_result_number : DayResult → ℕ
day_result_number (DayResult.answered day) = 0
day_result_number (DayResult.refused number) = number
