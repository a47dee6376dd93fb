-- The twelve marked cases hold, on a book that two messages make: the checker computes what the definitions give, but for the line, which
-- is 0 before and after each message since nobody holds the point.
use Prim.Native.Nat.{ℕ, ◌+◌, ◌≤◌}
use mathlib.Core.Path.{◌≡◌, refl}
use mathlib.Core.Bool.{true}
use mathlib.Core.List.{List, [], ◌∷◌}
use lib.IntN.{pos}
use lib.ListN.{replicate}
use lib.Dec.{T}
use native.Mathlib.Omega.{arith}
use Rattle.integers.proofs.Sums.{sum-zero}
use Rattle.calendar.specs.Gregorian.{is_leap, has_thirty, days_of_month, first_of_month, first_day}
use Rattle.integers.specs.Division.{nearest}
use Rattle.integers.specs.Sums.{sum_to}
use Rattle.rules.specs.declared.Body.{Body}
use Rattle.rules.specs.Sizes.{holder_size, state_size}
use Rattle.rules.specs.Basics.{within, all_to, any_to, all_in, chained, list_to, when, asked, or_else, latest}
use Rattle.rules.specs.Rows.{pack_period, period_point, period_element, period_first, period_end, period_quantity, of_pair, covers}
use Rattle.rules.specs.Rows.{quantity_on, starts_on, next_start, insert_row, stop_rows, split_rows, pack_value, value_point, value_first}
use Rattle.rules.specs.Rows.{value_of, recorded_on, record_row}
use Rattle.rules.specs.Lines.{Measure, line}
use Rattle.rules.specs.World.{Opening, Tables, connected}
use Rattle.rules.specs.World.{rows_of, table_of, month_first, month_days, kind_of, owner_of, marks_of, marked, is_tariff}
use Rattle.rules.specs.World.{terms_of, holder_on, state_on, linked_on, facts_of, line_count, line_at}
use Rattle.rules.specs.World.{kroner_of, billionths_of, amount_of, stored_at, stored}
use Rattle.rules.specs.WellFormed.{within_limits, rows_fit, question2, reading_count, line_places, opening_sized, tables_sized, lines_sized}
use Rattle.rules.specs.WellFormed.{question3, price_limit, price_size, element_right, question4, period_right, apart, value_right, earlier}
use Rattle.rules.specs.WellFormed.{table_right, links_right, holders_right, states_right, tables_right, line_limit, line_right, lines_right}
use Rattle.rules.specs.WellFormed.{dates_right, question5}
use Rattle.rules.specs.Messages.{is_day, sender_of, no_hour, no_element, is_quantity, fields_right, value_fits, body_named, body_of, both}
use Rattle.rules.specs.Messages.{understood, body_in}
use Rattle.rules.specs.Questions.{point_of, place_of, question7, tariff_once, question8, blocked, is_grid_company, is_energinet, may_link}
use Rattle.rules.specs.Questions.{may_send, question9, in_time, question10, question11, question12, question13, question14, question15}
use Rattle.rules.specs.Questions.{own_question, own_number}
use Rattle.rules.specs.Effects.{with_links, with_holders, with_states, link_end, told, supplier_of, element_of}
use Rattle.rules.specs.Effects.{part, lines_of, moved_line, moved_lines, is_round}
use Rattle.rules.specs.Effects.{written, sent_after, tables_after, lines_after, posted, ask, question17, question18, answer_to}
use Rattle.rules.specs.Effects.{ask_book, answer, accepted, step_by, step}
use Rattle.rules.specs.Opening.{opening_answer, opened}
use Rattle.rules.proofs.Ranges.{latest_none}
use Rattle.rules.proofs.LineLaws.{point_line_none}
use Rattle.rules.proofs.Parts.{rows_table}
use Rattle.rules.specs.Cases.{case_book, empty_book, first_book, message, after, periods, answer_and_periods, naturals, cases}
use Rattle.rules.specs.Cases.{same_number, same_numbers, holds}

-- nobody holds a point of which no holder is recorded
unheld : (o : Opening) (t : Tables) (m : Measure) (s e : ℕ) → rows_of t.holders ≡ [] → 1 ≤ s
    → line (terms_of o) (facts_of o t) m s e ≡ pos 0
unfolding line facts_of holder_on
unheld o t m s e h k =
    sum-zero _ (terms_of o).points (λ p _. point_line_none (terms_of o) (facts_of o t) m s p e
    (λ i j q. let z : latest (recorded_on holder_size (rows_of t.holders) p) ((terms_of o).first + i) ≡ 0 =
    rw h (unfold recorded_on in latest_none ((terms_of o).first + i)) in omega arith))

-- so a message leaves the cases' line at 0
module _ (links states : List ℕ) (b : Body) (h : rows_of (tables_after (case_book links states) b).holders ≡ []) where
  still : lines_after (case_book links states) b ≡ replicate 3 (pos 0)
  unfolding lines_after moved_lines lines_of list_to line_places line_count supplier_of element_of part moved_line case_book
      stored stored_at line_at kroner_of billionths_of amount_of
  still =
      let o = (case_book links states).opening in
      let t = (case_book links states).position.tables in
      let u = tables_after (case_book links states) b in
      let k : rows_of t.holders ≡ [] = rows_table [] in
      rw (
        unheld o u Measure.quantity 1 0 h (omega arith),
        unheld o t Measure.quantity 1 0 k (omega arith),
        unheld o u Measure.amount 1 0 h (omega arith),
        unheld o t Measure.amount 1 0 k (omega arith),
      )

  -- and question 17 asks the rows alone
  fits : rows_fit (tables_after (case_book links states) b) ≡ true → question17 (case_book links states) b ≡ true
  unfolding question17 lines_right line_right line_limit line_count all_to case_book stored stored_at amount_of within
  fits k = rw (k, still)

-- ---- the first book is what an opening and two messages leave

abbrev linked : List ℕ
linked = pack_period 0 0 8830 36525 1 ∷ []

abbrev in_state : List ℕ
in_state = pack_value state_size 0 8826 connected ∷ []

-- the book after the opening, after the state and after the link
record Made : Type 0 where
  accepted : opening_answer empty_book ≡ 0
  opens : opened empty_book ≡ empty_book
  connects : after empty_book (message 5 8826 connected) ≡ case_book [] in_state
  links : after (case_book [] in_state) (message 1 8830 1) ≡ first_book

made : Made
unfolding opening_answer opened empty_book is_leap has_thirty days_of_month first_of_month first_day within all_to any_to all_in
    chained list_to when asked or_else latest pack_period period_point period_element period_first period_end period_quantity
    of_pair covers quantity_on starts_on next_start insert_row stop_rows split_rows pack_value value_point value_first value_of
    recorded_on record_row rows_of table_of month_first month_days kind_of owner_of marks_of marked is_tariff state_on linked_on
    line_count amount_of stored_at within_limits rows_fit question2 reading_count line_places opening_sized tables_sized lines_sized
    question3 price_limit price_size element_right question4 period_right apart value_right earlier table_right links_right
    holders_right states_right tables_right line_limit line_right lines_right dates_right question5 is_day sender_of no_hour
    no_element is_quantity fields_right value_fits body_named body_of both understood body_in point_of place_of question7
    tariff_once question8 blocked is_grid_company is_energinet may_link may_send question9 in_time question10 question11 question12
    question13 question14 question15 own_question own_number with_links with_holders with_states link_end told is_round written
    sent_after tables_after posted ask question18 answer_to ask_book answer accepted step_by step message after case_book first_book
    periods answer_and_periods naturals
made = record {
  accepted = refl;
  opens = refl;
  connects = rw (fits [] [] (Body.State 0 8826 connected) refl refl, still [] [] (Body.State 0 8826 connected) refl);
  links = rw (fits [] in_state (Body.Link 0 0 8830 1) refl refl, still [] in_state (Body.Link 0 0 8830 1) refl);
}

pub first-book : (opening_answer empty_book ≡ 0)
    × (after (after (opened empty_book) (message 5 8826 connected)) (message 1 8830 1) ≡ first_book)
first-book = (made.accepted, rw (made.opens, made.connects) made.links)

-- ---- the cases that send a message

abbrev stopped : List ℕ
stopped = pack_period 0 0 8830 8831 1 ∷ []

record Sent : Type 0 where
  again : answer_and_periods first_book (message 1 8830 1) ≡ naturals (13 ∷ 8830 ∷ 36525 ∷ 1 ∷ [])
  before : answer_and_periods first_book (message 1 8829 1) ≡ naturals (0 ∷ 8829 ∷ 8830 ∷ 1 ∷ 8830 ∷ 36525 ∷ 1 ∷ [])
  first : answer_and_periods first_book (message 2 8830 0) ≡ naturals (14 ∷ 8830 ∷ 36525 ∷ 1 ∷ [])
  second : answer_and_periods first_book (message 2 8831 0) ≡ naturals (0 ∷ 8830 ∷ 8831 ∷ 1 ∷ [])
  leaves : after first_book (message 2 8831 0) ≡ case_book stopped in_state
  behind : answer_and_periods (case_book stopped in_state) (message 1 8831 1) ≡ naturals (0 ∷ 8830 ∷ 8831 ∷ 1 ∷ 8831 ∷ 36525 ∷ 1 ∷ [])
  splits : answer_and_periods first_book (message 3 8835 2) ≡ naturals (0 ∷ 8830 ∷ 8835 ∷ 1 ∷ 8835 ∷ 36525 ∷ 2 ∷ [])
  unlinked : answer_and_periods first_book (message 3 8829 2) ≡ naturals (15 ∷ 8830 ∷ 36525 ∷ 1 ∷ [])

sends : Sent
unfolding opening_answer opened empty_book is_leap has_thirty days_of_month first_of_month first_day within all_to any_to all_in
    chained list_to when asked or_else latest pack_period period_point period_element period_first period_end period_quantity
    of_pair covers quantity_on starts_on next_start insert_row stop_rows split_rows pack_value value_point value_first value_of
    recorded_on record_row rows_of table_of month_first month_days kind_of owner_of marks_of marked is_tariff state_on linked_on
    line_count amount_of stored_at within_limits rows_fit question2 reading_count line_places opening_sized tables_sized lines_sized
    question3 price_limit price_size element_right question4 period_right apart value_right earlier table_right links_right
    holders_right states_right tables_right line_limit line_right lines_right dates_right question5 is_day sender_of no_hour
    no_element is_quantity fields_right value_fits body_named body_of both understood body_in point_of place_of question7
    tariff_once question8 blocked is_grid_company is_energinet may_link may_send question9 in_time question10 question11 question12
    question13 question14 question15 own_question own_number with_links with_holders with_states link_end told is_round written
    sent_after tables_after posted ask question18 answer_to ask_book answer accepted step_by step message after case_book first_book
    periods answer_and_periods naturals
sends = record {
  again = refl;
  before = rw (fits linked in_state (Body.Link 0 0 8829 1) refl refl);
  first = refl;
  second = rw (fits linked in_state (Body.Stop 0 0 8831) refl refl);
  leaves = rw (fits linked in_state (Body.Stop 0 0 8831) refl refl, still linked in_state (Body.Stop 0 0 8831) refl);
  behind = rw (fits stopped in_state (Body.Link 0 0 8831 1) refl refl);
  splits = rw (fits linked in_state (Body.Quantity 0 0 8835 2) refl refl);
  unlinked = refl;
}

pub cases_hold : T (all_in holds cases)
unfolding is_leap has_thirty days_of_month first_of_month first_day sum_to nearest all_in naturals cases same_number same_numbers holds
cases_hold = rw (sends.again, sends.before, sends.first, sends.second, sends.leaves, sends.behind, sends.splits, sends.unlinked) tt
