-- What an accepted message does, the questions that look at the result (17, 18), the answer, and the step.
use Rattle.std.specs.Prelude.{ℕ, zero, suc, ◌+◌, ◌/◌, ◌%◌, min, Bool, true, false, ◌&&◌, cond, List, [], ◌∷◌, ◌++◌}
use Rattle.std.specs.Prelude.{ℤ, pos, ◌+ℤ◌, ◌-ℤ◌, nat_abs, length, drop, set, leb, eqb}
use Rattle.std.specs.Prelude.{Option, None, Some}
use Rattle.rules.specs.declared.Fields.{Fields}
use Rattle.rules.specs.declared.Body.{Body}
use Rattle.rules.specs.declared.Body.TheVariants.{Link, Stop, Quantity, Holder, State, Reading, Block, Round}
use Rattle.rules.specs.declared.Message.{Message}
use Rattle.rules.specs.declared.Line.{Line}
use Rattle.rules.specs.declared.Record.{Record}
use Rattle.rules.specs.Basics.{list_to}
use Rattle.rules.specs.Rows.{pack_period, next_start, insert_row, stop_rows, split_rows, pack_value, record_row}
use Rattle.rules.specs.Sizes.{holder_size, state_size, line_size, last_round}
use Rattle.rules.specs.Lines.{Measure, fee, line}
use Rattle.rules.specs.World.{Opening, Tables, Sent, World, rows_of, table_of, kind_of, terms_of, facts_of}
use Rattle.rules.specs.World.{reading_at, line_count, kroner_of, billionths_of, stored}
use Rattle.rules.specs.WellFormed.{rows_fit, line_places, lines_right, question2, question3, question4, question5}
use Rattle.rules.specs.Messages.{understood, body_in}
use Rattle.rules.specs.Questions.{question7, question8, question9, question10, question11, question12, own_number, own_question}

-- ---- the tables after a message

-- the same tables with other links, holders, states, readings or blocks
unfoldable pub with_links : Tables → (rows : List ℕ) → Tables
with_links t rows = record { links = table_of rows; holders = t.holders; states = t.states; readings = t.readings; blocks = t.blocks }

unfoldable pub with_holders : Tables → (rows : List ℕ) → Tables
with_holders t rows = record { links = t.links; holders = table_of rows; states = t.states; readings = t.readings; blocks = t.blocks }

unfoldable pub with_states : Tables → (rows : List ℕ) → Tables
with_states t rows = record { links = t.links; holders = t.holders; states = table_of rows; readings = t.readings; blocks = t.blocks }

unfoldable pub with_readings : Tables → (readings : List ℕ) → Tables
with_readings t rs = record { links = t.links; holders = t.holders; states = t.states; readings = rs; blocks = t.blocks }

unfoldable pub with_blocks : Tables → (blocks : List ℕ) → Tables
with_blocks t bs = record { links = t.links; holders = t.holders; states = t.states; readings = t.readings; blocks = bs }

-- "a fee covers the given day alone; other kinds run to the element's next period on that point, or to day 36,525"
unfoldable pub link_end : Opening → Tables → (point element day : ℕ) → ℕ
link_end o t p e d = cond (eqb (kind_of o e) fee) (d + 1) (next_start (rows_of t.links) p e d)

-- messages 1 to 8, in document 01's order
unfoldable pub told : Opening → Tables → Body → Tables
told o t (Link p e d q) = with_links t (insert_row (pack_period p e d (link_end o t p e d) q) (rows_of t.links))
told o t (Stop p e d) = with_links t (stop_rows p e d (rows_of t.links))
told o t (Quantity p e d q) = with_links t (split_rows p e d q (rows_of t.links))
told o t (Holder p d h) = with_holders t (record_row holder_size (pack_value holder_size p d h) (rows_of t.holders))
told o t (State p d s) = with_states t (record_row state_size (pack_value state_size p d s) (rows_of t.states))
told o t (Reading p d h n) = with_readings t (set t.readings (reading_at o p d h) n)
told o t (Block p b) = with_blocks t (set t.blocks p b)
told o t Round = t

-- ---- the lines after a message

-- the supplier and the element of line number k: suppliers ascending, then elements
unfoldable pub supplier_of : Opening → (line_number : ℕ) → ℕ
supplier_of o k = k / o.elements + 1

unfoldable pub element_of : Opening → (line_number : ℕ) → ℕ
element_of o k = k % o.elements

-- the three stored numbers of a line
unfoldable pub part : (place : ℕ) → (quantity amount : ℤ) → ℤ
part k quantity amount = cond (eqb k 0) quantity (cond (eqb k 1) (kroner_of amount) (pos (billionths_of amount)))

-- the lines that a quantity and an amount for each supplier and element make
unfoldable pub lines_of : Opening → (Measure → (supplier element : ℕ) → ℤ) → List ℤ
lines_of o f =
    list_to (λ i. part (i % line_size)
    (f Measure.quantity (supplier_of o (i / line_size)) (element_of o (i / line_size)))
    (f Measure.amount (supplier_of o (i / line_size)) (element_of o (i / line_size))))
    (line_places o)

-- "A message moves a line by what the rules give after it less what they gave before."
unfoldable pub moved_line : Opening → (lines : List ℤ) → (before after : Tables) → Measure → (supplier element : ℕ) → ℤ
moved_line o ls before after m s e =
    stored o ls m s e +ℤ (line (terms_of o) (facts_of o after) m s e -ℤ line (terms_of o) (facts_of o before) m s e)

unfoldable pub moved_lines : Opening → (lines : List ℤ) → (before after : Tables) → List ℤ
moved_lines o ls before after = lines_of o (moved_line o ls before after)

-- ---- rounds

unfoldable pub is_round : Body → Bool
is_round (Link p e d q) = false
is_round (Stop p e d) = false
is_round (Quantity p e d q) = false
is_round (Holder p d h) = false
is_round (State p d s) = false
is_round (Reading p d h n) = false
is_round (Block p b) = false
is_round Round = true

-- messages 1 to 5 write a row of links, holders or states
unfoldable pub writes_row : Body → Bool
writes_row (Link p e d q) = true
writes_row (Stop p e d) = true
writes_row (Quantity p e d q) = true
writes_row (Holder p d h) = true
writes_row (State p d s) = true
writes_row (Reading p d h n) = false
writes_row (Block p b) = false
writes_row Round = false

-- how far a line has moved from what was sent
unfoldable pub difference : World → Measure → (supplier element : ℕ) → ℤ
difference w m s e = stored w.opening w.position.lines m s e -ℤ stored w.opening w.sent.totals m s e

-- "each line that differs in quantity or amount from what was sent"
unfoldable pub unmoved : World → (supplier element : ℕ) → Bool
unmoved w s e = eqb (nat_abs (difference w Measure.quantity s e)) 0 && eqb (nat_abs (difference w Measure.amount s e)) 0

-- a line of these two numbers
unfoldable pub line_of : (quantity amount : ℤ) → Line
line_of quantity amount = record { quantity = quantity; kroner = kroner_of amount; billionths = billionths_of amount }

-- what a line stands at. A round moves no line (`round-line` in proofs/Demand3.antt), so this is "the line's quantity and amount after it"
unfoldable pub balance : World → Measure → (supplier element : ℕ) → ℤ
balance w m s e = stored w.opening w.position.lines m s e

-- "one record with kind (1 fixing, 2 refixing, 3 any later), supplier, element and both differences"; "Each record shall also carry the
-- line's quantity and amount after it."
unfoldable pub record_of : World → (supplier element : ℕ) → Record
record_of w s e =
    record {
      kind = w.sent.round;
      supplier = s;
      element = e;
      moved = line_of (difference w Measure.quantity s e) (difference w Measure.amount s e);
      balance = line_of (balance w Measure.quantity s e) (balance w Measure.amount s e);
    }

-- what stands in a list where no record does
abbrev pub no_line : Line
no_line = record { quantity = pos 0; kroner = pos 0; billionths = 0 }

abbrev pub no_record : Record
no_record = record { kind = 0; supplier = 0; element = 0; moved = no_line; balance = no_line }

unfoldable pub record_for : World → (supplier element : ℕ) → List Record
record_for w s e = cond (unmoved w s e) [] (record_of w s e ∷ [])

-- "suppliers ascending, then elements": those of the first n lines
unfoldable pub records_to : World → (count : ℕ) → List Record
records_to w zero = []
records_to w (suc k) = records_to w k ++ record_for w (supplier_of w.opening k) (element_of w.opening k)

unfoldable pub records : World → List Record
records w = records_to w (line_count w.opening)

-- the records that an accepted message writes
unfoldable pub written : World → Body → List Record
written w b = cond (is_round b) (records w) []

-- "The kind advances even where there is no record."
unfoldable pub sent_after : World → Body → Sent
sent_after w b = cond (is_round b) (record { totals = w.position.lines; round = min last_round (w.sent.round + 1) }) w.sent

-- ---- the world after an accepted message

unfoldable pub tables_after : World → Body → Tables
tables_after w b = told w.opening w.position.tables b

unfoldable pub lines_after : World → Body → List ℤ
lines_after w b = moved_lines w.opening w.position.lines w.position.tables (tables_after w b)

unfoldable pub posted : World → Body → World
posted w b =
    record {
      opening = w.opening;
      position = record { tables = tables_after w b; lines = lines_after w b };
      sent = sent_after w b;
      dates = w.dates;
    }

-- ---- the answer: 0, or the number of the first question that fails

-- "The first "no" ends it: the answer is that number"
unfoldable pub ask : (passed : Bool) → (number rest : ℕ) → ℕ
ask passed number rest = cond passed rest number

-- 17: "Do periods, holders and states afterwards fit 1,024 each, and the lines their bounds?"
unfoldable pub question17 : World → Body → Bool
question17 w b = rows_fit (tables_after w b) && lines_right w.opening (lines_after w b)

-- 18: "Round: does the list hold every record?"
unfoldable pub question18 : World → Body → (room : ℕ) → Bool
question18 w b room = leb (length (written w b)) room

-- questions 6 to 18, of a message or of fields that question 6 refuses
unfoldable pub answer_to : World → Option Message → (room : ℕ) → ℕ
answer_to w None room = 6
answer_to w (Some m) room =
    ask (question7 w.opening m.body) 7
    (ask (question8 w.opening m.body) 8
    (ask (question9 w.opening w.position.tables m.sender m.body) 9
    (ask (question10 m.sender m.received m.body) 10
    (ask (question11 w.position.tables m.body) 11
    (ask (question12 w.position.tables m.body) 12
    (ask (own_question w.opening w.position.tables m.body) (own_number m.body)
    (ask (question17 w m.body) 17
    (ask (question18 w m.body room) 18 0))))))))

-- questions 2 to 5, which every entry point asks of the book; then the rest
unfoldable pub ask_book : World → (rest : ℕ) → ℕ
ask_book w rest = ask (question2 w) 2 (ask (question3 w) 3 (ask (question4 w) 4 (ask (question5 w) 5 rest)))

-- "a message 2 to 18"; the list that is lent with it has room for so many records
unfoldable pub answer : World → Fields → (room : ℕ) → ℕ
answer w f room = ask_book w (answer_to w (understood w.opening.suppliers f) room)

-- ---- the step

-- the body of an accepted message
unfoldable pub accepted : World → Fields → (room : ℕ) → Option Body
accepted w f room = cond (eqb (answer w f room) 0) (body_in (understood w.opening.suppliers f)) None

-- "the book and everything lent remain unchanged" by a refusal
unfoldable pub step_by : World → Option Body → World
step_by w None = w
step_by w (Some b) = posted w b

unfoldable pub step : World → Fields → (room : ℕ) → World
step w f room = step_by w (accepted w f room)

unfoldable pub written_by : World → Option Body → List Record
written_by w None = []
written_by w (Some b) = written w b

-- the records that a message writes
unfoldable pub records_of : World → Fields → (room : ℕ) → List Record
records_of w f room = written_by w (accepted w f room)

-- the lent list of records afterwards: they stand at its front, and "entries past the last one written stay as lent"
unfoldable pub list_after : World → Fields → (lent : List Record) → List Record
list_after w f lent = records_of w f (length lent) ++ drop (length (records_of w f (length lent))) lent
