-- What questions 7 to 16 answer, as one number, and what they need of the book and of the message.
use Rattle.std.specs.Prelude.{ℕ, ◌-◌, ◌*◌, ◌≤◌, ◌<◌, ◌≡◌, Bool, true, not, ◌&&◌, List, length, get_or, take, leb, ltb, eqb}
use Rattle.rules.specs.Whole.{Dated}
use Rattle.rules.specs.declared.Book.{Book}
use Rattle.rules.specs.declared.Lent.{Lent}
use Rattle.rules.specs.declared.Place.{Place}
use Rattle.rules.specs.declared.Sender.{Sender}
use Rattle.rules.specs.declared.Message.{Message}
use Rattle.rules.specs.Sizes.{end_of_days, element_size, most_points, most_elements, holder_size, state_size}
use Rattle.rules.specs.Basics.{all_in}
use Rattle.rules.specs.Rows.{period_first, period_end}
use Rattle.rules.specs.World.{Opening, Tables, state_on, not_existing, closed}
use Rattle.rules.specs.Lent.{Lists, opening_in, tables_in}
use Rattle.rules.specs.Questions.{question7, question8, question9, question10, question11, question12}
use Rattle.rules.specs.Questions.{own_number, own_question, may_link, in_time}
use Rattle.rules.specs.Effects.{ask}
use Rattle.rules.specs.Ready.{Ranged}
use Rattle.tables.specs.Order.{LinkRows, ValueRows}

-- questions 7 to 16 of a message; then the rest
unfoldable pub decided : Opening → Tables → Message → (rest : ℕ) → ℕ
decided o t m rest =
    ask (question7 o m.body) 7
    (ask (question8 o m.body) 8
    (ask (question9 o t m.sender m.body) 9
    (ask (question10 m.sender m.received m.body) 10
    (ask (question11 t m.body) 11
    (ask (question12 t m.body) 12
    (ask (own_question o t m.body) (own_number m.body) rest))))))

-- the same of a book and what is lent with it, with nothing behind
abbrev pub decided_in : Book → Lists → Message → ℕ
decided_in b o m = decided (opening_in b o) (tables_in b o) m 0

-- questions 9 to 12 of kinds 1 to 3, at a point, element and day; then the rest
unfoldable pub asked9to12 : Opening → Tables → Sender → (received : ℕ) → Place → (rest : ℕ) → ℕ
asked9to12 o t from received l rest =
    ask (may_link o t from l) 9
    (ask (in_time from received l.day) 10
    (ask (not (eqb (state_on t l.point l.day) not_existing)) 11
    (ask (not (eqb (state_on t l.point l.day) closed)) 12 rest)))

-- the first row starts before the day, and the last ends after it
unfoldable pub spans_day : (day : ℕ) → (rows : List ℕ) → Bool
spans_day d rows =
    ltb 0 (length rows) && (ltb (period_first (get_or rows 0 0)) d && ltb d (period_end (get_or rows (length rows - 1) 0)))

unfoldable pub ends_in_time : (row : ℕ) → Bool
ends_in_time w = leb (period_end w) end_of_days

-- ---- what it needs

-- a point, an element and a day that a book can be asked of
pub record Placed (b : Book) (l : Place) : Type 0 where
  pub point : l.point < b.points
  pub element : l.element < b.elements
  pub day : l.day < end_of_days

-- a message as question 6 leaves it
pub record InRange (suppliers : ℕ) (m : Message) : Type 0 where
  pub received : m.received < end_of_days
  pub body : Ranged suppliers m.body

-- a book that the questions can be asked of: every one that passes questions 2 to 5. Its links end within the calendar
pub record Readable (l : Lent) : Type 0 where
  pub month : Dated l.book
  pub points : l.book.points ≤ most_points
  pub elements : l.book.elements ≤ most_elements
  pub data_length : length l.element_data.now ≡ l.book.elements * element_size
  pub link_rows : LinkRows l.links.now l.book.periods
  pub link_ends : all_in ends_in_time (take l.book.periods l.links.now) ≡ true
  pub holder-rows : ValueRows holder_size l.holders.now l.book.holders
  pub state-rows : ValueRows state_size l.states.now l.book.states
  pub block_places : length l.blocks.now ≡ l.book.points
