-- A book, a message and the answers as the numbers that the exported functions take and give.
use Rattle.std.specs.Prelude.{ℕ, ◌<◌, ◌≡◌, List, [], ◌∷◌, ℤ, pos, length, get_or}
use Rattle.std.specs.Prelude.{Option, None, Some, Result, Ok, Err}
use Rattle.rules.specs.declared.Book.{Book}
use Rattle.rules.specs.declared.Fields.{Fields}
use Rattle.rules.specs.declared.Line.{Line}
use Rattle.rules.specs.declared.Refusal.{Refusal}
use Rattle.rules.specs.Queries.{LineResult, DayResult}
use Rattle.rules.specs.Sizes.{billion, end_of_days, line_size}
use Rattle.recording.specs.Opened.{named_book, fresh_book}

-- ---- a book and a message: eleven numbers and nine, in the order of their fields

abbrev pub book_size : ℕ
book_size = 11

abbrev pub fields_size : ℕ
fields_size = 9

abbrev pub book_in : (numbers : List ℕ) → Book
book_in ns =
    record {
      year = get_or ns 0 0;
      month = get_or ns 1 0;
      points = get_or ns 2 0;
      suppliers = get_or ns 3 0;
      elements = get_or ns 4 0;
      periods = get_or ns 5 0;
      holders = get_or ns 6 0;
      states = get_or ns 7 0;
      round = get_or ns 8 0;
      first = get_or ns 9 0;
      days = get_or ns 10 0;
    }

abbrev pub numbers_in : Book → List ℕ
numbers_in b =
    b.year ∷ b.month ∷ b.points ∷ b.suppliers ∷ b.elements ∷ b.periods ∷ b.holders ∷ b.states ∷ b.round ∷ b.first ∷ b.days ∷ []

-- the book that is to be opened, and the book that an opening gives: the first five numbers are taken
abbrev pub named_in : (numbers : List ℕ) → Book
named_in ns = named_book (get_or ns 0 0) (get_or ns 1 0) (get_or ns 2 0) (get_or ns 3 0) (get_or ns 4 0)

abbrev pub fresh_in : (numbers : List ℕ) → Book
fresh_in ns = fresh_book (get_or ns 0 0) (get_or ns 1 0) (get_or ns 2 0) (get_or ns 3 0) (get_or ns 4 0)

abbrev pub fields_in : (numbers : List ℕ) → Fields
fields_in ns =
    record {
      kind = get_or ns 0 0;
      role = get_or ns 1 0;
      sender = get_or ns 2 0;
      received = get_or ns 3 0;
      point = get_or ns 4 0;
      element = get_or ns 5 0;
      day = get_or ns 6 0;
      hour = get_or ns 7 0;
      value = get_or ns 8 0;
    }

-- the caller's own numbers have their lengths: of a book, of a book and a message, and of a book and a line
abbrev pub SizedBook : (book : List ℕ) → Type 0
SizedBook book = length book ≡ book_size

abbrev pub SizedMessage : (book fields : List ℕ) → Type 0
SizedMessage book fields = SizedBook book × (length fields ≡ fields_size)

abbrev pub SizedLine : (book : List ℕ) → (line : List ℤ) → Type 0
SizedLine book line = SizedBook book × (length line ≡ line_size)

-- ---- a line: quantity, kroner and billionths

unfoldable pub line_numbers : LineResult → List ℤ
line_numbers r = r.quantity ∷ r.kroner ∷ pos r.billionths ∷ []

-- a lent line afterwards: a refusal leaves it
abbrev pub line_after : Result Line Refusal → (lent : List ℤ) → List ℤ
line_after (Ok l) lent = l.quantity ∷ l.kroner ∷ pos l.billionths ∷ []
line_after (Err r) lent = lent

-- the billionths of an answer are less than a krone
abbrev pub InKrone : Result Line Refusal → Type 0
InKrone (Ok l) = l.billionths < billion
InKrone (Err r) = 0 < billion

-- ---- a day: 36,525, which stands behind the last day, for none

abbrev pub no_day : ℕ
no_day = end_of_days

-- a lent day afterwards: a refusal leaves it
abbrev pub day_after : DayResult → (lent : ℕ) → ℕ
day_after (DayResult.answered (Some d)) lent = d
day_after (DayResult.answered None) lent = no_day
day_after (DayResult.refused number) lent = lent

-- ---- an amount that is read from packed decimal

-- a lent amount afterwards: a refusal leaves it
abbrev pub amount_after : (amount : Option ℤ) → (lent : ℤ) → ℤ
amount_after None lent = lent
amount_after (Some a) lent = a
