-- What an opening leaves: a book without rows, and tables of zeros.
use Rattle.std.specs.Prelude.{ℕ, pos, length, replicate}
use Rattle.calendar.specs.Gregorian.{first_day, days_of_month}
use Rattle.rules.specs.declared.Book.{Book}
use Rattle.rules.specs.Lent.{Lists, lend_tables}

-- a book that is to be opened: its month and counts, and no row is in use
abbrev pub named_book : (year month points suppliers elements : ℕ) → Book
named_book year month points suppliers elements =
    record {
      year = year;
      month = month;
      points = points;
      suppliers = suppliers;
      elements = elements;
      periods = 0;
      holders = 0;
      states = 0;
      round = 1;
      first = 0;
      days = 0;
    }

-- no row is in use, the fixing comes next, and the month's first day and days are kept
abbrev pub fresh_book : (year month points suppliers elements : ℕ) → Book
fresh_book year month points suppliers elements =
    record (named_book year month points suppliers elements) { first = first_day year month; days = days_of_month year month }

-- every table that messages write, with zeros for what it held
abbrev pub cleared : Lists → Lists
cleared o =
    lend_tables (replicate (length o.links) 0) (replicate (length o.holders) 0) (replicate (length o.states) 0)
    (replicate (length o.readings) 0) (replicate (length o.blocks) 0)
    (replicate (length o.lines) (pos 0)) (replicate (length o.sent) (pos 0)) o
