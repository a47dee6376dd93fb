-- The month starts that the program prints, and the text of numbers, one a line.
use Rattle.std.specs.Prelude.{ℕ, Bool, cond}
use mathlib.Core.List.{List, flat_map}
use Rattle.calendar.specs.Gregorian.{first_of_month, listed_months}
use Rattle.rules.specs.Basics.{list_to}
use Rattle.file.specs.Lines.{number_then, newline}

-- "the 1,201 month starts": the first days of the 1,200 months from January 2000 on, and the day after the last
abbrev pub month_starts : List ℕ
month_starts = list_to first_of_month listed_months

-- "one number a line": the lines of some numbers, one behind the other
abbrev pub number_line : (n : ℕ) → List ℕ
number_line n = number_then n newline

abbrev pub number_lines : (numbers : List ℕ) → List ℕ
number_lines ns = flat_map number_line ns

-- what the program prints
abbrev pub month_text : List ℕ
month_text = number_lines month_starts

-- its status: 0 where the text was written, 1 where it could not be
abbrev pub status_of : (written : Bool) → ℕ
status_of written = cond written 0 1
