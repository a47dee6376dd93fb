-- What an answer is as numbers: "Each enum answer has a definition that gives this paper's number and values for each of its cases."
use Rattle.std.specs.Prelude.{ℕ, Result, Ok, Err, Option, ⊤}
use Rattle.rules.specs.declared.Line.{Line}
use Rattle.rules.specs.declared.Refusal.{Refusal}
use Rattle.rules.specs.declared.Refusal.TheVariants.{BrokenField, OutOfLimits, WrongLength, WrongElement, IllFormed}
use Rattle.rules.specs.declared.Refusal.TheVariants.{OutOfRange, UnknownPoint, UnknownElement, NotPermitted, OutOfTime}
use Rattle.rules.specs.declared.Refusal.TheVariants.{NotExisting, Closed, AlreadyLinked, NothingToStop, NoSuchQuantity}
use Rattle.rules.specs.declared.Refusal.TheVariants.{OutsideMonth, TableFull, ListFull, NotPacked}
use Rattle.rules.specs.Queries.{LineResult, line_refused, DayResult}

-- the question's number
abbrev pub refusal_number : Refusal → ℕ
refusal_number BrokenField = 1
refusal_number OutOfLimits = 2
refusal_number WrongLength = 3
refusal_number WrongElement = 4
refusal_number IllFormed = 5
refusal_number OutOfRange = 6
refusal_number UnknownPoint = 7
refusal_number UnknownElement = 8
refusal_number NotPermitted = 9
refusal_number OutOfTime = 10
refusal_number NotExisting = 11
refusal_number Closed = 12
refusal_number AlreadyLinked = 13
refusal_number NothingToStop = 14
refusal_number NoSuchQuantity = 15
refusal_number OutsideMonth = 16
refusal_number TableFull = 17
refusal_number ListFull = 18
refusal_number NotPacked = 24

-- 0 for what passes, else the question's number
abbrev pub number_of : {T : Type 0} → Result T Refusal → ℕ
number_of (Ok x) = 0
number_of (Err r) = refusal_number r

-- a line query's number and values
abbrev pub line_result : Result Line Refusal → LineResult
line_result (Ok l) = record { number = 0; quantity = l.quantity; kroner = l.kroner; billionths = l.billionths }
line_result (Err r) = line_refused (refusal_number r)

-- the number and the day of an answer to the query for the earliest day without a holder
abbrev pub day_result : Result (Option ℕ) Refusal → DayResult
day_result (Ok d) = DayResult.answered d
day_result (Err r) = DayResult.refused (refusal_number r)
