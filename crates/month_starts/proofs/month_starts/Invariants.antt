-- `month_starts` meets its contract: the first entries are the first month starts, and `day` is the next.
use Rattle.std.proofs.Common.{◌≡◌, length, take}
use Rattle.calendar.specs.Gregorian.{first_of_month, listed_months}
use Rattle.rules.specs.Basics.{list_to}
use Rattle.month_starts.proofs.month_starts.Given as goal

abbrev pub invariant-loop-number : goal.invariant-loop-number
invariant-loop-number l =
    (l.day ≡ first_of_month l.number) × (length l.start-items ≡ listed_months)
    × (take l.number l.start-items ≡ list_to first_of_month l.number)
