-- A month has at most 31 days, so no product is large.
use Prim.Native.Nat.{◌*◌, ◌≤◌}
use native.Mathlib.Nat.{mul-le-mul}
use native.Mathlib.Omega.{arith}
use Rattle.calendar.specs.Gregorian.{longest_month}
use Rattle.calendar.proofs.MonthLaws.{days-range}
use Rattle.rules.specs.Sizes.{most_points}
use borrow.Author.Rules.{rules}
use Rattle.facts.proofs.reading_place.Goals as goal
use Rattle.facts.proofs.reading_place.Goals.{After-month_days-days}

product : (c : After-month_days-days) → c.args.point * c.month_days-days.result ≤ most_points * longest_month
product c =
    let days = days-range c.args.book.year c.args.book.month in
    let p : c.args.point ≤ most_points = omega arith in
    let q : c.month_days-days.result ≤ longest_month = rw c.month_days-days.ensures days.1 in
    mul-le-mul p q

pub overflow_mul-day_place : goal.overflow_mul-day_place
overflow_mul-day_place c = let p = product c in search rules

pub overflow_add-day_place : goal.overflow_add-day_place
overflow_add-day_place c = let p = product c in search rules

pub overflow_mul-result : goal.overflow_mul-result
overflow_mul-result c = let p = product c in search rules

pub overflow_add-result : goal.overflow_add-result
overflow_add-result c = let p = product c in search rules
