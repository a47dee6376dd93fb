-- `month_starts` meets its contract: the first entries are the first month starts, and `day` is the next.
use Rattle.std.proofs.Common.{◌≡◌, ◌+◌, ◌/◌, ◌%◌, ◌<◌, ◌∙◌, length, add-one, arith}
use lib.ListN.{length-set}
use lib.Seq.{take_all, take-suc-set}
use Rattle.calendar.specs.Gregorian.{listed_months, first_year, year_months}
use Rattle.calendar.proofs.MonthLaws.{days-range, first_more, first_ordered, first-last}
use Rattle.rules.specs.Basics.{list_to}
use Rattle.month_starts.proofs.month_starts.Goals as goal

-- a month start is at most 36,525, and a month has at most 31 days
pub overflow_add-day : goal.overflow_add-day
overflow_add-day c =
    let n = c.loop-number.number in
    let most = first_ordered n 1200 (omega arith) in
    let days = days-range (first_year + n / year_months) (n % year_months + 1) in
    record { fits = omega (arith, c.loop-number.invariant.0, most, days, first-last, c.length_after-day.ensures) }

pub loop-number-preserved : goal.loop-number-preserved
unfolding list_to
loop-number-preserved c =
    let l = c.loop-number in
    let i = l.invariant in
    let less : l.number < length l.start-items = omega arith in (
      rw (first_more l.number, ← i.0, c.length_after-day.ensures),
      length-set _ _ _ ∙ i.1,
      rw (add-one l.number, take-suc-set l.start-items l.number _ less, i.2, i.0),
    )

pub returns : goal.returns
returns c =
    let l = c.loop-number in
    let all : l.number ≡ listed_months = omega arith in
    rw (take_all l.number l.start-items (omega arith), all) at l.invariant.2
