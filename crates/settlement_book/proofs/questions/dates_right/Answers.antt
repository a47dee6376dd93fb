-- The book's dates are compared with the calendar's.
use native.Mathlib.Omega.{arith}
use Rattle.rules.specs.World.{month_first, month_days}
use Rattle.rules.specs.WellFormed.{dates_right}
use Rattle.rules.proofs.Tests.{tests}
use Rattle.settlement_book.proofs.questions.dates_right.Goals as goal

pub returns-then-lent-first_day : goal.returns-then-lent-first_day
unfolding dates_right month_first month_days
returns-then-lent-first_day c = grind (arith, tests)

pub returns-else-lent-first_day : goal.returns-else-lent-first_day
unfolding dates_right month_first month_days
returns-else-lent-first_day c = grind (arith, tests)
