-- No product is large, since the counts are within their limits.
use Prim.Native.Nat.{◌*◌, ◌≤◌}
use mathlib.Core.Path.{ap}
use native.Mathlib.Nat.{mul-le-mul}
use native.Mathlib.Omega.{arith}
use Rattle.calendar.proofs.MonthLaws.{days-range}
use Rattle.rules.specs.World.{month_days}
use Rattle.rules.specs.WellFormed.{tables_sized, reading_count}
use Rattle.rules.specs.Lent.{no_lists}
use Rattle.rules.proofs.Tests.{tests}
use Rattle.settlement_book.specs.declared.questions.Lengths.{Lengths}
use Rattle.settlement_book.proofs.questions.tables_sized.Goals as goal
use Rattle.settlement_book.proofs.questions.tables_sized.Goals.{After-days_in_month-days}

few_days : (c : After-days_in_month-days) → c.args.book.points * c.days_in_month-days.result ≤ 256 * 31
few_days c =
    let b = c.args.book in
    let d = days-range b.year b.month in
    let n : c.days_in_month-days.result ≤ 31 = rw c.days_in_month-days.ensures d.1 in
    mul-le-mul (c.requires no_lists).points n

pub days_in_month-days-requires : goal.days_in_month-days-requires
days_in_month-days-requires c = (c.requires no_lists).month

pub overflow_mul-points : goal.overflow_mul-points
overflow_mul-points c =
    let k = few_days (goal.at.overflow_mul-points c).After-days_in_month-days in
    omega arith

pub overflow_mul-points-then-lengths-eq-PLACES-3 : goal.overflow_mul-points-then-lengths-eq-PLACES-3
overflow_mul-points-then-lengths-eq-PLACES-3 c =
    let k = few_days (goal.at.overflow_mul-points-then-lengths-eq-PLACES-3 c).After-days_in_month-days in
    omega arith

pub returns-then-lengths-points : goal.returns-then-lengths-points
unfolding tables_sized reading_count month_days
returns-then-lengths-points c o e = rw (← e) (grind (arith, tests))

pub returns-else-lengths-points : goal.returns-else-lengths-points
unfolding tables_sized reading_count month_days
returns-else-lengths-points c o e =
    let l = ap (λ (l : Lengths). l.links) e in
    let h = ap (λ (l : Lengths). l.holders) e in
    let s = ap (λ (l : Lengths). l.states) e in
    let r = ap (λ (l : Lengths). l.readings) e in
    grind (arith, tests)
