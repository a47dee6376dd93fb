-- A month ends where the next entry of the table begins.
use mathlib.Core.Path.{◌≡◌, sym, ap, ◌∙◌}
use Prim.Native.Nat.{ℕ, ◌+◌}
use native.Mathlib.Omega.{arith}
use Rattle.calendar.specs.Gregorian.{days_of_month, first_of_month, first_day}
use Rattle.calendar.proofs.MonthLaws.{month-ends}
use Rattle.calendar.proofs.days_in_month.Goals as goal
use Rattle.calendar.proofs.days_in_month.Goals.{After-first_of}

-- the two entries that are read
ends : (c : After-first_of)
    → c.before.first_of-first.result + days_of_month c.before.before.before.args.year c.before.before.before.args.month
    ≡ c.first_of.result
unfolding first_day
ends c =
    let start = c.before.before.before in
    let y = start.args.year in
    let m = start.args.month in
    let n = c.before.before.month_number-number.ensures in
    ap (λ (k : ℕ). k + days_of_month y m) (c.before.first_of-first.ensures ∙ ap first_of_month n)
    ∙ month-ends y m start.requires.first-year start.requires.january start.requires.december
    ∙ ap (λ (k : ℕ). first_of_month (k + 1)) (sym n) ∙ sym c.first_of.ensures

pub overflow_sub-result : goal.overflow_sub-result
overflow_sub-result c = omega (arith, ends c)

pub returns : goal.returns
returns c = let e : After-first_of = search in omega (arith, ends e)
