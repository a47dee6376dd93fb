-- The place of a reading is small: a month has at most 31 days.
use Prim.Native.Nat.{ℕ, ◌≤◌}
use native.Mathlib.Nat.{mul-le-mul}
use native.Mathlib.Omega.{arith}
use Rattle.calendar.proofs.MonthLaws.{days-range}
use Rattle.rules.specs.Sizes.{most_points}
use Rattle.rules.specs.declared.Book.{Book}
use Rattle.rules.specs.World.{reading_at, month_first, month_days}
use Rattle.rules.specs.Lent.{Lists, opening_in}
use Rattle.facts.specs.Readings.{HourOfMonth}

pub place-small : (b : Book) (o : Lists) (p d h : ℕ) → HourOfMonth b p d h → reading_at (opening_in b o) p d h ≤ 1100000
unfolding reading_at month_first month_days
place-small b o p d h m =
    let days = days-range b.year b.month in
    let i : p ≤ most_points = omega arith in
    let k = mul-le-mul i days.1 in
    omega arith
