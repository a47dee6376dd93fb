-- What follows from the Gregorian rule: months have 28 to 31 days, first days increase, a month ends where the next begins, and every month
-- of 2000 to 2099 lies before day 36,525. By cases on the tests of the rule, and by recursion on the number of months. Assumes nothing.
use mathlib.Core.Path.{◌≡◌, refl, ap, ◌∙◌}
use mathlib.Core.Bool.{Bool, true, false, cond}
use Prim.Native.Nat.{ℕ, zero, suc, ◌+◌, ◌-◌, ◌*◌, ◌/◌, ◌%◌, ◌≤◌, ◌<◌}
use native.Mathlib.Nat.{add-zero, add-suc}
use native.Mathlib.Numerals.{add-one}
use native.Mathlib.Omega.{arith}
use lib.Dec.{eqb}
use Rattle.calendar.specs.Gregorian.{is_leap, has_thirty, days_of_month, days_after, first_of_month, month_number, first_day, InRange}
use Rattle.calendar.specs.Gregorian.{first_year, longest_month, shortest_month, year_months}

-- 28 to 31 days
range : (second leap thirty : Bool)
    → let days : ℕ = cond second (cond leap 29 28) (cond thirty 30 31) in
    (shortest_month ≤ days) × (days ≤ longest_month)
range true true thirty = omega arith
range true false thirty = omega arith
range false leap true = omega arith
range false leap false = omega arith

pub days-range : (year month : ℕ) → (shortest_month ≤ days_of_month year month) × (days_of_month year month ≤ longest_month)
unfolding days_of_month
days-range year month = range (eqb month 2) (is_leap year) (has_thirty month)

-- one month more, as the code counts
pub first_more : (n : ℕ) → first_of_month (n + 1) ≡ first_of_month n + days_after n
unfolding first_of_month
first_more n = rw (add-one n)

-- k months later at least 28 k days have passed, so first days increase
first_grows : (n k : ℕ) → first_of_month n + k * shortest_month ≤ first_of_month (n + k)
unfolding first_of_month
first_grows n zero = omega (arith, ap first_of_month (add-zero n))
first_grows n (suc k) =
    rw add-suc (omega (arith, first_grows n k, days-range (first_year + (n + k) / year_months) ((n + k) % year_months + 1)))

grows_to : (m n : ℕ) → m ≤ n → first_of_month m + (n - m) * shortest_month ≤ first_of_month n
grows_to m n h = let e : m + (n - m) ≡ n = omega arith in omega (arith, first_grows m (n - m), ap first_of_month e)

pub first_ordered : (m n : ℕ) → m ≤ n → first_of_month m ≤ first_of_month n
first_ordered m n h = omega (arith, grows_to m n h)

-- the day after the last
pub first-last : first_of_month 1200 ≡ 36525
unfolding first_of_month days_of_month is_leap has_thirty
first-last = refl

-- a month ends where the next begins
module _ (year month : ℕ) (from : first_year ≤ year) (january : 1 ≤ month) (december : month ≤ year_months) where
  -- year and month, read back from the number of months
  pub days-after : days_after (month_number year month) ≡ days_of_month year month
  days-after =
      let y : first_year + month_number year month / year_months ≡ year = omega arith in
      let m : month_number year month % year_months + 1 ≡ month = omega arith in
      rw (y, m)

  pub month-ends : first_day year month + days_of_month year month ≡ first_of_month (month_number year month + 1)
  unfolding first_day
  month-ends = omega (arith, first_more (month_number year month), days-after)

pub next-month : (year month : ℕ) → first_year ≤ year → 1 ≤ month → month < year_months
    → first_day year month + days_of_month year month ≡ first_day year (month + 1)
unfolding first_day
next-month year month from january h =
    let e : month_number year month + 1 ≡ month_number year (month + 1) = omega arith in
    month-ends year month from january (omega arith) ∙ ap first_of_month e

pub next-year : (year : ℕ) → first_year ≤ year → first_day year 12 + days_of_month year 12 ≡ first_day (year + 1) 1
unfolding first_day
next-year year from =
    let e : month_number year 12 + 1 ≡ month_number (year + 1) 1 = omega arith in
    month-ends year 12 from (omega arith) (omega arith) ∙ ap first_of_month e

-- every month of the table lies before the day after the last
pub month-within : (year month : ℕ) → InRange year month → first_day year month + days_of_month year month ≤ 36525
month-within year month r =
    let ends = month-ends year month (omega arith) (omega arith) (omega arith) in
    omega (arith, ends, first_ordered (month_number year month + 1) 1200 (omega arith), first-last)

-- worked cases
pub leap_cases : (is_leap 1900 ≡ false) × (is_leap 2000 ≡ true) × (is_leap 2023 ≡ false) × (is_leap 2024 ≡ true) × (is_leap 2100 ≡ false)
unfolding is_leap
leap_cases = (refl, refl, refl, refl, refl)

pub first-day-cases : (first_day 2000 1 ≡ 0) × (first_day 2024 2 ≡ 8797) × (first_day 2024 3 ≡ 8826) × (first_day 2024 4 ≡ 8857)
    × (first_day 2099 12 ≡ 36494)
unfolding first_day first_of_month days_of_month is_leap has_thirty
first-day-cases = (refl, refl, refl, refl, refl)
