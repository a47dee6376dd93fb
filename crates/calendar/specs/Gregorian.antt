-- The Gregorian calendar from 1 January 2000, which is day 0: leap years, the lengths of months, and their first days as sums of the
-- lengths before. No table is mentioned here.
use Rattle.std.specs.Prelude.{ℕ, zero, suc, ◌+◌, ◌-◌, ◌*◌, ◌/◌, ◌%◌, ◌≤◌, Bool, not, ◌&&◌, ◌||◌, cond, eqb}

-- the years that are spoken of, and the months of a year
abbrev pub first_year : ℕ
first_year = 2000

abbrev pub last_year : ℕ
last_year = 2099

abbrev pub year_months : ℕ
year_months = 12

-- those months, and the one that would begin on the day after the last
abbrev pub listed_months : ℕ
listed_months = 1201

-- no month has fewer days or more
abbrev pub shortest_month : ℕ
shortest_month = 28

abbrev pub longest_month : ℕ
longest_month = 31

-- 4 divides a leap year, and 100 does not, unless 400 does
unfoldable pub is_leap : (year : ℕ) → Bool
is_leap year = eqb (year % 4) 0 && (not (eqb (year % 100) 0) || eqb (year % 400) 0)

-- April, June, September and November
unfoldable pub has_thirty : (month : ℕ) → Bool
has_thirty month = eqb month 4 || eqb month 6 || eqb month 9 || eqb month 11

-- the number of days of a month, 1 to 12, of a year
unfoldable pub days_of_month : (year month : ℕ) → ℕ
days_of_month year month = cond (eqb month 2) (cond (is_leap year) 29 28) (cond (has_thirty month) 30 31)

-- the number of days of the month that lies n months after January 2000
abbrev pub days_after : (n : ℕ) → ℕ
days_after n = days_of_month (first_year + n / year_months) (n % year_months + 1)

-- the first day of the month that lies n months after January 2000
unfoldable pub first_of_month : (n : ℕ) → ℕ
first_of_month zero = 0
first_of_month (suc n) = first_of_month n + days_after n

-- how many months after January 2000 a month lies
abbrev pub month_number : (year month : ℕ) → ℕ
month_number year month = (year - first_year) * year_months + (month - 1)

-- the first day of a month, 1 to 12, of a year from 2000 on
unfoldable pub first_day : (year month : ℕ) → ℕ
first_day year month = first_of_month (month_number year month)

-- the months of the table
pub record InRange (year month : ℕ) : Type 0 where
  pub first-year : first_year ≤ year
  pub last-year : year ≤ last_year
  pub january : 1 ≤ month
  pub december : month ≤ year_months
