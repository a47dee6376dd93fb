-- An hour whose reading has a place.
use Rattle.std.specs.Prelude.{ℕ, ◌≤◌, ◌<◌}
use Rattle.calendar.specs.Gregorian.{first_day}
use Rattle.rules.specs.declared.Book.{Book}
use Rattle.rules.specs.Whole.{Dated}
use Rattle.rules.specs.Sizes.{most_points, end_of_days, hour_places}

pub record HourOfMonth (b : Book) (point day hour : ℕ) : Type 0 where
  pub month : Dated b
  pub point-below : point < most_points
  pub begun : first_day b.year b.month ≤ day
  pub day-below : day < end_of_days
  pub hour-below : hour < hour_places
