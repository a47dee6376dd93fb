-- Questions 2 to 5 as facts: limits, tables that are right, and a world that all four pass.
use Rattle.std.specs.Prelude.{◌≤◌, ◌≡◌, true, leb}
use Rattle.calendar.specs.Gregorian.{InRange, first_day, days_of_month}
use Rattle.rules.specs.declared.Book.{Book}
use Rattle.rules.specs.Basics.{all_in}
use Rattle.rules.specs.World.{Opening, Tables, World}
use Rattle.rules.specs.WellFormed.{links_right, holders_right, states_right, question2, question3, question4, question5}
use Rattle.rules.specs.Sizes.{most_elements, most_energy, most_points, most_suppliers}

-- ---- question 2

pub record Limits (o : Opening) : Type 0 where
  pub month : InRange o.year o.month
  pub points : o.points ≤ most_points
  pub suppliers : o.suppliers ≤ most_suppliers
  pub elements : o.elements ≤ most_elements

-- ---- a book's own numbers for its month

-- the month is one of the calendar, and its first day and its days are those of the book
pub record Dated (b : Book) : Type 0 where
  pub month : InRange b.year b.month
  pub first : b.first ≡ first_day b.year b.month
  pub days : b.days ≡ days_of_month b.year b.month

-- ---- question 5: all tables

pub record TablesRight (o : Opening) (t : Tables) : Type 0 where
  pub links : links_right o t.links ≡ true
  pub holders : holders_right o t.holders ≡ true
  pub states : states_right o t.states ≡ true
  pub readings : all_in (λ x. leb x most_energy) t.readings ≡ true
  pub blocks : all_in (λ x. leb x 1) t.blocks ≡ true

-- ---- a world that questions 2 to 5 pass

pub record Whole (w : World) : Type 0 where
  pub limited : question2 w ≡ true
  pub sized : question3 w ≡ true
  pub elements : question4 w ≡ true
  pub right : question5 w ≡ true
